-- `next` tries rule after rule until something is found. The invariant: what the search has passed on its way is no violation.
use Prim.Native.Nat.{◌-◌}
use Rattle.parts.specs.Accepted.{graph_at, schema_at}
use Rattle.rules.specs.Onward.{Stands}
use Rattle.rules.proofs.Further.{Further}
use Rattle.rules.proofs.next.Given as goal

abbrev pub invariant-loop-at : goal.invariant-loop-at
invariant-loop-at l = Stands l.p l.notes.masks l.notes.places l.notes.counts l.at × Further (graph_at l.p.graph) (schema_at l.p.schema) l.initial.at l.at

abbrev pub decreases-loop-at : goal.decreases-loop-at
decreases-loop-at l = 5 - l.at.rule
