-- `place_nodes` goes through the nodes from one on: those passed are placed, and their masks are stored.
use Rattle.meaning.specs.Places.{Every}
use Rattle.meaning.specs.Rules.{NodePlaced}
use Rattle.layout.specs.Search.{From}
use Rattle.parts.specs.Accepted.{graph_at, schema_at}
use Rattle.placing.specs.Masks.{MasksTo}
use Rattle.placing.proofs.place_nodes.Given as goal

abbrev pub invariant-loop-i : goal.invariant-loop-i
invariant-loop-i l = let G = graph_at l.p.graph in
    let S = schema_at l.p.schema in
    Every l.i (λ k. ¬ From l.from (λ k. ¬ NodePlaced G S k) k) × MasksTo G S l.i l.masks
