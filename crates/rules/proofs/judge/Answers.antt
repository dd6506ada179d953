-- `judge`: the next violation of a search that has passed nothing is the first of all.
use Rattle.parts.specs.Accepted.{graph_at, schema_at}
use Rattle.rules.proofs.Standing.{begins}
use Rattle.rules.proofs.Further.{first_found}
use Rattle.rules.proofs.judge.Goals as goal

pub next-onward-requires : goal.next-onward-requires
next-onward-requires c =
    rw c.start.ensures (begins c.args.p.now)

pub returns : goal.returns
returns c =
    let first = first_found (graph_at c.args.p.now.graph) (schema_at c.args.p.now.schema) (rw c.start.ensures at c.next-onward.ensures.next_found) in
    rw (c.unwrap_or.ensures, c.numbers_of.ensures) first
