-- `labels_apart` goes through the schema edges: behind none of those passed stands one with its label set.
use native.Mathlib.Omega.{arith}
use Rattle.layout.proofs.Accepted.{schema_edges}
use Rattle.placing.proofs.labels_apart.Goals as goal

pub returns : goal.returns
returns c = λ s h. c.loop-at.invariant s (let g = rw schema_edges at h in omega arith)
