-- `judge`: one of the files is refused, or both are judged.
use Rattle.layout.specs.Checked.{judged}
use Rattle.checker.proofs.Laws.{refused_answer}
use Rattle.checker.proofs.judge.Goals as goal

pub returns-in-Ok : goal.returns-in-Ok
returns-in-Ok c = let p = rw c.in-Ok.is at c.read_pair.ensures in judged p.graph p.schema (rw (p.graph_says, p.schema_says) at c.judge.ensures)

pub returns-in-Err : goal.returns-in-Err
returns-in-Err c = rw c.refused.ensures (refused_answer (rw c.in-Err.is at c.read_pair.ensures))
