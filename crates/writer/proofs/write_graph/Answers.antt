-- `write_graph`: the tables cannot be written, or it is the output's turn.
use Rattle.writer.proofs.Filing.{unwritable}
use Rattle.writer.proofs.write_graph.Goals as goal

pub returns-in-Some : goal.returns-in-Some
returns-in-Some c = rw c.in-Some.ensures.1 at c.put_file.ensures

pub returns-in-None : goal.returns-in-None
returns-in-None c = unwritable c.args.out.now c.in-None.ensures
