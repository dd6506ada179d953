-- `put_file` writes the tables and then the trailer, where there is room.
use native.Mathlib.Omega.{arith}
use Rattle.writer.proofs.Filing.{short_output, wrote_file}
use Rattle.writer.proofs.put_file.Goals as goal

pub returns-then-out-size : goal.returns-then-out-size
returns-then-out-size c = short_output c.requires.0 c.requires.1 c.args.out.now (omega arith)

pub returns : goal.returns
returns c = wrote_file c.requires.0 c.requires.1 c.args.out.now (omega arith) c.put_tables.ensures c.put_trailer.ensures
