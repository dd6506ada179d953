-- `line_end`: LF, or CR and LF.
use native.Mathlib.Omega.{arith}
use Rattle.lines.proofs.Ends.{ends_by_lf, ends_by_cr_lf, no_end, cr_alone}
use Rattle.lines.proofs.line_end.Goals as goal

pub returns-in-10 : goal.returns-in-10
returns-in-10 c = ends_by_lf c.args.s.now c.args.at (omega arith)

pub returns-in-13 : goal.returns-in-13
returns-in-13 c = ends_by_cr_lf c.args.s.now c.args.at (omega arith) (omega arith)

pub returns-in_default : goal.returns-in_default
returns-in_default c = cr_alone c.args.s.now c.args.at (omega arith) (omega arith)

pub returns-in_default-2 : goal.returns-in_default-2
returns-in_default-2 c = no_end c.args.s.now c.args.at (omega arith) (omega arith)
