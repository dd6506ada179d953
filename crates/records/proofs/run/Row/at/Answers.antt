-- `at` reads a row as one number of four bytes.
use native.Mathlib.Omega.{arith}
use Rattle.records.proofs.Laws.{row_is}
use Rattle.records.proofs.run.Row.at.Goals as goal

pub returns : goal.returns
returns c = (row_is c.args.rows.now (λ k. (c.type_inv.rows k).fits) c.args.width c.args.r c.u32_at-v.ensures, omega arith)
