-- `real_of` gives the float of its bits, which are no NaN.
use borrow.Author.Tests.{ne_eqb}
use mathlib.Core.Bool.{not}
use mathlib.Core.Logic.{◌≢◌}
use mathlib.Core.Path.{sym, ◌∙◌}
use Prim.Native.Nat.{ℕ, ◌%◌, ◌/◌, ◌^◌}
use lib.Pow.{field}
use lib.Dec.{T}
use lib.Ieee.{nan_bits, binary64}
use Rattle.layout.proofs.Values.{exponent, finite_iff}
use Rattle.values.proofs.real_of.Goals as goal

no_nan : (n : ℕ) → exponent n ≢ 2047 → T (not (nan_bits binary64 n))
unfolding nan_bits
no_nan n h = rw (ne_eqb (n % 2 ^ 63 / 2 ^ 52) 2047 (λ e. h (sym (field n 11 52) ∙ e))) tt

pub float_from_bits-result : goal.float_from_bits-result
float_from_bits-result c = no_nan _ ((finite_iff _).0 c.requires)
