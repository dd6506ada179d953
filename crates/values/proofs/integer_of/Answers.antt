-- `integer_of` gives the two's complement: the upper half stands for -1 down to the least.
use borrow.Author.Tests.{lt-ltb, le-ltb}
use native.Mathlib.Decide.{dec_lt}
use native.Mathlib.Omega.{arith}
use mathlib.Core.Path.{◌≡◌, refl, ◌∙◌}
use Prim.Native.Nat.{ℕ, suc, ◌-◌, ◌<◌, ◌^◌}
use lib.IntN.{negsuc}
use mir.Syntax.{w64}
use mir.Val.{to_z}
use mir.Facts.{to_z_pos, to_z-neg, to_z-of_z}
use Rattle.layout.specs.Value.{signed}
use Rattle.values.proofs.integer_of.Goals as goal

upper : (m b : ℕ) → b ≡ 2 ^ 64 - suc m → m < 2 ^ 63 → to_z w64 b ≡ negsuc m
upper m b e h = rw e (to_z-neg w64 m h)

signed_is : (b : ℕ) → b < 2 ^ 64 → Dec (b < 2 ^ 63) → to_z w64 b ≡ signed b
unfolding signed
signed_is b h (yes l) = rw (to_z_pos w64 l, lt-ltb _ _ l)
signed_is b h (no l) = upper (2 ^ 64 - 1 - b) b (omega arith) (omega arith) ∙ rw (le-ltb b (2 ^ 63) (omega arith)) refl

pub returns : goal.returns
returns c = to_z-of_z {w = w64} (record { sfits = c.cast_signed.type_inv }) ∙ c.cast_signed.ensures ∙ signed_is c.args.bits c.ranges.bits.fits (dec_lt _ _)
