-- A division of two whole numbers that the format counts is one rounding of their fraction; negation flips a rounded fraction's sign; a rounded fraction
-- is never a NaN, and where its numerator is at most 2 ^ prec it is finite.
use mathlib.Core.Path.{◌≡◌, refl, sym, ap, ◌∙◌, subst}
use mathlib.Core.Bool.{Bool, true, false, not, cond}
use Prim.Native.Nat.{ℕ, zero, suc, ◌+◌, ◌*◌, ◌^◌, ◌<◌, ◌≤◌}
use native.Mathlib.Nat.{mul-one, mul_assoc, mul_comm, mul_left_comm, mul-pos, zero-mul, lt_irrefl, mul-le-mul_left}
use native.Mathlib.Omega.{arith}
use lib.IntN.{ℤ, pos}
use lib.Dec.{T, ltb, eqb, lit<}
use borrow.Author.Tests.{ne_eqb}
use lib.Ieee.{Float, nan, inf, fin, Format, prec, low, emax, up, down, unlike, odd, units, round, div, neg, of_int, is_nan, le, lt, eq}
use lib.Ieee.Fits.{up_pos, down_pos}
use lib.Ieee.Exact.{HasValue}
use lib.Ieee.Back.{round_whole}
use lib.Ieee.Scale.{round_same, finite}
use lib.Ieee.Order.{round_mono}
use Rattle.lines.proofs.Signs.{neg_odd}

-- the denominator of a quotient is not zero
below_pos : (n : ℕ) (d : ℤ) (b : ℕ) → 0 < b → n * up d * 1 ≡ b * down d → 0 < n
below_pos zero d b h e = absurd (lt_irrefl 0 (subst (λ (x : ℕ). 0 < x) (sym e ∙ mul-one (0 * up d) ∙ zero-mul (up d)) (mul-pos h (down_pos d))))
below_pos (suc n) d b h e = omega arith

cross : (a b p q x y : ℕ) → p * 1 ≡ a * x → q * 1 ≡ b * y → p * y * b ≡ a * (q * x)
cross a b p q x y e f =
    let g : p ≡ a * x = sym (mul-one p) ∙ e in
    let h : q ≡ b * y = sym (mul-one q) ∙ f in
    let k : a * x * y * b ≡ a * (b * y * x) = simp (mul_assoc, mul_comm, mul_left_comm) in
    ap (λ (z : ℕ). z * y * b) g ∙ k ∙ ap (λ (z : ℕ). a * (z * x)) (sym h)

-- two floats whose values are the whole numbers a and b, divided
div_values : (f : Format) (x y : Float) (a b : ℕ) → 0 < b → HasValue x false a 1 → HasValue y false b 1 → div f x y ≡ round f false a b
unfolding div
div_values f nan y a b h v w = absurd v
div_values f (inf s) y a b h v w = absurd v
div_values f (fin s m e) nan a b h v w = absurd w
div_values f (fin s m e) (inf t) a b h v w = absurd w
div_values f (fin s m e) (fin t n d) a b h v w =
    let n_pos : 0 < n = below_pos n d b h w.1 in
    ap (λ (t' : Bool). cond t' (cond (eqb m 0) nan (inf (unlike s t))) (round f (unlike s t) (m * up e * down d) (n * up d * down e))) (ne_eqb n 0 (λ (z : n ≡ 0). omega arith))
    ∙ ap (λ (s' : Bool). round f (unlike s' t) (m * up e * down d) (n * up d * down e)) v.0
    ∙ ap (λ (t' : Bool). round f (unlike false t') (m * up e * down d) (n * up d * down e)) w.0
    ∙ round_same f false (m * up e * down d) (n * up d * down e) a b (mul-pos (mul-pos n_pos (up_pos d)) (down_pos e)) h (cross a b (m * up e) (n * up d) (down e) (down d) v.1 w.1)

-- the division of two whole numbers up to 2 ^ prec, each cast without loss, is their fraction rounded once
pub div_round : (f : Format) (a b : ℕ) → a ≤ 2 ^ prec f → b ≤ 2 ^ prec f → 0 < b → div f (of_int f (pos a)) (of_int f (pos b)) ≡ round f false a b
unfolding of_int
div_round f a b ha hb h = div_values f (round f false a 1) (round f false b 1) a b h (round_whole f false a ha) (round_whole f false b hb)

-- ---- the sign
neg_units : (f : Format) (q k : ℕ) → neg (units f false q k) ≡ units f true q k
unfolding units neg
neg_units f q k = go (ltb (q * 2 ^ k) (2 ^ (low f + suc (emax f))))
  where
    go : (b : Bool) → neg (cond b (odd (suc (prec f)) false q k (low f)) (inf false)) ≡ cond b (odd (suc (prec f)) true q k (low f)) (inf true)
    go true = neg_odd (suc (prec f)) q k (low f)
    go false = refl

pub neg_round : (f : Format) (a b : ℕ) → neg (round f false a b) ≡ round f true a b
unfolding round
neg_round f a b = neg_units f _ _

-- ---- neither a NaN nor an infinity
plain_odd : (d : ℕ) (s : Bool) (q k l : ℕ) → T (not (is_nan (odd d s q k l)))
unfolding odd is_nan
plain_odd d s zero k l = tt
plain_odd d s (suc q) k l = tt

plain_units : (f : Format) (s : Bool) (q k : ℕ) → T (not (is_nan (units f s q k)))
unfolding units is_nan
plain_units f s q k = go (ltb (q * 2 ^ k) (2 ^ (low f + suc (emax f))))
  where
    go : (b : Bool) → T (not (is_nan (cond b (odd (suc (prec f)) s q k (low f)) (inf s))))
    go true = plain_odd (suc (prec f)) s q k (low f)
    go false = tt

pub round_no_nan : (f : Format) (s : Bool) (a b : ℕ) → T (not (is_nan (round f s a b)))
unfolding round
round_no_nan f s a b = plain_units f s _ _

abbrev not_below : Float → Bool
not_below nan = true
not_below (inf true) = false
not_below (inf false) = true
not_below (fin s m e) = true

not_below_odd : (d q k l : ℕ) → T (not_below (odd d false q k l))
unfolding odd
not_below_odd d zero k l = tt
not_below_odd d (suc q) k l = tt

not_below_units : (f : Format) (q k : ℕ) → T (not_below (units f false q k))
unfolding units
not_below_units f q k = go (ltb (q * 2 ^ k) (2 ^ (low f + suc (emax f))))
  where
    go : (b : Bool) → T (not_below (cond b (odd (suc (prec f)) false q k (low f)) (inf false)))
    go true = not_below_odd (suc (prec f)) q k (low f)
    go false = tt

-- what is at most a finite value, and no NaN, is finite
finite_of_le : (x y : Float) (s : Bool) (a c : ℕ) → HasValue y s a c → T (not (is_nan x)) → T (le x y) → T (not_below x) → T (finite x)
unfolding le lt eq is_nan
finite_of_le nan y s a c v h l m = h
finite_of_le (inf true) y s a c v h l m = m
finite_of_le (inf false) nan s a c v h l m = absurd v
finite_of_le (inf false) (inf t) s a c v h l m = absurd v
finite_of_le (inf false) (fin t n d) s a c v h l m = l
finite_of_le (fin r n e) y s a c v h l m = tt

finite_neg : (x : Float) → T (finite x) → T (finite (neg x))
unfolding neg
finite_neg nan h = h
finite_neg (inf s) h = h
finite_neg (fin s m e) h = tt

-- a fraction of a whole number up to 2 ^ prec by a whole number rounds to a finite value
above : (f : Format) (a b : ℕ) → a ≤ 2 ^ prec f → 0 < b → T (finite (round f false a b))
unfolding round
above f a b ha h =
    finite_of_le (round f false a b) (round f false a 1) false a 1 (round_whole f false a ha) (round_no_nan f false a b)
    (round_mono f a b a 1 h (lit< tt) (mul-le-mul_left a h)) (not_below_units f _ _)

pub round_finite : (f : Format) (s : Bool) (a b : ℕ) → a ≤ 2 ^ prec f → 0 < b → T (finite (round f s a b))
round_finite f false a b ha h = above f a b ha h
round_finite f true a b ha h = subst (λ (x : Float). T (finite x)) (neg_round f a b) (finite_neg (round f false a b) (above f a b ha h))
