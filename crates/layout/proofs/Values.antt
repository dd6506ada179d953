-- A row's kind, length and bits say at most one value, and tests decide whether they say one.
use mathlib.Core.Path.{◌≡◌, refl, sym, ap, ◌∙◌}
use mathlib.Core.Logic.{◌≢◌, ◌↔◌}
use mathlib.Core.Bool.{Bool, true, false, cond}
use mathlib.Core.List.{List}
use Prim.Native.Nat.{ℕ, zero, suc, ◌+◌, ◌/◌, ◌%◌, ◌^◌, ◌≤◌}
use native.Mathlib.Decide.{ℕ_discrete, dec_le}
use native.Mathlib.Omega.{arith}
use borrow.Author.Tests.{eq-eqb, ne_eqb}
use lib.Dec.{eqb}
use lib.Pow.{field}
use lib.Ieee.{nan, inf, of_bits, of_fields, odd, binary64}
use Rattle.little.specs.Promise.{Only}
use Rattle.meaning.proofs.Decide.{dec_iff, dec_and, dec_imp, dec_not}
use Rattle.meaning.specs.Model as meaning
use Rattle.layout.specs.declared.Value.{Value}
use Rattle.std.specs.Prelude.{Some, None}
use Rattle.layout.specs.Date.{IsDate}
use Rattle.layout.specs.Promise.{Judges}
use Rattle.layout.specs.Value.{Finite, Valued, is_boolean, is_integer, is_real, is_date, is_text, HasValue, value_of, meant}
use Rattle.layout.proofs.Dates.{dec_date}

-- ---- the bits of a float are neither infinite nor NaN exactly if the 11 bits of the exponent's field are not all ones

abbrev pub exponent : ℕ → ℕ
exponent b = b / 2 ^ 52 % 2 ^ 11

odd_finite : (d : ℕ) (s : Bool) (q k l : ℕ) → Finite (odd d s q k l)
unfolding odd
odd_finite d s zero k l = tt
odd_finite d s (suc q) k l = tt

fields_finite : (s : Bool) (x t : ℕ) → x ≢ 2047 → Finite (of_fields binary64 s x t)
unfolding of_fields
fields_finite s zero t h = odd_finite 53 s t 0 1074
fields_finite s (suc x) t h = rw (ne_eqb (suc x) 2047 h) (odd_finite 53 s (2 ^ 52 + t) x 1074)

fields_not_finite : (s : Bool) (x t : ℕ) → x ≡ 2047 → ¬ Finite (of_fields binary64 s x t)
unfolding of_fields
fields_not_finite s zero t e f = absurd (omega arith)
fields_not_finite s (suc x) t e f = go (eqb t 0) (rw (eq-eqb (suc x) 2047 e) at f)
  where
    go : (b : Bool) → Finite (cond b (inf s) nan) → ⊥
    go true f = f
    go false f = f

pub finite_iff : (b : ℕ) → Finite (of_bits binary64 b) ↔ (exponent b ≢ 2047)
unfolding of_bits
finite_iff b = (
  λ f e. fields_not_finite _ (b % 2 ^ 63 / 2 ^ 52) _ (field b 11 52 ∙ e) f,
  λ h. fields_finite _ (b % 2 ^ 63 / 2 ^ 52) _ (λ e. h (sym (field b 11 52) ∙ e)),
)

-- ---- the tests, by kind

pub record ValueTests (T k n b : ℕ) : Type 0 where
  pub least : 1 ≤ k
  pub most : k ≤ 5
  pub no_length : k ≢ 5 → n ≡ 0
  pub boolean : k ≡ 1 → b ≤ 1
  pub real : k ≡ 3 → exponent b ≢ 2047
  pub date : k ≡ 4 → IsDate b
  pub text : k ≡ 5 → b + n ≤ T

unfoldable pub dec_tests : (T k n b : ℕ) → Dec (ValueTests T k n b)
unfolding dec_iff dec_and dec_imp dec_not dec_le ℕ_discrete dec_date
dec_tests T k n b =
    dec_iff
    (λ t. record { least = t.0; most = t.1.0; no_length = t.1.1.0; boolean = t.1.1.1.0; real = t.1.1.1.1.0; date = t.1.1.1.1.1.0; text = t.1.1.1.1.1.1 })
    (λ h. (h.least, (h.most, (h.no_length, (h.boolean, (h.real, (h.date, h.text)))))))
    (dec_and (dec_le _ _)
    (dec_and (dec_le _ _)
    (dec_and (dec_imp (dec_not (ℕ_discrete _ _)) (ℕ_discrete _ _))
    (dec_and (dec_imp (ℕ_discrete _ _) (dec_le _ _))
    (dec_and (dec_imp (ℕ_discrete _ _) (dec_not (ℕ_discrete _ _))) (dec_and (dec_imp (ℕ_discrete _ _) (dec_date b)) (dec_imp (ℕ_discrete _ _) (dec_le _ _))))))))

module _ {T : ℕ} where
  pub tests_of : {k n b : ℕ} {v : Value} → Valued T k n b v → ValueTests T k n b
  tests_of (is_boolean h) =
      record { least = omega arith; most = omega arith; no_length = omega arith; boolean = omega arith; real = omega arith; date = λ e. absurd (omega arith); text = omega arith }
  tests_of is_integer =
      record { least = omega arith; most = omega arith; no_length = omega arith; boolean = omega arith; real = omega arith; date = λ e. absurd (omega arith); text = omega arith }
  tests_of (is_real {b = b} h) =
      record { least = omega arith; most = omega arith; no_length = omega arith; boolean = omega arith; real = λ e. (finite_iff b).0 h; date = λ e. absurd (omega arith); text = omega arith }
  tests_of (is_date h) =
      record { least = omega arith; most = omega arith; no_length = omega arith; boolean = omega arith; real = omega arith; date = λ e. h; text = omega arith }
  tests_of (is_text h) =
      record { least = omega arith; most = omega arith; no_length = omega arith; boolean = omega arith; real = omega arith; date = λ e. absurd (omega arith); text = omega arith }

  pub valued : (k n b : ℕ) → ValueTests T k n b → Valued T k n b (value_of k n b)
  valued zero n b t = absurd (omega arith)
  valued (suc zero) n b t = rw (t.no_length (omega arith)) (is_boolean (t.boolean refl))
  valued (suc (suc zero)) n b t = rw (t.no_length (omega arith)) is_integer
  valued (suc (suc (suc zero))) n b t = rw (t.no_length (omega arith)) (is_real ((finite_iff b).1 (t.real refl)))
  valued (suc (suc (suc (suc zero)))) n b t = rw (t.no_length (omega arith)) (is_date (t.date refl))
  valued (suc (suc (suc (suc (suc zero))))) n b t = is_text (t.text refl)
  valued (suc (suc (suc (suc (suc (suc k)))))) n b t = absurd (omega arith)

  -- they say the value that `value_of` gives, and no other
  pub valued_is : {k n b : ℕ} {v : Value} → Valued T k n b v → v ≡ value_of k n b
  valued_is (is_boolean h) = refl
  valued_is is_integer = refl
  valued_is (is_real h) = refl
  valued_is (is_date h) = refl
  valued_is (is_text h) = refl

  pub valued_one : {k n b : ℕ} {u v : Value} → Valued T k n b u → Valued T k n b v → u ≡ v
  valued_one p q = valued_is p ∙ sym (valued_is q)

  -- the value of a good row is of the row's kind
  pub kind_of : {k n b : ℕ} {v : Value} (t : List ℕ) → Valued T k n b v → meaning.kind (meant t (value_of k n b)) ≡ k
  kind_of t (is_boolean h) = refl
  kind_of t is_integer = refl
  kind_of t (is_real h) = refl
  kind_of t (is_date h) = refl
  kind_of t (is_text h) = refl

unfoldable pub dec_value : (T k n b : ℕ) → Dec (HasValue T k n b)
unfolding dec_iff dec_tests
dec_value T k n b = dec_iff (λ t. (value_of k n b, valued k n b t)) (λ h. tests_of h.1) (dec_tests T k n b)

-- what is said of a row, its value or that it has none, is one
pub judges_one : (T k n b : ℕ) → Only (λ r. Judges r T k n b)
judges_one T k n b (Some u) (Some v) p q = ap Some (valued_one p q)
judges_one T k n b (Some u) None p q = absurd (q u p)
judges_one T k n b None (Some v) p q = absurd (p v q)
judges_one T k n b None None p q = refl
