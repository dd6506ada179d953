-- A minus and digits are read in one way.
use mathlib.Core.Path.{◌≡◌, refl, sym, ap, ◌∙◌}
use mathlib.Core.Bool.{Bool}
use mathlib.Core.List.{List, [], ◌∷◌, ◌++◌, append_assoc}
use Prim.Native.Nat.{ℕ}
use native.Mathlib.Omega.{arith}
use Rattle.std.proofs.lemmas.List.{append_cancel_left}
use Rattle.lines.specs.Digits.{Digit, Digits, Sign, unsigned, negative, Signed}
use Rattle.lines.specs.Inner.{Run}
use Rattle.lines.proofs.Texts.{head_same, tail_same, run_one, run_ended}

-- a byte outside the digits ends them
pub digits_ended : {most : ℕ} {ds w : List ℕ} {x : ℕ} → Digits 1 most ds → ¬ Digit x → Run Digit most ds (x ∷ w)
digits_ended {most} {ds} q not_so = run_ended most ds q.to q.each not_so

-- digits do not begin with a minus
no_minus : {most : ℕ} (ds y : List ℕ) {w : List ℕ} → Digits 1 most ds → ds ++ y ≡ 45 ∷ w → ⊥
no_minus [] y q e = absurd (omega (arith, q.from))
no_minus (x ∷ ds) y q e = let h : x ≡ 45 = head_same e in absurd (omega (arith, q.each.0.from))

module _ {most : ℕ} {ds es y z : List ℕ} (p : Digits 1 most ds) (q : Digits 1 most es) (r : Run Digit most ds y) (k : Run Digit most es z) where
  sign_one : {b c : Bool} {g h : List ℕ} → Sign b g → Sign c h → g ++ (ds ++ y) ≡ h ++ (es ++ z) → (g ≡ h) × (b ≡ c) × (ds ≡ es)
  sign_one unsigned unsigned e = (refl, refl, run_one most ds es r k e)
  sign_one negative negative e = (refl, refl, run_one most ds es r k (tail_same e))
  sign_one unsigned negative e = absurd (no_minus ds y p e)
  sign_one negative unsigned e = absurd (no_minus es z q (sym e))

-- of two that start at the same place: text, sign and digits are the same, and so is what follows
pub record Same (t u : List ℕ) (b c : Bool) (ds es y z : List ℕ) : Type 0 where
  pub text : t ≡ u
  pub sign : b ≡ c
  pub digits : ds ≡ es
  pub rest : y ≡ z

pub signed_one :
    {most : ℕ} {t u : List ℕ} {b c : Bool} {ds es y z : List ℕ} → Signed most t b ds → Run Digit most ds y → Signed most u c es → Run Digit most es z
    → t ++ y ≡ u ++ z → Same t u b c ds es y z
signed_one {t = t} {u = u} {ds = ds} {es = es} {y = y} {z = z} p r q k e =
    let f : t ++ y ≡ p.sign ++ (ds ++ y) = ap (λ (l : List ℕ). l ++ y) p.text ∙ append_assoc p.sign ds y in
    let g : u ++ z ≡ q.sign ++ (es ++ z) = ap (λ (l : List ℕ). l ++ z) q.text ∙ append_assoc q.sign es z in
    let o = sign_one p.few q.few r k p.minus q.minus (sym f ∙ e ∙ g) in
    let h : t ≡ u = p.text ∙ ap (λ (l : List ℕ). l ++ ds) o.0 ∙ ap (λ (l : List ℕ). q.sign ++ l) o.2 ∙ sym q.text in
    record { text = h; sign = o.1; digits = o.2; rest = append_cancel_left u _ _ (ap (λ (l : List ℕ). l ++ y) (sym h) ∙ e) }
