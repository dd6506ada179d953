-- A line is read in one way: it says one thing.
use mathlib.Core.Path.{◌≡◌, refl, sym, ap, ◌∙◌}
use mathlib.Core.Bool.{Bool}
use mathlib.Core.List.{List, ◌∷◌, ◌++◌, append_assoc}
use Prim.Native.Nat.{ℕ}
use native.Mathlib.Omega.{arith}
use lib.Ieee.{Float}
use Rattle.std.proofs.lemmas.List.{append_cancel_left}
use Rattle.lines.specs.declared.Angle.{Angle}
use Rattle.lines.specs.Digits.{semicolon, dash, Digit, Digits, Signed}
use Rattle.lines.specs.Line.{DateText, FirstLine, Fraction, none, some, Coefficient, AngleLine}
use Rattle.lines.specs.Inner.{Behind}
use Rattle.lines.proofs.Texts.{head_same, tail_same, run_one, run_ended, run_full}
use Rattle.lines.proofs.Ends.{end_opens}
use Rattle.lines.proofs.SignedOnce.{digits_ended, signed_one}
use Rattle.lines.proofs.Coefficients.{comma_ends}

-- ---- a coefficient before a byte that may stand behind one

module _ {b c : Bool} {t u ds es : List ℕ} (p : Signed 6 t b ds) (q : Signed 6 u c es) {f g : ℕ} (h : Behind f) (k : Behind g) (y z : List ℕ) where
  parts_one : {v w fs gs : List ℕ} → Fraction v fs → Fraction w gs → t ++ (v ++ (f ∷ y)) ≡ u ++ (w ++ (g ∷ z)) → (b ≡ c) × (ds ≡ es) × (fs ≡ gs)
  parts_one none none e =
      let o = signed_one p (digits_ended p.few h.digit) q (digits_ended q.few k.digit) e in
      (o.sign, o.digits, refl)
  parts_one none (some few) e =
      let o = signed_one p (digits_ended p.few h.digit) q (digits_ended q.few comma_ends) e in
      absurd (h.comma (head_same o.rest))
  parts_one (some few) none e =
      let o = signed_one p (digits_ended p.few comma_ends) q (digits_ended q.few k.digit) e in
      absurd (k.comma (sym (head_same o.rest)))
  parts_one (some {ds = fs} few) (some {ds = gs} more) e =
      let o = signed_one p (digits_ended p.few comma_ends) q (digits_ended q.few comma_ends) e in
      (o.sign, o.digits, run_one 6 fs gs (digits_ended few h.digit) (digits_ended more k.digit) (tail_same o.rest))

coefficient_one : (y z : List ℕ) {t u : List ℕ} {f g : ℕ} {x w : Float} → Coefficient t x → Coefficient u w → Behind f → Behind g → t ++ (f ∷ y) ≡ u ++ (g ∷ z) → x ≡ w
coefficient_one y z {t} {u} {f} {g} p q h k e =
    let l : t ++ (f ∷ y) ≡ p.before ++ (p.behind ++ (f ∷ y)) = ap (λ (l : List ℕ). l ++ (f ∷ y)) p.text ∙ append_assoc p.before p.behind (f ∷ y) in
    let r : u ++ (g ∷ z) ≡ q.before ++ (q.behind ++ (g ∷ z)) = ap (λ (l : List ℕ). l ++ (g ∷ z)) q.text ∙ append_assoc q.before q.behind (g ∷ z) in
    let o = parts_one p.says q.says h k y z p.parted q.parted (sym l ∙ e ∙ r) in
    p.value ∙ rw (o.0, o.1, o.2) (sym q.value)

-- ---- a further line

-- an angle is known by its parts
angle_same : {a b : Angle} → a.degrees ≡ b.degrees → a.coefficient ≡ b.coefficient → a ≡ b
angle_same {a} {b} d c = rw (← d, ← c)

not_digit : ¬ Digit semicolon
not_digit d = absurd (omega (arith, d.to))

pub angle_line_one : {l : List ℕ} {a b : Angle} → AngleLine l a → AngleLine l b → a ≡ b
angle_line_one {l} {a} {b} p q =
    let x = end_opens p.ended in
    let y = end_opens q.ended in
    let o = signed_one p.degrees.says (digits_ended p.degrees.says.few not_digit) q.degrees.says (digits_ended q.degrees.says.few not_digit) (sym p.text ∙ q.text) in
    let e : p.measured ++ (x.first ∷ x.rest) ≡ q.measured ++ (y.first ∷ y.rest) = rw (← x.text, ← y.text) (tail_same o.rest) in
    angle_same
    (p.degrees.value ∙ rw (o.sign, o.digits) (sym q.degrees.value))
    (coefficient_one x.rest y.rest p.coefficient q.coefficient x.behind y.behind e)

-- ---- the first line

-- digits that fill their place
digits_one : (y z : List ℕ) {m : ℕ} {t u : List ℕ} → Digits m m t → Digits m m u → t ++ y ≡ u ++ z → (t ≡ u) × (y ≡ z)
digits_one y z {m} {t} {u} p q e =
    let o = run_one m t u (run_full m t (omega (arith, p.from, p.to)) p.each) (run_full m u (omega (arith, q.from, q.to)) q.each) e in
    (o, append_cancel_left u _ _ (rw o at e))

date_one : (y z : List ℕ) {t u : List ℕ} {d e : ℕ} → DateText t d → DateText u e → t ++ y ≡ u ++ z → d ≡ e
date_one y z {t} {u} p q h =
    let l : t ++ y ≡ p.year ++ (dash ∷ (p.month ++ (dash ∷ (p.day ++ y)))) = rw p.text (simp append_assoc) in
    let r : u ++ z ≡ q.year ++ (dash ∷ (q.month ++ (dash ∷ (q.day ++ z)))) = rw q.text (simp append_assoc) in
    let year = digits_one _ _ p.year_digits q.year_digits (sym l ∙ h ∙ r) in
    let month = digits_one _ _ p.month_digits q.month_digits (tail_same year.1) in
    let day = digits_one _ _ p.day_digits q.day_digits (tail_same month.1) in
    p.value ∙ rw (year.0, month.0, day.0) (sym q.value)

pub first_line_one : {l s t : List ℕ} {d e : ℕ} → FirstLine l s d → FirstLine l t e → (s ≡ t) × (d ≡ e)
first_line_one {l} {s} {t} p q =
    let h = sym p.text ∙ q.text in
    let o = run_one 32 s t (run_ended 32 s p.named.to p.named.each (λ x. x.semicolon refl)) (run_ended 32 t q.named.to q.named.each (λ x. x.semicolon refl)) h in
    (o, date_one _ _ p.says q.says (tail_same (append_cancel_left t _ _ (rw o at h))))
