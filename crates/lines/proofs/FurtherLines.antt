-- Laws of angle lines: what the steps of reading one give together.
use mathlib.Core.Path.{◌≡◌, refl, sym, ap, ◌∙◌, subst}
use mathlib.Core.Logic.{◌≢◌}
use mathlib.Core.Bool.{Bool, cond}
use mathlib.Core.List.{List, [], ◌∷◌, ◌++◌, append_assoc}
use Prim.Native.Nat.{ℕ, ◌+◌}
use native.Mathlib.Omega.{arith}
use lib.ListN.{length, get_or, drop}
use lib.IntN.{ℤ, pos, neg_ℤ}
use lib.Ieee.{Float}
use Rattle.std.specs.Prelude.{None}
use Rattle.lines.specs.declared.Angle.{Angle}
use Rattle.lines.specs.Digits.{semicolon, Each, Digit, Digits, Sign, unsigned, negative, Signed}
use Rattle.lines.specs.Line.{Fraction, none, some, Coefficient, AngleLine}
use Rattle.lines.specs.Sheet.{lines_of, line_of}
use Rattle.lines.specs.Promise.{Turns}
use Rattle.lines.specs.Inner.{From, ReadsNumber, TellsNumber, ReadsReal, TellsReal, ReadsEnd, TellsEnd}
use Rattle.lines.proofs.Texts.{each_append, byte_is, step, within, from_then, from_byte, rest_of}
use Rattle.lines.proofs.Ends.{end_opens}
use Rattle.lines.proofs.SignedOnce.{digits_ended, signed_one}
use Rattle.lines.proofs.Lines.{NoLf, each_of, line_cut, front}

-- ---- an angle line has no LF but its last byte

digit_no_lf : (x : ℕ) → Digit x → NoLf x
digit_no_lf x d e = absurd (omega (arith, d.from))

pub digits_no_lf : {least most : ℕ} (t : List ℕ) → Digits least most t → Each NoLf t
digits_no_lf t d = each_of digit_no_lf t d.each

sign_no_lf : {b : Bool} {t : List ℕ} → Sign b t → Each NoLf t
sign_no_lf unsigned = tt
sign_no_lf negative = ((λ e. absurd (omega arith)), tt)

signed_no_lf : {most : ℕ} {t : List ℕ} {b : Bool} {ds : List ℕ} → Signed most t b ds → Each NoLf t
signed_no_lf {t = t} {ds = ds} q = subst (Each NoLf) (sym q.text) (each_append NoLf q.sign ds (sign_no_lf q.minus) (digits_no_lf ds q.few))

fraction_no_lf : {t ds : List ℕ} → Fraction t ds → Each NoLf t
fraction_no_lf none = tt
fraction_no_lf (some {ds} few) = ((λ e. absurd (omega arith)), digits_no_lf ds few)

coefficient_no_lf : {t : List ℕ} {x : Float} → Coefficient t x → Each NoLf t
coefficient_no_lf {t} q = subst (Each NoLf) (sym q.text) (each_append NoLf q.before q.behind (signed_no_lf q.says) (fraction_no_lf q.parted))

-- so it is a line of the sheet that it begins
pub angle_cut : {l : List ℕ} {a : Angle} → AngleLine l a → (rest : List ℕ) → lines_of (l ++ rest) ≡ l ∷ lines_of rest
angle_cut {l} {a} q rest =
    let t : List ℕ = q.turned ++ (semicolon ∷ q.measured) in
    let p : Each NoLf t = each_append NoLf q.turned (semicolon ∷ q.measured) (signed_no_lf q.degrees.says) ((λ e. absurd (omega arith)), coefficient_no_lf q.coefficient) in
    let e : l ≡ t ++ q.end = q.text ∙ sym (append_assoc q.turned (semicolon ∷ q.measured) q.end) in
    rw e (line_cut t q.end rest p q.ended)

module _ (s : List ℕ) (at : ℕ) where
  -- ---- a good line

  module _ {b : Bool} {n end next stop : ℕ} {x : Float} (g : ReadsNumber s at 3 b n end) (e : get_or s end 0 ≡ 59) (m : ReadsReal s (end + 1) x stop) (k : ReadsEnd s stop next) where
    -- its text
    abbrev line_text : List ℕ
    line_text = g.text ++ (semicolon ∷ (m.text ++ k.text))

    line_from : From s at next line_text
    line_from = from_then s g.from (from_then s (from_byte s (within s end (omega arith)) e) (from_then s m.from k.from))

    line_says : {d : ℤ} → d ≡ cond b (neg_ℤ (pos n)) (pos n) → AngleLine line_text (record { degrees = d; coefficient = x })
    line_says {d} f =
        record {
          turned = g.text;
          measured = m.text;
          end = k.text;
          text = refl;
          degrees = record { negative = b; digits = g.digits; says = g.says; value = f ∙ ap (λ (v : ℕ). cond b (neg_ℤ (pos v)) (pos v)) g.value };
          coefficient = m.says;
          ended = k.says;
        }

    pub good_line : {d : ℤ} → d ≡ cond b (neg_ℤ (pos n)) (pos n) → Turns s at (record { degrees = d; coefficient = x }) next
    good_line {d} f =
        let q = line_says f in
        let o : line_of (drop at s) 1 ≡ line_text = ap (λ (l : List ℕ). line_of l 1) line_from.here ∙ ap (λ (ls : List (List ℕ)). first_of ls) (angle_cut q (drop next s)) in
        record { says = subst (λ (l : List ℕ). AngleLine l (record { degrees = d; coefficient = x })) (sym o) q; follows = line_from.ends ∙ ap (λ (l : List ℕ). at + length l) (sym o) }
      where
        first_of : List (List ℕ) → List ℕ
        first_of ls = get_or ls 0 []

  -- ---- a bad line

  module _ {a : Angle} (q : AngleLine (line_of (drop at s) 1) a) where
    -- were it good, this would stand from `at` on
    would : drop at s ≡ q.turned ++ (semicolon ∷ (q.measured ++ (q.end ++ (front (drop at s)).rest)))
    would =
        let rest : List ℕ = (front (drop at s)).rest in
        let f : (q.turned ++ (semicolon ∷ (q.measured ++ q.end))) ++ rest ≡ q.turned ++ (semicolon ∷ (q.measured ++ (q.end ++ rest))) = simp append_assoc in
        (front (drop at s)).text ∙ ap (λ (l : List ℕ). l ++ rest) q.text ∙ f

    pub needs_degrees : TellsNumber None s at 3 → ⊥
    needs_degrees not_so = not_so q.turned q.degrees.digits (semicolon ∷ (q.measured ++ (q.end ++ (front (drop at s)).rest))) q.degrees.negative q.degrees.says would

    module _ {b : Bool} {n end : ℕ} (g : ReadsNumber s at 3 b n end) where
      at_semicolon : drop end s ≡ semicolon ∷ (q.measured ++ (q.end ++ (front (drop at s)).rest))
      at_semicolon = (signed_one g.says g.run q.degrees.says (digits_ended q.degrees.says.few (λ d. absurd (omega (arith, d.to)))) (sym g.from.here ∙ would)).rest

      pub needs_semicolon : get_or s end 0 ≢ 59 → ⊥
      needs_semicolon not_so = not_so (byte_is s end semicolon _ at_semicolon)

      -- the coefficient, and the first byte of the end behind it
      measured_here : drop (end + 1) s ≡ q.measured ++ ((end_opens q.ended).first ∷ ((end_opens q.ended).rest ++ (front (drop at s)).rest))
      measured_here =
          step s end semicolon _ at_semicolon
          ∙ ap (λ (l : List ℕ). q.measured ++ (l ++ (front (drop at s)).rest)) (end_opens q.ended).text

      pub needs_coefficient : TellsReal None s (end + 1) → ⊥
      needs_coefficient not_so = not_so q.measured _ a.coefficient _ q.coefficient (end_opens q.ended).behind measured_here

      pub needs_end : {x : Float} {stop : ℕ} → ReadsReal s (end + 1) x stop → TellsEnd None s stop → ⊥
      needs_end m not_so =
          let o : m.text ≡ q.measured = m.alone q.measured _ a.coefficient _ q.coefficient (end_opens q.ended).behind measured_here in
          not_so q.end (front (drop at s)).rest q.ended (rest_of s m.from o (step s end semicolon _ at_semicolon))
