-- Laws of coefficients: digits, and perhaps a comma with digits behind it.
use mathlib.Core.Path.{◌≡◌, refl, sym, ap, ◌∙◌}
use mathlib.Core.Logic.{◌≢◌}
use mathlib.Core.Bool.{Bool}
use mathlib.Core.List.{List, [], ◌∷◌, ◌++◌, append_assoc, append-nil}
use Prim.Native.Nat.{ℕ, ◌+◌}
use native.Mathlib.Omega.{arith}
use lib.ListN.{length, get_or, drop}
use lib.Ieee.{Float}
use Rattle.std.specs.Prelude.{Option, Some, None}
use Rattle.lines.specs.Digits.{comma, Digit, Digits, after, number}
use Rattle.lines.specs.Line.{quotient, Fraction, none, some, Coefficient}
use Rattle.lines.specs.Inner.{ReadsNumber, TellsNumber, TellsFraction, Behind, ReadsReal, TellsReal}
use Rattle.lines.proofs.Texts.{byte_is, step, within, from_then, from_byte, run_one}
use Rattle.lines.proofs.DigitRuns.{after_append}
use Rattle.lines.proofs.SignedOnce.{digits_ended, signed_one}

-- a comma is no digit
pub comma_ends : ¬ Digit comma
comma_ends d = absurd (omega (arith, d.from))

-- ---- where the digits before the comma were read

module _ (s : List ℕ) (at : ℕ) {b : Bool} {n end : ℕ} (g : ReadsNumber s at 6 b n end) where
  -- what stands behind them in any coefficient there: a byte behind it, or a comma and digits
  pub data Continues (t rest : List ℕ) (z : ℕ) : Type 0 where
    ends : g.text ≡ t → drop end s ≡ z ∷ rest → Continues t rest z
    goes_on : {ds : List ℕ} → Digits 1 6 ds → t ≡ g.text ++ (comma ∷ ds) → drop end s ≡ comma ∷ (ds ++ (z ∷ rest)) → Continues t rest z

  pub continues : (t rest : List ℕ) (y : Float) (z : ℕ) → Coefficient t y → Behind z → drop at s ≡ t ++ (z ∷ rest) → Continues t rest z
  continues t rest y z q h e = by_fraction q.behind q.fraction q.parted q.text
    where
      all : (behind : List ℕ) → t ≡ q.before ++ behind → g.text ++ drop end s ≡ q.before ++ (behind ++ (z ∷ rest))
      all behind f = sym g.from.here ∙ e ∙ ap (λ (l : List ℕ). l ++ (z ∷ rest)) f ∙ append_assoc q.before behind (z ∷ rest)

      by_fraction : (behind fraction : List ℕ) → Fraction behind fraction → t ≡ q.before ++ behind → Continues t rest z
      by_fraction behind fraction none f =
          let o = signed_one g.says g.run q.says (digits_ended q.says.few h.digit) (all [] f) in
          ends (o.text ∙ sym (f ∙ append-nil q.before)) o.rest
      by_fraction behind fraction (some {ds} few) f =
          let o = signed_one g.says g.run q.says (digits_ended q.says.few comma_ends) (all (comma ∷ ds) f) in
          goes_on few (f ∙ ap (λ (l : List ℕ). l ++ (comma ∷ ds)) (sym o.text)) o.rest

  -- no comma behind them
  pub without_comma : get_or s end 0 ≢ 44 → {x : Float} → x ≡ quotient b n 0 → ReadsReal s at x end
  without_comma not_so {x} e =
      record {
        text = g.text;
        from = g.from;
        says =
            record {
              negative = b;
              whole = g.digits;
              fraction = [];
              before = g.text;
              behind = [];
              text = sym (append-nil g.text);
              says = g.says;
              parted = none;
              value = e ∙ ap (λ (v : ℕ). quotient b v 0) (g.value ∙ ap number (sym (append-nil g.digits)));
            };
        alone = λ t rest y z q h f. by_ending t rest z (continues t rest y z q h f);
      }
    where
      by_ending : (t rest : List ℕ) (z : ℕ) → Continues t rest z → g.text ≡ t
      by_ending t rest z (ends f k) = f
      by_ending t rest z (goes_on {ds} few f k) = absurd (not_so (byte_is s end comma (ds ++ (z ∷ rest)) k))

  module _ (e : get_or s end 0 ≡ 44) where
    -- a comma, and digits behind it
    pub with_fraction : (r : Option (Float × ℕ)) → TellsFraction r s (end + 1) b n → TellsReal r s at
    with_fraction (Some r) d =
        record {
          text = g.text ++ (comma ∷ d.text);
          from = from_then s g.from (from_then s (from_byte s (within s end (omega arith)) e) d.digits.from);
          says =
              record {
                negative = b;
                whole = g.digits;
                fraction = d.text;
                before = g.text;
                behind = comma ∷ d.text;
                text = refl;
                says = g.says;
                parted = some d.digits.few;
                value = d.value ∙ ap (λ (v : ℕ). quotient b v (length d.text)) (ap (λ (v : ℕ). after v d.text) g.value ∙ sym (after_append 0 g.digits d.text));
              };
          alone = λ t rest y z q h f. by_ending t rest z h (continues t rest y z q h f);
        }
      where
        by_ending : (t rest : List ℕ) (z : ℕ) → Behind z → Continues t rest z → g.text ++ (comma ∷ d.text) ≡ t
        by_ending t rest z h (ends f k) = absurd (h.comma (sym (byte_is s end z rest k) ∙ e))
        by_ending t rest z h (goes_on {ds} few f k) =
            let w = step s end comma (ds ++ (z ∷ rest)) k in
            let o : d.text ≡ ds = run_one 6 d.text ds d.digits.run (digits_ended few h.digit) (sym d.digits.from.here ∙ w) in
            ap (λ (l : List ℕ). g.text ++ (comma ∷ l)) o ∙ sym f
    with_fraction None d = λ t rest y z q h f. by_ending t rest z h (continues t rest y z q h f)
      where
        by_ending : (t rest : List ℕ) (z : ℕ) → Behind z → Continues t rest z → ⊥
        by_ending t rest z h (ends f k) = absurd (h.comma (sym (byte_is s end z rest k) ∙ e))
        by_ending t rest z h (goes_on {ds} few f k) = d ds (z ∷ rest) few (step s end comma (ds ++ (z ∷ rest)) k)

-- no digits at all
pub no_number : (s : List ℕ) (at : ℕ) → TellsNumber None s at 6 → TellsReal None s at
no_number s at not_so t rest y z q h e = not_so q.before q.whole (q.behind ++ (z ∷ rest)) q.negative q.says (e ∙ ap (λ (l : List ℕ). l ++ (z ∷ rest)) q.text ∙ append_assoc q.before q.behind (z ∷ rest))
