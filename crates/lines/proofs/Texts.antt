-- Laws of texts that stand in a sheet, and of runs of bytes of one sort.
use mathlib.Core.Path.{◌≡◌, refl, sym, ap, ◌∙◌, subst}
use mathlib.Core.List.{List, [], ◌∷◌, ◌++◌, append_assoc}
use Prim.Native.Nat.{ℕ, zero, suc, ◌+◌, ◌≤◌, ◌<◌}
use native.Mathlib.Numerals.{add-one}
use native.Mathlib.Omega.{arith}
use lib.ListN.{length, get_or, drop, length-append}
use lib.Seq.{drop-cons, drop-drop, drop-append_seam}
use Rattle.std.proofs.lemmas.List.{append_cancel_left, get_or-drop}
use Rattle.lines.specs.Digits.{Each}
use Rattle.lines.specs.Inner.{From, Run}

-- ---- lists

pub head_same : {x y : ℕ} {a b : List ℕ} → x ∷ a ≡ y ∷ b → x ≡ y
head_same {x} {y} {a} {b} e = ap (λ (l : List ℕ). get_or l 0 0) e

pub tail_same : {x y : ℕ} {a b : List ℕ} → x ∷ a ≡ y ∷ b → a ≡ b
tail_same {x} {y} {a} {b} e = ap (λ (l : List ℕ). drop 1 l) e

pub each_append : (P : ℕ → Type 0) (t u : List ℕ) → Each P t → Each P u → Each P (t ++ u)
each_append P [] u p q = q
each_append P (x ∷ t) u p q = (p.0, each_append P t u p.1 q)

-- ---- bytes

-- what is left from a place on, and the byte there
module _ (s : List ℕ) where
  pub past : (at : ℕ) (t w : List ℕ) → drop at s ≡ t ++ w → drop (at + length t) s ≡ w
  past at t w e = sym (drop-drop (length t) at s) ∙ ap (λ (l : List ℕ). drop (length t) l) e ∙ drop-append_seam t w

  pub byte_is : (at x : ℕ) (w : List ℕ) → drop at s ≡ x ∷ w → get_or s at 0 ≡ x
  byte_is at x w e =
      let here : at + 0 ≡ at = omega arith in
      ap (λ (k : ℕ). get_or s k 0) (sym here) ∙ sym (get_or-drop at s 0 0) ∙ ap (λ (l : List ℕ). get_or l 0 0) e

  pub step : (at x : ℕ) (w : List ℕ) → drop at s ≡ x ∷ w → drop (at + 1) s ≡ w
  step at x w e = past at (x ∷ []) w e

-- behind the last byte stands 0
pub within : (s : List ℕ) (at : ℕ) → 1 ≤ get_or s at 0 → at < length s
within [] at h = absurd (omega arith)
within (x ∷ s) zero h = omega arith
within (x ∷ s) (suc at) h = let l = within s at h in omega arith

-- ---- texts from a place on

module _ (s : List ℕ) where
  pub from_none : {at : ℕ} → at ≤ length s → From s at at []
  from_none {at} h = record { here = refl; ends = omega arith; inside = h }

  -- one text behind another
  pub from_then : {at mid end : ℕ} {t u : List ℕ} → From s at mid t → From s mid end u → From s at end (t ++ u)
  from_then {at} {mid} {end} {t} {u} f g =
      record {
        here = f.here ∙ ap (λ (l : List ℕ). t ++ l) g.here ∙ sym (append_assoc t u (drop end s));
        ends = let e = f.ends in let h = g.ends in let l = length-append t u in omega arith;
        inside = g.inside;
      }

  -- the byte at a place
  pub from_byte : {at x : ℕ} → at < length s → get_or s at 0 ≡ x → From s at (at + 1) (x ∷ [])
  from_byte {at} {x} h e =
      record {
        here = rw (add-one at) (drop-cons s at 0 h ∙ ap (λ (y : ℕ). y ∷ drop (suc at) s) e);
        ends = refl;
        inside = omega arith;
      }

  -- what follows a text
  pub rest_of : {at end : ℕ} {t u w : List ℕ} → From s at end t → t ≡ u → drop at s ≡ u ++ w → drop end s ≡ w
  rest_of {at} {end} {t} {u} {w} f e h = append_cancel_left u _ _ (ap (λ (l : List ℕ). l ++ drop end s) (sym e) ∙ sym f.here ∙ h)

-- ---- runs of bytes of one sort

module _ {P : ℕ → Type 0} where
  -- there is one run
  pub run_one : (m : ℕ) (t u : List ℕ) {y z : List ℕ} → Run P m t y → Run P m u z → t ++ y ≡ u ++ z → t ≡ u
  run_one m [] [] r q e = refl
  run_one m [] (x ∷ u) r q e = let l = q.few in absurd (r.stops (omega arith) x (u ++ _) e q.each.0)
  run_one m (x ∷ t) [] r q e = let l = r.few in absurd (q.stops (omega arith) x (t ++ _) (sym e) r.each.0)
  run_one zero (x ∷ t) (y ∷ u) r q e = let l = r.few in absurd (omega arith)
  run_one (suc m) (x ∷ t) (y ∷ u) r q e =
      let h : x ≡ y = head_same e in
      let k : t ≡ u = run_one m t u (shorter x t r) (shorter y u q) (tail_same e) in
      cc
    where
      shorter : {m : ℕ} {w : List ℕ} (x : ℕ) (t : List ℕ) → Run P (suc m) (x ∷ t) w → Run P m t w
      shorter x t r = record { few = omega (arith, r.few); each = r.each.1; stops = λ h. r.stops (omega arith) }

  -- a run that something of another sort ends
  pub run_ended : (m : ℕ) (t : List ℕ) {x : ℕ} {w : List ℕ} → length t ≤ m → Each P t → ¬ P x → Run P m t (x ∷ w)
  run_ended m t {x} {w} l p not_so = record { few = l; each = p; stops = λ h y r e q. not_so (subst P (sym (head_same e)) q) }

  -- a run as long as it may be
  pub run_full : (m : ℕ) (t : List ℕ) {w : List ℕ} → length t ≡ m → Each P t → Run P m t w
  run_full m t l p = record { few = omega arith; each = p; stops = λ h. absurd (omega arith) }
