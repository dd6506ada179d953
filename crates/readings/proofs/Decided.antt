-- Every sheet says something or is refused: each of its lines can be decided.
use mathlib.Core.Path.{◌≡◌, ap, sym, ◌∙◌}
use mathlib.Core.Logic.{◌⊎◌, inl, inr}
use mathlib.Core.List.{List, [], append-nil}
use Prim.Native.Nat.{ℕ}
use native.Mathlib.Decide.{ℕ_discrete, dec_le}
use native.Mathlib.Omega.{arith}
use lib.ListN.{get_or}
use Rattle.std.specs.Prelude.{Option, Some, None}
use Rattle.meaning.proofs.Decide.{dec_iff, dec_and, dec_imp}
use Rattle.layout.specs.Refusals.{RefusedBy}
use Rattle.layout.proofs.Decided.{dec_same}
use Rattle.layout.proofs.Refusing as refusing
use Rattle.lines.specs.declared.Angle.{Angle}
use Rattle.lines.specs.declared.Heading.{Heading}
use Rattle.lines.specs.Line.{AngleLine}
use Rattle.lines.specs.Sheet.{line_of, Reading, SheetSays, GoodFirst, GoodFurther, sheet_refusals}
use Rattle.lines.specs.Promise.{TellsFirst, TellsFurther}
use Rattle.lines.proofs.FurtherLines.{angle_cut}
use Rattle.lines.proofs.Answers.{heads_good}
use Rattle.lines.proofs.OneReading.{passes_says}
use Rattle.readings.proofs.SomeAnswer.{first_told, further_told}

-- an angle line by itself is a sheet of one line
whole : {l : List ℕ} {a : Angle} → AngleLine l a → line_of l 1 ≡ l
whole {l} q = ap (λ (t : List ℕ). line_of t 1) (sym (append-nil l)) ∙ ap (λ (ls : List (List ℕ)). get_or ls 0 []) (angle_cut q [])

-- whether it is one: what is told of that sheet's first line
pub dec_line : (l : List ℕ) → Dec ((a : Angle) × AngleLine l a)
dec_line l = let t = further_told l 0 (omega arith) in by_answer t.0 t.1
  where
    by_answer : (r : Option (Angle × ℕ)) → TellsFurther r l 0 → Dec ((a : Angle) × AngleLine l a)
    by_answer (Some (a, next)) t = by_whole (dec_same (line_of l 1) l)
      where
        by_whole : Dec (line_of l 1 ≡ l) → Dec ((a : Angle) × AngleLine l a)
        by_whole (yes e) = yes (a, rw e at t.says)
        by_whole (no m) = no (λ p. m (whole p.1))
    by_answer None t = no (λ p. t p.0 (rw (whole p.1) p.1))

pub dec_first : (s : List ℕ) → Dec (GoodFirst s)
dec_first s = let t = first_told s in by_answer t.0 t.1
  where
    by_answer : (r : Option Heading) → TellsFirst r s → Dec (GoodFirst s)
    by_answer (Some h) t = yes (heads_good t)
    by_answer None t = no t

pub dec_further : (s : List ℕ) (k : ℕ) → Dec (GoodFurther s k)
dec_further s k =
    dec_iff (λ t. record { angle = t.0.0; says = t.0.1; few = t.1 }) (λ g. ((g.angle, g.says), g.few))
    (dec_and (dec_line (line_of s k)) (dec_le k 181))

pub dec_sheet : (s : List ℕ) → refusing.Decided (sheet_refusals s)
dec_sheet s = (λ k. dec_imp (ℕ_discrete k 1) (dec_first s), (λ k. dec_imp (dec_le 2 k) (dec_further s k), tt))

pub sheet_decided : (s : List ℕ) → ((r : Reading) × SheetSays s r) ⊎ ((x : ℕ) × (k : ℕ) × RefusedBy (sheet_refusals s) x k)
sheet_decided s = by_outcome (refusing.outcome (sheet_refusals s) (dec_sheet s))
  where
    by_outcome : refusing.Outcome (sheet_refusals s) → ((r : Reading) × SheetSays s r) ⊎ ((x : ℕ) × (k : ℕ) × RefusedBy (sheet_refusals s) x k)
    by_outcome (refusing.refused x k r) = inr (x, k, r)
    by_outcome (refusing.passed p) = inl (passes_says s p)
