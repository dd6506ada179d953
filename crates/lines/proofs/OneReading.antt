-- A sheet says one thing, and it says something exactly where no line of it is at fault.
use mathlib.Core.Path.{◌≡◌, refl, ap}
use mathlib.Core.List.{List, [], ◌∷◌, ◌++◌}
use Prim.Native.Nat.{ℕ, zero, suc, ◌+◌, ◌-◌, ◌≤◌, ◌<◌}
use native.Mathlib.Omega.{arith}
use lib.ListN.{length, get_or, length-append}
use Rattle.little.specs.Promise.{Only}
use Rattle.meaning.specs.Places.{Every}
use Rattle.layout.specs.Refusals.{RefusedBy, Passed}
use Rattle.layout.proofs.Refusing.{not_both}
use Rattle.lines.specs.Digits.{semicolon}
use Rattle.lines.specs.declared.Angle.{Angle}
use Rattle.lines.specs.Line.{FirstLine, AngleLine}
use Rattle.lines.specs.Sheet.{lines_of, line_of, Reading, SayAngles, SheetSays, GoodFirst, GoodFurther, sheet_refusals}
use Rattle.lines.proofs.OneLine.{angle_line_one, first_line_one}

-- ---- one reading

angles_one : (ls : List (List ℕ)) (a b : List Angle) → SayAngles ls a → SayAngles ls b → a ≡ b
angles_one [] [] [] p q = refl
angles_one [] [] (y ∷ b) p q = absurd q
angles_one [] (x ∷ a) b p q = absurd p
angles_one (l ∷ ls) [] b p q = absurd p
angles_one (l ∷ ls) (x ∷ a) [] p q = absurd q
angles_one (l ∷ ls) (x ∷ a) (y ∷ b) p q = let e = angle_line_one p.0 q.0 in let f = angles_one ls a b p.1 q.1 in cc

-- a reading is known by its parts
reading_same : {x y : Reading} → x.serial ≡ y.serial → x.date ≡ y.date → x.angles ≡ y.angles → x ≡ y
reading_same a b c = rw (← a, ← b, ← c)

pub sheet_one : (s : List ℕ) → Only (SheetSays s)
sheet_one s x y p q =
    let first : p.first ≡ q.first = cc (p.lines, q.lines) in
    let further : p.further ≡ q.further = cc (p.lines, q.lines) in
    let o = first_line_one (rw first at p.heading) q.heading in
    reading_same o.0 o.1 (angles_one q.further x.angles y.angles (rw further at p.angles) q.angles)

-- ---- what a sheet says, and its lines

-- as many angles as lines
pub as_many : (ls : List (List ℕ)) (a : List Angle) → SayAngles ls a → length a ≡ length ls
as_many [] [] p = refl
as_many [] (x ∷ a) p = absurd p
as_many (l ∷ ls) [] p = absurd p
as_many (l ∷ ls) (x ∷ a) p = let e = as_many ls a p.1 in omega arith

-- every line says an angle
abbrev pub AngleAt : List (List ℕ) → ℕ → Type 0
AngleAt ls j = (a : Angle) × AngleLine (get_or ls j []) a

pub angle_at : (ls : List (List ℕ)) (a : List Angle) → SayAngles ls a → Every (length ls) (AngleAt ls)
angle_at [] a p j h = absurd (omega arith)
angle_at (l ∷ ls) [] p j h = absurd p
angle_at (l ∷ ls) (x ∷ a) p zero h = (x, p.0)
angle_at (l ∷ ls) (x ∷ a) p (suc j) h = angle_at ls a p.1 j (omega arith)

-- and so they say angles
say_all : (ls : List (List ℕ)) → Every (length ls) (AngleAt ls) → (a : List Angle) × SayAngles ls a
say_all [] h = ([], tt)
say_all (l ∷ ls) h =
    let x = h zero (omega arith) in
    let more = say_all ls (λ j k. h (suc j) (omega arith)) in
    (x.0 ∷ more.0, (x.1, more.1))

module _ (s : List ℕ) {first : List ℕ} {further : List (List ℕ)} (e : lines_of s ≡ first ∷ further) where
  first_is : line_of s 1 ≡ first
  first_is = ap (λ (ls : List (List ℕ)). get_or ls 0 []) e

  further_is : (j : ℕ) → line_of s (suc (suc j)) ≡ get_or further j []
  further_is j = let m : suc (suc j) - 1 ≡ suc j = omega arith in rw (m, e)

pub says_passes : {s : List ℕ} {r : Reading} → SheetSays s r → Passed (sheet_refusals s)
says_passes {s} {r} p = (λ k h e. heading, (λ k h two. further k h two, tt))
  where
    heading : GoodFirst s
    heading = record { serial = r.serial; date = r.date; says = rw (first_is s p.lines) p.heading }

    further : (k : ℕ) → k < length (lines_of s) + 1 → 2 ≤ k → GoodFurther s k
    further zero h two = absurd (omega arith)
    further (suc zero) h two = absurd (omega arith)
    further (suc (suc j)) h two =
        let n = ap length p.lines in
        let a = angle_at p.further r.angles p.angles j (omega arith) in
        record { angle = a.0; says = rw (further_is s p.lines j) a.1; few = omega (arith, as_many p.further r.angles p.angles, p.few) }

pub says_not_refused : {s : List ℕ} {r : Reading} {x k : ℕ} → SheetSays s r → RefusedBy (sheet_refusals s) x k → ⊥
says_not_refused {s} {x = x} {k = k} p q = not_both (sheet_refusals s) x k (says_passes p) q

-- the first n of the further lines are good
abbrev pub GoodUpTo : List ℕ → ℕ → Type 0
GoodUpTo s n = Every n (λ i. GoodFurther s (suc (suc i)))

pub few_good : (s : List ℕ) (n : ℕ) → GoodUpTo s n → n ≤ 180
few_good s zero h = omega arith
few_good s (suc n) h = omega (arith, (h n (omega arith)).few)

module _ {s : List ℕ} (p : Passed (sheet_refusals s)) where
  pub first_good : GoodFirst s
  first_good = p.0 1 (omega arith) refl

  pub further_good : (n : ℕ) → length (lines_of s) ≡ suc n → GoodUpTo s n
  further_good n e i h = p.1.0 (suc (suc i)) (omega arith) (omega arith)

-- a first line has bytes, and so it is there
some_bytes : {serial : List ℕ} {date : ℕ} → FirstLine [] serial date → ⊥
some_bytes {serial} p = let e = ap length p.text in let l = length-append serial (semicolon ∷ (p.dated ++ p.end)) in omega arith

pub passes_says : (s : List ℕ) → Passed (sheet_refusals s) → (r : Reading) × SheetSays s r
passes_says s p = by_lines (lines_of s) refl
  where
    heading : GoodFirst s
    heading = first_good p

    by_lines : (ls : List (List ℕ)) → lines_of s ≡ ls → (r : Reading) × SheetSays s r
    by_lines [] e = absurd (some_bytes (rw e at heading.says))
    by_lines (first ∷ further) e =
        let good = further_good p (length further) (ap length e) in
        let a = say_all further (λ j h. ((good j h).angle, rw (further_is s e j) at (good j h).says)) in (
          record { serial = heading.serial; date = heading.date; angles = a.0 },
          record {
            first = first;
            further = further;
            lines = e;
            heading = rw (first_is s e) at heading.says;
            angles = a.1;
            few = let m = as_many further a.0 a.1 in let h = few_good s (length further) good in omega arith;
          },
        )
