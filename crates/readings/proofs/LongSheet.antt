-- A sheet that says something is short, so that the first 3,826 bytes of a longer one are refused as the whole is: a good line k up to 181 ends at
-- 45 + 21 (k - 1) at the latest, and line 182 is at fault whatever it says.
use mathlib.Core.Path.{◌≡◌, refl, sym, ap, ◌∙◌}
use mathlib.Core.Bool.{Bool}
use mathlib.Core.Logic.{◌≢◌, ◌⊎◌, inl, inr}
use mathlib.Core.List.{List, [], ◌∷◌, ◌++◌, append_assoc, append-nil}
use Prim.Native.Nat.{ℕ, zero, suc, ◌+◌, ◌-◌, ◌*◌, ◌≤◌, ◌<◌}
use native.Mathlib.Omega.{arith}
use lib.ListN.{length, get_or, take, drop, length-append, length-drop, take-append-drop, get_or-append}
use lib.Seq.{length-take-le, get_or-append-add}
use lib.Ieee.{Float}
use Rattle.meaning.specs.Places.{Lowest}
use Rattle.meaning.proofs.Decide.{by_dec}
use Rattle.layout.specs.Refusals.{here, later, RefusedBy}
use Rattle.lines.specs.declared.Angle.{Angle}
use Rattle.lines.specs.Digits.{semicolon, Sign, unsigned, negative, Signed}
use Rattle.lines.specs.Line.{End, by_lf, by_cr_lf, Fraction, none, some, Coefficient, FirstLine, AngleLine}
use Rattle.lines.specs.Sheet.{lines_of, line_of, Reading, SheetSays, GoodFirst, GoodFurther, sheet_refusals}
use Rattle.lines.proofs.Texts.{head_same, tail_same}
use Rattle.lines.proofs.Lines.{cut, front}
use Rattle.lines.proofs.Dates.{ten}
use Rattle.lines.proofs.FurtherLines.{angle_cut}
use Rattle.lines.proofs.FirstLines.{first_cut}
use Rattle.lines.proofs.OneReading.{says_passes, GoodUpTo, few_good, first_good, further_good}
use Rattle.readings.proofs.Decided.{dec_further, sheet_decided}

-- ---- good lines are short

end_short : {t : List ℕ} → End t → length t ≤ 2
end_short by_lf = omega arith
end_short by_cr_lf = omega arith

sign_short : {b : Bool} {t : List ℕ} → Sign b t → length t ≤ 1
sign_short unsigned = omega arith
sign_short negative = omega arith

signed_short : {most : ℕ} {t : List ℕ} {b : Bool} {ds : List ℕ} → Signed most t b ds → length t ≤ 1 + most
signed_short {ds = ds} p = omega (arith, ap length p.text, length-append p.sign ds, sign_short p.minus, p.few.to)

fraction_short : {t ds : List ℕ} → Fraction t ds → length t ≤ 7
fraction_short none = omega arith
fraction_short (some few) = omega (arith, few.to)

coefficient_short : {t : List ℕ} {x : Float} → Coefficient t x → length t ≤ 14
coefficient_short p = omega (arith, ap length p.text, length-append p.before p.behind, signed_short p.says, fraction_short p.parted)

angle_short : {l : List ℕ} {a : Angle} → AngleLine l a → length l ≤ 21
angle_short p =
    omega (
      arith,
      ap length p.text,
      length-append p.turned (semicolon ∷ (p.measured ++ p.end)),
      length-append p.measured p.end,
      signed_short p.degrees.says,
      coefficient_short p.coefficient,
      end_short p.ended,
    )

first_short : {l serial : List ℕ} {date : ℕ} → FirstLine l serial date → length l ≤ 45
first_short {l} {serial} p =
    omega (arith, ap length p.text, length-append serial (semicolon ∷ (p.dated ++ p.end)), length-append p.dated p.end, p.named.to, ten p.says, end_short p.ended)

-- ---- the first n lines of a text, which are so many bytes at most and stay its lines whatever follows

record Begun (c : List ℕ) (n most : ℕ) : Type 0 where
  heads : List (List ℕ)
  back : List ℕ
  many : length heads ≡ n
  lines : (r : List ℕ) → lines_of (c ++ r) ≡ heads ++ lines_of (back ++ r)
  short : length c ≤ length back + most

-- a line that is one whatever follows it
abbrev Closed : List ℕ → Type 0
Closed l = (r : List ℕ) → lines_of (l ++ r) ≡ l ∷ lines_of r

begun : (c : List ℕ) → Begun c 0 0
begun c = record { heads = []; back = c; many = refl; lines = λ r. refl; short = omega arith }

module _ {c : List ℕ} {n most : ℕ} (p : Begun c n most) where
  lines_here : lines_of c ≡ p.heads ++ lines_of p.back
  lines_here = simp append-nil at (p.lines [])

  module _ (s t : List ℕ) (e : lines_of s ≡ p.heads ++ lines_of t) where
    line_known : (i : ℕ) → i < n → line_of s (suc i) ≡ get_or p.heads i []
    line_known i h = let m : suc i - 1 ≡ i = omega arith in let k = p.many in rw (m, e) (get_or-append p.heads (lines_of t) [] i (omega arith))

    line_next : line_of s (suc n) ≡ line_of t 1
    line_next = let k = p.many in let m : suc n - 1 ≡ length p.heads + 0 = omega arith in rw (m, e) (get_or-append-add p.heads (lines_of t) 0 [])

  next_begun : (b : ℕ) → Closed (line_of c (suc n)) → length (line_of c (suc n)) ≤ b → Begun c (suc n) (most + b)
  next_begun b closed h =
      let l : List ℕ = line_of c (suc n) in
      let rest : List ℕ = (front p.back).rest in
      let e : p.back ≡ l ++ rest = rw (line_next c p.back lines_here) (front p.back).text in
      record {
        heads = p.heads ++ (l ∷ []);
        back = rest;
        many = omega (arith, length-append p.heads (l ∷ []), p.many);
        lines = λ r.
            p.lines r
            ∙ ap (λ (t : List ℕ). p.heads ++ lines_of (t ++ r)) e
            ∙ ap (λ (t : List ℕ). p.heads ++ lines_of t) (append_assoc l rest r)
            ∙ ap (λ (ls : List (List ℕ)). p.heads ++ ls) (closed (rest ++ r))
            ∙ sym (append_assoc p.heads (l ∷ []) (lines_of (rest ++ r)));
        short = omega (arith, p.short, ap length e, length-append l rest);
      }

-- lines that are good
good_begun : (c : List ℕ) → GoodFirst c → (j : ℕ) → GoodUpTo c j → Begun c (suc j) (45 + 21 * j)
good_begun c g zero h = next_begun (begun c) 45 (first_cut g.says) (first_short g.says)
good_begun c g (suc j) h =
    let p = good_begun c g j (λ i k. h i (omega arith)) in
    let a = (h j (omega arith)).says in
    let e : 45 + 21 * j + 21 ≡ 45 + 21 * suc j = omega arith in
    rw e at (next_begun p 21 (angle_cut a) (angle_short a))

-- ---- a sheet that says something

no_lines : (s : List ℕ) → length (lines_of s) ≡ 0 → length s ≡ 0
no_lines [] e = refl
no_lines (x ∷ s) e = absurd (omega (arith, ap length (cut x s).lines))

pub sheet_short : {s : List ℕ} {r : Reading} → SheetSays s r → length s ≤ 3825
sheet_short {s} q =
    let n : ℕ = length q.further in
    let good : GoodUpTo s n = further_good (says_passes q) n (ap length q.lines) in
    let p = good_begun s (first_good (says_passes q)) n good in
    let l = no_lines p.back (omega (arith, ap length q.lines, ap length (lines_here p), length-append p.heads (lines_of p.back), p.many)) in
    omega (arith, p.short, few_good s n good)

-- ---- a text and what follows it

-- of two ways to part a text the shorter first part begins the longer one
begins : (l c r rest : List ℕ) → c ++ rest ≡ l ++ r → length l ≤ length c → (b : List ℕ) × (c ≡ l ++ b)
begins [] c r rest e h = (c, refl)
begins (x ∷ l) [] r rest e h = absurd (omega arith)
begins (x ∷ l) (y ∷ c) r rest e h = let b = begins l c r rest (tail_same e) (omega arith) in (b.0, let f = head_same e in let g = b.1 in cc)

-- a line that is not longer than the text is the text's first line, too
cut_early : (b rest : List ℕ) → Closed (line_of (b ++ rest) 1) → length (line_of (b ++ rest) 1) ≤ length b → line_of b 1 ≡ line_of (b ++ rest) 1
cut_early b rest closed h =
    let f = front (b ++ rest) in
    let q = begins (line_of (b ++ rest) 1) b f.rest rest f.text h in
    ap (λ (t : List ℕ). line_of t 1) q.1 ∙ ap (λ (ls : List (List ℕ)). get_or ls 0 []) (closed q.0)

module _ (c rest : List ℕ) (big : 3826 ≤ length c) (more : 1 ≤ length rest) where
  -- the first line is good in both or in none
  first_back : GoodFirst (c ++ rest) → GoodFirst c
  first_back g = record { serial = g.serial; date = g.date; says = rw (cut_early c rest (first_cut g.says) (omega (arith, first_short g.says))) g.says }

  -- behind good lines
  module _ (g : GoodFirst c) (j : ℕ) (h : GoodUpTo c j) where
    same_line : (i : ℕ) → i < suc j → line_of (c ++ rest) (suc i) ≡ line_of c (suc i)
    same_line i k = let p = good_begun c g j h in line_known p (c ++ rest) (p.back ++ rest) (p.lines rest) i k ∙ sym (line_known p c p.back (lines_here p) i k)

    first_on : GoodFirst (c ++ rest)
    first_on = record { serial = g.serial; date = g.date; says = rw (same_line 0 (omega arith)) g.says }

    further_on : (i : ℕ) → i < suc (suc j) → 2 ≤ i → GoodFurther c i → GoodFurther (c ++ rest) i
    further_on zero k two a = absurd (omega arith)
    further_on (suc i) k two a = record { angle = a.angle; says = rw (same_line i (omega arith)) a.says; few = a.few }

    -- the line behind them is good in both or in none
    further_back : GoodFurther (c ++ rest) (suc (suc j)) → GoodFurther c (suc (suc j))
    further_back a =
        let p = good_begun c g j h in
        let e = line_next p (c ++ rest) (p.back ++ rest) (p.lines rest) in
        let q : AngleLine (line_of (p.back ++ rest) 1) a.angle = rw e at a.says in
        let f = cut_early p.back rest (angle_cut q) (omega (arith, angle_short q, p.short, a.few)) in
        record { angle = a.angle; says = rw (line_next p c p.back (lines_here p) ∙ f) q; few = a.few }

    -- and it is there
    line_there : suc (suc j) < length (lines_of (c ++ rest)) + 1
    line_there =
        let p = good_begun c g j h in
        let n : length (lines_of (p.back ++ rest)) ≢ 0 = λ e. let l = no_lines (p.back ++ rest) e in absurd (omega (arith, length-append p.back rest)) in
        omega (arith, ap length (p.lines rest), length-append p.heads (lines_of (p.back ++ rest)), p.many)

  longer : {x k : ℕ} → RefusedBy (sheet_refusals c) x k → RefusedBy (sheet_refusals (c ++ rest)) x k
  longer (here e b) = here e (record { below = b.below; holds = λ g. b.holds (λ o. first_back (g o)); before = λ i l n. n (λ o. absurd (omega (arith, b.below))) })
  longer {x} {k} (later h (here e b)) = by_line k b
    where
      first : GoodFirst c
      first = h 1 (omega arith) refl

      by_line : (k : ℕ) → Lowest (length (lines_of c) + 1) (λ k. ¬ (2 ≤ k → GoodFurther c k)) k → RefusedBy (sheet_refusals (c ++ rest)) x k
      by_line zero b = absurd (b.holds (λ two. absurd (omega arith)))
      by_line (suc zero) b = absurd (b.holds (λ two. absurd (omega arith)))
      by_line (suc (suc j)) b =
          let good : GoodUpTo c j = λ i l. by_dec (dec_further c (suc (suc i))) (λ n. b.before (suc (suc i)) (omega arith) (λ g. n (g (omega arith)))) in
          later (λ i l o. first_on first j good)
          (here e
          (record {
            below = line_there first j good;
            holds = λ g. b.holds (λ two. further_back first j good (g two));
            before = λ i l n. b.before i l (λ g. n (λ two. further_on first j good i l two (g two)));
          }))
  longer (later h (later i r)) = absurd r

pub long_sheet : (s : List ℕ) (m : ℕ) → 3826 ≤ m → {x k : ℕ} → RefusedBy (sheet_refusals (take m s)) x k → m < length s → RefusedBy (sheet_refusals s) x k
long_sheet s m big r l =
    rw (take-append-drop m s) at
    (longer (take m s) (drop m s) (omega (arith, length-take-le m s (omega arith))) (omega (arith, length-drop m s)) r)

-- so both are refused, and alike
pub long_alike : (s : List ℕ) (m : ℕ) → 3826 ≤ m → m < length s → (x : ℕ) × (k : ℕ) × RefusedBy (sheet_refusals (take m s)) x k × RefusedBy (sheet_refusals s) x k
long_alike s m big l = by_sheet (sheet_decided (take m s))
  where
    by_sheet : ((r : Reading) × SheetSays (take m s) r) ⊎ ((x : ℕ) × (k : ℕ) × RefusedBy (sheet_refusals (take m s)) x k) → (x : ℕ) × (k : ℕ) × RefusedBy (sheet_refusals (take m s)) x k × RefusedBy (sheet_refusals s) x k
    by_sheet (inl q) = absurd (omega (arith, sheet_short q.1, length-take-le m s (omega arith)))
    by_sheet (inr q) = (q.0, q.1, q.2, long_sheet s m big q.2 l)
