-- What the promise gives for a sheet: 41 is never returned, a good sheet is refused by 42 alone, and 0 means that the file of its reading was written.
use mathlib.Core.Path.{◌≡◌, refl, sym, ap, subst}
use mathlib.Core.Bool.{Bool, true, false, not}
use mathlib.Core.Logic.{◌⊎◌, inl, inr, ◌≢◌}
use mathlib.Core.List.{List, [], ◌∷◌, ◌++◌}
use Prim.Native.Nat.{ℕ, zero, suc, ◌≤◌}
use native.Mathlib.Omega.{arith}
use lib.Dec.{T, leb, leb→le, nleb→lt}
use lib.ListN.{length, drop, length-append}
use Rattle.meaning.specs.Places.{Lowest}
use Rattle.layout.specs.Refusals.{once, here, later, RefusedBy}
use Rattle.writer.specs.declared.Outcome.{Outcome}
use Rattle.writer.specs.GraphFile.{file_of}
use Rattle.writer.specs.Outcome as output
use Rattle.writer.specs.Outcome.{Leaves}
use Rattle.writer.specs.Writes.{Writable, Writes}
use Rattle.lines.specs.Sheet.{Reading, SheetSays, GoodFurther, sheet_refusals}
use Rattle.lines.proofs.OneReading.{sheet_one, says_not_refused}
use Rattle.sheet.specs.Tables.{sheet_tables}
use Rattle.sheet.specs.Reads.{ReadsSheet, refused, says, SheetFile}
use Rattle.writer.proofs.Filing.{file_length}
use Rattle.writer.proofs.LentTables.{tables_size}
use Rattle.sheet.proofs.FairReading.{fair}
use Rattle.sheet.proofs.SheetRows.{nodes_length, edges_length, rows_length}
use Rattle.sheet.proofs.GoodTables.{sheet_writable}
use Rattle.sheet.proofs.GraphRead.{sheet_file}

-- "Write as in Ask 1 the graph": the file that a reading gives
abbrev pub sheet_bytes : Reading → List ℕ
sheet_bytes r = file_of (sheet_tables r) 5 5

-- ---- of the writer's refusals only 42 is left

pub never_41 : {s : List ℕ} {r : Reading} → SheetSays s r → Writable (sheet_tables r) 5 5
never_41 {r = r} say = sheet_writable r (fair say)

-- "then 42"
abbrev Leaves42 : Reading → List ℕ → Outcome → List ℕ → Type 0
Leaves42 r before = Leaves (once 42 (length (sheet_bytes r) ≤ length before) ∷ []) (sheet_bytes r) before

then_42 : {s before after : List ℕ} {o : Outcome} {r : Reading} → SheetSays s r → Writes (sheet_tables r) 5 5 before o after → Leaves42 r before o after
then_42 say (output.refused (here e l) f g) = absurd (l.holds (never_41 say))
then_42 say (output.refused (later h t) f g) = output.refused t f g
then_42 say (output.wrote p f g) = output.wrote p.1 f g

-- ---- what is returned

-- 0, and the reading whose file stands in the output
pub record Wrote (s before : List ℕ) (o : Outcome) (after : List ℕ) : Type 0 where
  pub reading : Reading
  pub says : SheetSays s reading
  pub output : after ≡ sheet_bytes reading ++ drop (length (sheet_bytes reading)) before
  pub number : o.number ≡ length (sheet_bytes reading)
  pub file : SheetFile reading (sheet_bytes reading)

-- each code that there is, with what its number says
data Told (s before : List ℕ) (o : Outcome) (after : List ℕ) : Type 0 where
  written : o.code ≡ 0 → Wrote s before o after → Told s before o after
  short : o.code ≡ 42 → o.number ≡ 0 → Told s before o after
  first : o.code ≡ 51 → o.number ≡ 1 → Told s before o after
  further : o.code ≡ 52 → (2 ≤ o.number) × (o.number ≤ 182) → Told s before o after

abbrev AtFault : ℕ → ℕ → Type 0
AtFault x k = ((x ≡ 51) × (k ≡ 1)) ⊎ ((x ≡ 52) × ((2 ≤ k) × (k ≤ 182)))

-- line 182 is at fault wherever there is one, so no line behind it is the lowest
up_to_182 : {s : List ℕ} {n k : ℕ} → Lowest n (λ i. ¬ (2 ≤ i → GoodFurther s i)) k → k ≤ 182
up_to_182 {k = k} l = go (leb k 182) refl
  where
    go : (b : Bool) → leb k 182 ≡ b → k ≤ 182
    go true e = leb→le k 182 (subst T (sym e) tt)
    go false e = absurd (l.before 182 (nleb→lt k 182 (subst (λ (b : Bool). T (not b)) (sym e) tt)) (λ g. absurd (omega (arith, (g (omega arith)).few))))

-- there is no line 0, and line 1 is no further line: nothing is asked of them there, so they cannot be at fault
refused_line : {s : List ℕ} {x k : ℕ} → RefusedBy (sheet_refusals s) x k → AtFault x k
refused_line {k = zero} (here e l) = absurd (l.holds (λ z. absurd (omega arith)))
refused_line {k = suc k} (here e l) = inl (e, omega (arith, l.below))
refused_line {k = zero} (later h (here e l)) = absurd (l.holds (λ z. absurd (omega arith)))
refused_line {k = suc zero} (later h (here e l)) = absurd (l.holds (λ z. absurd (omega arith)))
refused_line {k = suc (suc k)} (later h (here e l)) = inr (e, (omega arith, up_to_182 l))
refused_line (later h (later i t)) = absurd t

module _ {s before after : List ℕ} {o : Outcome} where
  told_refused : {x k : ℕ} → o ≡ output.outcome x k → AtFault x k → Told s before o after
  told_refused e (inl (c, l)) = first (rw e c) (rw e l)
  told_refused e (inr (c, l)) = further (rw e c) (rw e l)

  told_written : {r : Reading} → SheetSays s r → Leaves42 r before o after → Told s before o after
  told_written say (output.refused (here c l) e f) = short (rw e c) (rw e (omega (arith, l.below)))
  told_written say (output.refused (later h t) e f) = absurd t
  told_written {r} say (output.wrote p e f) =
      written (rw e) (record { reading = r; says = say; output = f; number = rw e; file = sheet_file r (fair say) })

  told : ReadsSheet s before o after → Told s before o after
  told (refused t e f) = told_refused e (refused_line t)
  told (says say w) = told_written say (then_42 say w)

  -- 0: the file is the one that the sheet's reading gives, and is read as its graph
  pub sheet_written : ReadsSheet s before o after → o.code ≡ 0 → Wrote s before o after
  sheet_written p z = go (told p)
    where
      go : Told s before o after → Wrote s before o after
      go (written c w) = w
      go (short c l) = absurd (omega arith)
      go (first c l) = absurd (omega arith)
      go (further c l) = absurd (omega arith)

  -- the length written is no more than the output has
  pub within_output : ReadsSheet s before o after → o.code ≡ 0 → o.number ≤ length after
  within_output p z =
      let w = sheet_written p z in
      let f = sheet_bytes w.reading in
      omega (arith, w.number, ap length w.output, length-append f (drop (length f) before))

  -- "51 a bad or missing first line, which is line 1; 52 a bad later line or a 181st angle line"; 42 comes with 0
  pub line_told : ReadsSheet s before o after → (o.code ≡ 51 → o.number ≡ 1) × (o.code ≡ 52 → (2 ≤ o.number) × (o.number ≤ 182)) × (o.code ≡ 42 → o.number ≡ 0)
  line_told p = go (told p)
    where
      go : Told s before o after → (o.code ≡ 51 → o.number ≡ 1) × (o.code ≡ 52 → (2 ≤ o.number) × (o.number ≤ 182)) × (o.code ≡ 42 → o.number ≡ 0)
      go (written c w) = omega arith
      go (short c l) = omega arith
      go (first c l) = omega arith
      go (further c l) = omega arith

  pub codes : ReadsSheet s before o after → (o.code ≡ 0) ⊎ ((o.code ≡ 42) ⊎ ((o.code ≡ 51) ⊎ (o.code ≡ 52)))
  codes p = go (told p)
    where
      go : Told s before o after → (o.code ≡ 0) ⊎ ((o.code ≡ 42) ⊎ ((o.code ≡ 51) ⊎ (o.code ≡ 52)))
      go (written c w) = inl c
      go (short c l) = inr (inl c)
      go (first c l) = inr (inr (inl c))
      go (further c l) = inr (inr (inr c))

-- ---- a good sheet: it is not refused, and says one reading, so the only refusal left is 42

pub leaves :
    {s before after : List ℕ} {o : Outcome} {r : Reading} → SheetSays s r → ReadsSheet s before o after
    → Leaves (once 42 (length (file_of (sheet_tables r) 5 5) ≤ length before) ∷ []) (file_of (sheet_tables r) 5 5) before o after
leaves say (refused t e f) = absurd (says_not_refused say t)
leaves {s} {before} {after} {o} {r} say (says {r = q} other w) = subst (λ (q : Reading). Leaves42 q before o after) (sheet_one s q r other say) (then_42 other w)

-- ---- the most that is written: with 180 angles and a serial of 32 bytes

pub file_most : {s : List ℕ} {r : Reading} → SheetSays s r → length (sheet_bytes r) ≤ 13108
file_most {s} {r} say =
    let n = length r.angles in
    let f = fair say in
    omega (arith, file_length (sheet_tables r) 5 5, tables_size (sheet_tables r), nodes_length n, edges_length n, rows_length r, f.serial, f.few)

-- so an output of 13,108 bytes is never too short
never_short : {s before after : List ℕ} {o : Outcome} {r : Reading} → 13108 ≤ length before → SheetSays s r → Leaves42 r before o after → o.code ≢ 42
never_short h say (output.refused (here c l) e f) z = l.holds (omega (arith, file_most say))
never_short h say (output.refused (later g t) e f) z = absurd t
never_short h say (output.wrote p e f) z = let c = rw e at z in absurd (omega arith)

line_code : {o : Outcome} {x k : ℕ} → o ≡ output.outcome x k → AtFault x k → o.code ≢ 42
line_code e (inl (c, l)) z = let d = rw e at z in absurd (omega arith)
line_code e (inr (c, l)) z = let d = rw e at z in absurd (omega arith)

pub never_42 : {s before after : List ℕ} {o : Outcome} → 13108 ≤ length before → ReadsSheet s before o after → o.code ≢ 42
never_42 h (refused t e f) = line_code e (refused_line t)
never_42 h (says say w) = never_short h say (then_42 say w)
