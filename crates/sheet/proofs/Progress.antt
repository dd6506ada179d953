-- Reading line after line: what was read so far, and what it gives at a bad line and at the end.
use mathlib.Core.Path.{◌≡◌, refl, sym, ap, ◌∙◌, subst}
use mathlib.Core.Logic.{◌≢◌}
use mathlib.Core.List.{List, [], ◌∷◌, ◌++◌, append_assoc, append-nil}
use Prim.Native.Nat.{ℕ, suc, ◌+◌, ◌-◌, ◌*◌, ◌≤◌, ◌<◌}
use native.Mathlib.Omega.{arith}
use lib.ListN.{length, get_or, take, drop, length-append, length-drop, drop_of_length-le, get_or-append}
use lib.Seq.{get_or-append-add, append_snoc, drop_at, drop-cons, length-take-le}
use Rattle.std.specs.Prelude.{None}
use Rattle.little.specs.Little.{written}
use Rattle.layout.specs.Refusals.{RefusedBy, here, later}
use Rattle.layout.specs.Files.{Body, body}
use Rattle.writer.specs.declared.Outcome.{Outcome}
use Rattle.writer.specs.Writes.{Writable, Writes}
use Rattle.writer.proofs.Laws.{then}
use Rattle.lines.specs.Digits.{semicolon}
use Rattle.lines.specs.declared.Angle.{Angle}
use Rattle.lines.specs.declared.Heading.{Heading}
use Rattle.lines.specs.Line.{AngleLine}
use Rattle.lines.specs.Sheet.{lines_of, line_of, Reading, SayAngles, SheetSays, GoodFirst, GoodFurther, sheet_refusals}
use Rattle.lines.specs.Promise.{Heads, Turns, TellsFurther}
use Rattle.lines.proofs.Texts.{past}
use Rattle.lines.proofs.Lines.{front, cut}
use Rattle.lines.proofs.FirstLines.{first_cut}
use Rattle.lines.proofs.FurtherLines.{angle_cut}
use Rattle.lines.proofs.Answers.{heads_good}
use Rattle.lines.proofs.OneReading.{as_many, angle_at}
use Rattle.sheet.specs.Tables.{property_row, angle_rows, all_angle_rows, node_table, edge_table, row_table, sheet_tables}
use Rattle.sheet.proofs.SheetRows.{angles_length, rows_length}
use Rattle.sheet.proofs.Puts.{table_there}
use Rattle.sheet.proofs.FairReading.{fair}
use Rattle.sheet.proofs.GoodTables.{sheet_writable}

-- ---- lines that say angles

say_more : (ls : List (List ℕ)) (bs : List Angle) {l : List ℕ} {a : Angle} → SayAngles ls bs → AngleLine l a → SayAngles (ls ++ (l ∷ [])) (bs ++ (a ∷ []))
say_more [] [] p q = (q, tt)
say_more [] (b ∷ bs) p q = absurd p
say_more (k ∷ ls) [] p q = absurd p
say_more (k ∷ ls) (b ∷ bs) p q = (p.0, say_more ls bs p.1 q)

rows_more : (bs : List Angle) (a : Angle) → all_angle_rows (bs ++ (a ∷ [])) ≡ all_angle_rows bs ++ angle_rows a
rows_more [] a = append-nil (angle_rows a)
rows_more (b ∷ bs) a = ap (λ (l : List ℕ). angle_rows b ++ l) (rows_more bs a) ∙ sym (append_assoc (angle_rows b) (all_angle_rows bs) (angle_rows a))

no_lines : (ls : List (List ℕ)) → ls ++ lines_of [] ≡ ls
unfolding lines_of
no_lines ls = append-nil ls

-- ---- what was read so far

-- n further lines were read, and the next one starts at `at`; their rows stand behind the serial's and the date's, which are in `before`
pub record Progress (s : List ℕ) (before rows : List ℕ) (n at : ℕ) : Type 0 where
  pub done : List (List ℕ)
  pub angles : List Angle
  pub lines : lines_of s ≡ line_of s 1 ∷ (done ++ lines_of (drop at s))
  pub said : SayAngles done angles
  pub count : n ≡ length angles
  pub few : n ≤ 180
  pub inside : at ≤ length s
  pub table : rows ≡ written before 32 (all_angle_rows angles)

module _ (s : List ℕ) {h : Heading} (q : Heads s h) where
  pub serial_length : length (take h.serial s) ≡ h.serial
  serial_length = length-take-le h.serial s q.inside

  pub serial_short : h.serial ≤ 32
  serial_short = omega (arith, serial_length, q.says.named.to)

  -- behind the first line
  behind_first : drop h.next s ≡ (front s).rest
  behind_first = ap (λ (l : List ℕ). drop h.next l) (front s).text ∙ drop_at (line_of s 1) (front s).rest h.next (sym q.next)

  next_inside : h.next ≤ length s
  next_inside = let e = ap length (front s).text in let f = length-append (line_of s 1) (front s).rest in omega (arith, q.next)

  pub begun : (before : List ℕ) → before ≡ written before 32 [] → Progress s before before 0 h.next
  begun before e =
      record {
        done = [];
        angles = [];
        lines = ap lines_of (front s).text ∙ first_cut q.says (front s).rest ∙ ap (λ (l : List ℕ). line_of s 1 ∷ lines_of l) (sym behind_first);
        said = tt;
        count = refl;
        few = omega arith;
        inside = next_inside;
        table = e;
      }

module _ (s : List ℕ) {h : Heading} (q : Heads s h) {before rows : List ℕ} {n at : ℕ} (p : Progress s before rows n at) where
  -- ---- a good line more

  module _ {a : Angle} {next : ℕ} (t : Turns s at a next) where
    behind_line : drop next s ≡ (front (drop at s)).rest
    behind_line = ap (λ (m : ℕ). drop m s) t.follows ∙ past s at (line_of (drop at s) 1) (front (drop at s)).rest (front (drop at s)).text

    next_within : next ≤ length s
    next_within =
        let e = ap length (front (drop at s)).text in
        let f = length-append (line_of (drop at s) 1) (front (drop at s)).rest in
        let g = length-drop at s in
        omega (arith, t.follows, p.inside)

    -- a line has bytes
    pub further_on : at < next
    further_on =
        let e = ap length t.says.text in
        let f = length-append t.says.turned (semicolon ∷ (t.says.measured ++ t.says.end)) in
        omega (arith, t.follows)

    rest_lines : lines_of (drop at s) ≡ line_of (drop at s) 1 ∷ lines_of (drop next s)
    rest_lines = ap lines_of (front (drop at s)).text ∙ angle_cut t.says (front (drop at s)).rest ∙ ap (λ (l : List ℕ). line_of (drop at s) 1 ∷ lines_of l) (sym behind_line)

    pub next_line : n ≢ 180 → (after : List ℕ) → after ≡ written rows (32 * n + 32) (angle_rows a) → Progress s before after (n + 1) next
    next_line m after e =
        record {
          done = p.done ++ (line_of (drop at s) 1 ∷ []);
          angles = p.angles ++ (a ∷ []);
          lines =
              p.lines
              ∙ ap (λ (ls : List (List ℕ)). line_of s 1 ∷ (p.done ++ ls)) rest_lines
              ∙ ap (λ (ls : List (List ℕ)). line_of s 1 ∷ ls) (sym (append_snoc p.done (line_of (drop at s) 1) (lines_of (drop next s))));
          said = say_more p.done p.angles p.said t.says;
          count = omega (arith, p.count, length-append p.angles (a ∷ []));
          few = omega (arith, p.few);
          inside = next_within;
          table =
              let place : 32 * n + 32 ≡ 32 + length (all_angle_rows p.angles) = omega (arith, p.count, angles_length p.angles) in
              then before rows after 32 (all_angle_rows p.angles) (angle_rows a) p.table (rw place at e)
              ∙ ap (λ (l : List ℕ). written before 32 l) (sym (rows_more p.angles a));
        }

  -- ---- a line at fault

  module _ (left : at < length s) where
    -- the line that is to be read has the number n + 2
    rest_cut : lines_of (drop at s) ≡ line_of (drop at s) 1 ∷ lines_of (cut (get_or s at 0) (drop (suc at) s)).rest
    rest_cut =
        let e : drop at s ≡ get_or s at 0 ∷ drop (suc at) s = drop-cons s at 0 left in
        let c = cut (get_or s at 0) (drop (suc at) s) in
        let f : lines_of (drop at s) ≡ c.line ∷ lines_of c.rest = ap lines_of e ∙ c.lines in
        f ∙ ap (λ (l : List ℕ). l ∷ lines_of c.rest) (sym (ap (λ (ls : List (List ℕ)). get_or ls 0 []) f))

    its_line : line_of s (n + 2) ≡ line_of (drop at s) 1
    its_line =
        let k : n + 2 - 1 ≡ suc (length p.done) = omega (arith, p.count, as_many p.done p.angles p.said) in
        let z : length p.done ≡ length p.done + 0 = omega arith in
        ap (λ (m : ℕ). get_or (lines_of s) m []) k
        ∙ ap (λ (ls : List (List ℕ)). get_or ls (suc (length p.done)) []) p.lines
        ∙ ap (λ (m : ℕ). get_or (p.done ++ lines_of (drop at s)) m []) z
        ∙ get_or-append-add p.done (lines_of (drop at s)) 0 []

    enough : n + 2 < length (lines_of s) + 1
    enough =
        let e = ap length p.lines in
        let f = length-append p.done (lines_of (drop at s)) in
        let g = ap length rest_cut in
        omega (arith, p.count, as_many p.done p.angles p.said)

    -- every line before it is good
    before_good : (i : ℕ) → i < n + 2 → 2 ≤ i → GoodFurther s i
    before_good i l two =
        let k : i - 1 ≡ suc (i - 2) = omega arith in
        let inside : i - 2 < length p.done = omega (arith, p.count, as_many p.done p.angles p.said) in
        let a = angle_at p.done p.angles p.said (i - 2) inside in
        let e : line_of s i ≡ get_or p.done (i - 2) [] =
        ap (λ (m : ℕ). get_or (lines_of s) m []) k
        ∙ ap (λ (ls : List (List ℕ)). get_or ls (suc (i - 2)) []) p.lines
        ∙ get_or-append p.done (lines_of (drop at s)) [] (i - 2) inside in
        record { angle = a.0; says = rw e a.1; few = omega (arith, p.few) }

    at_fault : ¬ GoodFurther s (n + 2) → RefusedBy (sheet_refusals s) 52 (n + 2)
    at_fault bad =
        later (λ i l e. heads_good q)
        (here refl (record { below = enough; holds = λ g. bad (g (omega arith)); before = λ i l f. f (before_good i l) }))

    pub bad_line : TellsFurther None s at → RefusedBy (sheet_refusals s) 52 (n + 2)
    bad_line bad = at_fault (λ g. bad g.angle (rw its_line at g.says))

    pub one_too_many : n ≡ 180 → RefusedBy (sheet_refusals s) 52 182
    one_too_many e = let f : n + 2 ≡ 182 = omega arith in rw f at (at_fault (λ g. absurd (omega (arith, g.few))))

  -- ---- the end

  abbrev pub read : Reading
  read = record { serial = take h.serial s; date = h.date; angles = p.angles }

  -- its rows stand behind those of the serial and the date
  pub whole_table : (zeros one : List ℕ) → one ≡ written zeros 0 (property_row 0 5 h.serial 0) → before ≡ written one 16 (property_row 1 4 0 h.date) → take (32 * n + 32) rows ≡ row_table read
  whole_table zeros one e f =
      let two : before ≡ written zeros 0 (property_row 0 5 h.serial 0 ++ property_row 1 4 0 h.date) = then zeros one before 0 (property_row 0 5 h.serial 0) (property_row 1 4 0 h.date) e f in
      let all : rows ≡ written zeros 0 (property_row 0 5 h.serial 0 ++ property_row 1 4 0 h.date ++ all_angle_rows p.angles) = then zeros before rows 0 (property_row 0 5 h.serial 0 ++ property_row 1 4 0 h.date) (all_angle_rows p.angles) two p.table in
      table_there zeros rows (row_table read) (32 * n + 32) (rw (serial_length s q) all) (omega (arith, p.count, rows_length read))

  -- so the tables that are lent are the reading's
  lent_same : {t : List ℕ} → t ≡ row_table read → body (node_table n) (edge_table n) t (take h.serial s) ≡ sheet_tables read
  lent_same {t} e =
      ap (λ (l : List ℕ). body (node_table n) (edge_table n) l (take h.serial s)) e
      ∙ ap (λ (m : ℕ). body (node_table m) (edge_table m) (row_table read) (take h.serial s)) p.count

  pub written_of :
      {t : List ℕ} → t ≡ row_table read → {out after : List ℕ} {o : Outcome} → Writes (body (node_table n) (edge_table n) t (take h.serial s)) 5 5 out o after
      → Writes (sheet_tables read) 5 5 out o after
  written_of e {out} {after} {o} w = subst (λ (b : Body). Writes b 5 5 out o after) (lent_same e) w

  pub all_said : ¬ (at < length s) → SheetSays s read
  all_said out =
      let e : drop at s ≡ [] = drop_of_length-le s {i = at} (omega arith) in
      record {
        first = line_of s 1;
        further = p.done;
        lines = p.lines ∙ ap (λ (l : List ℕ). line_of s 1 ∷ (p.done ++ lines_of l)) e ∙ ap (λ (ls : List (List ℕ)). line_of s 1 ∷ ls) (no_lines p.done);
        heading = q.says;
        angles = p.said;
        few = omega (arith, p.count, p.few);
      }

  -- and they are good ones
  pub good_lent : ¬ (at < length s) → {t : List ℕ} → t ≡ row_table read → Writable (body (node_table n) (edge_table n) t (take h.serial s)) 5 5
  good_lent out e = subst (λ (b : Body). Writable b 5 5) (sym (lent_same e)) (sheet_writable read (fair (all_said out)))

-- ---- a bad first line

pub bad_first : (s : List ℕ) → ¬ GoodFirst s → RefusedBy (sheet_refusals s) 51 1
bad_first s bad = here refl (record { below = omega arith; holds = λ g. bad (g refl); before = λ i l f. f (λ e. absurd (omega arith)) })
