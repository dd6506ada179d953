-- The tables of a fair reading are good ones: no row line refuses them, so they can be written.
use mathlib.Core.Path.{◌≡◌, refl, sym, subst, ◌∙◌}
use mathlib.Core.List.{List}
use Prim.Native.Nat.{ℕ, zero, suc, ◌+◌, ◌-◌, ◌*◌, ◌≤◌, ◌<◌}
use native.Mathlib.Nat.{zero-add}
use native.Mathlib.Decide.{ℕ_discrete}
use native.Mathlib.Omega.{arith}
use lib.ListN.{length}
use Rattle.meaning.specs.Places.{Every}
use Rattle.layout.specs.declared.File.TheVariants.{Graph}
use Rattle.layout.specs.declared.Sort.TheVariants.{Nodes, Edges}
use Rattle.layout.specs.declared.Head.{Head}
use Rattle.layout.specs.Files.{ceilings}
use Rattle.layout.specs.Runs.{head_in, RowIn, name_at, heads}
use Rattle.layout.specs.Value.{is_integer, is_real, is_date, is_text, HasValue}
use Rattle.layout.specs.Rows.{OwnRow, GoodEnds}
use Rattle.layout.specs.Refusals.{Held, Passed, row_refusals}
use Rattle.layout.proofs.Heads.{length_heads, head_of_lem}
use Rattle.writer.specs.GraphFile.{tables}
use Rattle.writer.specs.Writes.{Writable}
use Rattle.writer.proofs.ReadAgain.{rows_on}
use Rattle.lines.specs.Sheet.{Reading}
use Rattle.sheet.specs.Tables.{edge_table, row_table, sheet_tables}
use Rattle.sheet.proofs.Fair.{Fair}
use Rattle.sheet.proofs.RowsRead.{head_of, PropertyRead}
use Rattle.sheet.proofs.SheetRows.{node_head, nodes_length, edge_labels, edges_length, rows_length, serial_read, date_read, degrees_read, coefficient_read, sheet_numbers, numbers_are}
use Rattle.sheet.proofs.GoodRuns.{node_read, small_edge, edge_read, good_node, good_edge, good_rows}

-- ---- the property rows

-- a row as it is read, in a run that starts at s
row_in_lem : {T s i n k l v : ℕ} {t : List ℕ} → PropertyRead t i n k l v → n < 5 → HasValue T k l v → (s < i → name_at Graph t (i - 1) < n) → RowIn 5 (name_at Graph t) (OwnRow Graph T t) s i
row_in_lem p h v g = record { named = rw p.name h; rising = λ b. rw p.name (g b); own = record { zero = p.zero; value = rw (p.kind, p.len, p.bits) v } }

module _ (r : Reading) (f : Fair r) where
  abbrev Good : ℕ → ℕ → Type 0
  Good = RowIn 5 (name_at Graph (row_table r)) (OwnRow Graph (length r.serial) (row_table r))

  -- of an angle's two rows only the second has a row before it in its run, and 3 is below 4
  angle_good : (i : ℕ) → i < length r.angles → Every (2 + 2 * i + 2) (λ k. 2 + 2 * i ≤ k → Good (2 + 2 * i) k)
  angle_good i h k l m = go (ℕ_discrete k (2 + 2 * i))
    where
      degrees : Good (2 + 2 * i) (2 + 2 * i)
      degrees = row_in_lem (degrees_read r f i h) (omega arith) (_, is_integer) (λ b. absurd (omega arith))

      coefficient : Good (2 + 2 * i) (2 + 2 * i + 1)
      coefficient =
          let e : 2 + 2 * i + 1 - 1 ≡ 2 + 2 * i = omega arith in
          let a = f.each i h in
          row_in_lem (coefficient_read r f i h) (omega arith) (_, is_real (rw a.coefficient a.finite)) (λ b. rw (e, (degrees_read r f i h).name) (omega arith))

      go : Dec (k ≡ 2 + 2 * i) → Good (2 + 2 * i) k
      go (yes e) = rw e degrees
      go (no n) = let e : k ≡ 2 + 2 * i + 1 = omega arith in rw e coefficient

  -- the rows of each node's run: serial, date, and two for each angle
  node_rows : (i : ℕ) → i < 2 + length r.angles → Every ((node_head i).first + (node_head i).count) (λ k. (node_head i).first ≤ k → Good (node_head i).first k)
  node_rows zero h = λ k l m. let e : k ≡ 0 = omega arith in rw e (row_in_lem (serial_read r f) (omega arith) (_, is_text (omega arith)) (λ b. absurd (omega arith)))
  node_rows (suc zero) h = λ k l m. let e : k ≡ 1 = omega arith in rw e (row_in_lem (date_read r f) (omega arith) (_, is_date f.date) (λ b. absurd (omega arith)))
  node_rows (suc (suc i)) h = angle_good i (omega arith)

-- ---- the refusals of rows, whatever `back` is

module _ (r : Reading) (f : Fair r) (back : ℕ) where
  abbrev n : ℕ
  n = length r.angles

  abbrev hs : List Head
  hs = heads Graph (sheet_numbers r back) (sheet_tables r)

  node_in : (i : ℕ) → i < 2 + n → head_in hs i ≡ node_head i
  node_in i h = rw zero-add at (head_of_lem Graph (sheet_numbers r back) (sheet_tables r) Nodes i h) ∙ node_read n i f.few h

  edge_in : (e : ℕ) → e < 1 + n → head_in hs (2 + n + e) ≡ head_of (edge_labels e) (2 + 2 * n) 0
  edge_in e h = head_of_lem Graph (sheet_numbers r back) (sheet_tables r) Edges e h ∙ (edge_read n e f.few h).head

  -- from the Run, node 1, to a node that is there
  ends : (e : ℕ) → e < 1 + n → GoodEnds Graph (2 + n) (edge_table n) e
  ends e h =
      let is = edge_read n e f.few h in
      let s = small_edge e in
      record { source = rw is.source (omega arith); target = rw is.target (omega arith) }

  pass : Passed (row_refusals Graph (sheet_numbers r back) (sheet_tables r))
  pass = (
    λ i h. record { head = rw zero-add (good_node hs n node_in edge_in (sheet_numbers r back) refl refl i h); own = tt },
    (
      λ e h. record { head = good_edge hs n node_in edge_in (sheet_numbers r back) refl refl e h; own = ends e h },
      (
        good_rows hs n node_in edge_in (rw length_heads (omega arith)) 5 (name_at Graph (row_table r)) (OwnRow Graph (length r.serial) (row_table r)) (node_rows r f),
        tt,
      ),
    ),
  )

  held : Held (ceilings Graph) (sheet_numbers r back)
  held = let s = f.serial in let m = f.few in omega arith

-- ---- the writer refuses no fair reading with 41

pub sheet_writable : (r : Reading) → Fair r → Writable (sheet_tables r) 5 5
sheet_writable r f =
    let back = length (tables (sheet_tables r)) in
    record {
      whole =
          record {
            nodes = omega (arith, nodes_length (length r.angles));
            edges = omega (arith, edges_length (length r.angles));
            rows = omega (arith, rows_length r);
          };
      held = subst (Held (ceilings Graph)) (sym (numbers_are r back)) (held r f back);
      rows = rows_on Graph (sym (numbers_are r back)) refl (pass r f back);
    }
