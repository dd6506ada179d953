-- What is read at the rows of tables that are put together, taken apart or moved.
use mathlib.Core.Path.{◌≡◌, refl, sym, ap, ◌∙◌}
use mathlib.Core.List.{List, ◌++◌}
use Prim.Native.Nat.{ℕ, ◌+◌, ◌*◌, ◌^◌, ◌≤◌, ◌<◌}
use native.Mathlib.Nat.{add-zero, mul-add}
use native.Mathlib.Omega.{arith}
use lib.ListN.{length, get_or, take, drop, get_or-append}
use lib.Seq.{get_or-append-add, get_or-take, get_or-drop}
use Rattle.little.specs.Little.{little}
use Rattle.layout.specs.declared.File.TheVariants.{Graph}
use Rattle.layout.specs.declared.Sort.{Sort}
use Rattle.layout.specs.declared.Sort.TheVariants as sort
use Rattle.layout.specs.Files.{form, source_at, target_at}
use Rattle.layout.specs.Runs.{head_at}
use Rattle.layout.proofs.RowsOf.{row_in_lem}
use Rattle.join.specs.declared.Moving.TheVariants.{Nodes, Edges, Rows}
use Rattle.join.specs.Moved.{row_at, moved_edge}
use Rattle.join.specs.Inner.{moved_table}
use Rattle.join.proofs.Raised as row
use Rattle.join.proofs.TableMoved.{row_wide, row_number, table_number}
use Rattle.join.proofs.RunsMoved.{moved_head}

-- ---- tables put together and taken apart

-- a row of n rows lies before their end
inside : (W n i k w : ℕ) → i < n → k + w ≤ W → W * i + k + w ≤ W * n
inside W n i k w h fits = omega (arith, row_in_lem W i n h)

module _ (W n : ℕ) (s t : List ℕ) (full : length s ≡ W * n) (i w k : ℕ) (fits : k + w ≤ W) where
  pub in_first : i < n → little w (s ++ t) (W * i + k) ≡ little w s (W * i + k)
  in_first h = let z = inside W n i k w h fits in row.same_bytes w (s ++ t) s (W * i + k) (W * i + k) (λ j l. get_or-append s t 0 (W * i + k + j) (omega arith))

  pub in_second : little w (s ++ t) (W * (n + i) + k) ≡ little w t (W * i + k)
  in_second =
      row.same_bytes w (s ++ t) t (W * (n + i) + k) (W * i + k)
      (λ j l.
      let e : W * (n + i) + k + j ≡ length s + (W * i + k + j) = rw (mul-add, full) (omega arith) in
      ap (λ (x : ℕ). get_or (s ++ t) x 0) e ∙ get_or-append-add s t (W * i + k + j) 0)

module _ (W n : ℕ) (t : List ℕ) (i w k : ℕ) (fits : k + w ≤ W) where
  pub in_taken : i < n → little w (take (W * n) t) (W * i + k) ≡ little w t (W * i + k)
  in_taken h = let z = inside W n i k w h fits in row.same_bytes w (take (W * n) t) t (W * i + k) (W * i + k) (λ j l. get_or-take (W * n) t (W * i + k + j) 0 (omega arith))

  pub in_left : little w (drop (W * n) t) (W * i + k) ≡ little w t (W * (n + i) + k)
  in_left =
      row.same_bytes w (drop (W * n) t) t (W * i + k) (W * (n + i) + k)
      (λ j l.
      let e : W * n + (W * i + k + j) ≡ W * (n + i) + k + j = rw mul-add (omega arith) in
      get_or-drop (W * n) t (W * i + k + j) 0 ∙ ap (λ (x : ℕ). get_or t x 0) e)

-- the label set and the run of a row
module _ (n : ℕ) (s t : List ℕ) (i : ℕ) where
  pub head_first : (o : Sort) → length s ≡ (form Graph o).width * n → i < n → head_at (form Graph o) (s ++ t) i ≡ head_at (form Graph o) s i
  head_first sort.Nodes full h =
      let e : 16 * i + 8 + 4 ≡ 16 * i + 12 = omega arith in
      let l : little 8 (s ++ t) (16 * i) ≡ little 8 s (16 * i) = rw add-zero at (in_first 16 n s t full i 8 0 (omega arith) h) in
      rw (l, in_first 16 n s t full i 4 8 (omega arith) h, e, in_first 16 n s t full i 4 12 (omega arith) h) refl
  head_first sort.Edges full h =
      let e : 24 * i + 16 + 4 ≡ 24 * i + 20 = omega arith in
      let l : little 8 (s ++ t) (24 * i) ≡ little 8 s (24 * i) = rw add-zero at (in_first 24 n s t full i 8 0 (omega arith) h) in
      rw (l, in_first 24 n s t full i 4 16 (omega arith) h, e, in_first 24 n s t full i 4 20 (omega arith) h) refl

  pub head_second : (o : Sort) → length s ≡ (form Graph o).width * n → head_at (form Graph o) (s ++ t) (n + i) ≡ head_at (form Graph o) t i
  head_second sort.Nodes full =
      let e : 16 * (n + i) + 8 + 4 ≡ 16 * (n + i) + 12 = omega arith in
      let f : 16 * i + 8 + 4 ≡ 16 * i + 12 = omega arith in
      let l : little 8 (s ++ t) (16 * (n + i)) ≡ little 8 t (16 * i) = rw (add-zero, add-zero) at (in_second 16 n s t full i 8 0 (omega arith)) in
      rw (l, in_second 16 n s t full i 4 8 (omega arith), e, in_second 16 n s t full i 4 12 (omega arith), f) refl
  head_second sort.Edges full =
      let e : 24 * (n + i) + 16 + 4 ≡ 24 * (n + i) + 20 = omega arith in
      let f : 24 * i + 16 + 4 ≡ 24 * i + 20 = omega arith in
      let l : little 8 (s ++ t) (24 * (n + i)) ≡ little 8 t (24 * i) = rw (add-zero, add-zero) at (in_second 24 n s t full i 8 0 (omega arith)) in
      rw (l, in_second 24 n s t full i 4 16 (omega arith), e, in_second 24 n s t full i 4 20 (omega arith), f) refl

-- ---- moved rows

module _ (n : ℕ) (t : List ℕ) (i : ℕ) (h : i < n) where
  module _ (run : ℕ) (full : length t ≡ 16 * n) (room : little 4 t (16 * i + 8) + run < 256 ^ 4) where
    abbrev node : List ℕ
    node = row_at 16 t i

    -- a node's labels and count stay
    pub node_head : head_at (form Graph sort.Nodes) (moved_table (Nodes run) n t) i ≡ moved_head run (head_at (form Graph sort.Nodes) t i)
    node_head =
        let wide : length node ≡ 16 = row_wide (Nodes run) n t full i h in
        let old = row_number 16 t i 4 8 (omega arith) in
        let e : 16 * i + 8 + 4 ≡ 16 * i + 12 = omega arith in
        let labels : little 8 (moved_table (Nodes run) n t) (16 * i) ≡ little 8 t (16 * i) =
        rw add-zero at (table_number (Nodes run) n t full i 8 0 h (omega arith) ∙ row.raised_before 4 8 run node (omega arith) 8 0 (omega arith) ∙ row_number 16 t i 8 0 (omega arith)) in
        let first : little 4 (moved_table (Nodes run) n t) (16 * i + 8) ≡ little 4 t (16 * i + 8) + run =
        table_number (Nodes run) n t full i 4 8 h (omega arith) ∙ row.raised_there 4 8 run node (omega arith) (rw old room) ∙ ap (λ (x : ℕ). x + run) old in
        let count : little 4 (moved_table (Nodes run) n t) (16 * i + 12) ≡ little 4 t (16 * i + 12) =
        table_number (Nodes run) n t full i 4 12 h (omega arith) ∙ row.raised_behind 4 8 run node (omega arith) 4 12 (omega arith) ∙ row_number 16 t i 4 12 (omega arith) in
        rw (labels, first, e, count) refl

  module _ (ends run : ℕ) (full : length t ≡ 24 * n) where
    abbrev edge : List ℕ
    edge = row_at 24 t i

    edge_wide : length edge ≡ 24
    edge_wide = row_wide (Edges ends run) n t full i h

    -- four bytes of the row that was put there, d more
    raised_number : (k d : ℕ) → k + 4 ≤ 24 → (little 4 edge k + d < 256 ^ 4 → little 4 (moved_edge ends run edge) k ≡ little 4 edge k + d) → little 4 t (24 * i + k) + d < 256 ^ 4 → little 4 (moved_table (Edges ends run) n t) (24 * i + k) ≡ little 4 t (24 * i + k) + d
    raised_number k d fits there room =
        let old = row_number 24 t i 4 k fits in
        table_number (Edges ends run) n t full i 4 k h fits ∙ there (rw old room) ∙ ap (λ (x : ℕ). x + d) old

    pub edge_head : little 4 t (24 * i + 16) + run < 256 ^ 4 → head_at (form Graph sort.Edges) (moved_table (Edges ends run) n t) i ≡ moved_head run (head_at (form Graph sort.Edges) t i)
    edge_head room =
        let e : 24 * i + 16 + 4 ≡ 24 * i + 20 = omega arith in
        let labels : little 8 (moved_table (Edges ends run) n t) (24 * i) ≡ little 8 t (24 * i) =
        rw add-zero at (table_number (Edges ends run) n t full i 8 0 h (omega arith) ∙ row.edge_labels ends run edge edge_wide ∙ row_number 24 t i 8 0 (omega arith)) in
        let first = raised_number 16 run (omega arith) (row.edge_first ends run edge edge_wide) room in
        let count : little 4 (moved_table (Edges ends run) n t) (24 * i + 20) ≡ little 4 t (24 * i + 20) =
        table_number (Edges ends run) n t full i 4 20 h (omega arith) ∙ row.edge_count ends run edge edge_wide ∙ row_number 24 t i 4 20 (omega arith) in
        rw (labels, first, e, count) refl

    pub source_moved : source_at Graph t i + ends < 256 ^ 4 → source_at Graph (moved_table (Edges ends run) n t) i ≡ source_at Graph t i + ends
    source_moved = raised_number 8 ends (omega arith) (row.edge_source ends run edge edge_wide)

    pub target_moved : target_at Graph t i + ends < 256 ^ 4 → target_at Graph (moved_table (Edges ends run) n t) i ≡ target_at Graph t i + ends
    target_moved = raised_number 12 ends (omega arith) (row.edge_target ends run edge edge_wide)

  -- ---- property rows

  module _ (text : ℕ) (full : length t ≡ 16 * n) where
    abbrev property : List ℕ
    property = row_at 16 t i

    property_wide : length property ≡ 16
    property_wide = row_wide (Rows text) n t full i h

    kind_there : little 1 property 2 ≡ little 1 t (16 * i + 2)
    kind_there = row_number 16 t i 1 2 (omega arith)

    -- name, kind, zero and length stay
    pub before_value : (w k : ℕ) → k + w ≤ 8 → little w (moved_table (Rows text) n t) (16 * i + k) ≡ little w t (16 * i + k)
    before_value w k fits = table_number (Rows text) n t full i w k h (omega arith) ∙ row.before_value text property property_wide w k fits ∙ row_number 16 t i w k (omega arith)

    pub text_value : little 1 t (16 * i + 2) ≡ 5 → little 8 t (16 * i + 8) + text < 256 ^ 8 → little 8 (moved_table (Rows text) n t) (16 * i + 8) ≡ little 8 t (16 * i + 8) + text
    text_value kind room =
        let old = row_number 16 t i 8 8 (omega arith) in
        table_number (Rows text) n t full i 8 8 h (omega arith)
        ∙ ap (λ (x : List ℕ). little 8 x 8) (row.text_moved text property (kind_there ∙ kind))
        ∙ row.raised_there 8 8 text property (omega (arith, property_wide)) (rw old room)
        ∙ ap (λ (x : ℕ). x + text) old

    pub other_value : ¬ (little 1 t (16 * i + 2) ≡ 5) → little 8 (moved_table (Rows text) n t) (16 * i + 8) ≡ little 8 t (16 * i + 8)
    other_value kind =
        table_number (Rows text) n t full i 8 8 h (omega arith)
        ∙ ap (λ (x : List ℕ). little 8 x 8) (row.other_stays text property (λ e. kind (sym kind_there ∙ e)))
        ∙ row_number 16 t i 8 8 (omega arith)
