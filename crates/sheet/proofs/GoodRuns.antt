-- The heads of a sheet's tables, and the runs of objects that have these heads: each starts where the one before it ended.
use mathlib.Core.Path.{◌≡◌, refl}
use mathlib.Core.List.{List}
use Prim.Native.Nat.{ℕ, zero, suc, ◌+◌, ◌*◌, ◌^◌, ◌≤◌, ◌<◌}
use native.Mathlib.Numerals.{add-one}
use native.Mathlib.Omega.{arith}
use lib.ListN.{length}
use Rattle.meaning.specs.Places.{Every}
use Rattle.layout.specs.declared.File.TheVariants.{Graph}
use Rattle.layout.specs.declared.Sort.TheVariants.{Nodes}
use Rattle.layout.specs.declared.Trailer.{Trailer}
use Rattle.layout.specs.declared.Head.{Head}
use Rattle.layout.specs.Files.{form}
use Rattle.layout.specs.Runs.{head_at, head_in, start, GoodHead, RowIn, GoodRow}
use Rattle.layout.proofs.Labels.{labels_below}
use Rattle.layout.proofs.Runs.{start_none, start_more, run_good}
use Rattle.sheet.specs.Tables.{node_table, edge_table}
use Rattle.sheet.proofs.RowsRead.{head_of, node_fields, EdgeRead, edge_fields}
use Rattle.sheet.proofs.SheetRows.{node_head, node_row_lem, edge_labels, edge_target, edge_row_lem}

-- ---- the heads, as they are read

-- no label at or above 5, and numbers that the fields hold
small_node : (i : ℕ) → ((node_head i).labels < 2 ^ 5) × ((node_head i).first ≤ 2 * i) × ((node_head i).count ≤ 2)
small_node zero = omega arith
small_node (suc zero) = omega arith
small_node (suc (suc i)) = omega arith

pub node_read : (n i : ℕ) → n ≤ 180 → i < 2 + n → head_at (form Graph Nodes) (node_table n) i ≡ node_head i
node_read n i few h = let s = small_node i in node_fields (omega arith) (omega arith) (omega arith) (node_row_lem n i h)

pub small_edge : (e : ℕ) → (edge_labels e < 2 ^ 5) × (edge_target e ≤ 1 + e)
small_edge zero = omega arith
small_edge (suc e) = omega arith

pub edge_read : (n e : ℕ) → n ≤ 180 → e < 1 + n → EdgeRead (edge_table n) e (edge_labels e) 1 (edge_target e) (2 + 2 * n) 0
edge_read n e few h = let s = small_edge e in edge_fields (omega arith) (omega arith) (omega arith) (omega arith) (omega arith) (edge_row_lem n e h)

-- ---- the runs of any objects with these heads

-- a run starts where the one before it ended, and the last node's ends behind all rows
next_first : (i : ℕ) → (node_head i).first + (node_head i).count ≡ (node_head (suc i)).first
next_first zero = refl
next_first (suc zero) = refl
next_first (suc (suc i)) = omega arith

run_ends : (n i : ℕ) → i < 2 + n → (node_head i).first + (node_head i).count ≤ 2 + 2 * n
run_ends n zero h = omega arith
run_ends n (suc zero) h = omega arith
run_ends n (suc (suc i)) h = omega arith

last_first : (n : ℕ) → (node_head (2 + n)).first ≡ 2 + 2 * n
last_first n = let e : 2 + n ≡ suc (suc n) = omega arith in rw e

module _ (hs : List Head) (n : ℕ) (nodes : (i : ℕ) → i < 2 + n → head_in hs i ≡ node_head i)
    (edges : (e : ℕ) → e < 1 + n → head_in hs (2 + n + e) ≡ head_of (edge_labels e) (2 + 2 * n) 0) where
  node_start : (i : ℕ) → i ≤ 2 + n → start hs i ≡ (node_head i).first
  node_start zero h = start_none hs
  node_start (suc i) h = rw (← add-one i, start_more hs i, node_start i (omega arith), nodes i h, next_first i, add-one i)

  -- edges have no rows, so each run of theirs starts behind all of them
  edge_start : (e : ℕ) → e ≤ 1 + n → start hs (2 + n + e) ≡ 2 + 2 * n
  edge_start zero h = let e : 2 + n + 0 ≡ 2 + n = omega arith in rw (e, node_start (2 + n) (omega arith)) (last_first n)
  edge_start (suc e) h =
      let k : 2 + n + suc e ≡ 2 + n + e + 1 = omega arith in
      rw (k, start_more hs (2 + n + e), edge_start e (omega arith), edges e h) (omega arith)

  module _ (m : Trailer) (five : m.labels ≡ 5) (all : m.rows ≡ 2 + 2 * n) where
    pub good_node : (i : ℕ) → i < 2 + n → GoodHead m (head_in hs i) (start hs i)
    good_node i h =
        rw (nodes i h, node_start i (omega arith))
        (record { labelled = rw five ((labels_below (node_head i).labels 5).1 (small_node i).0); begins = refl; ends = rw all (run_ends n i h) })

    pub good_edge : (e : ℕ) → e < 1 + n → GoodHead m (head_in hs (2 + n + e)) (start hs (2 + n + e))
    good_edge e h =
        rw (edges e h, edge_start e (omega arith))
        (record { labelled = rw five ((labels_below (edge_labels e) 5).1 (small_edge e).0); begins = refl; ends = rw all (omega arith) })

  -- every row is in the run of a node, so it is enough that the rows of each node's run are good
  module _ (below : 2 + n ≤ length hs) (names : ℕ) (name : ℕ → ℕ) (Own : ℕ → Type 0)
      (each : (i : ℕ) → i < 2 + n → Every ((node_head i).first + (node_head i).count) (λ r. (node_head i).first ≤ r → RowIn names name Own (node_head i).first r)) where
    good_runs : (i : ℕ) → i ≤ 2 + n → Every (start hs i) (GoodRow hs names name Own)
    good_runs zero h = rw start_none (λ r l. absurd (omega arith))
    good_runs (suc i) h =
        rw (← add-one i)
        (run_good hs names name Own i (omega arith) (good_runs i (omega arith)) (rw (nodes i h, node_start i (omega arith)) (each i h)))

    pub good_rows : Every (2 + 2 * n) (GoodRow hs names name Own)
    good_rows = rw (node_start (2 + n) (omega arith), last_first n) at (good_runs (2 + n) (omega arith))
