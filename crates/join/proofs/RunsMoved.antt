-- Runs of objects that stand in another list, with their starts moved.
use mathlib.Core.Path.{◌≡◌, ap}
use mathlib.Core.List.{List}
use Prim.Native.Nat.{ℕ, zero, suc, ◌+◌, ◌-◌, ◌≤◌, ◌<◌}
use native.Mathlib.Nat.{zero-add, add-zero, add-suc, le_refl}
use native.Mathlib.Decide.{dec_lt}
use native.Mathlib.Omega.{arith}
use lib.ListN.{length}
use Rattle.meaning.specs.Places.{Every}
use Rattle.layout.specs.declared.File.{File}
use Rattle.layout.specs.declared.Sort.TheVariants.{Nodes, Edges}
use Rattle.layout.specs.declared.Trailer.{Trailer}
use Rattle.layout.specs.declared.Head.{Head}
use Rattle.layout.specs.Files.{Body}
use Rattle.layout.specs.Runs.{head_in, start, heads, InRun, GoodHead, name_at}
use Rattle.layout.specs.Rows.{OwnRow}
use Rattle.layout.specs.Refusals.{Passed, row_refusals}
use Rattle.layout.proofs.Runs.{rest_bad}
use Rattle.layout.proofs.Heads.{length_heads}
use Rattle.layout.proofs.Accepted.{good_object, good_row}

-- ---- all rows of good tables are in runs

module _ (F : File) (n : Trailer) (b : Body) (p : Passed (row_refusals F n b)) where
  pub good_head : (j : ℕ) → j < length (heads F n b) → GoodHead n (head_in (heads F n b) j) (start (heads F n b) j)
  good_head j h = go (dec_lt j n.nodes)
    where
      go : Dec (j < n.nodes) → GoodHead n (head_in (heads F n b) j) (start (heads F n b) j)
      go (yes l) = rw zero-add at (good_object F n b p Nodes j l).head
      go (no l) =
          let e : n.nodes + (j - n.nodes) ≡ j = omega arith in
          rw e at (good_object F n b p Edges (j - n.nodes) (omega (arith, length_heads F n b))).head

  -- a run ends inside
  pub run_ends : (j : ℕ) → j ≤ length (heads F n b) → start (heads F n b) j ≤ n.rows
  unfolding start
  run_ends zero h = omega arith
  run_ends (suc j) h = let g = good_head j (omega arith) in omega (arith, g.begins, g.ends)

  pub all_rows : start (heads F n b) (length (heads F n b)) ≡ n.rows
  all_rows = go (dec_lt (start (heads F n b) (length (heads F n b))) n.rows)
    where
      go : Dec (start (heads F n b) (length (heads F n b)) < n.rows) → start (heads F n b) (length (heads F n b)) ≡ n.rows
      go (yes l) = absurd (rest_bad (heads F n b) n.names (name_at F b.rows) (OwnRow F (length b.text) b.rows) _ (le_refl _) (good_row F n b p _ l))
      go (no l) = omega (arith, run_ends (length (heads F n b)) (le_refl _))

-- ---- a part of the objects, from place `lo` of one list at place `to` of another

abbrev pub moved_head : ℕ → Head → Head
moved_head d h = record { labels = h.labels; first = h.first + d; count = h.count }

pub record Part (hs old : List Head) (to lo len d : ℕ) : Type 0 where
  pub heads : Every len (λ i. head_in hs (to + i) ≡ moved_head d (head_in old (lo + i)))
  pub base : start hs to ≡ start old lo + d

module _ {hs old : List Head} {to lo len d : ℕ} (p : Part hs old to lo len d) where
  pub start_moved : (i : ℕ) → i ≤ len → start hs (to + i) ≡ start old (lo + i) + d
  unfolding start
  start_moved zero h = rw (add-zero, add-zero) p.base
  start_moved (suc i) h =
      let e = start_moved i (omega arith) in
      let f : (head_in hs (to + i)).count ≡ (head_in old (lo + i)).count = ap (λ x. x.count) (p.heads i (omega arith)) in
      rw (add-suc, add-suc) (omega arith)

  pub good_moved : {n J : Trailer} (i : ℕ) → i < len → n.labels ≤ J.labels → n.rows + d ≤ J.rows → GoodHead n (head_in old (lo + i)) (start old (lo + i)) → GoodHead J (head_in hs (to + i)) (start hs (to + i))
  good_moved {n} {J} i h l r g =
      let e = p.heads i h in
      let f = start_moved i (omega arith) in
      record {
        labelled = λ k x. let y = g.labelled k (rw e at x) in omega arith;
        begins = rw (e, f) (ap (λ x. x + d) g.begins);
        ends = rw e (omega (arith, g.ends));
      }

  -- row r of an object of the part is row r + d
  pub run_moved : (r i : ℕ) → i < len → InRun old r (lo + i) → InRun hs (r + d) (to + i)
  run_moved r i h x =
      let f = start_moved i (omega arith) in
      let c : (head_in hs (to + i)).count ≡ (head_in old (lo + i)).count = ap (λ x. x.count) (p.heads i h) in
      record { from = omega (arith, x.from); until = omega (arith, x.until) }
