-- Laws of lent tables: what their lengths and counts give before anything is written.
use mathlib.Core.Path.{subst, ◌≡◌, refl}
use Prim.Native.Nat.{ℕ, ◌+◌, ◌≤◌}
use native.Mathlib.Omega.{arith}
use lib.ListN.{length, length-append}
use Rattle.layout.specs.declared.File.TheVariants.{Graph}
use Rattle.layout.specs.declared.Ceilings.{Ceilings}
use Rattle.layout.specs.declared.Trailer.{Trailer}
use Rattle.layout.specs.Files.{Body, Full, ceilings}
use Rattle.layout.specs.Refusals.{Held, row_refusals, RefusedBy, Passed}
use Rattle.layout.proofs.Refusing.{not_both}
use Rattle.layout.proofs.UnderCeilings.{held_inside}
use Rattle.writer.specs.GraphFile.{tables, counted, numbers_for}
use Rattle.writer.specs.Writes.{Whole, Writable}

module _ (b : Body) where
  -- the bytes of all tables
  abbrev pub size : ℕ
  size = length b.nodes + length b.edges + length b.rows + length b.text

  pub tables_size : length (tables b) ≡ size
  tables_size = rw (length-append, length-append, length-append) refl

  module _ (labels names : ℕ) where
    -- back is under no ceiling
    pub held_again : {x y : ℕ} → Held (ceilings Graph) (counted b labels names x) → Held (ceilings Graph) (counted b labels names y)
    held_again h = record { nodes = h.nodes; edges = h.edges; rows = h.rows; text = h.text; labels = h.labels; names = h.names }

    -- whole rows are as many bytes as their count gives
    pub whole_full : {x : ℕ} → Whole b → Full Graph (counted b labels names x) b
    whole_full w = record { nodes = omega (arith, w.nodes); edges = omega (arith, w.edges); rows = omega (arith, w.rows); text = refl }

    -- tables under the ceilings make no file that is too long
    pub few_bytes : {x : ℕ} → Whole b → Held (ceilings Graph) (counted b labels names x) → size + 28 ≤ (ceilings Graph).file
    few_bytes {x} w h = let f = whole_full {x = x} w in omega (arith, held_inside Graph h, f.nodes, f.edges, f.rows)

-- ---- the steps of `judge`: whole tables, c the ceilings, n the numbers that it made, and then the same with back

abbrev pub with_back : Trailer → ℕ → Trailer
with_back n k = record { nodes = n.nodes; edges = n.edges; rows = n.rows; text = n.text; labels = n.labels; names = n.names; back = k }

module _ {b : Body} {labels names : ℕ} {c : Ceilings} {n : Trailer} (w : Whole b) (most : c ≡ ceilings Graph) (e : n ≡ counted b labels names 0) where
  pub high_count : ¬ Held c n → ¬ Writable b labels names
  high_count above u = above (rw (most, e) (held_again b labels names u.held))

  module _ (h : Held c n) where
    held : {x : ℕ} → Held (ceilings Graph) (counted b labels names x)
    held = held_again b labels names (rw (most, e) at h)

    numbers_are : with_back n (size b) ≡ numbers_for b labels names
    numbers_are = rw (e, tables_size b) refl

    pub bad_row : {x k : ℕ} → RefusedBy (row_refusals Graph (with_back n (size b)) b) x k → ¬ Writable b labels names
    bad_row {x} {k} r u = not_both (row_refusals Graph (numbers_for b labels names) b) _ _ u.rows (subst (λ (m : Trailer). RefusedBy (row_refusals Graph m b) x k) numbers_are r)

    pub good_tables : Passed (row_refusals Graph (with_back n (size b)) b) → Writable b labels names × (with_back n (size b) ≡ numbers_for b labels names)
    good_tables p = (record { whole = w; held = held; rows = subst (λ (m : Trailer). Passed (row_refusals Graph m b)) numbers_are p }, numbers_are)
