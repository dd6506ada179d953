-- The joined tables are good, and their graph is the joined one.
use mathlib.Core.Path.{◌≡◌, refl, sym, subst, ap, ap₂, ◌∙◌}
use mathlib.Core.List.{List, ◌∷◌, ◌++◌, map}
use Prim.Native.Nat.{ℕ, zero, suc, ◌+◌, ◌-◌, ◌*◌, ◌^◌, ◌≤◌, ◌<◌}
use native.Mathlib.Nat.{add-zero, zero-add, suc-add, add_comm}
use native.Mathlib.Decide.{dec_lt}
use native.Mathlib.Omega.{arith}
use lib.ListN.{length}
use Rattle.meaning.specs.Model as meaning
use Rattle.meaning.specs.Places.{Every}
use Rattle.meaning.specs.Join.{moved, joined}
use Rattle.meaning.proofs.Joined.{joined_violations, joined_conforms}
use Rattle.meaning.proofs.JoinedListed.{joined_all_told}
use Rattle.layout.specs.declared.File.TheVariants.{Graph}
use Rattle.layout.specs.declared.Sort.TheVariants as sort
use Rattle.layout.specs.declared.Trailer.{Trailer}
use Rattle.layout.specs.Tables.{rows}
use Rattle.layout.specs.Files.{Body, source_at, target_at, ceilings, numbers_of, body_of, Full}
use Rattle.layout.specs.Runs.{head_in, start, heads, GoodHead}
use Rattle.layout.specs.Graph.{node_of, edge_of, graph_of}
use Rattle.layout.specs.Rows.{GoodObject, GoodPropertyRow}
use Rattle.layout.specs.Refusals.{Passed, row_refusals, Held, FileAccepted}
use Rattle.layout.specs.Checked.{graph_in}
use Rattle.layout.proofs.RowsOf.{length_rows}
use Rattle.layout.proofs.Runs.{start_none}
use Rattle.layout.proofs.Heads.{head_of_lem}
use Rattle.layout.proofs.Accepted.{held, located, rows_good, accepted_full, ended}
use Rattle.writer.specs.GraphFile.{numbers_for}
use Rattle.writer.specs.Writes.{Writable}
use Rattle.writer.proofs.ReadAgain.{rows_on, same_values}
use Rattle.writer.proofs.WrittenAgain.{counted_again}
use Rattle.join.specs.declared.Moving.TheVariants.{Edges}
use Rattle.join.specs.Joined.{node_rows, joined_body, joined_numbers, joined_tables, numbers_of_both, joined_file}
use Rattle.join.specs.JoinedFile.{JoinedFile}
use Rattle.join.specs.Inner.{moved_table, Sound}
use Rattle.join.proofs.TableMoved.{length_table}
use Rattle.join.proofs.RunsMoved.{good_head, good_moved}
use Rattle.join.proofs.Reading.{in_first, in_second, source_moved, target_moved}
use Rattle.join.proofs.Pieces.{rows_same, Piece, good_property, same_object}
use Rattle.join.proofs.FourPieces.{p_in, q_in, all_first, all_second, joined_full, piece_1, piece_2, piece_3, piece_4}

-- ---- rows one after another

rows_append : {A : Type 0} (p q : ℕ) (f : ℕ → A) → rows (p + q) f ≡ rows p f ++ rows q (λ i. f (p + i))
unfolding rows
rows_append zero q f = rw zero-add (rows_same q f (λ i. f (0 + i)) (λ i h. ap f (sym (zero-add i))))
rows_append (suc p) q f = rw (suc-add, rows_append p q (λ i. f (suc i))) (ap (λ l. f 0 ∷ (rows p (λ i. f (suc i)) ++ l)) (rows_same q (λ i. f (suc (p + i))) (λ i. f (suc p + i)) (λ i h. ap f (sym (suc-add p i)))))

map_rows : {A B : Type 0} (g : A → B) (n : ℕ) (f : ℕ → A) → map g (rows n f) ≡ rows n (λ i. g (f i))
unfolding rows
map_rows g zero f = refl
map_rows g (suc n) f = ap (λ l. g (f 0) ∷ l) (map_rows g n (λ i. f (suc i)))

-- objects of a piece are good
piece_head :
    {J : Trailer} {B : Body} {n : Trailer} {b : Body} {to lo len d c : ℕ} → Piece J B n b to lo len d c → Sound n b → (i : ℕ) → i < len → n.labels ≤ J.labels → n.rows + d ≤ J.rows
    → GoodHead J (head_in (heads Graph J B) (to + i)) (start (heads Graph J B) (to + i))
piece_head {n = n} {b} {lo = lo} p s i h l r = good_moved p.objects i h l r (good_head Graph n b s.good (lo + i) (omega (arith, p.inside)))

module _ (n : Trailer) (a : Body) (m : Trailer) (b : Body) (x : Sound n a) (y : Sound m b) where
  -- ---- ends

  abbrev first_edges : List ℕ
  first_edges = moved_table (Edges 0 (node_rows m b)) n.edges a.edges

  abbrev second_edges : List ℕ
  second_edges = moved_table (Edges n.nodes n.rows) m.edges b.edges

  first_length : length first_edges ≡ 24 * n.edges
  first_length = length_table (Edges 0 (node_rows m b)) n.edges a.edges x.full.edges

  first_ends : (e : ℕ) → e < n.edges → (source_at Graph (first_edges ++ second_edges) e ≡ source_at Graph a.edges e) × (target_at Graph (first_edges ++ second_edges) e ≡ target_at Graph a.edges e)
  first_ends e h =
      let own = (x.good.1.0 e h).own in
      let u : source_at Graph a.edges e + 0 < 256 ^ 4 = omega (arith, own.source, x.held.nodes) in
      let v : target_at Graph a.edges e + 0 < 256 ^ 4 = omega (arith, own.target, x.held.nodes) in (
        in_first 24 n.edges first_edges second_edges first_length e 4 8 (omega arith) h ∙ source_moved n.edges a.edges e h 0 (node_rows m b) x.full.edges u ∙ add-zero _,
        in_first 24 n.edges first_edges second_edges first_length e 4 12 (omega arith) h ∙ target_moved n.edges a.edges e h 0 (node_rows m b) x.full.edges v ∙ add-zero _,
      )

  second_ends :
      (e : ℕ) → e < m.edges → (source_at Graph (first_edges ++ second_edges) (n.edges + e) ≡ n.nodes + source_at Graph b.edges e) × (target_at Graph (first_edges ++ second_edges) (n.edges + e) ≡ n.nodes + target_at Graph b.edges e)
  second_ends e h =
      let own = (y.good.1.0 e h).own in
      let u : source_at Graph b.edges e + n.nodes < 256 ^ 4 = omega (arith, own.source, x.held.nodes, y.held.nodes) in
      let v : target_at Graph b.edges e + n.nodes < 256 ^ 4 = omega (arith, own.target, x.held.nodes, y.held.nodes) in (
        in_second 24 n.edges first_edges second_edges first_length e 4 8 (omega arith) ∙ source_moved m.edges b.edges e h n.nodes n.rows y.full.edges u ∙ add_comm _ _,
        in_second 24 n.edges first_edges second_edges first_length e 4 12 (omega arith) ∙ target_moved m.edges b.edges e h n.nodes n.rows y.full.edges v ∙ add_comm _ _,
      )

  -- ---- the rows are good

  good_node : Every (n.nodes + m.nodes) (GoodObject Graph (joined_numbers n m) (joined_body n a m b) sort.Nodes)
  good_node i h = go (dec_lt i n.nodes)
    where
      go : Dec (i < n.nodes) → GoodObject Graph (joined_numbers n m) (joined_body n a m b) sort.Nodes i
      go (yes l) = record { head = piece_head (piece_1 n a m b x y) x i l (omega arith) (omega arith); own = tt }
      go (no l) =
          let e : n.nodes + (i - n.nodes) ≡ i = omega arith in
          record { head = rw zero-add (rw e at (piece_head (piece_2 n a m b x y) y (i - n.nodes) (omega arith) (omega arith) (omega (arith, p_in n a m b x y)))); own = tt }

  good_edge : Every (n.edges + m.edges) (GoodObject Graph (joined_numbers n m) (joined_body n a m b) sort.Edges)
  good_edge i h = go (dec_lt i n.edges)
    where
      go : Dec (i < n.edges) → GoodObject Graph (joined_numbers n m) (joined_body n a m b) sort.Edges i
      go (yes l) =
          let g = (x.good.1.0 i l).own in
          let e = first_ends i l in
          record { head = piece_head (piece_3 n a m b x y) x i l (omega arith) (omega (arith, q_in n a m b x y)); own = record { source = rw e.0 (omega (arith, g.source)); target = rw e.1 (omega (arith, g.target)) } }
      go (no l) =
          let k = i - n.edges in
          let z : n.edges + k ≡ i = omega arith in
          let w : n.nodes + m.nodes + n.edges + k ≡ n.nodes + m.nodes + i = omega arith in
          let g = (y.good.1.0 k (omega arith)).own in
          let e = second_ends k (omega arith) in
          let s : source_at Graph (first_edges ++ second_edges) i ≡ n.nodes + source_at Graph b.edges k = rw z at e.0 in
          let t : target_at Graph (first_edges ++ second_edges) i ≡ n.nodes + target_at Graph b.edges k = rw z at e.1 in
          record { head = rw w at (piece_head (piece_4 n a m b x y) y k (omega arith) (omega arith) (omega arith)); own = record { source = rw s (omega (arith, g.source)); target = rw t (omega (arith, g.target)) } }

  good_row : Every (n.rows + m.rows) (GoodPropertyRow Graph (joined_numbers n m) (joined_body n a m b))
  good_row r h = go (dec_lt r (node_rows n a)) (dec_lt r (node_rows n a + node_rows m b)) (dec_lt r (n.rows + node_rows m b))
    where
      go : Dec (r < node_rows n a) → Dec (r < node_rows n a + node_rows m b) → Dec (r < n.rows + node_rows m b) → GoodPropertyRow Graph (joined_numbers n m) (joined_body n a m b) r
      go (yes d) e f =
          let u : r < start (heads Graph n a) (0 + n.nodes) = rw zero-add d in
          rw add-zero at (good_property (piece_1 n a m b x y) x r (rw start_none (omega arith)) u (omega (arith, p_in n a m b x y)))
      go (no d) (yes e) f =
          let z : r - node_rows n a + node_rows n a ≡ r = omega arith in
          let u : r - node_rows n a < start (heads Graph m b) (0 + m.nodes) = rw zero-add (omega arith) in
          rw z at (good_property (piece_2 n a m b x y) y (r - node_rows n a) (rw start_none (omega arith)) u (omega (arith, q_in n a m b x y)))
      go (no d) (no e) (yes f) =
          let z : r - node_rows m b + node_rows m b ≡ r = omega arith in
          let u : r - node_rows m b < start (heads Graph n a) (n.nodes + n.edges) = rw (all_first n a m b x y) (omega arith) in
          rw z at (good_property (piece_3 n a m b x y) x (r - node_rows m b) (omega arith) u (omega arith))
      go (no d) (no e) (no f) =
          let z : r - n.rows + n.rows ≡ r = omega (arith, q_in n a m b x y) in
          let u : r - n.rows < start (heads Graph m b) (m.nodes + m.edges) = rw (all_second n a m b x y) (omega arith) in
          rw z at (good_property (piece_4 n a m b x y) y (r - n.rows) (omega arith) u (omega arith))

  pub joined_good : Passed (row_refusals Graph (joined_numbers n m) (joined_body n a m b))
  joined_good = (good_node, (good_edge, (good_row, tt)))

  -- ---- the graph is the joined one

  first_node : (i : ℕ) → i < n.nodes → node_of (joined_body n a m b) i ≡ node_of a i
  first_node i h =
      let f = head_of_lem Graph (joined_numbers n m) (joined_body n a m b) sort.Nodes i (omega arith) in
      let g = head_of_lem Graph n a sort.Nodes i h in
      let e = rw (f, g) at (same_object (piece_1 n a m b x y) x i h) in
      ap (λ (o : meaning.Object). record { object = o }) e

  second_node : (i : ℕ) → i < m.nodes → node_of (joined_body n a m b) (n.nodes + i) ≡ node_of b i
  second_node i h =
      let f = rw zero-add at (head_of_lem Graph (joined_numbers n m) (joined_body n a m b) sort.Nodes (n.nodes + i) (omega arith)) in
      let g = head_of_lem Graph m b sort.Nodes i h in
      let e = rw (f, g) at (same_object (piece_2 n a m b x y) y i h) in
      ap (λ (o : meaning.Object). record { object = o }) e

  first_edge : (e : ℕ) → e < n.edges → edge_of (joined_body n a m b) e ≡ edge_of a e
  first_edge i h =
      let f = head_of_lem Graph (joined_numbers n m) (joined_body n a m b) sort.Edges i (omega arith) in
      let g = head_of_lem Graph n a sort.Edges i h in
      let e = rw (f, g) at (same_object (piece_3 n a m b x y) x i h) in
      rw (e, (first_ends i h).0, (first_ends i h).1) refl

  second_edge : (e : ℕ) → e < m.edges → edge_of (joined_body n a m b) (n.edges + e) ≡ moved n.nodes (edge_of b e)
  second_edge i h =
      let z : n.nodes + m.nodes + n.edges + i ≡ n.nodes + m.nodes + (n.edges + i) = omega arith in
      let f = head_of_lem Graph (joined_numbers n m) (joined_body n a m b) sort.Edges (n.edges + i) (omega arith) in
      let g = head_of_lem Graph m b sort.Edges i h in
      let e = rw (z, f, g) at (same_object (piece_4 n a m b x y) y i h) in
      rw (e, (second_ends i h).0, (second_ends i h).1) refl

  pub joined_graph : graph_of (joined_numbers n m) (joined_body n a m b) ≡ joined (graph_of n a) (graph_of m b)
  joined_graph =
      let nodes : rows (n.nodes + m.nodes) (node_of (joined_body n a m b)) ≡ rows n.nodes (node_of a) ++ rows m.nodes (node_of b) =
      rows_append n.nodes m.nodes (node_of (joined_body n a m b))
      ∙ ap₂ ◌++◌ (rows_same n.nodes _ _ first_node) (rows_same m.nodes _ _ second_node) in
      let edges : rows (n.edges + m.edges) (edge_of (joined_body n a m b)) ≡ rows n.edges (edge_of a) ++ map (moved (length (rows n.nodes (node_of a)))) (rows m.edges (edge_of b)) =
      rows_append n.edges m.edges (edge_of (joined_body n a m b))
      ∙ ap₂ ◌++◌ (rows_same n.edges _ _ first_edge) (rows_same m.edges _ _ second_edge ∙ rw (length_rows, map_rows) refl) in
      rw (nodes, edges) refl

-- ---- two accepted files

pub sound : (f : List ℕ) → FileAccepted Graph (ceilings Graph) f → Sound (numbers_of Graph f) (body_of Graph f)
sound f p = record { full = accepted_full Graph f (ceilings Graph) p; held = held Graph f (ceilings Graph) p; good = rows_good Graph f (ceilings Graph) p }

module _ (f g : List ℕ) (pf : FileAccepted Graph (ceilings Graph) f) (pg : FileAccepted Graph (ceilings Graph) g) where
  pub both_full : Full Graph (numbers_of_both f g) (joined_tables f g)
  both_full = joined_full _ _ _ _ (sound f pf) (sound g pg)

  -- the tables count as many rows as both files have
  pub both_numbers : numbers_for (joined_tables f g) (numbers_of_both f g).labels (numbers_of_both f g).names ≡ numbers_of_both f g
  both_numbers =
      let l = (located Graph f (ceilings Graph) pf).exact in
      let k = (located Graph g (ceilings Graph) pg).exact in
      counted_again (numbers_of_both f g) (joined_tables f g) both_full (omega arith)

  module _ (h : Held (ceilings Graph) (numbers_of_both f g)) where
    pub joined_writable : Writable (joined_tables f g) (numbers_of_both f g).labels (numbers_of_both f g).names
    joined_writable =
        let full = both_full in
        record {
          whole = record { nodes = omega (arith, full.nodes); edges = omega (arith, full.edges); rows = omega (arith, full.rows) };
          held = subst (Held (ceilings Graph)) (sym both_numbers) h;
          rows = rows_on Graph (sym both_numbers) refl (joined_good _ _ _ _ (sound f pf) (sound g pg));
        }

    -- the file is accepted, its graph is the joined one, and conforms exactly if both graphs do
    pub joined_file_lem : JoinedFile f g (joined_file f g)
    joined_file_lem =
        let v = same_values (joined_tables f g) (numbers_of_both f g).labels (numbers_of_both f g).names joined_writable in
        let e : graph_in (joined_file f g) ≡ joined (graph_in f) (graph_in g) =
        v.graph ∙ ap (λ (t : Trailer). graph_of t (joined_tables f g)) both_numbers ∙ joined_graph _ _ _ _ (sound f pf) (sound g pg) in
        let ends = ended _ _ (rows_good Graph f (ceilings Graph) pf) in
        record {
          first = pf;
          second = pg;
          accepted = v.accepted;
          graph = e;
          numbers = v.numbers ∙ both_numbers;
          violations = λ s p v. rw e (joined_violations (graph_in f) (graph_in g) _ ends v);
          told = λ s p a b. joined_all_told (graph_in f) (graph_in g) _ ends (rw e at a) b;
          conforms = λ s p. rw e (joined_conforms (graph_in f) (graph_in g) _ ends);
        }
