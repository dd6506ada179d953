-- What the functions are given that put the four tables of a joined file, and that these are all of it.
use mathlib.Core.Path.{◌≡◌, sym, ap, ◌∙◌}
use mathlib.Core.List.{List}
use Prim.Native.Nat.{ℕ, ◌+◌, ◌*◌, ◌≤◌}
use native.Mathlib.Omega.{arith}
use lib.ListN.{length, length-append}
use Rattle.little.specs.Little.{written}
use Rattle.layout.specs.declared.File.TheVariants.{Graph}
use Rattle.layout.specs.declared.Trailer.{Trailer}
use Rattle.layout.specs.Files.{Body, ceilings, body_in}
use Rattle.writer.specs.GraphFile.{tables}
use Rattle.writer.proofs.Laws.{then, put_tables}
use Rattle.writer.proofs.LentTables.{tables_size}
use Rattle.join.specs.declared.Moving.TheVariants.{Nodes, Edges, Rows}
use Rattle.join.specs.declared.graphs.Graphs.{Graphs}
use Rattle.join.specs.Joined.{node_rows}
use Rattle.join.specs.Inner.{moved_table, RoomIn, Sound, joined_at, RoomAt}
use Rattle.join.proofs.TableMoved.{length_table}
use Rattle.join.proofs.FourPieces.{p_in, q_in, joined_full}
use Rattle.join.proofs.Rooms.{first_sound, second_sound, node_room, edge_room, row_room}

module _ (g : Graphs) where
  abbrev n : Trailer
  n = g.first.numbers

  abbrev a : Body
  a = body_in g.first.bytes

  abbrev m : Trailer
  m = g.second.numbers

  abbrev b : Body
  b = body_in g.second.bytes

  x : Sound n a
  x = first_sound g

  y : Sound m b
  y = second_sound g

  -- ---- the counts of property rows that are the nodes' are small

  pub first_few : {p : ℕ} → p ≡ node_rows n a → p ≤ (ceilings Graph).rows
  first_few e = rw e (omega (arith, p_in n a m b x y, x.held.rows))

  pub second_few : {q : ℕ} → q ≡ node_rows m b → q ≤ (ceilings Graph).rows
  second_few e = rw e (omega (arith, q_in n a m b x y, y.held.rows))

  -- ---- what each table is given

  pub nodes_ready :
      {p k : ℕ} → p ≤ (ceilings Graph).rows → length (joined_at g).nodes ≤ k
      → (length b.nodes ≡ 16 * m.nodes) × (0 + length a.nodes + length b.nodes ≤ k) × RoomIn (Nodes p) m.nodes b.nodes
  nodes_ready few fits =
      let f = joined_full n a m b x y in
      (y.full.nodes, omega (arith, f.nodes, x.full.nodes, y.full.nodes), node_room m b y _ few)

  module _ (at : ℕ) (out : List ℕ) (fits : RoomAt at (joined_at g).edges out) where
    pub first_edges_ready : {q : ℕ} → q ≡ node_rows m b → (length a.edges ≡ 24 * n.edges) × (at + length a.edges ≤ length out) × RoomIn (Edges 0 q) n.edges a.edges
    first_edges_ready e =
        let f = joined_full n a m b x y in
        (x.full.edges, omega (arith, f.edges, x.full.edges), edge_room n a x 0 _ (omega arith) (second_few e))

    pub second_edges_ready : (length b.edges ≡ 24 * m.edges) × (at + length a.edges + length b.edges ≤ length out) × RoomIn (Edges n.nodes n.rows) m.edges b.edges
    second_edges_ready =
        let f = joined_full n a m b x y in
        (y.full.edges, omega (arith, f.edges, x.full.edges, y.full.edges), edge_room m b y n.nodes n.rows x.held.nodes x.held.rows)

  pub edges_put :
      (at : ℕ) {q : ℕ} → q ≡ node_rows m b → (s t u : List ℕ) → t ≡ written s at (moved_table (Edges 0 q) n.edges a.edges)
      → u ≡ written t (at + length a.edges) (moved_table (Edges n.nodes n.rows) m.edges b.edges) → u ≡ written s at (joined_at g).edges
  edges_put at {q} e s t u f h =
      let l : length a.edges ≡ length (moved_table (Edges 0 (node_rows m b)) n.edges a.edges) = x.full.edges ∙ sym (length_table (Edges 0 (node_rows m b)) n.edges a.edges x.full.edges) in
      then s t u at (moved_table (Edges 0 (node_rows m b)) n.edges a.edges) (moved_table (Edges n.nodes n.rows) m.edges b.edges) (rw e at f) (rw l at h)

  pub rows_fit : (at : ℕ) (out : List ℕ) → RoomAt at (joined_at g).rows out → at + length a.rows + length b.rows ≤ length out
  rows_fit at out fits = let f = joined_full n a m b x y in omega (arith, f.rows, x.full.rows, y.full.rows)

  pub first_rows : {p : ℕ} → p ≡ node_rows n a → 16 * p ≤ length a.rows
  first_rows e = rw e (omega (arith, p_in n a m b x y, x.full.rows))

  pub second_rows : {q : ℕ} → q ≡ node_rows m b → q ≤ m.rows
  second_rows e = rw e (q_in n a m b x y)

  pub text_room : RoomIn (Rows n.text) m.rows b.rows
  text_room = row_room m b y n.text x.held.text

  pub texts_fit : (at : ℕ) (out : List ℕ) → RoomAt at (joined_at g).text out → at + length a.text + length b.text ≤ length out
  texts_fit at out fits = omega (arith, length-append a.text b.text)

  -- ---- where each table stands

  nodes_end : length a.nodes + length b.nodes ≡ length (joined_at g).nodes
  nodes_end = let f = joined_full n a m b x y in omega (arith, f.nodes, x.full.nodes, y.full.nodes)

  edges_end : length a.edges + length b.edges ≡ length (joined_at g).edges
  edges_end = let f = joined_full n a m b x y in omega (arith, f.edges, x.full.edges, y.full.edges)

  rows_end : length a.rows + length b.rows ≡ length (joined_at g).rows
  rows_end = let f = joined_full n a m b x y in omega (arith, f.rows, x.full.rows, y.full.rows)

  -- where each table ends, the next has room
  module _ (out : List ℕ) (fits : RoomAt 0 (tables (joined_at g)) out) where
    whole : length (joined_at g).nodes + length (joined_at g).edges + length (joined_at g).rows + length (joined_at g).text ≤ length out
    whole = omega (arith, tables_size (joined_at g), fits)

    pub nodes_fit : length (joined_at g).nodes ≤ length out
    nodes_fit = omega (arith, whole)

    pub edges_fit : RoomAt (length a.nodes + length b.nodes) (joined_at g).edges out
    edges_fit = omega (arith, whole, nodes_end)

    pub properties_fit : RoomAt (length a.nodes + length b.nodes + length a.edges + length b.edges) (joined_at g).rows out
    properties_fit = omega (arith, whole, nodes_end, edges_end)

    pub text_fits : RoomAt (length a.nodes + length b.nodes + length a.edges + length b.edges + length a.rows + length b.rows) (joined_at g).text out
    text_fits = omega (arith, whole, nodes_end, edges_end, rows_end)

  pub all_put :
      (s t u v w : List ℕ) → t ≡ written s 0 (joined_at g).nodes → u ≡ written t (length a.nodes + length b.nodes) (joined_at g).edges
      → v ≡ written u (length a.nodes + length b.nodes + length a.edges + length b.edges) (joined_at g).rows
      → w ≡ written v (length a.nodes + length b.nodes + length a.edges + length b.edges + length a.rows + length b.rows) (joined_at g).text
      → w ≡ written s 0 (tables (joined_at g))
  all_put s t u v w e f h k =
      let at_edges = nodes_end in
      let at_rows : length a.nodes + length b.nodes + length a.edges + length b.edges ≡ length (joined_at g).nodes + length (joined_at g).edges = omega (arith, nodes_end, edges_end) in
      let at_text :
      length a.nodes + length b.nodes + length a.edges + length b.edges + length a.rows + length b.rows
      ≡ length (joined_at g).nodes + length (joined_at g).edges + length (joined_at g).rows =
      omega (arith, nodes_end, edges_end, rows_end) in
      put_tables (joined_at g).nodes (joined_at g).edges (joined_at g).rows (joined_at g).text s t u v w e (f ∙ ap (λ i. written t i (joined_at g).edges) at_edges)
      (h ∙ ap (λ i. written u i (joined_at g).rows) at_rows) (k ∙ ap (λ i. written v i (joined_at g).text) at_text)
