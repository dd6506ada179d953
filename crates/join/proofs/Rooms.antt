-- What is known of the tables of two accepted files: how many property rows are the nodes', and that moved numbers stay in their bytes.
use mathlib.Core.Path.{◌≡◌, refl, sym, ap, ◌∙◌}
use Prim.Native.Nat.{ℕ, ◌+◌, ◌≤◌, ◌<◌}
use native.Mathlib.Nat.{add-zero}
use native.Mathlib.Omega.{arith}
use lib.ListN.{length}
use Rattle.layout.specs.declared.File.TheVariants.{Graph}
use Rattle.layout.specs.declared.Sort.TheVariants as sort
use Rattle.layout.specs.declared.Trailer.{Trailer}
use Rattle.layout.specs.declared.Head.{Head}
use Rattle.layout.specs.Files.{Body, form, ceilings, body_in}
use Rattle.layout.specs.Runs.{head_at, heads}
use Rattle.layout.proofs.Heads.{length_heads, head_of_lem}
use Rattle.layout.proofs.Values.{tests_of}
use Rattle.layout.proofs.Accepted.{good_object, good_row, run_inside}
use Rattle.parts.specs.declared.FileTables.{FileTables}
use Rattle.parts.specs.Accepted.{Good}
use Rattle.parts.proofs.Laws.{good_for}
use Rattle.join.specs.declared.graphs.Graphs.{Graphs}
use Rattle.join.specs.declared.Moving.TheVariants.{Nodes, Edges, Rows}
use Rattle.join.specs.Inner.{RoomIn, Sound}
use Rattle.join.specs.Joined.{node_rows}
use Rattle.join.proofs.TableMoved.{row_number}
use Rattle.join.proofs.RunsMoved.{all_rows}

pub sound_of : {x : FileTables} → Good Graph x → Sound x.numbers (body_in x.bytes)
sound_of g = record { full = g.full; held = g.held; good = g.rows }

-- both of the graphs that are joined
module _ (g : Graphs) where
  pub first_good : Good Graph g.first
  first_good = good_for Graph g.first g.first_good

  pub second_good : Good Graph g.second
  second_good = good_for Graph g.second g.second_good

  pub first_sound : Sound g.first.numbers (body_in g.first.bytes)
  first_sound = sound_of first_good

  pub second_sound : Sound g.second.numbers (body_in g.second.bytes)
  second_sound = sound_of second_good

-- without an edge, all rows are the nodes'
pub all_nodes : (n : Trailer) (b : Body) → Sound n b → n.edges ≡ 0 → n.rows ≡ node_rows n b
all_nodes n b s e =
    let l : length (heads Graph n b) ≡ n.nodes = length_heads Graph n b ∙ ap (λ x. n.nodes + x) e ∙ add-zero n.nodes in
    sym (rw l at (all_rows Graph n b s.good))

-- else the first edge's run starts behind them
pub first_edge : (n : Trailer) (b : Body) → Sound n b → 0 < n.edges → {h : Head} → h ≡ head_at (form Graph sort.Edges) b.edges 0 → h.first ≡ node_rows n b
first_edge n b s z {h} e =
    let g = (good_object Graph n b s.good sort.Edges 0 z).head.begins in
    let f = ap (λ (x : Head). x.first) (head_of_lem Graph n b sort.Edges 0 z) in
    ap (λ (x : Head). x.first) e ∙ sym f ∙ g ∙ rw add-zero refl

-- ---- the numbers that are moved stay in their bytes

module _ (n : Trailer) (b : Body) (s : Sound n b) where
  pub node_room : (d : ℕ) → d ≤ (ceilings Graph).rows → RoomIn (Nodes d) n.nodes b.nodes
  node_room d h i l = rw (row_number 16 b.nodes i 4 8 (omega arith)) (omega (arith, run_inside Graph n b s.good sort.Nodes i l, s.held.rows))

  pub edge_room : (c d : ℕ) → c ≤ (ceilings Graph).nodes → d ≤ (ceilings Graph).rows → RoomIn (Edges c d) n.edges b.edges
  edge_room c d k h i l =
      let r = run_inside Graph n b s.good sort.Edges i l in
      let e = (s.good.1.0 i l).own in
      let a = row_number 24 b.edges i 4 8 (omega arith) in
      let b' = row_number 24 b.edges i 4 12 (omega arith) in
      let c' = row_number 24 b.edges i 4 16 (omega arith) in
      (omega (arith, e.source, s.held.nodes), omega (arith, e.target, s.held.nodes), omega (arith, r, s.held.rows))

  pub row_room : (d : ℕ) → d ≤ (ceilings Graph).text → RoomIn (Rows d) n.rows b.rows
  row_room d h i l k =
      let e = row_number 16 b.rows i 1 2 (omega arith) in
      let f = row_number 16 b.rows i 8 8 (omega arith) in
      let t = (tests_of (good_row Graph n b s.good i l).good.own.value.1).text (sym e ∙ k) in
      omega (arith, s.held.text, s.full.text)
