-- The objects of a file are its nodes and then its edges: what stands at each place.
use mathlib.Core.Path.{◌≡◌, ◌∙◌}
use Prim.Native.Nat.{ℕ, ◌+◌, ◌<◌}
use native.Mathlib.Nat.{zero-add}
use native.Mathlib.Omega.{arith}
use lib.ListN.{length, length-append, get_or-append}
use lib.Seq.{get_or-append-add}
use Rattle.layout.specs.declared.File.{File}
use Rattle.layout.specs.declared.Sort.{Sort}
use Rattle.layout.specs.declared.Sort.TheVariants.{Nodes, Edges}
use Rattle.layout.specs.declared.Trailer.{Trailer}
use Rattle.layout.specs.Tables.{rows}
use Rattle.layout.specs.Files.{form, Body}
use Rattle.layout.specs.Runs.{head_at, no_head, head_in, heads}
use Rattle.layout.specs.Rows.{count_of, table_of, first_of}
use Rattle.layout.proofs.RowsOf.{length_rows, get_d_rows}

module _ (F : File) (n : Trailer) (b : Body) where
  pub length_heads : length (heads F n b) ≡ n.nodes + n.edges
  length_heads = rw (length-append, length_rows, length_rows)

  pub head_of_lem : (o : Sort) (i : ℕ) → i < count_of F n b o → head_in (heads F n b) (first_of F n b o + i) ≡ head_at (form F o) (table_of F n b o) i
  head_of_lem Nodes i h =
      let ns = rows n.nodes (head_at (form F Nodes) b.nodes) in
      let l : i < length ns = rw length_rows h in
      rw zero-add (get_or-append ns (rows n.edges (head_at (form F Edges) b.edges)) no_head i l ∙ get_d_rows n.nodes _ no_head i h)
  head_of_lem Edges i h =
      let k = get_or-append-add (rows n.nodes (head_at (form F Nodes) b.nodes)) (rows n.edges (head_at (form F Edges) b.edges)) i no_head in
      (rw length_rows at k) ∙ get_d_rows n.edges _ no_head i h

  -- every object is a node or an edge
  pub object_below : (o : Sort) (i : ℕ) → i < count_of F n b o → first_of F n b o + i < length (heads F n b)
  object_below Nodes i h = rw length_heads (omega arith)
  object_below Edges i h = rw length_heads (omega arith)
