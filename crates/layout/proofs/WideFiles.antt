-- The two files of wide numbers, computed from their bytes.
use mathlib.Core.Path.{◌≡◌, refl}
use mathlib.Core.List.{List, [], ◌∷◌, map}
use Prim.Native.Nat.{ℕ}
use lib.ListN.{set}
use lib.Ieee.{of_bits}
use Rattle.little.specs.Little.{little}
use Rattle.meaning.specs.Bench.{graph}
use Rattle.layout.specs.declared.File.{File}
use Rattle.layout.specs.declared.File.TheVariants.{Graph, Schema}
use Rattle.layout.specs.Tables.{rows}
use Rattle.layout.specs.Files.{ceilings}
use Rattle.layout.specs.Runs.{start}
use Rattle.layout.specs.Value.{signed}
use Rattle.layout.specs.Refusals.{FileAccepted}
use Rattle.layout.specs.Checked.{graph_in, schema_in}
use Rattle.layout.specs.WideFiles.{wide_schema, wide_graph, wide_types, wide_nodes, wide_edges, Spoilt, EachRefused, schema_spoilt, graph_spoilt, WideFiles}
use Rattle.layout.proofs.Refusing.{refusal, is_passed, is_refused}
use Rattle.layout.proofs.OneResult.{result}

schema_accepted : FileAccepted Schema (ceilings Schema) wide_schema
unfolding result little start rows
schema_accepted = is_passed (result Schema (ceilings Schema) wide_schema) refl

graph_accepted : FileAccepted Graph (ceilings Graph) wide_graph
unfolding result little start rows
graph_accepted = is_passed (result Graph (ceilings Graph) wide_graph) refl

schema_says : schema_in wide_schema ≡ wide_types
unfolding little rows
schema_says = refl

graph_says : graph_in wide_graph ≡ graph wide_nodes wide_edges
unfolding little rows signed of_bits
graph_says = refl

-- ---- 1 in one byte

module _ (F : File) (f : List ℕ) where
  -- the refusal that is computed, and the one that is owed
  abbrev told : Spoilt → List ℕ
  told r = refusal (result F (ceilings F) (set f r.byte 1))

  abbrev owed : Spoilt → List ℕ
  owed r = r.code ∷ r.place ∷ []

  each_refused : (rs : List Spoilt) → map told rs ≡ map owed rs → EachRefused F f rs
  each_refused [] e = tt
  each_refused (r ∷ rs) e =
      let h : told r ≡ owed r = cc in
      let t : map told rs ≡ map owed rs = cc in
      (is_refused {c = r.code} {k = r.place} (result F (ceilings F) (set f r.byte 1)) h, each_refused rs t)

schema_refused : EachRefused Schema wide_schema schema_spoilt
unfolding result little start rows
schema_refused = each_refused Schema wide_schema schema_spoilt refl

graph_refused : EachRefused Graph wide_graph graph_spoilt
unfolding result little start rows
graph_refused = each_refused Graph wide_graph graph_spoilt refl

pub wide_files : WideFiles
wide_files =
    record {
      schema_accepted = schema_accepted;
      schema_says = schema_says;
      graph_accepted = graph_accepted;
      graph_says = graph_says;
      schema_refused = schema_refused;
      graph_refused = graph_refused;
    }
