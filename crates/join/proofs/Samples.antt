-- The bytes of joined files, computed.
use mathlib.Core.Path.{◌≡◌, refl, subst}
use mathlib.Core.List.{List, ◌++◌}
use Prim.Native.Nat.{ℕ, ◌≤◌}
use native.Mathlib.Omega.{arith}
use lib.ListN.{length, drop}
use lib.Ieee.{of_bits}
use Rattle.little.specs.Little.{little}
use Rattle.meaning.specs.Bench.{graph, edges_of_g}
use Rattle.layout.specs.declared.File.TheVariants.{Graph}
use Rattle.layout.specs.Tables.{rows}
use Rattle.layout.specs.Files.{ceilings, numbers_of}
use Rattle.layout.specs.Refusals.{Held}
use Rattle.layout.specs.Runs.{start}
use Rattle.layout.specs.Value.{signed}
use Rattle.layout.specs.Checked.{graph_in}
use Rattle.layout.specs.BenchFiles.{graph_file, bench_nodes}
use Rattle.layout.specs.WideFiles.{wide_graph, wide_nodes, wide_edges}
use Rattle.layout.proofs.BenchFiles.{bench_files}
use Rattle.layout.proofs.WideFiles.{wide_files}
use Rattle.writer.specs.Outcome.{outcome}
use Rattle.join.specs.Joined.{numbers_of_both, joined_file}
use Rattle.join.specs.Joins.{Joins}
use Rattle.join.proofs.Owed.{joined_owed}
use Rattle.join.specs.Samples.{first_wide, wide_first, noted_graph, noted_twice, wide_behind, bench_behind, Samples}

first_wide_lem : joined_file graph_file wide_graph ≡ first_wide
unfolding little start rows
first_wide_lem = refl

wide_first_lem : joined_file wide_graph graph_file ≡ wide_first
unfolding little start rows
wide_first_lem = refl

noted_twice_lem : joined_file noted_graph noted_graph ≡ noted_twice
unfolding little start rows
noted_twice_lem = refl

held : Held (ceilings Graph) (numbers_of_both graph_file wide_graph)
unfolding little
held = record { nodes = omega arith; edges = omega arith; rows = omega arith; text = omega arith; labels = omega arith; names = omega arith }

-- these two files and an output that has room are owed the joined one: 0 and its length, with the bytes behind it as they were
pub owed : (out : List ℕ) → 736 ≤ length out → Joins graph_file wide_graph out (outcome 0 736) (first_wide ++ drop 736 out)
owed out fits = subst (λ (x : List ℕ). Joins graph_file wide_graph out (outcome 0 (length x)) (x ++ drop (length x) out)) first_wide_lem (joined_owed graph_file wide_graph out bench_files.graph_accepted wide_files.graph_accepted held (rw first_wide_lem fits))

numbers : numbers_of_both graph_file wide_graph ≡ numbers_of Graph first_wide
unfolding little
numbers = refl

first_wide_says : graph_in first_wide ≡ graph (bench_nodes ++ wide_nodes) (edges_of_g ++ wide_behind)
unfolding little rows signed of_bits
first_wide_says = refl

wide_first_says : graph_in wide_first ≡ graph (wide_nodes ++ bench_nodes) (wide_edges ++ bench_behind)
unfolding little rows signed of_bits
wide_first_says = refl

pub samples : Samples
unfolding little
samples =
    record {
      first_wide_lem = first_wide_lem;
      wide_first_lem = wide_first_lem;
      noted_twice_lem = noted_twice_lem;
      numbers = numbers;
      first_wide_says = first_wide_says;
      wide_first_says = wide_first_says;
      node_width = refl;
      edge_width = refl;
      row_width = refl;
    }
