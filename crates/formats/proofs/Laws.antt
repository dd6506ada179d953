-- Every form has its fields inside the row.
use mathlib.Core.Path.{refl}
use mathlib.Core.Logic.{inl, inr}
use native.Mathlib.Omega.{arith}
use Rattle.layout.specs.declared.File.{File}
use Rattle.layout.specs.declared.File.TheVariants.{Graph, Schema}
use Rattle.layout.specs.declared.Sort.{Sort}
use Rattle.layout.specs.declared.Sort.TheVariants.{Nodes, Edges}
use Rattle.layout.specs.Files.{form}
use Rattle.formats.specs.Inside.{Inside}

-- in every form the fields lie inside the row
pub inside : (F : File) (o : Sort) → Inside (form F o)
inside Graph Nodes = record { labels_first = omega arith; counted_last = omega arith; two_or_four = inr refl }
inside Graph Edges = record { labels_first = omega arith; counted_last = omega arith; two_or_four = inr refl }
inside Schema Nodes = record { labels_first = omega arith; counted_last = omega arith; two_or_four = inl refl }
inside Schema Edges = record { labels_first = omega arith; counted_last = omega arith; two_or_four = inl refl }
