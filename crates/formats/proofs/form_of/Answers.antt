-- `form_of` gives each table's form.
use mathlib.Core.Path.{refl}
use Rattle.layout.specs.declared.File.TheVariants.{Graph, Schema}
use Rattle.layout.specs.declared.Sort.TheVariants.{Nodes, Edges}
use Rattle.formats.proofs.Laws.{inside}
use Rattle.formats.proofs.form_of.Goals as goal

pub returns-in-Nodes : goal.returns-in-Nodes
returns-in-Nodes c = rw (c.in-Graph.is, c.in-Nodes.is) (refl, inside Graph Nodes)

pub returns-in-Edges : goal.returns-in-Edges
returns-in-Edges c = rw (c.in-Graph.is, c.in-Edges.is) (refl, inside Graph Edges)

pub returns-in-Nodes-sort : goal.returns-in-Nodes-sort
returns-in-Nodes-sort c = rw (c.in-Schema.is, c.in-Nodes-sort.is) (refl, inside Schema Nodes)

pub returns-in-Edges-sort : goal.returns-in-Edges-sort
returns-in-Edges-sort c = rw (c.in-Schema.is, c.in-Edges-sort.is) (refl, inside Schema Edges)
