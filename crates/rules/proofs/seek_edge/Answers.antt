-- `seek_edge`: the lowest edge from where the search stands that is not placed is the next violation; where there is none, rule 2 is passed.
use mathlib.Core.Path.{refl, ap}
use native.Mathlib.Omega.{arith}
use Rattle.std.specs.Prelude.{Some}
use Rattle.layout.specs.Files.{body_in}
use Rattle.layout.proofs.Accepted.{graph_edges}
use Rattle.parts.specs.Accepted.{graph_at, schema_at}
use Rattle.parts.proofs.Laws.{graph_good}
use Rattle.rules.proofs.Sought.{edge_found, edges_passed}
use Rattle.rules.proofs.Standing.{behind_edge, behind_edges}
use Rattle.rules.proofs.seek_edge.Goals as goal

pub place_edges-requires : goal.place_edges-requires
place_edges-requires c =
    let a = c.requires.2.amid c.requires.1 in
    record { masked = (c.requires.0, c.requires.2.apart (omega (arith, c.requires.1))); from_le_edges = (rw graph_edges at a.0, a.2) }

pub tell_edge-requires : goal.tell_edge-requires
tell_edge-requires c =
    let l = rw c.in-Some.is at c.place_edges.ensures in
    (c.requires.0, rw graph_edges at l.found.below)

pub overflow_add-e : goal.overflow_add-e
overflow_add-e c =
    let l = rw c.in-Some.is at c.place_edges.ensures in
    omega (arith, rw graph_edges at l.found.below, (graph_good c.args.p.now).held.edges)

pub some_several-several-requires : goal.some_several-several-requires
some_several-several-requires c = (graph_good c.args.p.now).held.edges

pub returns-in-Some : goal.returns-in-Some
returns-in-Some c =
    let G = graph_at c.args.p.now.graph in
    let S = schema_at c.args.p.now.schema in
    let l = rw c.in-Some.is at c.place_edges.ensures in
    let here = c.requires.1 in
    rw c.onward_to.ensures
    record {
      sought = edge_found G S c.args.from here (c.requires.2.amid here).1 l.found c.tell_edge.ensures (ap Some c.numbers_of-told.ensures) (omega arith);
      stands_edges = behind_edge G S l.found.below (omega (arith, rw graph_edges at l.found.below, (graph_good c.args.p.now).held.edges)) l.found.holds.1 l.table
          (c.requires.2.apart (omega (arith, here))) (omega arith);
      known_of_edges = record { before = λ r. refl; several = λ r. absurd (omega (arith, r)) };
    }

pub returns-in-None : goal.returns-in-None
returns-in-None c =
    let G = graph_at c.args.p.now.graph in
    let S = schema_at c.args.p.now.schema in
    let l = rw c.in-None.is at c.place_edges.ensures in
    rw c.onward_to-in-None.ensures
    record {
      sought = edges_passed G S c.args.from c.requires.1 l.found refl (omega arith);
      stands_edges = behind_edges G S l.table (c.requires.2.apart (omega (arith, c.requires.1))) (omega arith);
      known_of_edges = record { before = λ r. absurd (omega (arith, r)); several = λ r. rw (graph_edges c.args.p.now.graph.numbers (body_in c.args.p.now.graph.bytes)) c.some_several-several.ensures };
    }
