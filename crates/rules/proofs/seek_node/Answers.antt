-- `seek_node`: the lowest node from where the search stands that is not placed is the next violation; where there is none, rule 1 is passed.
use mathlib.Core.Path.{refl, ap}
use native.Mathlib.Omega.{arith}
use Rattle.std.specs.Prelude.{Some}
use Rattle.layout.proofs.Accepted.{graph_nodes, schema_nodes}
use Rattle.parts.specs.Accepted.{graph_at, schema_at}
use Rattle.parts.proofs.Laws.{graph_good, schema_good}
use Rattle.rules.proofs.Sought.{node_found, nodes_passed}
use Rattle.rules.proofs.Standing.{behind_node, behind_nodes}
use Rattle.rules.proofs.seek_node.Goals as goal

pub place_nodes-requires : goal.place_nodes-requires
place_nodes-requires c = let a = c.requires.1.amid c.requires.0 in (rw graph_nodes at a.0, a.2)

pub tell_unfit-requires : goal.tell_unfit-requires
tell_unfit-requires c =
    let l = rw c.in-Some.is at c.place_nodes.ensures in
    (rw graph_nodes at l.found.below, λ j h f. l.found.holds.1 (j, rw schema_nodes h, f))

pub overflow_add-i : goal.overflow_add-i
overflow_add-i c =
    let l = rw c.in-Some.is at c.place_nodes.ensures in
    omega (arith, rw graph_nodes at l.found.below, (graph_good c.args.p.now).held.nodes)

pub labels_apart-requires : goal.labels_apart-requires
labels_apart-requires c = schema_good c.args.p.now

pub returns-in-Some : goal.returns-in-Some
returns-in-Some c =
    let G = graph_at c.args.p.now.graph in
    let S = schema_at c.args.p.now.schema in
    let l = rw c.in-Some.is at c.place_nodes.ensures in
    let here = c.requires.0 in
    rw c.onward_to.ensures
    record {
      sought = node_found G S c.args.from here (c.requires.1.amid here).1 l.found c.tell_unfit.ensures (ap Some c.numbers_of-told.ensures) (omega arith);
      stands_nodes = behind_node G S l.found.below (omega (arith, rw graph_nodes at l.found.below, (graph_good c.args.p.now).held.nodes)) l.found.holds.1 l.table (omega arith);
      known_of_nodes = record { before = λ r. refl; apart = λ r. absurd (omega (arith, r)); several = refl };
    }

pub returns-in-None : goal.returns-in-None
returns-in-None c =
    let G = graph_at c.args.p.now.graph in
    let S = schema_at c.args.p.now.schema in
    let l = rw c.in-None.is at c.place_nodes.ensures in
    rw c.onward_to-in-None.ensures
    record {
      sought = nodes_passed G S c.args.from c.requires.0 l.found refl (omega arith);
      stands_nodes = behind_nodes G S l.table (omega arith);
      known_of_nodes = record { before = λ r. absurd (omega (arith, r)); apart = λ r. c.labels_apart.ensures; several = refl };
    }
