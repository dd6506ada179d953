-- `seek_number`: the first wrong number from where the search stands is the next violation; where there is none, the rule is passed.
use mathlib.Core.Path.{refl, sym, ap}
use native.Mathlib.Omega.{arith}
use Rattle.std.specs.Prelude.{Some}
use Rattle.layout.specs.Ways.{way_of}
use Rattle.layout.proofs.Accepted.{graph_nodes, graph_edges}
use Rattle.parts.specs.Accepted.{graph_at, schema_at}
use Rattle.rules.proofs.Sought.{number_found, numbers_passed}
use Rattle.rules.proofs.Standing.{behind_number, behind_numbers}
use Rattle.rules.proofs.seek_number.Goals as goal

pub rule_numbers-requires : goal.rule_numbers-requires
rule_numbers-requires c =
    let a = c.requires.stands_numbers.amid (way_of c.way_of-way.result) (sym c.way_of-way.ensures) in
    record {
      kept = c.requires.kept.0;
      there = rw graph_nodes at a.1;
      several = rw graph_edges at (c.requires.stands_numbers.several c.requires.kept.1);
      counters = a.2;
    }

pub tell_number-requires : goal.tell_number-requires
tell_number-requires c =
    let f = rw c.in-Some.is at c.rule_numbers.ensures in
    f.numbers.violates

pub returns-in-Some : goal.returns-in-Some
returns-in-Some c =
    let G = graph_at c.args.p.now.graph in
    let S = schema_at c.args.p.now.schema in
    let f = rw c.in-Some.is at c.rule_numbers.ensures in
    let w = c.way_of-way in
    let x = f.numbers.violates in
    rw c.onward_to.ensures
    record {
      sought = (number_found G S c.args.from w.result w.ensures f.numbers c.tell_number.ensures (ap Some c.numbers_of-told.ensures) (omega (arith, w.ensures)), refl);
      stands_numbers_2 = behind_number G S (way_of w.result) x.schema_edge x.node f.counters (c.requires.stands_numbers.several c.requires.kept.1) (omega (arith, w.ensures));
    }

pub returns-in-None : goal.returns-in-None
returns-in-None c =
    let G = graph_at c.args.p.now.graph in
    let S = schema_at c.args.p.now.schema in
    let f = rw c.in-None.is at c.rule_numbers.ensures in
    let w = c.way_of-way in
    rw c.onward_to-in-None.ensures
    record {
      sought = (numbers_passed G S c.args.from w.result w.ensures f.numbers refl (omega (arith, w.ensures)), refl);
      stands_numbers_2 = behind_numbers G S (way_of w.result) f.counters (c.requires.stands_numbers.several c.requires.kept.1) (omega (arith, w.ensures));
    }
