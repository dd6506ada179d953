-- `next`: refused files have nothing to find, and in accepted ones the rules go on.
use mathlib.Core.Path.{refl, ap, ◌∙◌}
use Rattle.std.specs.Prelude.{Ok}
use Rattle.faults.specs.Finders.{accepted}
use Rattle.faults.proofs.Laws.{not_on, on_from, graph_accepted, schema_accepted, pair_accepted, stands_on}
use Rattle.faults.proofs.next.Goals as goal

pub new-g-requires : goal.new-g-requires
new-g-requires c = graph_accepted c.requires c.in-Ok.is

pub new-s-requires : goal.new-s-requires
new-s-requires c = schema_accepted c.requires c.in-Ok.is

pub next-onward-requires : goal.next-onward-requires
next-onward-requires c = stands_on c.requires c.in-Ok.is c.new-g.ensures c.new-s.ensures c.new.ensures

pub returns-in_default-clause-goes : goal.returns-in_default-clause-goes
returns-in_default-clause-goes c = not_on c.requires c.in_default.is

pub returns : goal.returns
returns c =
    let x = pair_accepted c.requires c.in-Ok.is c.new-g.ensures c.new-s.ensures c.new.ensures in
    let e = ap Ok (on_from c.requires _ c.in-Ok.is).0 in
    record {
      goes = accepted (c.in-Ok.is ∙ e) (rw (x.graph_says, x.schema_says) at c.next-onward.ensures.next_found) refl;
      finder_stands = accepted x (c.in-Ok.is ∙ e) c.next-onward.ensures.stands;
    }
