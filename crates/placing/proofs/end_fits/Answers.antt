-- `end_fits` says whether an edge's end fits a schema edge's end, by the mask of the node there.
use native.Mathlib.Omega.{arith}
use Rattle.little.proofs.Promise.{says_as}
use Rattle.layout.specs.Ways.{way_of}
use Rattle.fitting.proofs.Laws.{sound}
use Rattle.placing.proofs.Ends.{near_below, schema_near_below, end_iff}
use Rattle.placing.proofs.end_fits.Goals as goal

pub bounds-masks-node : goal.bounds-masks-node
bounds-masks-node c =
    let r = sound c.args.p.now in
    omega (arith, near_below r (way_of c.args.way) c.args.e c.requires.1, c.near-node.ensures, r.nodes)

pub has-requires : goal.has-requires
has-requires c =
    let r = sound c.args.p.now in
    omega (arith, schema_near_below r (way_of c.args.way) c.args.s c.requires.2, c.schema_near-shape.ensures, r.schema_nodes)

pub returns : goal.returns
returns c =
    let fits = end_iff (sound c.args.p.now) (way_of c.args.way) c.args.masks.now c.requires.0 c.args.e c.args.s c.requires.1 c.requires.2 in
    says_as c.has.result fits.0 fits.1 (rw (c.near-node.ensures, c.schema_near-shape.ensures) at c.has.ensures)
