-- `object_fits` says whether an object fits a schema object, by the record test on their runs.
use Rattle.layout.specs.Files.{body_in}
use Rattle.fitting.proofs.Laws.{sound, object_is, shape_is, runs}
use Rattle.fitting.proofs.object_fits.Goals as goal

pub fits-requires : goal.fits-requires
fits-requires c =
    rw (c.graph_head.ensures, c.schema_head.ensures)
    (runs (sound c.args.p.now) c.args.sort c.args.i c.args.j c.requires.0 c.requires.1)

pub returns : goal.returns
returns c =
    rw (object_is c.args.p.now.graph.numbers (body_in c.args.p.now.graph.bytes) c.args.sort c.args.i c.requires.0, shape_is c.args.p.now.schema.numbers (body_in c.args.p.now.schema.bytes) c.args.sort c.args.j c.requires.1)
    (rw (c.graph_head.ensures, c.schema_head.ensures, c.open_at-opens.ensures) at c.fits.ensures)
