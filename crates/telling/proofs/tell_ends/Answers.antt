-- `tell_ends` tells of the ends of an edge, at the lowest schema edge that it fits.
use Rattle.fitting.proofs.Laws.{sound}
use Rattle.telling.proofs.Laws.{tell_25_source, tell_25_target}
use Rattle.telling.proofs.tell_ends.Goals.{then-source_fits, else-source_fits}
use Rattle.telling.proofs.tell_ends.Goals as goal

pub returns : goal.returns
returns c =
    elim c.if-source_fits.branch [
      | then-source_fits w ↦ rw w.misfit-is (tell_25_target (sound c.args.p.now) c.args.e c.args.s c.requires.lowest (rw w.if-source_fits.true at c.end_fits-source_fits.ensures))
      | else-source_fits w ↦ rw w.misfit-is (tell_25_source (sound c.args.p.now) c.args.e c.args.s c.requires.lowest (rw w.if-source_fits.false at c.end_fits-source_fits.ensures))
    ]
