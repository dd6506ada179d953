-- `sizes_of` gives the bytes of each table. A body under the ceilings is small, so that no product wraps.
use mathlib.Core.Path.{refl}
use Rattle.reader.proofs.Laws.{few_bytes}
use Rattle.reader.proofs.sizes_of.Goals as goal

pub returns : goal.returns
returns c =
    rw (c.form_of.ensures.0, c.form_of-2.ensures.0, c.row_width.ensures.0)
    (record { nodes = refl; edges = refl; rows = refl; text = refl; few = few_bytes c.args.file c.args.n c.requires })
