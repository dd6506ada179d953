-- `walk_through` goes through the nodes or the edges, and through their runs with them. The objects passed are good, and the walk stands before the next.
use Rattle.meaning.specs.Places.{Every}
use Rattle.layout.specs.Rows.{GoodObject}
use Rattle.layout.specs.Files.{body_in}
use Rattle.tables.specs.Inner.{Stands}
use Rattle.tables.proofs.walk_through.Given as goal

abbrev pub invariant-loop-i : goal.invariant-loop-i
invariant-loop-i l = Every l.i (GoodObject l.file l.n (body_in l.t) l.sort) × Stands l.file l.n (body_in l.t) l.sort l.i l.p
