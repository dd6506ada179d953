-- `all_within` adds up the bits of the nodes whose numbers are not within the interval: the sum is 0 exactly if there is none.
use mathlib.Core.Path.{◌≡◌}
use mathlib.Core.Logic.{◌↔◌}
use Prim.Native.Nat.{◌+◌, ◌≤◌}
use Rattle.layout.specs.Schema.{interval_of}
use Rattle.counting.specs.Passes.{AllWithin}
use Rattle.counting.proofs.all_within.Given as goal

abbrev pub invariant-loop-v : goal.invariant-loop-v
invariant-loop-v l = (l.from + l.wrong ≤ l.v) × ((l.wrong ≡ 0) ↔ AllWithin l.near (interval_of l.least l.most) l.masks l.counts l.from l.v)
