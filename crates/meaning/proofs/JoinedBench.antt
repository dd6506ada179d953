-- The answers of joined bench graphs, by computation: the fault is that of 01's example, at its new place.
use mathlib.Core.List.{List, [], ◌∷◌}
use Rattle.meaning.specs.Model.{Graph}
use Rattle.meaning.specs.Bench.{node_of, Angle, OF, AT, degrees, S, bare, G, with_node3, with_edges, Case, case, Hold}
use Rattle.meaning.specs.Join.{joined}
use Rattle.meaning.proofs.Answered.{answered}

-- node 3 without coefficient: 22 3 2 1 4
abbrev P4 : Graph
P4 = with_node3 (node_of Angle (degrees ∷ []))

-- edge 1 ends at node 0: 25 1 1 2 0
abbrev P8 : Graph
P8 = with_edges (bare OF 1 0 ∷ bare AT 1 0 ∷ bare AT 1 3 ∷ [])

-- edge 2 left out: 31 1 1 1 0
abbrev P9 : Graph
P9 = with_edges (bare OF 1 0 ∷ bare AT 1 2 ∷ [])

abbrev pub benches : List Case
benches =
    case (joined G G) S 0 0 0 0 0
    -- behind four nodes, and behind none
    ∷ case (joined G P4) S 22 7 2 1 4
    ∷ case (joined P4 G) S 22 3 2 1 4
    -- behind three edges
    ∷ case (joined G P8) S 25 4 1 2 0
    -- the first Run's two AT edges are not counted at the second's
    ∷ case (joined G P9) S 31 5 1 1 0 ∷ []

pub benches_hold : Hold benches
unfolding answered
benches_hold = ((answered _ _).1, ((answered _ _).1, ((answered _ _).1, ((answered _ _).1, ((answered _ _).1, tt)))))
