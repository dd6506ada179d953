-- Joining by value: on the bench's graphs, by computation; with the empty graph, which adds nothing; and of three graphs, where it does not matter which two are joined first.
use mathlib.Core.Path.{◌≡◌, refl}
use mathlib.Core.List.{List, [], ◌∷◌, map, append-nil, append_assoc, map-append}
use Prim.Native.Nat.{ℕ, ◌+◌}
use native.Mathlib.Nat.{zero-add, add_assoc}
use lib.ListN.{length-append}
use Rattle.meaning.specs.Model.{Graph, Edge}
use Rattle.meaning.specs.Bench.{graph, OF, AT, sensor, run, angle, bare, edges_of_g, G}
use Rattle.meaning.specs.Join.{moved, joined, empty_graph}

-- ---- the bench's graph: a definition that swaps the two graphs or forgets a move has other values here

-- with itself: the second Run's edges end at the second's nodes
pub bench_twice :
    joined G G
    ≡ graph (sensor ∷ run ∷ angle ∷ angle ∷ sensor ∷ run ∷ angle ∷ angle ∷ [])
    (bare OF 1 0 ∷ bare AT 1 2 ∷ bare AT 1 3 ∷ bare OF 5 4 ∷ bare AT 5 6 ∷ bare AT 5 7 ∷ [])
bench_twice = refl

-- P11: a fifth node, an Angle, without edges
abbrev P11 : Graph
P11 = graph (sensor ∷ run ∷ angle ∷ angle ∷ angle ∷ []) edges_of_g

-- the first's nodes come first, and their number moves the second's ends
pub four_then_five :
    joined G P11
    ≡ graph (sensor ∷ run ∷ angle ∷ angle ∷ sensor ∷ run ∷ angle ∷ angle ∷ angle ∷ [])
    (bare OF 1 0 ∷ bare AT 1 2 ∷ bare AT 1 3 ∷ bare OF 5 4 ∷ bare AT 5 6 ∷ bare AT 5 7 ∷ [])
four_then_five = refl

-- ---- all graphs

-- with no nodes before their ends, edges stay as they are
pub moved_by_none : (es : List Edge) → map (moved 0) es ≡ es
moved_by_none [] = refl
moved_by_none (e ∷ es) = simp (zero-add, moved_by_none es)

-- edges moved twice are moved by the sum
moved_twice : (n m : ℕ) (es : List Edge) → map (moved n) (map (moved m) es) ≡ map (moved (n + m)) es
moved_twice n m [] = refl
moved_twice n m (e ∷ es) = simp (add_assoc, moved_twice n m es)

pub joined_empty_first : (H : Graph) → joined empty_graph H ≡ H
joined_empty_first H = rw (moved_by_none H.edges)

pub joined_empty_second : (G : Graph) → joined G empty_graph ≡ G
joined_empty_second G = simp append-nil

pub joined_associative : (G H K : Graph) → joined (joined G H) K ≡ joined G (joined H K)
joined_associative G H K = simp (append_assoc, map-append, moved_twice, length-append)
