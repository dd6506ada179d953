-- What the joiner promises (02, Ask 7).
use Rattle.std.specs.Prelude.{List, [], ◌∷◌, ◌++◌, map, ℕ, ◌+◌, ◌≤◌, ◌≡◌, length}
use Rattle.meaning.specs.Places.{Every}
use Rattle.layout.specs.declared.File.TheVariants.{Graph}
use Rattle.layout.specs.Files.{ceilings}
use Rattle.layout.specs.Refusals.{Refusal, each, once, refusals, Held}
use Rattle.writer.specs.declared.Outcome.{Outcome}
use Rattle.writer.specs.Outcome.{Leaves}
use Rattle.join.specs.Joined.{numbers_of_both, joined_file}

-- a refusal of file k, told with k for its place: "returned with 0 or 1 for which"
abbrev pub which : ℕ → Refusal → Refusal
which k l = each l.code (k + 1) (λ i. i ≡ k → Every l.rows l.Good)

-- "2 to 8" for a graph
abbrev pub of_graph : ℕ → List ℕ → List Refusal
of_graph k f = map (which k) (refusals Graph (ceilings Graph) f)

module _ (f g : List ℕ) where
  -- "44 if a joined count is above its ceiling; 42"
  abbrev pub own_refusals : List ℕ → List Refusal
  own_refusals out =
      once 44 (Held (ceilings Graph) (numbers_of_both f g))
      ∷ once 42 (length (joined_file f g) ≤ length out)
      ∷ []

  -- "Refusals: 2 to 8 for the first graph, then for the second, returned with 0 or 1 for which; 44 ..; 42."
  abbrev pub join_refusals : List ℕ → List Refusal
  join_refusals out = of_graph 0 f ++ (of_graph 1 g ++ own_refusals out)

  -- what is returned, and what the output holds afterwards
  abbrev pub Joins : List ℕ → Outcome → List ℕ → Type 0
  Joins out = Leaves (join_refusals out) (joined_file f g) out
