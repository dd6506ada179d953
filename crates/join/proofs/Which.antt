-- Laws of a graph's table of refusals, told with which graph it is, and what is tried behind it.
use mathlib.Core.Path.{refl}
use mathlib.Core.List.{List, [], ◌∷◌, ◌++◌, map}
use Prim.Native.Nat.{ℕ}
use native.Mathlib.Omega.{arith}
use Rattle.layout.specs.Refusals.{Refusal, here, later, RefusedBy, Passed}
use Rattle.join.specs.Joins.{which}

-- a refusal of file k comes with k
pub told : (k : ℕ) (ls ms : List Refusal) (x r : ℕ) → RefusedBy ls x r → RefusedBy (map (which k) ls ++ ms) x k
told k [] ms x r h = absurd h
told k (l ∷ ls) ms x r (here e b) = here e (record { below = omega arith; holds = λ g. b.holds (g refl r b.below); before = λ i h n. n (λ z. absurd (omega arith)) })
told k (l ∷ ls) ms x r (later h f) = later (λ i m z. h) (told k ls ms x r f)

pub past : (k : ℕ) (ls ms : List Refusal) (x r : ℕ) → Passed ls → RefusedBy ms x r → RefusedBy (map (which k) ls ++ ms) x r
past k [] ms x r p h = h
past k (l ∷ ls) ms x r p h = later (λ i m z. p.0) (past k ls ms x r p.1 h)

pub all_past : (k : ℕ) (ls ms : List Refusal) → Passed ls → Passed ms → Passed (map (which k) ls ++ ms)
all_past k [] ms p q = q
all_past k (l ∷ ls) ms p q = (λ i m z. p.0, all_past k ls ms p.1 q)

-- each file has passed its own table
pub apart : (k : ℕ) (ls ms : List Refusal) → Passed (map (which k) ls ++ ms) → Passed ls × Passed ms
apart k [] ms p = (tt, p)
apart k (l ∷ ls) ms p = let r = apart k ls ms p.1 in ((p.0 k (omega arith) refl, r.0), r.1)
