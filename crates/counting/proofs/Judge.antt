-- Laws of judging with no branch: a sum over the nodes is 0 exactly if each number is within the interval.
use mathlib.Core.Path.{◌≡◌, refl}
use mathlib.Core.Logic.{◌↔◌}
use mathlib.Core.List.{List}
use Prim.Native.Nat.{ℕ, ◌+◌, ◌/◌, ◌%◌, ◌^◌, ◌≤◌}
use native.Mathlib.Omega.{arith}
use lib.ListN.{get_or}
use borrow.Author.Count.{below_more}
use Rattle.meaning.specs.Fits.{HasLabel}
use Rattle.meaning.specs.Model.{Interval}
use Rattle.meaning.specs.Rules.{Within}
use Rattle.counting.specs.Passes.{AllWithin}

-- a node's part in the sum is one at most, and it is nothing exactly if the node owes no number or has one that is within
abbrev pub Adds : ℕ → ℕ → Type 0 → ℕ → Type 0
Adds mask end W part = (part ≤ 1) × ((part ≡ 0) ↔ (HasLabel mask end → W))

module _ (mask end : ℕ) {W : Type 0} where
  pub adds_none : W → Adds mask end W 0
  adds_none w = (omega arith, (λ _ _. w, λ _. refl))

  pub adds_bit : ¬ W → Adds mask end W (mask / 2 ^ end % 2)
  adds_bit n = (omega arith, (λ e h. absurd (omega arith), λ f. let x : ¬ HasLabel mask end = λ h. n (f h) in omega arith))

module _ (end : ℕ) (i : Interval) (masks counts : List ℕ) (from : ℕ) where
  pub one_judged :
      {sum part v : ℕ} → from ≤ v → Adds (get_or masks v 0) end (Within (get_or counts v 0) i) part → (sum ≡ 0) ↔ AllWithin end i masks counts from v
      → (sum + part ≡ 0) ↔ AllWithin end i masks counts from (v + 1)
  one_judged {sum} {part} {v} a p j = (
    λ e. below_more _ _ (j.0 (omega arith)) (λ _. p.1.0 (omega arith)),
    λ f.
        let x = j.1 (λ k h. f k (omega arith)) in
        let y = p.1.1 (f v (omega arith) a) in
        omega arith,
  )
