-- All violations (02, Ask 6): "The list holds every violation exactly once, in 01's order."
use mathlib.Core.List.{List, [], ◌∷◌, Memᴰ}
use Rattle.meaning.specs.Model.{Graph, Schema}
use Rattle.meaning.specs.Violations.{Violation, ◌≼◌, Violates}
use Rattle.meaning.specs.Answer.{Answer, Told}

-- "in 01's order": each comes before those that follow it, so that none comes twice
abbrev pub Rising : List Violation → Type 0
Rising [] = Unit {0}
Rising (v ∷ l) = ((u : Violation) → Memᴰ u l → ¬ (u ≼ v)) × Rising l

-- the list of what is P: "every .. exactly once, in 01's order"
pub record Lists (P : Violation → Type 0) (l : List Violation) : Type 0 where
  pub are : (v : Violation) → Memᴰ v l → P v
  pub every : (v : Violation) → P v → Memᴰ v l
  pub in_order : Rising l

module _ (G : Graph) (S : Schema) where
  -- "each with code, place, schema place, count and property name": each violation is told as the answer tells the first one
  pub data EachTold : List Violation → List Answer → Type 0 where
    none : EachTold [] []
    one_more : {v : Violation} {a : Answer} {l : List Violation} {m : List Answer} → Told G S v a → EachTold l m → EachTold (v ∷ l) (a ∷ m)

  -- the list of all violations, as they are told
  pub record AllTold (m : List Answer) : Type 0 where
    pub violations : List Violation
    pub lists : Lists (Violates G S) violations
    pub told : EachTold violations m
