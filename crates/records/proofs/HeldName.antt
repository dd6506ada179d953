-- The lowest name at fault so far, for either letter: what is known of it when one row more is passed, and at the end.
use mathlib.Core.Path.{◌≡◌, refl, sym, ap, ◌∙◌}
use mathlib.Core.Logic.{◌≢◌}
use mathlib.Core.Bool.{true, not}
use Prim.Native.Nat.{ℕ, ◌+◌, ◌≤◌, ◌<◌}
use native.Mathlib.Decide.{dec_lt}
use native.Mathlib.Omega.{arith}
use borrow.Author.Count.{below_more}
use borrow.Author.Tests.{eqb-false, not-true, ne_eqb}
use lib.Dec.{eqb}
use Rattle.std.specs.Prelude.{Option, Some, None}
use Rattle.std.proofs.lemmas.Option.{none-some, same_Some}
use Rattle.meaning.specs.Places.{Every, Lowest}
use Rattle.records.specs.Walk.{Keeps, kept, new}

-- of the rows before i the lowest one at fault is held by its name, and none where none is at fault
pub data Held (name : ℕ → ℕ) (Fault : ℕ → Type 0) (i : ℕ) (c : Option ℕ) : Type 0 where
  none : Every i (λ k. ¬ Fault k) → c ≡ None → Held name Fault i c
  lowest : (k : ℕ) → Lowest i Fault k → c ≡ Some (name k) → Held name Fault i c

lowest_of_more : {i n : ℕ} {P : ℕ → Type 0} {k : ℕ} → Lowest i P k → i ≤ n → Lowest n P k
lowest_of_more l h = record { below = omega (arith, l.below); holds = l.holds; before = l.before }

-- the same fault in other words
pub keeps_as : {c : Option ℕ} {x : ℕ} {F G : Type 0} {r : Option ℕ} → Keeps c x F r → (F → G) → (G → F) → Keeps c x G r
keeps_as (kept g e) f t = kept (λ q. g (t q)) e
keeps_as (new p g e) f t = new (f p) g e

-- a fault that is found by comparing two numbers
pub keeps_other : {c : Option ℕ} {x : ℕ} {r : Option ℕ} (m n : ℕ) → Keeps c x (not (eqb m n) ≡ true) r → Keeps c x (m ≢ n) r
keeps_other m n k = keeps_as k (λ p. eqb-false m n (not-true (eqb m n) p)) (λ h. ap not (ne_eqb m n h))

module _ {name : ℕ → ℕ} {P : ℕ → Type 0} where
  pub none_held : Held name P 0 None
  none_held = none (λ k l. absurd (omega arith)) refl

  -- the row ahead is passed, and judged
  pub held_more :
      {i : ℕ} {c : Option ℕ} {x : ℕ} {r : Option ℕ} {F : Type 0} → Held name P i c → Keeps c x F r → x ≡ name i → (F → P i) → (¬ F → ¬ P i)
      → Held name P (i + 1) r
  held_more {i} (none a z) (kept g e) q f t = none (below_more (λ k. ¬ P k) i a (t (λ p. g p z))) (e ∙ z)
  held_more {i} (none a z) (new p g e) q f t = lowest i (record { below = omega arith; holds = f p; before = a }) (e ∙ ap Some q)
  held_more (lowest k l z) (kept g e) q f t = lowest k (lowest_of_more l (omega arith)) (e ∙ z)
  held_more (lowest k l z) (new p g e) q f t = absurd (none-some _ (sym g ∙ z))

  pub held_none_more : {i : ℕ} {c : Option ℕ} → Held name P i c → ¬ P i → Held name P (i + 1) c
  held_none_more {i} (none a z) n = none (below_more (λ k. ¬ P k) i a n) z
  held_none_more (lowest k l z) n = lowest k (lowest_of_more l (omega arith)) z

  -- no row is ahead, or it is not at fault
  pub held_same : {i : ℕ} {c : Option ℕ} {x : ℕ} {r : Option ℕ} {F : Type 0} → Held name P i c → Keeps c x F r → ¬ F → Held name P i r
  held_same h (kept g e) f = rw e h
  held_same h (new p g e) f = absurd (f p)

  -- no row that is left is at fault, or one that is passed was
  pub held_rest : {i n : ℕ} {c : Option ℕ} → Held name P i c → i ≤ n → ((k : ℕ) → i ≤ k → k < n → ¬ P k) → Held name P n c
  held_rest {i} {n} (none a z) h f = none (λ k l. go k l (dec_lt k i)) z
    where
      go : (k : ℕ) → k < n → Dec (k < i) → ¬ P k
      go k l (yes q) = a k q
      go k l (no q) = f k (omega arith) l
  held_rest (lowest k l z) h f = lowest k (lowest_of_more l h) z

  pub held_found : {i n : ℕ} {c : Option ℕ} {k : ℕ} → Held name P i c → k < i → P k → i ≤ n → Held name P n c
  held_found {k = k} (none a z) l p h = absurd (a k l p)
  held_found (lowest k l z) q p h = lowest k (lowest_of_more l h) z

  -- what is held at the end
  pub held_name : {n : ℕ} {c : Option ℕ} {x : ℕ} → Held name P n c → c ≡ Some x → (k : ℕ) × Lowest n P k × (x ≡ name k)
  held_name (none a z) u = absurd (none-some _ (sym z ∙ u))
  held_name (lowest k l z) u = (k, l, same_Some _ _ (sym u ∙ z))

  pub held_none : {n : ℕ} {c : Option ℕ} → Held name P n c → c ≡ None → Every n (λ k. ¬ P k)
  held_none (none a z) u = a
  held_none (lowest k l z) u = absurd (none-some _ (sym u ∙ z))
