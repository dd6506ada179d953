-- Searches for a label set, made stretch by stretch or again behind what was found.
use mathlib.Core.Path.{◌≡◌}
use Prim.Native.Nat.{ℕ, ◌≤◌, ◌<◌}
use native.Mathlib.Decide.{dec_lt}
use native.Mathlib.Omega.{arith}
use Rattle.meaning.specs.Places.{Every, Lowest}
use Rattle.meaning.specs.Model.{Shape}
use Rattle.meaning.specs.Fits.{SameLabels}
use Rattle.layout.specs.declared.File.TheVariants as file
use Rattle.std.specs.Prelude.{true, Option, Some, None, is_some}
use Rattle.std.proofs.lemmas.Bool.{false≢true}
use Rattle.layout.specs.declared.Sort.{Sort}
use Rattle.layout.specs.declared.Trailer.{Trailer}
use Rattle.layout.specs.Files.{of, form, Body}
use Rattle.layout.specs.Runs.{head_at}
use Rattle.layout.specs.Search.{Seeks, From}
use Rattle.layout.specs.Graph.{graph_of}
use Rattle.fitting.specs.Objects.{object_in}
use Rattle.fitting.proofs.Laws.{object_is}

-- what asks for P, and is nowhere before j, is nowhere where P is nowhere from j on
module _ {P Q : ℕ → Type 0} {j : ℕ} (asks : (k : ℕ) → Q k → P k) (f : Every j (λ k. ¬ Q k)) where
  pub none_behind : {n : ℕ} → Every n (λ k. ¬ From j P k) → Every n (λ k. ¬ Q k)
  none_behind g i h q = by (dec_lt i j)
    where
      by : Dec (i < j) → ⊥
      by (yes l) = f i l q
      by (no l) = g i h (omega arith, asks i q)

-- what a search finds where it goes on is what it finds from its start on
pub goes_on : {P : ℕ → Type 0} {from j : ℕ} → from ≤ j → Every j (λ k. ¬ From from P k) → (r : Option ℕ) (n : ℕ) → Seeks r n (From j P) → Seeks r n (From from P)
goes_on h f (Some k) n l = let a = l.holds.0 in record { below = l.below; holds = (omega arith, l.holds.1); before = none_behind (λ i q. q.1) f l.before }
goes_on h f None n g = none_behind (λ i q. q.1) f g

-- and what is found in a part is found in the whole
pub found_in_part : {P : ℕ → Type 0} {m n k : ℕ} → m ≤ n → Lowest m P k → Lowest n P k
found_in_part h l = let b = l.below in record { below = omega arith; holds = l.holds; before = l.before }

pub found_sooner : (P : ℕ → Type 0) (r : Option ℕ) (m n : ℕ) → m ≤ n → is_some r ≡ true → Seeks r m P → Seeks r n P
found_sooner P (Some k) m n h e x = found_in_part h x
found_sooner P None m n h e x = absurd (false≢true e)

pub to_the_end : (P : ℕ → Type 0) (r : Option ℕ) (m n : ℕ) → m ≡ n → Seeks r m P → Seeks r n P
to_the_end P r m n e x = rw (← e) x

-- a search for the label set of a head is one for that of its object
pub labels_sought :
    (n : Trailer) (b : Body) (o : Sort) (i : ℕ) → i < of o n.nodes n.edges → (r : Option ℕ) (k from : ℕ) (shapes : ℕ → Shape)
    → Seeks r k (From from (λ j. (head_at (form file.Graph o) (of o b.nodes b.edges) i).labels ≡ (shapes j).labels))
    → Seeks r k (From from (λ j. SameLabels (object_in (graph_of n b) o i) (shapes j)))
unfolding SameLabels
labels_sought n b o i h r k from shapes x = rw (object_is n b o i h) x
