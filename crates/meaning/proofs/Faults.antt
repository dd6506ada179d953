-- The names at fault by a letter are those of the rows of which it does not hold; where it is broken, one of them is the lowest.
use mathlib.Core.Path.{◌≡◌, refl, sym, ◌∙◌}
use mathlib.Core.Bool.{Bool-discrete}
use mathlib.Core.Logic.{◌↔◌}
use Prim.Native.Nat.{ℕ, ◌<◌}
use lib.ListN.{length}
use Rattle.meaning.specs.Places.{Every, Some, Least}
use Rattle.meaning.specs.Model.{Object, Shape, property_at, listed_at}
use Rattle.meaning.specs.Fits.{PresentAt, AllPresent, ListedAt, AllListed, TypedAt, AllTyped, RecordFits}
use Rattle.meaning.specs.Answer.{Broken, not_present, not_listed, not_typed, Missing, Unlisted, Mistyped, Named, lowest_missing, lowest_unlisted, lowest_mistyped}
use Rattle.meaning.proofs.Decide.{dec_not, by_dec, Search, found, nowhere, search_below, least_below}
use Rattle.meaning.proofs.Decided.{dec_type, dec_present_at, dec_listed_at, dec_typed_at, dec_present, dec_listed, dec_typed, dec_missing, dec_unlisted, dec_mistyped}

-- n rows with names, of which a letter asks Right; At is what is said of the names at fault
pub record Faults (n : ℕ) (Right : ℕ → Type 0) (name_at : ℕ → ℕ) (At : ℕ → Type 0) : Type 0 where
  pub of_row : (i : ℕ) → i < n → ¬ Right i → At (name_at i)
  pub row_of : (x : ℕ) → At x → Some n (λ i. (name_at i ≡ x) × ¬ Right i)

-- where not every row is right, there is a lowest name at fault
unfoldable pub lowest_fault :
    {n : ℕ} {Right : ℕ → Type 0} {name_at : ℕ → ℕ} {At : ℕ → Type 0} → Faults n Right name_at At → ((i : ℕ) → Dec (Right i)) → ((x : ℕ) → Dec (At x)) → ¬ Every n Right
    → (x : ℕ) × Least At x
unfolding search_below least_below dec_not
lowest_fault {n} {Right} {name_at} {At} f d e h = go (search_below (λ i. dec_not (d i)) n)
  where
    go : Search n (λ i. ¬ Right i) → (x : ℕ) × Least At x
    go (found i l) = least_below e (name_at i) (f.of_row i l.below l.holds)
    go (nowhere g) = absurd (h (λ i l. by_dec (d i) (g i l)))

-- a letter is broken exactly if a name is at fault by it
fault_iff :
    {n : ℕ} {Right : ℕ → Type 0} {name_at : ℕ → ℕ} {At : ℕ → Type 0} → Faults n Right name_at At → ((i : ℕ) → Dec (Right i)) → ((x : ℕ) → Dec (At x))
    → (¬ Every n Right) ↔ ((x : ℕ) × At x)
fault_iff f d e = (λ h. let t = lowest_fault f d e h in (t.0, t.1.holds), λ t h. let r = f.row_of t.0 t.1 in r.2.1 (h r.0 r.1))

module _ (o : Object) (s : Shape) where
  unfoldable pub missing_faults : Faults (length s.listed) (PresentAt o s) (λ j. (listed_at s j).name) (Missing o s)
  missing_faults =
      record {
        of_row = λ j l h. record { mandatory = (j, l, (refl, by_dec (Bool-discrete _ _) (λ n. h (λ e. absurd (n e))))); absent = λ t. h (λ e. t) };
        row_of = λ x m. let t = m.mandatory in (t.0, t.1, (t.2.0, λ p. m.absent (rw t.2.0 at (p t.2.1))));
      }

  unfoldable pub unlisted_faults : Faults (length o.properties) (ListedAt o s) (λ i. (property_at o i).name) (Unlisted o s)
  unlisted_faults =
      record {
        of_row = λ i l h. record { present = (i, l, refl); closed = by_dec (Bool-discrete _ _) (λ n. h (λ e. absurd (n e))); unlisted = λ t. h (λ e. t) };
        row_of = λ x u. let t = u.present in (t.0, t.1, (t.2, λ p. u.unlisted (rw t.2 at (p u.closed))));
      }

  unfoldable pub mistyped_faults : Faults (length o.properties) (TypedAt o s) (λ i. (property_at o i).name) (Mistyped o s)
  mistyped_faults =
      record {
        of_row = λ i l h.
            by_dec (dec_mistyped o s _)
            (λ n. h (λ j b e. by_dec (dec_type _ _) (λ t. n (record { present = (i, l, refl); listed = (j, b, sym e); other = t }))));
        row_of = λ x m. (m.present.0, m.present.1, (m.present.2, λ p. m.other (p m.listed.0 m.listed.1 (m.present.2 ∙ sym m.listed.2))));
      }

  -- a record that does not fit has a first letter that is broken, and a lowest name at fault by it
  unfoldable pub broken : ¬ RecordFits o s → (k : ℕ) × (x : ℕ) × Broken o s k × Named o s k x
  unfolding dec_present dec_listed dec_typed dec_present_at dec_listed_at dec_typed_at dec_missing dec_unlisted dec_mistyped lowest_fault missing_faults unlisted_faults mistyped_faults
  broken h = go (dec_present o s) (dec_listed o s) (dec_typed o s)
    where
      go : Dec (AllPresent o s) → Dec (AllListed o s) → Dec (AllTyped o s) → (k : ℕ) × (x : ℕ) × Broken o s k × Named o s k x
      go (no b) c d = let t = lowest_fault missing_faults (dec_present_at o s) (dec_missing o s) b in (_, t.0, not_present b, lowest_missing t.1)
      go (yes b) (no c) d = let t = lowest_fault unlisted_faults (dec_listed_at o s) (dec_unlisted o s) c in (_, t.0, not_listed b c, lowest_unlisted t.1)
      go (yes b) (yes c) (no d) = let t = lowest_fault mistyped_faults (dec_typed_at o s) (dec_mistyped o s) d in (_, t.0, not_typed b c d, lowest_mistyped t.1)
      go (yes b) (yes c) (yes d) = absurd (h (record { present = b; listed = c; typed = d }))

  -- Ask 2's words are 01's letters: (b), (c), (d) hold exactly if no name is missing, unlisted, wrongly typed
  pub missing_iff : (¬ AllPresent o s) ↔ ((x : ℕ) × Missing o s x)
  missing_iff = fault_iff missing_faults (dec_present_at o s) (dec_missing o s)

  pub unlisted_iff : (¬ AllListed o s) ↔ ((x : ℕ) × Unlisted o s x)
  unlisted_iff = fault_iff unlisted_faults (dec_listed_at o s) (dec_unlisted o s)

  pub mistyped_iff : (¬ AllTyped o s) ↔ ((x : ℕ) × Mistyped o s x)
  mistyped_iff = fault_iff mistyped_faults (dec_typed_at o s) (dec_mistyped o s)
