-- What `open`, `next`, `listed_by`, `check_rows` and `check_rows_small` promise has one answer, and so have the arrays and the rows that are lent.
use mathlib.Core.Path.{◌≡◌, refl, sym, ap, ◌∙◌}
use mathlib.Core.List.{List, [], ◌∷◌, map}
use Prim.Native.Nat.{ℕ}
use lib.ListN.{length}
use Rattle.std.specs.Prelude.{Ok, Err}
use Rattle.little.specs.Promise.{Only}
use Rattle.little.proofs.Promise.{equal_one}
use Rattle.meaning.specs.Answer.{Answer, answer}
use Rattle.layout.specs.declared.File.TheVariants.{Graph, Schema}
use Rattle.layout.specs.declared.Ceilings.{Ceilings}
use Rattle.layout.specs.declared.Refusal.{Refusal}
use Rattle.layout.specs.Files.{ceilings, small_ceilings}
use Rattle.layout.specs.Refusals.{FileAccepted}
use Rattle.layout.specs.AllAnswers.{filled}
use Rattle.layout.proofs.AllAnswers.{all_answers_one}
use Rattle.parts.specs.declared.pair.Pair.{Pair}
use Rattle.reader.specs.Pair.{AcceptedPair, RefusedPair}
use Rattle.reader.proofs.Answers.{read_pair_one}
use Rattle.rules.specs.Onward.{IsFresh, Stands}
use Rattle.rules.proofs.Answers as rules
use Rattle.rules.proofs.Answers.{fresh_one}
use Rattle.faults.specs.declared.Finder.{Finder}
use Rattle.faults.specs.declared.Listed.{Listed}
use Rattle.faults.specs.Lists.{listed_by, row_of, ListsAll}
use Rattle.faults.specs.Finders.{tables_in, new_finder, Opens, FinderStands, onward_in, Goes, refused, accepted}
use Rattle.faults.proofs.Laws.{not_accepted, some_pair, stands_alike}

-- ---- the list, in whatever form it has its records

listed_same : (r p : Listed) → r.code ≡ p.code → r.place ≡ p.place → r.total ≡ p.total → r ≡ p
listed_same r p a b c = λ i. record { code = a i; place = b i; total = c i }

module _ {A : Type 0} (form : Answer → A) (c d : Ceilings) (g s : List ℕ) (before : List A) where
  pub lists_all_one :
      (r p : Listed) (after last : List A) → ListsAll form c d g s before r after → ListsAll form c d g s before p last → (r ≡ p) × (after ≡ last)
  lists_all_one r p after last x y =
      let e = all_answers_one c d g s x.owed y.owed in
      let n : r.total ≡ p.total = x.total ∙ ap length e.2 ∙ sym y.total in
      (listed_same r p e.0 e.1 n, x.list ∙ ap (λ l. filled (map form l) before) e.2 ∙ sym y.list)

module _ (g s : List ℕ) (before : List (List ℕ)) where
  pub check_rows_one :
      (r p : Listed) (after last : List (List ℕ)) → ListsAll row_of (ceilings Graph) (ceilings Schema) g s before r after → ListsAll row_of (ceilings Graph) (ceilings Schema) g s before p last
      → (r ≡ p) × (after ≡ last)
  check_rows_one = lists_all_one row_of (ceilings Graph) (ceilings Schema) g s before

  pub check_rows_small_one :
      (r p : Listed) (after last : List (List ℕ)) → ListsAll row_of (small_ceilings Graph) (small_ceilings Schema) g s before r after
      → ListsAll row_of (small_ceilings Graph) (small_ceilings Schema) g s before p last → (r ≡ p) × (after ≡ last)
  check_rows_small_one = lists_all_one row_of (small_ceilings Graph) (small_ceilings Schema) g s before

pub listed_by_one : (f : Finder) (n : ℕ) → Only (λ (r : Listed). r ≡ listed_by f.files n)
listed_by_one f n = equal_one _

-- ---- a search

-- refused files are not accepted
not_refused : {g s : List ℕ} {r : Refusal} → RefusedPair g s r → FileAccepted Graph (ceilings Graph) g → FileAccepted Schema (ceilings Schema) s → ⊥
not_refused {g} {s} {r} p h i = read_pair_one g s (Ok (some_pair h i).0) (Err r) (some_pair h i).1 p

pub open_one : (g s : List ℕ) → Only (Opens g s)
open_one g s _ _ (refused p) (refused q) = ap (λ r. new_finder (Err r)) (read_pair_one g s (Err _) (Err _) p q)
open_one g s _ _ (refused p) (accepted h i) = absurd (not_refused p h i)
open_one g s _ _ (accepted h i) (refused p) = absurd (not_refused p h i)
open_one g s _ _ (accepted h i) (accepted j k) = refl

-- masks, places and counters of a search in refused files
still_fresh : {g s m p c : List ℕ} {f : Finder} {r : Refusal} → FinderStands g s m p c f → f.files ≡ Err r → IsFresh m p c
still_fresh (refused p e x) n = x
still_fresh (accepted a e x) n = absurd (not_accepted n e)

-- and in accepted ones
still_on : {g s m p c : List ℕ} {f : Finder} → FinderStands g s m p c f → f.files ≡ Ok (tables_in g s) → (x : Pair) × AcceptedPair x g s × Stands x m p c f.search
still_on (refused p e x) n = absurd (not_accepted (ap (λ i. i.files) e) n)
still_on (accepted {x} a e y) n = (x, a, y)

onward_same : (x y : Finder) → onward_in x ≡ onward_in y → x.files ≡ y.files → x ≡ y
onward_same x y o a = λ i. record { found = (o i).found; search = (o i).search; files = a i }

module _ (g s : List ℕ) (f x y : Finder) (m n p q c d : List ℕ) where
  pub next_one : Goes g s f x → FinderStands g s m p c x → Goes g s f y → FinderStands g s n q d y → (x ≡ y) × (m ≡ n) × (p ≡ q) × (c ≡ d)
  next_one (refused r e h) v (refused r₂ e₂ h₂) w =
      let o = fresh_one (still_fresh v (ap (λ i. i.files) (h ∙ e))) (still_fresh w (ap (λ i. i.files) (h₂ ∙ e))) in
      (h ∙ sym h₂, o.0, o.1, o.2)
  next_one (refused r e h) v (accepted z o t) w = absurd (not_accepted (ap (λ i. i.files) e) z)
  next_one (accepted z o t) v (refused r e h) w = absurd (not_accepted (ap (λ i. i.files) e) z)
  next_one (accepted z o t) v (accepted z₂ o₂ t₂) w =
      let a = still_on v (t ∙ z) in
      let b = still_on w (t₂ ∙ z₂) in
      let P = a.0 in
      let h = a.1.graph_says in
      let k = a.1.schema_says in
      let e = rules.next_one P f.search (onward_in x) (onward_in y) m n p q c d (rw (h, k) o) a.2 (rw (h, k) o₂) (stands_alike a.1 b.1 b.2) in
      (onward_same x y e.0 (t ∙ sym t₂), e.1, e.2, e.3)

-- The numbers of a row, in Ask 6's order. Definition and code could change two of them alike, and keep every other promise: this refuses it.
pub row_numbers : (c p s n x : ℕ) → row_of (answer c p s n x) ≡ c ∷ p ∷ s ∷ n ∷ x ∷ []
row_numbers c p s n x = refl
