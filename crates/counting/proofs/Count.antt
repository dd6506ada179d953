-- Laws of counting in one pass: what one more element does to a number, and to counters of which each counts its own.
use mathlib.Core.Path.{◌≡◌, refl, sym, ◌∙◌}
use mathlib.Core.List.{List, [], ◌∷◌, ◌++◌}
use Prim.Native.Nat.{ℕ, suc, ◌+◌, ◌≤◌, ◌<◌}
use native.Mathlib.Decide.{ℕ_discrete}
use native.Mathlib.Numerals.{add-one}
use native.Mathlib.Omega.{arith}
use lib.ListN.{length, take, get_or, set, length-set}
use lib.Seq.{take-suc, take_all, length-take-le, get_or-set_same, get_or-set_other}
use Rattle.meaning.specs.Places.{Every}
use Rattle.meaning.specs.Counted.{Counted, none, counts, counts_not}
use Rattle.meaning.specs.Model.{Graph, Schema, no_edge, edge_at}
use Rattle.meaning.specs.Rules.{Way}
use Rattle.layout.specs.Files.{most_nodes}
use Rattle.placing.specs.PlacedEdges.{PlacedAt}
use Rattle.counting.specs.Passes.{CountedTo}
use Rattle.counting.specs.Numbers.{AllZero, PlacedHere, CountersTo}

module _ {A : Type 0} {P : A → Type 0} where
  after_hit : {xs : List A} {k : ℕ} (x : A) → P x → Counted P xs k → Counted P (xs ++ (x ∷ [])) (suc k)
  after_hit x p none = counts p none
  after_hit x p (counts q c) = counts q (after_hit x p c)
  after_hit x p (counts_not h c) = counts_not h (after_hit x p c)

  after_miss : {xs : List A} {k : ℕ} (x : A) → ¬ P x → Counted P xs k → Counted P (xs ++ (x ∷ [])) k
  after_miss x n none = counts_not n none
  after_miss x n (counts q c) = counts q (after_miss x n c)
  after_miss x n (counts_not h c) = counts_not h (after_miss x n c)

  -- one element more, which counts or does not
  pub one_hit : (xs : List A) (i : ℕ) (z : A) {k : ℕ} → i < length xs → P (get_or xs i z) → Counted P (take i xs) k → Counted P (take (i + 1) xs) (k + 1)
  one_hit xs i z {k} h p c = rw (add-one i, add-one k, take-suc xs i z h) (after_hit (get_or xs i z) p c)

  pub one_miss : (xs : List A) (i : ℕ) (z : A) {k : ℕ} → i < length xs → ¬ P (get_or xs i z) → Counted P (take i xs) k → Counted P (take (i + 1) xs) k
  one_miss xs i z h p c = rw (add-one i, take-suc xs i z h) (after_miss (get_or xs i z) p c)

  pub at_most : {xs : List A} {k : ℕ} → Counted P xs k → k ≤ length xs
  at_most none = omega arith
  at_most (counts p c) = let l = at_most c in omega arith
  at_most (counts_not h c) = let l = at_most c in omega arith

  -- where none counts, the number is 0
  pub none_counts : (z : A) {xs : List A} {k : ℕ} → Every (length xs) (λ i. ¬ P (get_or xs i z)) → Counted P xs k → k ≡ 0
  none_counts z f none = refl
  none_counts z f (counts p c) = absurd (f 0 (omega arith) p)
  none_counts z f (counts_not h c) = none_counts z (λ i l. f (suc i) (omega arith)) c

  -- no number is above the elements passed
  pub at_most_passed : (xs : List A) (i : ℕ) {k : ℕ} → i ≤ length xs → Counted P (take i xs) k → k ≤ i
  at_most_passed xs i h c = let l = at_most c in omega (arith, length-take-le i xs h)

-- counters that have counted the edges before e
module _ (G : Graph) (S : Schema) (w : Way) (s : ℕ) where
  pub none_looked_at : {cs : List ℕ} → AllZero cs → CountedTo G S w s 0 cs
  none_looked_at z = record { sized = z.sized; counted = λ v h. rw (z.zero v h) none }

  module _ (e : ℕ) (h : e < length G.edges) {cs : List ℕ} (c : CountedTo G S w s e cs) where
    -- the next edge counts at one counter
    pub edge_hit : (u : ℕ) → u < most_nodes → PlacedHere G S w s u (edge_at G e) → CountedTo G S w s (e + 1) (set cs u (get_or cs u 0 + 1))
    edge_hit u l p = record { sized = simp length-set c.sized; counted = λ v k. go v k (ℕ_discrete u v) }
      where
        go : (v : ℕ) → v < most_nodes → Dec (u ≡ v) → Counted (PlacedHere G S w s v) (take (e + 1) G.edges) (get_or (set cs u (get_or cs u 0 + 1)) v 0)
        go v k (yes x) = let y = c.sized in rw (← x, get_or-set_same cs u (get_or cs u 0 + 1) 0 (omega arith)) (one_hit G.edges e no_edge h p (c.counted u l))
        go v k (no x) = rw (get_or-set_other cs u v _ 0 (λ y. x (sym y))) (one_miss G.edges e no_edge h (λ q. x (sym p.here ∙ q.here)) (c.counted v k))

    -- the next edge counts at none
    pub edge_miss : ¬ PlacedAt G S e s → CountedTo G S w s (e + 1) cs
    edge_miss n = record { sized = c.sized; counted = λ v k. one_miss G.edges e no_edge h (λ q. n q.placed) (c.counted v k) }

  pub all_looked_at : {cs : List ℕ} → CountedTo G S w s (length G.edges) cs → CountersTo G S w s 0 cs
  all_looked_at c = record { sized = c.sized; passed = λ v h. absurd (omega arith); ahead = λ v h g. rw (take_all (length G.edges) G.edges (omega arith)) at (c.counted v g) }
