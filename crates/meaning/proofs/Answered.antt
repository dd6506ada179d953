-- Every graph and schema have an answer: it is found, with the proof that it is one.
use Prim.Native.Nat.{ℕ}
use native.Mathlib.Decide.{dec_lt}
use native.Mathlib.Omega.{arith}
use lib.ListN.{length}
use Rattle.meaning.specs.Places.{Every, Lowest}
use Rattle.meaning.specs.Model.{Graph, Schema, Interval, node_in, edge_at, schema_node_in, schema_edge_at}
use Rattle.meaning.specs.Rules.{Within, Way, NodePlaced, Right, across}
use Rattle.meaning.specs.Violations.{Violation, node, edge, number, Violates}
use Rattle.meaning.specs.Answer.{Answer, TooFew, TooMany, NodeLabelled, EdgeLabelled, EdgeFits, SourceFits, Told, code_21, code_22, code_23, code_24, code_25_source, code_25_target, code_31_33, code_32_34, IsAnswer, conforming, violating}
use Rattle.meaning.proofs.Decide.{Search, found, nowhere, search_below}
use Rattle.meaning.proofs.Decided.{dec_labels, dec_fits}
use Rattle.meaning.proofs.Faults.{broken}
use Rattle.meaning.proofs.FirstFound.{Outcome, good, bad, outcome}

-- a wrong number that is not too few is too many
pub too_many : {n : ℕ} {i : Interval} → ¬ Within n i → ¬ TooFew n i → TooMany n i
too_many h f m = h (record { enough = omega arith; not_too_many = m })

module _ (G : Graph) (S : Schema) where
  unfoldable pub tell_node : (i : ℕ) → ¬ NodePlaced G S i → (a : Answer) × Told G S (node i) a
  unfolding search_below dec_labels broken
  tell_node i h = go (search_below (λ j. dec_labels (node_in G.nodes i).object (schema_node_in S.nodes j).shape) _)
    where
      go : Search (length S.nodes) (λ j. NodeLabelled G S i j) → (a : Answer) × Told G S (node i) a
      go (found j l) = let b = broken _ _ (λ r. h (j, l.below, record { labels = l.holds; properties = r })) in (_, code_22 l b.2 b.3)
      go (nowhere f) = (_, code_21 f)

  unfoldable pub tell_edge : (e : ℕ) → (a : Answer) × Told G S (edge e) a
  unfolding search_below dec_labels broken dec_fits
  tell_edge e = go (search_below (λ s. dec_fits _ _) _)
    where
      ends : {s : ℕ} → Lowest (length S.edges) (λ s. EdgeFits G S e s) s → Dec (SourceFits G S e s) → (a : Answer) × Told G S (edge e) a
      ends {s} l (yes p) = (_, code_25_target l p)
      ends {s} l (no p) = (_, code_25_source l p)

      labels : Every (length S.edges) (λ s. ¬ EdgeFits G S e s) → Search (length S.edges) (λ s. EdgeLabelled G S e s) → (a : Answer) × Told G S (edge e) a
      labels f (found s l) = let b = broken _ _ (λ r. f s l.below (record { labels = l.holds; properties = r })) in (_, code_24 f l b.2 b.3)
      labels f (nowhere n) = (_, code_23 n)

      go : Search (length S.edges) (λ s. EdgeFits G S e s) → (a : Answer) × Told G S (edge e) a
      go (found s l) = ends l (dec_fits _ _)
      go (nowhere f) = labels f (search_below (λ s. dec_labels (edge_at G e).object (schema_edge_at S s).shape) _)

  unfoldable pub tell_number : (w : Way) (s v n : ℕ) → ¬ Right G S w s n → (a : Answer) × Told G S (number w s v n) a
  unfolding dec_lt across
  tell_number w s v n h = go (dec_lt n (across G S w s).minimum)
    where
      go : Dec (TooFew n (across G S w s)) → (a : Answer) × Told G S (number w s v n) a
      go (yes f) = (_, code_31_33 f)
      go (no f) = (_, code_32_34 f (too_many h f))

  unfoldable pub tell : (v : Violation) → Violates G S v → (a : Answer) × Told G S v a
  unfolding tell_node tell_edge tell_number
  tell (node i) h = tell_node i h.1
  tell (edge e) h = tell_edge e
  tell (number w s v n) m = tell_number w s v n m.wrong

  unfoldable pub answered : (a : Answer) × IsAnswer G S a
  unfolding outcome tell
  answered = go (outcome G S)
    where
      go : Outcome G S → (a : Answer) × IsAnswer G S a
      go (good c) = (_, conforming c)
      go (bad v f) = let t = tell v f.violates in (t.0, violating f t.1)
