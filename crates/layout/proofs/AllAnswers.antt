-- All answers: every pair of files is owed one list and no second; its first is the one answer, and it is empty exactly where that is 0 or a refusal.
use mathlib.Core.Path.{◌≡◌, refl}
use mathlib.Core.Logic.{◌↔◌, ◌≢◌}
use mathlib.Core.List.{List, [], ◌∷◌}
use Prim.Native.Nat.{ℕ, ◌<◌}
use native.Mathlib.Omega.{arith}
use Rattle.meaning.specs.Answer.{Answer, answer, conforming, violating}
use Rattle.meaning.proofs.OneAnswer.{violation_code}
use Rattle.meaning.proofs.Listing.{all_told_one, none_told, first_told, all_told}
use Rattle.layout.specs.declared.File.TheVariants.{Graph, Schema}
use Rattle.layout.specs.declared.Ceilings.{Ceilings}
use Rattle.layout.specs.Refusals.{refusals}
use Rattle.layout.specs.Checked.{graph_in, schema_in, Answers}
use Rattle.layout.specs.Checked as one
use Rattle.layout.specs.AllAnswers.{AllAnswers, graph_refused, schema_refused, listed}
use Rattle.layout.proofs.Refusing.{not_both, refused_one, Outcome, refused, passed}
use Rattle.layout.proofs.OneResult.{result}
use Rattle.layout.proofs.Whole.{answers_one, code_zero_iff}

module _ (c d : Ceilings) (g s : List ℕ) where
  -- ---- one code, one place and one list

  pub all_answers_one :
      {x k y j : ℕ} {l m : List Answer} → AllAnswers c d g s x k l → AllAnswers c d g s y j m → (x ≡ y) × (k ≡ j) × (l ≡ m)
  all_answers_one (graph_refused p) (graph_refused q) = let e = refused_one (refusals Graph c g) _ _ _ _ p q in (e.0, e.1, refl)
  all_answers_one (graph_refused p) (schema_refused h q) = absurd (not_both (refusals Graph c g) _ _ h p)
  all_answers_one (graph_refused p) (listed h k t) = absurd (not_both (refusals Graph c g) _ _ h p)
  all_answers_one (schema_refused h q) (graph_refused p) = absurd (not_both (refusals Graph c g) _ _ h p)
  all_answers_one (schema_refused h p) (schema_refused k q) = let e = refused_one (refusals Schema d s) _ _ _ _ p q in (e.0, e.1, refl)
  all_answers_one (schema_refused h p) (listed i k t) = absurd (not_both (refusals Schema d s) _ _ k p)
  all_answers_one (listed h k t) (graph_refused p) = absurd (not_both (refusals Graph c g) _ _ h p)
  all_answers_one (listed i k t) (schema_refused h p) = absurd (not_both (refusals Schema d s) _ _ k p)
  all_answers_one (listed h k t) (listed i j u) = (refl, refl, all_told_one (graph_in g) (schema_in s) _ _ t u)

  -- and there are such
  pub all_answers : (x k : ℕ) × (l : List Answer) × AllAnswers c d g s x k l
  all_answers = go (result Graph c g) (result Schema d s)
    where
      go : Outcome (refusals Graph c g) → Outcome (refusals Schema d s) → (x k : ℕ) × (l : List Answer) × AllAnswers c d g s x k l
      go (refused x k p) q = (_, _, _, graph_refused p)
      go (passed p) (refused x k q) = (_, _, _, schema_refused p q)
      go (passed p) (passed q) = let t = all_told (graph_in g) (schema_in s) in (_, _, t.0, listed p q t.1)

  -- ---- beside the one answer

  -- the first of the list is the answer
  pub first_is_the_answer : {x k : ℕ} {a b : Answer} {l : List Answer} → AllAnswers c d g s x k (b ∷ l) → Answers c d g s a → a ≡ b
  first_is_the_answer (listed h k t) p = answers_one c d g s _ _ p (one.judged h k (first_told (graph_in g) (schema_in s) t))

  -- no violation and no refusal exactly if the answer is 0
  pub none_listed : AllAnswers c d g s 0 0 [] ↔ Answers c d g s (answer 0 0 0 0 0)
  none_listed = (to, λ p. let h = (code_zero_iff c d g s p).0 refl in listed h.0 h.1 ((none_told (graph_in g) (schema_in s)).1 h.2))
    where
      to : AllAnswers c d g s 0 0 [] → Answers c d g s (answer 0 0 0 0 0)
      to (graph_refused p) = one.graph_refused p
      to (schema_refused h p) = one.schema_refused h p
      to (listed h k t) = one.judged h k (conforming ((none_told (graph_in g) (schema_in s)).0 t))

  -- a refusal lists nothing, and is the answer's
  pub refusal_answered : {x k : ℕ} {l : List Answer} → AllAnswers c d g s x k l → x ≢ 0 → Answers c d g s (answer x k 0 0 0) × (l ≡ [])
  refusal_answered (graph_refused p) n = (one.graph_refused p, refl)
  refusal_answered (schema_refused h p) n = (one.schema_refused h p, refl)
  refusal_answered (listed h k t) n = absurd (n refl)

  -- the codes of refusals are those below 21 that are not 0
  pub refusal_listed : {a : Answer} → Answers c d g s a → a.code ≢ 0 → a.code < 21 → AllAnswers c d g s a.code a.place []
  refusal_listed (one.graph_refused p) n l = graph_refused p
  refusal_listed (one.schema_refused h p) n l = schema_refused h p
  refusal_listed (one.judged h k (conforming e)) n l = absurd (n refl)
  refusal_listed (one.judged h k (violating f t)) n l = absurd (omega (arith, violation_code (graph_in g) (schema_in s) t))
