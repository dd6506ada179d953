-- The whole answer: every pair of files has exactly one, and so has every block; what its code and place say.
use mathlib.Core.Path.{◌≡◌, refl}
use mathlib.Core.Logic.{◌↔◌}
use mathlib.Core.List.{List, [], ◌∷◌}
use Prim.Native.Nat.{ℕ, ◌≤◌, ◌<◌}
use native.Mathlib.Decide.{dec_le}
use native.Mathlib.Omega.{arith}
use lib.ListN.{length}
use Rattle.little.specs.Promise.{Only}
use Rattle.little.proofs.Promise.{pair}
use Rattle.meaning.specs.Rules.{Conforms}
use Rattle.meaning.specs.Answer.{Answer}
use Rattle.meaning.proofs.Answered.{answered as found}
use Rattle.meaning.proofs.OneAnswer.{answer_one, code_zero}
use Rattle.layout.specs.declared.File.{File}
use Rattle.layout.specs.declared.File.TheVariants.{Graph, Schema}
use Rattle.layout.specs.declared.Ceilings.{Ceilings}
use Rattle.layout.specs.Files.{either}
use Rattle.layout.specs.Refusals.{Refusal, here, later, RefusedBy, refusals, FileRefused, FileAccepted}
use Rattle.layout.specs.Checked.{graph_in, schema_in, Answers, graph_refused, schema_refused, judged, Checked, short, answered}
use Rattle.layout.proofs.Refusing.{not_both, refused_one, Outcome, refused, passed}
use Rattle.layout.proofs.OneResult.{result}

-- ---- what the table of refusals says of a code, and of the rows that are tried for it

abbrev EachRefusal : (ℕ → ℕ → Type 0) → List Refusal → Type 0
EachRefusal P [] = Unit {0}
EachRefusal P (l ∷ ls) = P l.code l.rows × EachRefusal P ls

refusal_of : (P : ℕ → ℕ → Type 0) (ls : List Refusal) → EachRefusal P ls → (x k : ℕ) → RefusedBy ls x k → (n : ℕ) × P x n × (k < n)
refusal_of P [] h x k r = absurd r
refusal_of P (l ∷ ls) h x k (here e b) = (l.rows, rw e h.0, b.below)
refusal_of P (l ∷ ls) h x k (later a r) = refusal_of P ls h.1 x k r

-- the codes of the file, and one place to try for those that are not about rows
record InTable (F : File) (x n : ℕ) : Type 0 where
  least : either F 2 9 ≤ x
  most : x ≤ either F 8 15
  once : x ≤ either F 5 12 → n ≡ 1

in_table : (F : File) (c : Ceilings) (f : List ℕ) → EachRefusal (InTable F) (refusals F c f)
in_table Graph c f = omega arith
in_table Schema c f = omega arith

module _ (F : File) (c : Ceilings) (f : List ℕ) (x k : ℕ) (r : FileRefused F c f x k) where
  refusal : (n : ℕ) × InTable F x n × (k < n)
  refusal = refusal_of (InTable F) (refusals F c f) (in_table F c f) x k r

  -- the code says which file is refused
  pub refused_by : (either F 2 9 ≤ x) × (x ≤ either F 8 15)
  refused_by = (refusal.1.least, refusal.1.most)

  -- "Place is the lowest bad row for 6 to 8 and 13 to 15, .. else 0."
  pub refused_place : x ≤ either F 5 12 → k ≡ 0
  refused_place h = omega (arith, refusal.1.once h, refusal.2)

pub refused_code : (F : File) (c : Ceilings) (f : List ℕ) (x k : ℕ) → FileRefused F c f x k → (2 ≤ x) × (x ≤ 15)
refused_code Graph c f x k r = omega (arith, refused_by Graph c f x k r)
refused_code Schema c f x k r = omega (arith, refused_by Schema c f x k r)

module _ (c d : Ceilings) (g s : List ℕ) where
  -- ---- one answer

  pub answers_one : Only (Answers c d g s)
  answers_one _ _ (graph_refused p) (graph_refused q) = let e = refused_one (refusals Graph c g) _ _ _ _ p q in cc
  answers_one _ _ (graph_refused p) (schema_refused h q) = absurd (not_both (refusals Graph c g) _ _ h p)
  answers_one _ _ (graph_refused p) (judged h k q) = absurd (not_both (refusals Graph c g) _ _ h p)
  answers_one _ _ (schema_refused h q) (graph_refused p) = absurd (not_both (refusals Graph c g) _ _ h p)
  answers_one _ _ (schema_refused h p) (schema_refused k q) = let e = refused_one (refusals Schema d s) _ _ _ _ p q in cc
  answers_one _ _ (schema_refused h p) (judged i k q) = absurd (not_both (refusals Schema d s) _ _ k p)
  answers_one _ _ (judged h k q) (graph_refused p) = absurd (not_both (refusals Graph c g) _ _ h p)
  answers_one _ _ (judged i k q) (schema_refused h p) = absurd (not_both (refusals Schema d s) _ _ k p)
  answers_one _ _ (judged h k p) (judged i l q) = answer_one _ _ p q

  module _ (block : List ℕ) where
    checked_parts : {m n : ℕ} {v w : List ℕ} → Checked c d g s block m v → Checked c d g s block n w → (m ≡ n) × (v ≡ w)
    checked_parts (short h e f) (short k i j) = (cc, cc)
    checked_parts (short h e f) (answered k a i j) = absurd (omega arith)
    checked_parts (answered k a i j) (short h e f) = absurd (omega arith)
    checked_parts (answered h a e f) (answered k b i j) = let q = answers_one _ _ a b in (cc, cc)

    pub checked_one : Only (λ (a : ℕ × List ℕ). Checked c d g s block a.0 a.1)
    checked_one x y p q = let e = checked_parts p q in pair x e.0 e.1

  -- ---- an answer, found

  unfoldable pub answers : (a : Answer) × Answers c d g s a
  unfolding result found
  answers = go (result Graph c g) (result Schema d s)
    where
      go : Outcome (refusals Graph c g) → Outcome (refusals Schema d s) → (a : Answer) × Answers c d g s a
      go (refused x k p) q = (_, graph_refused p)
      go (passed p) (refused x k q) = (_, schema_refused p q)
      go (passed p) (passed q) = let a = found (graph_in g) (schema_in s) in (a.0, judged p q a.1)

  unfoldable pub checked : (block : List ℕ) → (code : ℕ) × (after : List ℕ) × Checked c d g s block code after
  unfolding answers dec_le
  checked block = go (dec_le 20 (length block))
    where
      go : Dec (20 ≤ length block) → (code : ℕ) × (after : List ℕ) × Checked c d g s block code after
      go (yes h) = (_, _, answered h answers.1 refl refl)
      go (no h) = (_, _, short (omega arith) refl refl)

  -- ---- what code 0 says

  pub code_zero_iff : {a : Answer} → Answers c d g s a → (a.code ≡ 0) ↔ (FileAccepted Graph c g × FileAccepted Schema d s × Conforms (graph_in g) (schema_in s))
  code_zero_iff (graph_refused {x} {k} p) = (λ e. absurd (omega (arith, refused_code Graph c g x k p)), λ h. absurd (not_both (refusals Graph c g) x k h.0 p))
  code_zero_iff (schema_refused {x} {k} h p) = (λ e. absurd (omega (arith, refused_code Schema d s x k p)), λ h. absurd (not_both (refusals Schema d s) x k h.1 p))
  code_zero_iff (judged h k i) = let z = code_zero (graph_in g) (schema_in s) i in (λ e. (h, k, z.0 e), λ t. z.1 t.2)
