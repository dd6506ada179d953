-- The list beside the one answer that `check` gives, and beside a list with more room. Theorems over what is promised, not over the code.
use mathlib.Core.Path.{◌≡◌, refl, sym, ap, ◌∙◌}
use mathlib.Core.Logic.{◌↔◌, ◌≢◌}
use mathlib.Core.List.{List, [], ◌∷◌, ◌++◌, map}
use Prim.Native.Nat.{ℕ, ◌+◌, ◌*◌, ◌≤◌, ◌<◌}
use native.Mathlib.Nat.{mul-le-mul}
use native.Mathlib.Omega.{arith}
use lib.ListN.{length, get_or, drop, length-map}
use Rattle.meaning.specs.Answer.{Answer, answer, conforming}
use Rattle.meaning.proofs.HowMany.{few_told}
use Rattle.layout.specs.declared.File.TheVariants.{Graph, Schema}
use Rattle.layout.specs.declared.Ceilings.{Ceilings}
use Rattle.layout.specs.Checked.{graph_in, schema_in, reply, Answers, judged, Checked, short, answered}
use Rattle.layout.specs.AllAnswers.{AllAnswers, graph_refused, schema_refused, listed, filled}
use Rattle.layout.proofs.Accepted.{graph_nodes, graph_edges, schema_edges, held}
use Rattle.layout.proofs.Filled.{none_filled, filled_at, kept_at, more_room}
use Rattle.layout.proofs.Whole.{refused_code, answers_one, code_zero_iff}
use Rattle.layout.proofs.AllAnswers.{all_answers_one, all_answers, first_is_the_answer, none_listed, refusal_answered}
use Rattle.telling.specs.declared.Finding.{Finding}
use Rattle.telling.specs.Told.{finding_of, answer_in}
use Rattle.faults.specs.declared.Listed.{Listed}
use Rattle.faults.specs.Lists.{ListsAll}

-- ---- a list is owed to any two files, whatever room there is

pub lists_all : {A : Type 0} (form : Answer → A) (c d : Ceilings) (g s : List ℕ) (before : List A) → (r : Listed) × (after : List A) × ListsAll form c d g s before r after
lists_all form c d g s before =
    let a = all_answers c d g s in
    (record { code = a.0; place = a.1; total = length a.2 }, filled (map form a.2) before, record { answers = a.2; owed = a.3; total = refl; list = refl })

module _ {c d : Ceilings} {g s : List ℕ} where
  -- code 0 is no refusal's, so that its place is 0
  zero_place : {x k : ℕ} {l : List Answer} → AllAnswers c d g s x k l → x ≡ 0 → k ≡ 0
  zero_place (graph_refused {x} {k} p) e = absurd (omega (arith, refused_code Graph c g x k p))
  zero_place (schema_refused {x} {k} h p) e = absurd (omega (arith, refused_code Schema d s x k p))
  zero_place (listed h i t) e = refl

  few_answers : {x k : ℕ} {l : List Answer} → AllAnswers c d g s x k l → length l ≤ c.nodes + c.edges + 2 * (c.nodes * d.edges)
  few_answers (graph_refused p) = omega arith
  few_answers (schema_refused h p) = omega arith
  few_answers (listed h i t) =
      let x = held Graph g c h in
      let y = held Schema s d i in
      let n : length (graph_in g).nodes ≤ c.nodes = rw graph_nodes x.nodes in
      let e : length (graph_in g).edges ≤ c.edges = rw graph_edges x.edges in
      let m : length (schema_in s).edges ≤ d.edges = rw schema_edges y.edges in
      omega (arith, few_told (graph_in g) (schema_in s) t, mul-le-mul n m)

module _ {A : Type 0} {form : Answer → A} {c d : Ceilings} {g s : List ℕ} {before : List A} {r : Listed} {list : List A} (x : ListsAll form c d g s before r list) where
  -- ---- what stands in the list

  -- the total is small: it goes by the ceilings
  pub few : r.total ≤ c.nodes + c.edges + 2 * (c.nodes * d.edges)
  few = omega (arith, x.total, few_answers x.owed)

  -- each violation that there is room for
  pub record_at : (i : ℕ) (z : A) → i < r.total → i < length before → get_or list i z ≡ get_or (map form x.answers) i z
  record_at i z h k = rw x.list (filled_at (map form x.answers) before i z (omega (arith, x.total, length-map x.answers form)) k)

  -- "records beyond those written keep their values"
  pub record_kept : (i : ℕ) (z : A) → r.total ≤ i → get_or list i z ≡ get_or before i z
  record_kept i z h = rw x.list (kept_at (map form x.answers) before i z (omega (arith, x.total, length-map x.answers form)))

  -- ---- beside the one answer

  -- where there is a violation, and room, the first record is the answer
  pub first_record : {a : Answer} → Answers c d g s a → r.total ≢ 0 → 0 < length before → (z : A) → get_or list 0 z ≡ form a
  first_record {a} p n h z = record_at 0 z (omega arith) h ∙ go x.answers x.owed (λ e. n (x.total ∙ e))
    where
      go : (l : List Answer) → AllAnswers c d g s r.code r.place l → length l ≢ 0 → get_or (map form l) 0 z ≡ form a
      go [] o m = absurd (m refl)
      go (b ∷ l) o m = ap form (sym (first_is_the_answer c d g s o p))

  -- code 0 and total 0 exactly if the answer is 0
  pub all_well : ((r.code ≡ 0) × (r.total ≡ 0)) ↔ Answers c d g s (answer 0 0 0 0 0)
  all_well = (λ e. to x.answers x.owed e.0 (sym x.total ∙ e.1), from)
    where
      to : (l : List Answer) → AllAnswers c d g s r.code r.place l → r.code ≡ 0 → length l ≡ 0 → Answers c d g s (answer 0 0 0 0 0)
      to [] o e n = (none_listed c d g s).0 (rw (e, zero_place o e) at o)
      to (b ∷ l) o e n = absurd (omega arith)

      from : Answers c d g s (answer 0 0 0 0 0) → (r.code ≡ 0) × (r.total ≡ 0)
      from p = let e = all_answers_one c d g s x.owed ((none_listed c d g s).1 p) in (e.0, x.total ∙ ap length e.2)

  -- a refusal is the answer's, and touches no record
  pub refused : r.code ≢ 0 → Answers c d g s (answer r.code r.place 0 0 0) × (r.total ≡ 0) × (list ≡ before)
  refused n = let p = refusal_answered c d g s x.owed n in (p.0, x.total ∙ ap length p.1, x.list ∙ ap (λ l. filled (map form l) before) p.1 ∙ none_filled before)

-- "each field of the first record is as in the old entry's answer"
pub first_fields :
    {c d : Ceilings} {g s : List ℕ} {before : List Finding} {r : Listed} {list : List Finding} {a : Answer} → ListsAll finding_of c d g s before r list → Answers c d g s a → r.total ≢ 0 → 0 < length before → (z : Finding)
    → ((get_or list 0 z).code ≡ a.code) × ((get_or list 0 z).place ≡ a.place) × ((get_or list 0 z).schema ≡ a.schema_place) × ((get_or list 0 z).count ≡ a.count) × ((get_or list 0 z).property ≡ a.property)
first_fields x p n k z =
    let e = first_record x p n k z in
    (ap (λ v. v.code) e, ap (λ v. v.place) e, ap (λ v. v.schema) e, ap (λ v. v.count) e, ap (λ v. v.property) e)

-- ---- beside what `check` promises of a block that is long enough

module _ {c d : Ceilings} {g s : List ℕ} {block after : List ℕ} {code : ℕ} where
  told_by_check : 20 ≤ length block → Checked c d g s block code after → (a : Answer) × Answers c d g s a × (code ≡ a.code) × (after ≡ reply a ++ drop 20 block)
  told_by_check h (short l e f) = absurd (omega arith)
  told_by_check h (answered {a} l p e f) = (a, p, e, f)

  module _ {A : Type 0} {form : Answer → A} {before : List A} {r : Listed} {list : List A} (x : ListsAll form c d g s before r list) (h : 20 ≤ length block) (y : Checked c d g s block code after) where
    -- `check` says 0 exactly if code and total are 0
    pub check_says_0 : (code ≡ 0) ↔ ((r.code ≡ 0) × (r.total ≡ 0))
    check_says_0 =
        let t = told_by_check h y in (
          λ e. let z = (code_zero_iff c d g s t.1).0 (sym t.2 ∙ e) in (all_well x).1 (judged z.0 z.1 (conforming z.2)),
          λ e. t.2 ∙ ap (λ a. a.code) (answers_one c d g s _ _ t.1 ((all_well x).0 e)),
        )

    -- a refusal is the one that `check` returns and writes
    pub check_refuses : r.code ≢ 0 → (code ≡ r.code) × (after ≡ reply (answer r.code r.place 0 0 0) ++ drop 20 block)
    check_refuses n =
        let t = told_by_check h y in
        let e = answers_one c d g s _ _ t.1 (refused x n).0 in
        (t.2 ∙ ap (λ a. a.code) e, t.3 ∙ ap (λ a. reply a ++ drop 20 block) e)

  -- where there is a violation, and room, `check` returns the first record's code, and its five numbers are those that `check` writes
  pub first_is_checks :
      {before : List Finding} {r : Listed} {list : List Finding} → ListsAll finding_of c d g s before r list → 20 ≤ length block → Checked c d g s block code after → r.total ≢ 0
      → 0 < length before → (z : Finding) → (code ≡ (get_or list 0 z).code) × (after ≡ reply (answer_in (get_or list 0 z)) ++ drop 20 block)
  first_is_checks x h y n k z =
      let t = told_by_check h y in
      let e = first_record x t.1 n k z in
      (t.2 ∙ ap (λ v. v.code) (sym e), t.3 ∙ ap (λ v. reply (answer_in v) ++ drop 20 block) (sym e))

-- ---- beside a list with more room

module _
    {A : Type 0}
    {form : Answer → A}
    {c d : Ceilings}
    {g s : List ℕ}
    {before wider : List A}
    {r p : Listed}
    {list longer : List A}
    (x : ListsAll form c d g s before r list)
    (y : ListsAll form c d g s wider p longer)
  where
    -- the total goes by the files alone
    pub same_total : r.total ≡ p.total
    same_total = x.total ∙ ap length (all_answers_one c d g s x.owed y.owed).2 ∙ sym y.total

    -- asking again with more room gives the same records first
    pub same_first : length before ≤ length wider → (i : ℕ) (z : A) → i < r.total → i < length before → get_or list i z ≡ get_or longer i z
    same_first w i z h k =
        let e = (all_answers_one c d g s x.owed y.owed).2 in
        rw (x.list, y.list, ← e) (more_room (map form x.answers) before wider w i z (omega (arith, x.total, length-map x.answers form)) k)
