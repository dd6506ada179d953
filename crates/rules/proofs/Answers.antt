-- What `next`, `start` and `judge` promise has one answer, and so have the masks, places and counters that `next` leaves.
use mathlib.Core.Path.{◌≡◌, sym, ap, ap₂, ◌∙◌}
use mathlib.Core.Bool.{Bool}
use mathlib.Core.List.{List}
use Prim.Native.Nat.{ℕ, ◌≤◌}
use native.Mathlib.Decide.{dec_le}
use native.Mathlib.Omega.{arith}
use lib.ListN.{length}
use Rattle.std.specs.Prelude.{Option, Some}
use Rattle.little.specs.Promise.{Only}
use Rattle.little.proofs.Promise.{equal_one, says_one}
use Rattle.meaning.specs.Model.{Graph, Schema}
use Rattle.meaning.specs.Rules.{Way, out, into}
use Rattle.meaning.specs.Violations.{Violation, node, edge, number, rule_of}
use Rattle.meaning.specs.Answer.{IsAnswer}
use Rattle.meaning.proofs.FirstFound.{neither_after}
use Rattle.meaning.proofs.OneAnswer.{told_one, answer_one}
use Rattle.parts.specs.declared.pair.Pair.{Pair}
use Rattle.parts.specs.Accepted.{graph_at, schema_at}
use Rattle.placing.specs.PlacedEdges.{LabelsApart}
use Rattle.placing.proofs.Answers.{masks_to_one, places_to_one}
use Rattle.counting.specs.Numbers.{SomeSeveral}
use Rattle.counting.proofs.First.{zero_one, counters_at_one}
use Rattle.telling.specs.declared.Finding.{Finding}
use Rattle.telling.specs.Told.{finding_of, answer_in}
use Rattle.rules.specs.declared.Search.{Search}
use Rattle.rules.specs.declared.Onward.{Onward}
use Rattle.rules.specs.Onward.{At, at_start, IsFresh, Behind, StandsNodes, StandsEdges, StandsNumbers, Stands, NextFound, found, none_left}

pub start_one : Only (λ r. r ≡ at_start)
start_one = equal_one at_start

-- notes that nobody has touched are one
pub fresh_one : {m n p q c d : List ℕ} → IsFresh m p c → IsFresh n q d → (m ≡ n) × (p ≡ q) × (c ≡ d)
fresh_one x y = (x.masks ∙ sym y.masks, x.places ∙ sym y.places, x.counts ∙ sym y.counts)

pub judge_one : (G : Graph) (S : Schema) → Only (λ r. IsAnswer G S (answer_in r))
judge_one G S x y p q = ap finding_of (answer_one G S p q)

-- ---- what is found next is one, and so is where the search stands then

record SamePlace (f g : Search) : Type 0 where
  pub rule : f.rule ≡ g.rule
  pub by : f.by ≡ g.by
  pub then : f.then ≡ g.then

abbrev standing : ℕ → ℕ → ℕ → Bool → Bool → Search
standing r b n x y = record { rule = r; by = b; then = n; apart = x; several = y }

same_search : (f g : Search) → SamePlace f g → f.apart ≡ g.apart → f.several ≡ g.several → f ≡ g
same_search f g e a b = let z : standing f.rule f.by f.then f.apart f.several ≡ standing g.rule g.by g.then g.apart g.several = cc in z

at_one : {r b n : ℕ} {f g : Search} → At r b n f → At r b n g → SamePlace f g
at_one p q = record { rule = cc; by = cc; then = cc }

behind_one : (v : Violation) {f g : Search} → Behind v f → Behind v g → SamePlace f g
behind_one (node i) = at_one
behind_one (edge e) = at_one
behind_one (number w s v n) = at_one

found_one : (G : Graph) (S : Schema) {from : Search} {x y : Onward} → NextFound G S from x → NextFound G S from y → (x.found ≡ y.found) × SamePlace x.search y.search
found_one G S (found {v = v} p) (found {v = u} q) =
    let e : v ≡ u = neither_after G S p.violates q.violates (p.first u q.violates q.ahead) (q.first v p.violates p.ahead) in
    let a = told_one G S (rw e at p.told) q.told in
    (p.found ∙ ap (λ x. Some (finding_of x)) a ∙ sym q.found, behind_one v p.behind (rw e q.behind))
found_one G S (found {v = v} p) (none_left q) = absurd (q.none v p.violates p.ahead)
found_one G S (none_left p) (found {v = u} q) = absurd (p.none u q.violates q.ahead)
found_one G S (none_left p) (none_left q) = (p.found ∙ sym q.found, at_one p.at_end q.at_end)

-- ---- and what it keeps

module _ (G : Graph) (S : Schema) (f g : Search) (e : SamePlace f g) where
  masks_one : {m n : List ℕ} → 1 ≤ f.rule → StandsNodes G S m f → StandsNodes G S n g → m ≡ n
  masks_one {m} {n} l p q = go (dec_le 2 f.rule)
    where
      go : Dec (2 ≤ f.rule) → m ≡ n
      go (yes h) = masks_to_one G S (length G.nodes) m n (p.behind h) (q.behind (omega arith))
      go (no h) = masks_to_one G S f.by m n (p.amid (omega arith)).2 (rw e.by (q.amid (omega arith)).2)

  places_one : {m n : List ℕ} → 1 ≤ f.rule → StandsEdges G S m f → StandsEdges G S n g → (m ≡ n) × (f.apart ≡ g.apart)
  places_one {m} {n} l p q = (go (dec_le 2 f.rule) (dec_le 3 f.rule), known (dec_le 2 f.rule))
    where
      go : Dec (2 ≤ f.rule) → Dec (3 ≤ f.rule) → m ≡ n
      go (no h) k = places_to_one G S 0 m n (p.before (omega arith)).0 (q.before (omega arith)).0
      go (yes h) (no k) = places_to_one G S f.by m n (p.amid (omega arith)).2 (rw e.by (q.amid (omega arith)).2)
      go (yes h) (yes k) = places_to_one G S (length G.edges) m n (p.behind k) (q.behind (omega arith))

      known : Dec (2 ≤ f.rule) → f.apart ≡ g.apart
      known (yes h) = says_one (LabelsApart S) _ _ (p.apart h) (q.apart (omega arith))
      known (no h) = (p.before (omega arith)).1 ∙ sym (q.before (omega arith)).1

  counts_one : {k m n : List ℕ} → f.rule ≤ 5 → StandsNumbers G S k m f → StandsNumbers G S k n g → (m ≡ n) × (f.several ≡ g.several)
  unfolding rule_of
  counts_one {k} {m} {n} l p q = (go (dec_le 3 f.rule) (dec_le 4 f.rule) (dec_le 5 f.rule), known (dec_le 3 f.rule))
    where
      amid : (w : Way) → f.rule ≡ rule_of w → m ≡ n
      amid w r = counters_at_one G S w f.by f.then m n (p.amid w r).2 (rw (e.by, e.then) (q.amid w (sym e.rule ∙ r)).2)

      go : Dec (3 ≤ f.rule) → Dec (4 ≤ f.rule) → Dec (5 ≤ f.rule) → m ≡ n
      go (no h) i j = zero_one m n (p.before (omega arith)).0 (q.before (omega arith)).0
      go (yes h) (no i) j = amid out (omega arith)
      go (yes h) (yes i) (no j) = amid into (omega arith)
      go (yes h) (yes i) (yes j) = zero_one m n (p.behind (omega arith)).0 (q.behind (omega arith)).0

      known : Dec (3 ≤ f.rule) → f.several ≡ g.several
      known (yes h) = says_one (SomeSeveral (length G.edges) k) _ _ (p.several h) (q.several (omega arith))
      known (no h) = (p.before (omega arith)).1 ∙ sym (q.before (omega arith)).1

abbrev onward : Option Finding → Search → Onward
onward a f = record { found = a; search = f }

pub next_one :
    (f : Pair) (from : Search) (x y : Onward) (m n p q c d : List ℕ) → NextFound (graph_at f.graph) (schema_at f.schema) from x
    → Stands f m p c x.search → NextFound (graph_at f.graph) (schema_at f.schema) from y → Stands f n q d y.search → (x ≡ y) × (m ≡ n) × (p ≡ q) × (c ≡ d)
next_one f from x y m n p q c d a i b j =
    let G = graph_at f.graph in
    let S = schema_at f.schema in
    let o = found_one G S a b in
    let e = o.1 in
    let g = x.search in
    let h = y.search in
    let z = places_one G S g h e i.from_to.0 i.edges j.edges in
    let k = counts_one G S g h e i.from_to.1 (rw z.0 at i.numbers) j.numbers in
    (ap₂ onward o.0 (same_search g h e z.1 k.1), masks_one G S g h e i.from_to.0 i.nodes j.nodes, z.0, k.0)
