-- There are no more violations than places for them: a node, an edge, and a schema edge with a node, along the edges and against them.
use mathlib.Core.Path.{◌≡◌, refl, ap}
use mathlib.Core.List.{List, [], ◌∷◌, Memᴰ}
use Prim.Native.Nat.{ℕ, suc, ◌+◌, ◌*◌, ◌≤◌, ◌<◌}
use native.Mathlib.Decide.{dec_lt}
use native.Mathlib.Nat.{mul-suc, mul-le-mul_left}
use native.Mathlib.Omega.{arith}
use lib.ListN.{length}
use Rattle.meaning.specs.Model.{Graph, Schema}
use Rattle.meaning.specs.Rules.{Way, out, into}
use Rattle.meaning.specs.Violations.{Violation, node, edge, number, rule_of, ◌≼◌, Misnumbered, Violates}
use Rattle.meaning.specs.Answer.{Answer}
use Rattle.meaning.specs.Listing.{Rising, Lists, EachTold, none, one_more, AllTold}
use Rattle.meaning.proofs.Decide.{by_dec}
use Rattle.meaning.proofs.Listing.{not_after}

-- ---- tables of rows of n places

module _ (n : ℕ) where
  row_behind : {s t : ℕ} → s < t → n * s + n ≤ n * t
  row_behind {s} h = rw (mul-suc n s) at (mul-le-mul_left n h)

  place_behind : {s v t u : ℕ} → v < n → s ≤ t → (s ≡ t → v < u) → n * s + v < n * t + u
  place_behind {s} {v} {t} {u} l a b = go (dec_lt s t)
    where
      go : Dec (s < t) → n * s + v < n * t + u
      go (yes h) = omega (arith, row_behind h)
      go (no h) = let e : s ≡ t = omega arith in let k = b e in rw e (omega arith)

module _ (G : Graph) (S : Schema) where
  abbrev pub violation_places : ℕ
  violation_places = length G.nodes + length G.edges + 2 * (length G.nodes * length S.edges)

  -- each violation's place, in 01's order
  place : Violation → ℕ
  place (node i) = i
  place (edge e) = length G.nodes + e
  place (number out s v n) = length G.nodes + length G.edges + (length G.nodes * s + v)
  place (number into s v n) = length G.nodes + length G.edges + length G.nodes * length S.edges + (length G.nodes * s + v)

  number_below : {w : Way} {s v n : ℕ} → Misnumbered G S w s v n → length G.nodes * s + v < length G.nodes * length S.edges
  number_below m = omega (arith, row_behind (length G.nodes) m.schema_edge, m.node)

  place_below : (v : Violation) → Violates G S v → place v < violation_places
  unfolding place
  place_below (node i) h = omega (arith, h.0)
  place_below (edge e) h = omega (arith, h.0)
  place_below (number out s v n) m = omega (arith, number_below m)
  place_below (number into s v n) m = omega (arith, number_below m)

  number_before : (w : Way) (s v n t u m : ℕ) → v < length G.nodes → ¬ (number w t u m ≼ number w s v n) → length G.nodes * s + v < length G.nodes * t + u
  number_before w s v n t u m l h =
      place_behind (length G.nodes) l ((not_after (number w t u m) (number w s v n) h).first_by refl) (λ e. by_dec (dec_lt v u) (λ x. h (omega arith)))

  places_rise : (u v : Violation) → Violates G S u → Violates G S v → ¬ (v ≼ u) → place u < place v
  unfolding place rule_of
  places_rise (node i) (node j) p q h = by_dec (dec_lt i j) (λ x. h (omega arith))
  places_rise (node i) (edge f) p q h = omega (arith, p.0)
  places_rise (node i) (number out t u m) p q h = omega (arith, p.0)
  places_rise (node i) (number into t u m) p q h = omega (arith, p.0)
  places_rise (edge e) (node j) p q h = absurd (h (omega arith))
  places_rise (edge e) (edge f) p q h = let l : e < f = by_dec (dec_lt e f) (λ x. h (omega arith)) in omega arith
  places_rise (edge e) (number out t u m) p q h = omega (arith, p.0)
  places_rise (edge e) (number into t u m) p q h = omega (arith, p.0)
  places_rise (number out s v n) (node j) p q h = absurd (h (omega arith))
  places_rise (number out s v n) (edge f) p q h = absurd (h (omega arith))
  places_rise (number out s v n) (number out t u m) p q h = omega (arith, number_before out s v n t u m p.node h)
  places_rise (number out s v n) (number into t u m) p q h = omega (arith, number_below p)
  places_rise (number into s v n) (node j) p q h = absurd (h (omega arith))
  places_rise (number into s v n) (edge f) p q h = absurd (h (omega arith))
  places_rise (number into s v n) (number out t u m) p q h = absurd (h (omega arith))
  places_rise (number into s v n) (number into t u m) p q h = omega (arith, number_before into s v n t u m p.node h)

  -- so that places rise through a list, up to the last place
  few_from :
      (k : ℕ) (l : List Violation) → k ≤ violation_places → Rising l → ((v : Violation) → Memᴰ v l → Violates G S v) → ((v : Violation) → Memᴰ v l → k ≤ place v)
      → k + length l ≤ violation_places
  few_from k [] b r p f = omega arith
  few_from k (x ∷ l) b r p f =
      let h = p x (Memᴰ.head refl) in
      let i = few_from (place x + 1) l (omega (arith, place_below x h)) r.1 (λ v m. p v (Memᴰ.tail m)) (λ v m. omega (arith, places_rise x v h (p v (Memᴰ.tail m)) (r.0 v m))) in
      omega (arith, f x (Memᴰ.head refl), i)

  pub few_listed : {P : Violation → Type 0} {l : List Violation} → Lists P l → ((v : Violation) → P v → Violates G S v) → length l ≤ violation_places
  few_listed {l = l} a p = omega (arith, few_from 0 l (omega arith) a.in_order (λ v m. p v (a.are v m)) (λ v m. omega arith))

  pub told_length : {l : List Violation} {m : List Answer} → EachTold G S l m → length m ≡ length l
  told_length none = refl
  told_length (one_more t e) = ap suc (told_length e)

  pub few_told : {m : List Answer} → AllTold G S m → length m ≤ violation_places
  few_told t = omega (arith, told_length t.told, few_listed t.lists (λ v p. p))
