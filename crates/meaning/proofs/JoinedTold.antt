-- What is told of the joined graph's violations: of the first's what is told of the first graph, of the second's the same with the place moved.
use mathlib.Core.Path.{◌≡◌, refl, ap}
use mathlib.Core.Logic.{◌↔◌}
use Prim.Native.Nat.{ℕ, ◌<◌}
use native.Mathlib.Nat.{zero-add, add_left_cancel}
use native.Mathlib.Omega.{arith}
use Rattle.meaning.specs.Model.{Graph, Schema}
use Rattle.meaning.specs.Rules.{into, across}
use Rattle.meaning.specs.Violations.{Violation, node, edge, number, Violates}
use Rattle.meaning.specs.Answer.{Answer, Told, code_21, code_22, code_23, code_24, code_25_source, code_25_target, code_31_33, code_32_34}
use Rattle.meaning.specs.Join.{joined, empty_graph, Ended, moved_on, before, told_on}
use Rattle.meaning.proofs.Answered.{tell}
use Rattle.meaning.proofs.OneAnswer.{told_one}
use Rattle.meaning.proofs.JoinedPart.{place, place_within, Part, same_object, same_end, violates_alone}
use Rattle.meaning.proofs.Joined.{first_part, second_part, moved_on_none}

-- no two answers are the same once they are moved
told_on_one : (n : ℕ) (a b : Answer) → told_on n a ≡ told_on n b → a ≡ b
told_on_one n a b e =
    let p : a.place ≡ b.place = add_left_cancel n (ap (λ x. x.place) e) in
    λ i. record { code = (e i).code; place = p i; schema_place = (e i).schema_place; count = (e i).count; property = (e i).property }

-- the place that is told is the violation's
told_place : (G : Graph) (S : Schema) {v : Violation} {a : Answer} → Told G S v a → a.place ≡ place v
told_place G S (code_21 q) = refl
told_place G S (code_22 q r t) = refl
told_place G S (code_23 q) = refl
told_place G S (code_24 f q r t) = refl
told_place G S (code_25_source q r) = refl
told_place G S (code_25_target q r) = refl
told_place G S (code_31_33 f) = refl
told_place G S (code_32_34 f m) = refl

-- ---- what is told of a part

module _ {B G K : Graph} (p : Part B G K) (S : Schema) where
  -- the codes go by the node, by the edge and its source, or by the number, which are the same there
  told_there : {v : Violation} {a : Answer} → place v < before G v → Told G S v a → Told K S (moved_on B v) (told_on (before B v) a)
  unfolding across
  told_there l (code_21 q) = code_21 (rw (p.same_node _ l) at q)
  told_there l (code_22 q r t) = let n = p.same_node _ l in code_22 (rw n at q) (rw n at r) (rw n at t)
  told_there l (code_23 q) = code_23 (rw (same_object p _ l) at q)
  told_there l (code_24 f q r t) = let o = same_object p _ l in code_24 (rw o at f) (rw o at q) (rw o at r) (rw o at t)
  told_there l (code_25_source q r) = code_25_source (rw (same_object p _ l) at q) (rw (same_end p into _ l) at r)
  told_there l (code_25_target q r) = code_25_target (rw (same_object p _ l) at q) (rw (same_end p into _ l) at r)
  told_there l (code_31_33 f) = code_31_33 f
  told_there l (code_32_34 f m) = code_32_34 f m

  -- one answer is told of a violation, so nothing else is told there
  told_from : (v : Violation) {b : Answer} → Violates G S v → Told K S (moved_on B v) b → (a : Answer) × Told G S v a × (b ≡ told_on (before B v) a)
  told_from v h t = let u = tell G S v h in (u.0, u.1, told_one K S t (told_there (place_within G S v h) u.1))

  told_alone : (v : Violation) (a : Answer) → Violates G S v → Told K S (moved_on B v) (told_on (before B v) a) → Told G S v a
  told_alone v a h t = let u = told_from v h t in rw (told_on_one _ _ _ u.2) u.1

-- ---- what is told of the joined graph

-- behind nothing the place stays
told_on_none : (v : Violation) (a : Answer) → told_on (before empty_graph v) a ≡ a
told_on_none (node i) a = rw zero-add
told_on_none (edge e) a = rw zero-add
told_on_none (number w s v n) a = rw zero-add

module _ (G H : Graph) (S : Schema) (ended : Ended G) where
  -- of the first's violations the same is told
  pub joined_told_first : (v : Violation) → Violates G S v → (a : Answer) → Told (joined G H) S v a ↔ Told G S v a
  joined_told_first v h a =
      let part = first_part G H ended in (
        λ t. told_alone part S v a h (rw (moved_on_none v, told_on_none v a) t),
        λ t. rw (moved_on_none v, told_on_none v a) at (told_there part S (place_within G S v h) t),
      )

  -- of the second's the same, and the place moved by as many rows as the first has
  pub joined_told_second : (u : Violation) → Violates H S u → (a : Answer) → Told (joined G H) S (moved_on G u) (told_on (before G u) a) ↔ Told H S u a
  joined_told_second u h a = let part = second_part G H ended in (told_alone part S u a h, told_there part S (place_within H S u h))

  -- and nothing else
  pub joined_told_moved : (u : Violation) {b : Answer} → Violates H S u → Told (joined G H) S (moved_on G u) b → (a : Answer) × Told H S u a × (b ≡ told_on (before G u) a)
  joined_told_moved = told_from (second_part G H ended) S

  -- whose fault it is: the first's exactly if the place that is told is one of the first's
  pub joined_whose : (v : Violation) {a : Answer} → Violates (joined G H) S v → Told (joined G H) S v a → (a.place < before G v) ↔ Violates G S v
  joined_whose v h t =
      let e = told_place (joined G H) S t in (
        λ l. violates_alone (first_part G H ended) S v (omega arith) (rw (moved_on_none v) h),
        λ k. omega (arith, place_within G S v k),
      )
