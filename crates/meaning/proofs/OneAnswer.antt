-- No second answer satisfies the rules; what code 0, the numbers of 31 to 34 and the fifth number say.
use mathlib.Core.Path.{◌≡◌, refl}
use mathlib.Core.Logic.{◌↔◌, ◌⊎◌, inl, inr, ◌≢◌}
use Prim.Native.Nat.{ℕ, ◌≤◌}
use native.Mathlib.Omega.{arith}
use Rattle.meaning.specs.Model.{Graph, Schema, Object, Shape, node_in, edge_at, schema_node_in, schema_edge_at}
use Rattle.meaning.specs.Rules.{Way, out, into, near, Number, Conforms}
use Rattle.meaning.specs.Violations.{Violation}
use Rattle.meaning.specs.Answer.{Answer, Broken, not_present, not_listed, not_typed, Named, lowest_missing, lowest_unlisted, lowest_mistyped, Told, code_21, code_22, code_23, code_24, code_25_source, code_25_target, code_31_33, code_32_34, IsAnswer, conforming, violating}
use Rattle.meaning.proofs.Decide.{lowest_one, least_one}
use Rattle.meaning.proofs.NoViolation.{conforms_iff}
use Rattle.meaning.proofs.FirstFound.{first_one}

pub broken_one : {o : Object} {s : Shape} {j k : ℕ} → Broken o s j → Broken o s k → j ≡ k
broken_one (not_present p) (not_present q) = refl
broken_one (not_present p) (not_listed q r) = absurd (p q)
broken_one (not_present p) (not_typed q r t) = absurd (p q)
broken_one (not_listed p r) (not_present q) = absurd (q p)
broken_one (not_listed p r) (not_listed q t) = refl
broken_one (not_listed p r) (not_typed q t u) = absurd (r t)
broken_one (not_typed p r t) (not_present q) = absurd (q p)
broken_one (not_typed p r t) (not_listed q u) = absurd (u r)
broken_one (not_typed p r t) (not_typed q u v) = refl

-- by a letter one name is the lowest at fault
pub named_one : {o : Object} {s : Shape} {j k x y : ℕ} → Named o s j x → Named o s k y → j ≡ k → x ≡ y
named_one (lowest_missing p) (lowest_missing q) e = least_one p q
named_one (lowest_missing p) (lowest_unlisted q) e = absurd (omega (arith, e))
named_one (lowest_missing p) (lowest_mistyped q) e = absurd (omega (arith, e))
named_one (lowest_unlisted p) (lowest_missing q) e = absurd (omega (arith, e))
named_one (lowest_unlisted p) (lowest_unlisted q) e = least_one p q
named_one (lowest_unlisted p) (lowest_mistyped q) e = absurd (omega (arith, e))
named_one (lowest_mistyped p) (lowest_missing q) e = absurd (omega (arith, e))
named_one (lowest_mistyped p) (lowest_unlisted q) e = absurd (omega (arith, e))
named_one (lowest_mistyped p) (lowest_mistyped q) e = least_one p q

module _ (G : Graph) (S : Schema) where
  pub told_one : {v : Violation} {a b : Answer} → Told G S v a → Told G S v b → a ≡ b
  told_one (code_21 p) (code_21 q) = refl
  told_one (code_21 p) (code_22 q r t) = absurd (p _ q.below q.holds)
  told_one (code_22 q r t) (code_21 p) = absurd (p _ q.below q.holds)
  told_one (code_22 q r u) (code_22 p t v) = let e = lowest_one q p in let f = broken_one (rw e at r) t in let g = named_one (rw e at u) v f in cc
  told_one (code_23 p) (code_23 q) = refl
  told_one (code_23 p) (code_24 a q r u) = absurd (p _ q.below q.holds)
  told_one (code_23 p) (code_25_source q r) = absurd (p _ q.below q.holds.labels)
  told_one (code_23 p) (code_25_target q r) = absurd (p _ q.below q.holds.labels)
  told_one (code_24 a q r u) (code_23 p) = absurd (p _ q.below q.holds)
  told_one (code_24 a q r u) (code_24 b p t v) = let e = lowest_one q p in let f = broken_one (rw e at r) t in let g = named_one (rw e at u) v f in cc
  told_one (code_24 a q r u) (code_25_source p t) = absurd (a _ p.below p.holds)
  told_one (code_24 a q r u) (code_25_target p t) = absurd (a _ p.below p.holds)
  told_one (code_25_source q r) (code_23 p) = absurd (p _ q.below q.holds.labels)
  told_one (code_25_source q r) (code_24 a p t u) = absurd (a _ q.below q.holds)
  told_one (code_25_source q r) (code_25_source p t) = cc (lowest_one q p)
  told_one (code_25_source q r) (code_25_target p t) = absurd (r (rw (lowest_one q p) t))
  told_one (code_25_target q r) (code_23 p) = absurd (p _ q.below q.holds.labels)
  told_one (code_25_target q r) (code_24 a p t u) = absurd (a _ q.below q.holds)
  told_one (code_25_target q r) (code_25_source p t) = absurd (t (rw (lowest_one p q) r))
  told_one (code_25_target q r) (code_25_target p t) = cc (lowest_one q p)
  told_one (code_31_33 p) (code_31_33 q) = refl
  told_one (code_31_33 p) (code_32_34 q r) = absurd (q p)
  told_one (code_32_34 p r) (code_31_33 q) = absurd (p q)
  told_one (code_32_34 p r) (code_32_34 q t) = refl

  pub answer_one : {a b : Answer} → IsAnswer G S a → IsAnswer G S b → a ≡ b
  answer_one (conforming c) (conforming d) = refl
  answer_one (conforming c) (violating {v = v} f t) = absurd ((conforms_iff G S).0 c v f.violates)
  answer_one (violating {v = v} f t) (conforming c) = absurd ((conforms_iff G S).0 c v f.violates)
  answer_one (violating f t) (violating g u) = told_one (rw (first_one G S f g) at t) u

  -- the codes of violations are 21 and above
  pub violation_code : {v : Violation} {a : Answer} → Told G S v a → 21 ≤ a.code
  violation_code (code_21 p) = omega arith
  violation_code (code_22 p q r) = omega arith
  violation_code (code_23 p) = omega arith
  violation_code (code_24 p q r t) = omega arith
  violation_code (code_25_source p q) = omega arith
  violation_code (code_25_target p q) = omega arith
  violation_code (code_31_33 {w = out} p) = omega arith
  violation_code (code_31_33 {w = into} p) = omega arith
  violation_code (code_32_34 {w = out} p q) = omega arith
  violation_code (code_32_34 {w = into} p q) = omega arith

  -- code 0 exactly if the four rules hold
  pub code_zero : {a : Answer} → IsAnswer G S a → (a.code ≡ 0) ↔ Conforms G S
  code_zero (conforming c) = (λ e. c, λ c. refl)
  code_zero (violating {v = v} f t) = (λ e. absurd (omega (arith, violation_code t)), λ c. absurd ((conforms_iff G S).0 c v f.violates))

  -- what 31 to 34 say: the count is the number of edges counted at that schema edge and node
  pub record NumberTold (a : Answer) : Type 0 where
    pub way : Way
    pub code : (a.code ≡ near way 31 33) ⊎ (a.code ≡ near way 32 34)
    pub counted : Number G S way a.schema_place a.place a.count

  pub number_told : {a : Answer} → IsAnswer G S a → 31 ≤ a.code → NumberTold a
  number_told (conforming c) h = absurd (omega arith)
  number_told (violating f (code_21 p)) h = absurd (omega arith)
  number_told (violating f (code_22 p q r)) h = absurd (omega arith)
  number_told (violating f (code_23 p)) h = absurd (omega arith)
  number_told (violating f (code_24 p q r t)) h = absurd (omega arith)
  number_told (violating f (code_25_source p q)) h = absurd (omega arith)
  number_told (violating f (code_25_target p q)) h = absurd (omega arith)
  number_told (violating f (code_31_33 {w = w} p)) h = record { way = w; code = inl refl; counted = f.violates.counted }
  number_told (violating f (code_32_34 {w = w} p q)) h = record { way = w; code = inr refl; counted = f.violates.counted }

  -- what the fifth number says: with 22 and 24 the lowest name at fault by the first letter that is broken; with every other code 0
  pub data PropertyTold (a : Answer) : Type 0 where
    of_node :
        a.code ≡ 22 → Broken (node_in G.nodes a.place).object (schema_node_in S.nodes a.schema_place).shape a.count
        → Named (node_in G.nodes a.place).object (schema_node_in S.nodes a.schema_place).shape a.count a.property → PropertyTold a
    of_edge :
        a.code ≡ 24 → Broken (edge_at G a.place).object (schema_edge_at S a.schema_place).shape a.count
        → Named (edge_at G a.place).object (schema_edge_at S a.schema_place).shape a.count a.property → PropertyTold a
    none : a.code ≢ 22 → a.code ≢ 24 → a.property ≡ 0 → PropertyTold a

  pub property_told : {a : Answer} → IsAnswer G S a → PropertyTold a
  property_told (conforming c) = none (λ e. omega (arith, e)) (λ e. omega (arith, e)) refl
  property_told (violating f (code_21 p)) = none (λ e. omega (arith, e)) (λ e. omega (arith, e)) refl
  property_told (violating f (code_22 p q r)) = of_node refl q r
  property_told (violating f (code_23 p)) = none (λ e. omega (arith, e)) (λ e. omega (arith, e)) refl
  property_told (violating f (code_24 p q r t)) = of_edge refl r t
  property_told (violating f (code_25_source p q)) = none (λ e. omega (arith, e)) (λ e. omega (arith, e)) refl
  property_told (violating f (code_25_target p q)) = none (λ e. omega (arith, e)) (λ e. omega (arith, e)) refl
  property_told (violating f (code_31_33 {w = out} p)) = none (λ e. omega (arith, e)) (λ e. omega (arith, e)) refl
  property_told (violating f (code_31_33 {w = into} p)) = none (λ e. omega (arith, e)) (λ e. omega (arith, e)) refl
  property_told (violating f (code_32_34 {w = out} p q)) = none (λ e. omega (arith, e)) (λ e. omega (arith, e)) refl
  property_told (violating f (code_32_34 {w = into} p q)) = none (λ e. omega (arith, e)) (λ e. omega (arith, e)) refl
