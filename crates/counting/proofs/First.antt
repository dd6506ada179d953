-- What rules 3 and 4 promise has one answer.
use mathlib.Core.Path.{◌≡◌, refl, sym, ◌∙◌}
use mathlib.Core.List.{List}
use Prim.Native.Nat.{ℕ, ◌+◌, ◌<◌}
use native.Mathlib.Decide.{dec_lt}
use native.Mathlib.Omega.{arith}
use lib.ListN.{length}
use lib.Seq.{ext_get_or}
use Rattle.little.specs.Promise.{Only}
use Rattle.little.proofs.Promise.{equal_one}
use Rattle.meaning.specs.Model.{Graph, Schema}
use Rattle.meaning.specs.Rules.{Way}
use Rattle.meaning.proofs.Count.{counted_one}
use Rattle.std.specs.Prelude.{Option, Some, None}
use Rattle.layout.specs.Ways.{way_of}
use Rattle.layout.proofs.Search.{table_one, searches_one}
use Rattle.counting.specs.declared.Start.{Start}
use Rattle.counting.specs.declared.Wrong.{Wrong}
use Rattle.counting.specs.Numbers.{AllZero, PlacedHere, CountersTo, CountersAt, FirstNumber, Numbers, CountersLeft, RuleTried}
use Rattle.counting.specs.Passes.{WrongAt, StepTried}

pub zero_one : Only AllZero
zero_one a b p q = let l = p.sized in ext_get_or 0 a b (p.sized ∙ sym q.sized) (λ v h. p.zero v (omega arith) ∙ sym (q.zero v (omega arith)))

module _ (G : Graph) (S : Schema) (w : Way) where
  counters_to_one : (s v : ℕ) → Only (CountersTo G S w s v)
  counters_to_one s v = table_one (λ u. equal_one 0) (λ u i j. counted_one {P = PlacedHere G S w s u} {xs = G.edges}) v

  -- so have the counters where a rule begins
  pub counters_at_one : (s v : ℕ) → Only (CountersAt G S w s v)
  counters_at_one s v a b p q = at (dec_lt 0 v)
    where
      at : Dec (0 < v) → a ≡ b
      at (yes h) = counters_to_one s v a b (p.some_passed h).1 (q.some_passed h).1
      at (no h) = zero_one a b (p.none_passed (omega arith)) (q.none_passed (omega arith))

  -- a step has one answer, and so have its counters
  pub step_one : (s from : ℕ) (x y : Option ℕ) (a b : List ℕ) → StepTried x G S w s from a → StepTried y G S w s from b → (x ≡ y) × (a ≡ b)
  step_one s from = searches_one from (length G.nodes) (WrongAt G S w s) (CountersTo G S w s) (counters_to_one s)

module _ (x : Start) (G : Graph) (S : Schema) where
  -- two first wrong numbers are one
  first_number_one : {s v k t u j : ℕ} → FirstNumber x G S s v k → FirstNumber x G S t u j → (s ≡ t) × (v ≡ u) × (k ≡ j)
  first_number_one {s} {v} {k} {t} {u} {j} a b =
      let p = a.first t u j b.violates b.not_before in
      let q = b.first s v k a.violates a.not_before in
      let m : s ≡ t = omega (arith, p.0, q.0) in
      let l = p.1 m in
      let r = q.1 (sym m) in
      let o : v ≡ u = omega arith in
      (m, o, counted_one a.violates.counted (rw (m, o) b.violates.counted))

  -- the promise has one answer
  numbers_one : Only (λ r. Numbers r x G S)
  numbers_one (Some y) (Some z) p q = let e = first_number_one p q in λ i. Some (record { edge = e.0 i; node = e.1 i; number = e.2 i })
  numbers_one (Some y) None p q = absurd (q y.edge y.node y.number p.violates p.not_before)
  numbers_one None (Some z) p q = absurd (p z.edge z.node z.number q.violates q.not_before)
  numbers_one None None p q = refl

  counters_one : (r : Option Wrong) → Only (CountersLeft r x G S)
  counters_one (Some y) a b p q = counters_to_one G S (way_of x.way) y.edge (y.node + 1) a b p q
  counters_one None a b p q = zero_one a b p q

  -- and so have the counters
  pub rule_one : (y z : Option Wrong) (a b : List ℕ) → RuleTried y x G S a → RuleTried z x G S b → (y ≡ z) × (a ≡ b)
  rule_one y z a b p q = let e = numbers_one y z p.numbers q.numbers in (e, counters_one y a b p.counters (rw e q.counters))
