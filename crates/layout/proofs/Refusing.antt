-- A table of refusals refuses with one code and place or passes, and never both; where its tests can be decided it does one of them. Two tables whose
-- tests say the same refuse the same.
use mathlib.Core.Path.{◌≡◌, refl, sym, ◌∙◌}
use mathlib.Core.Logic.Iff
use mathlib.Core.Logic.{◌↔◌}
use mathlib.Core.List.{List, [], ◌∷◌}
use Prim.Native.Nat.{ℕ}
use native.Mathlib.Omega.{arith}
use Rattle.std.proofs.Math.Logic.{∥∥₁_elim}
use Rattle.meaning.specs.Places.{Every}
use Rattle.meaning.proofs.Decide.{lowest_one, dec_not, by_dec, Search, found, nowhere, search_below}
use Rattle.layout.specs.Refusals.{Refusal, each, here, later, RefusedBy, Passed}

pub not_both : (ls : List Refusal) (c k : ℕ) → Passed ls → ¬ RefusedBy ls c k
not_both [] c k p r = r
not_both (l ∷ ls) c k p (here e b) = b.holds (p.0 _ b.below)
not_both (l ∷ ls) c k p (later h r) = not_both ls c k p.1 r

pub refused_one : (ls : List Refusal) (c k d j : ℕ) → RefusedBy ls c k → RefusedBy ls d j → (c ≡ d) × (k ≡ j)
refused_one [] c k d j p q = absurd p
refused_one (l ∷ ls) c k d j (here e m) (here f n) = (e ∙ sym f, lowest_one m n)
refused_one (l ∷ ls) c k d j (here e m) (later h r) = absurd (m.holds (h _ m.below))
refused_one (l ∷ ls) c k d j (later h r) (here e m) = absurd (m.holds (h _ m.below))
refused_one (l ∷ ls) c k d j (later h r) (later i s) = refused_one ls c k d j r s

-- the tests of a table can be decided
abbrev pub Decided : List Refusal → Type 0
Decided [] = Unit {0}
Decided (l ∷ ls) = ((i : ℕ) → Dec (l.Good i)) × Decided ls

pub data Outcome (ls : List Refusal) : Type 0 where
  refused : (c k : ℕ) → RefusedBy ls c k → Outcome ls
  passed : Passed ls → Outcome ls

unfoldable pub outcome : (ls : List Refusal) → Decided ls → Outcome ls
unfolding search_below dec_not
outcome [] d = passed tt
outcome (l ∷ ls) d = go (search_below (λ i. dec_not (d.0 i)) l.rows) (λ (_ : Unit {0}). outcome ls d.1)
  where
    next : Every l.rows l.Good → Outcome ls → Outcome (l ∷ ls)
    next h (refused c k r) = refused c k (later h r)
    next h (passed p) = passed (h, p)

    go : Search l.rows (λ i. ¬ l.Good i) → (Unit {0} → Outcome ls) → Outcome (l ∷ ls)
    go (found k b) r = refused l.code k (here refl b)
    go (nowhere h) r = next (λ i m. by_dec (d.0 i) (h i m)) (r tt)

-- the refusal of an outcome, for where it is computed: code and place, or nothing
abbrev pub refusal : {ls : List Refusal} → Outcome ls → List ℕ
refusal (refused c k r) = c ∷ k ∷ []
refusal (passed p) = []

pub is_passed : {ls : List Refusal} (o : Outcome ls) → refusal o ≡ [] → Passed ls
is_passed (refused c k r) e = let z : ◌≡◌ {A = ℕ} 0 1 = cc in absurd (omega arith)
is_passed (passed p) e = p

pub is_refused : {ls : List Refusal} {c k : ℕ} (o : Outcome ls) → refusal o ≡ c ∷ k ∷ [] → RefusedBy ls c k
is_refused {c = c} {k} (refused d j r) e = let f : d ≡ c = cc in let g : j ≡ k = cc in rw (f, g) at r
is_refused (passed p) e = let z : ◌≡◌ {A = ℕ} 0 1 = cc in absurd (omega arith)

-- a table that can be decided passes where it is known that it does, though not how
pub passed_for : (ls : List Refusal) → Decided ls → ∥ Passed ls ∥₁ → Passed ls
passed_for ls d t =
    elim (outcome ls d) [ refused c k r ↦ absurd (∥∥₁_elim t (λ x y. absurd x) (λ p. not_both ls c k p r)) | passed p ↦ p ]

-- ---- two tables of refusals whose tests say the same

pub data Same : List Refusal → List Refusal → Type 1 where
  none : Same [] []
  next : {c n : ℕ} {P Q : ℕ → Type 0} {ls ms : List Refusal} → ((i : ℕ) → P i ↔ Q i) → Same ls ms → Same (each c n P ∷ ls) (each c n Q ∷ ms)

pub same : (ls : List Refusal) → Same ls ls
same [] = none
same (l ∷ ls) = next (λ i. Iff.rfl) (same ls)

pub turned : {ls ms : List Refusal} → Same ls ms → Same ms ls
turned none = none
turned (next h s) = next (λ i. ((h i).1, (h i).0)) (turned s)

pub passed_on : {ls ms : List Refusal} → Same ls ms → Passed ls → Passed ms
passed_on none p = p
passed_on (next h s) p = (λ i l. (h i).0 (p.0 i l), passed_on s p.1)

pub refused_on : {ls ms : List Refusal} → Same ls ms → (x k : ℕ) → RefusedBy ls x k → RefusedBy ms x k
refused_on none x k r = r
refused_on (next h s) x k (here e b) = here e (record { below = b.below; holds = λ g. b.holds ((h _).1 g); before = λ i l n. b.before i l (λ g. n ((h i).0 g)) })
refused_on (next h s) x k (later a r) = later (λ i l. (h i).0 (a i l)) (refused_on s x k r)
