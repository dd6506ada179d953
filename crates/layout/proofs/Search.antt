-- Laws of searches, and of tables that are gone through place by place.
use mathlib.Core.Path.{◌≡◌, refl, sym, ap, ◌∙◌}
use mathlib.Core.List.{List}
use Prim.Native.Nat.{ℕ, ◌+◌, ◌<◌}
use native.Mathlib.Decide.{dec_lt}
use native.Mathlib.Omega.{arith}
use lib.ListN.{length, get_or, set, replicate, length-set, length-replicate, get_or-replicate}
use lib.Seq.{get_or-set_same, get_or-set_other, ext_get_or}
use borrow.Author.Count.{below_more}
use Rattle.little.specs.Promise.{Only}
use Rattle.meaning.specs.Places.{Every, Lowest}
use Rattle.meaning.proofs.Decide.{lowest_one}
use Rattle.std.specs.Prelude.{Option}
use Rattle.std.specs.Prelude.{Some, None}
use Rattle.layout.specs.Search.{Seeks, From, stopped_at, UpTo, Searches}

-- ---- tables

module _ {size : ℕ} {P Q : ℕ → ℕ → Type 0} where
  -- nothing is passed: one number stands everywhere
  pub none_passed : (x : ℕ) → Every size (λ i. Q i x) → UpTo size P Q 0 (replicate size x)
  none_passed x q =
      record {
        sized = length-replicate {A = ℕ} size x;
        passed = λ i h. absurd (omega arith);
        ahead = λ i h l. rw (get_or-replicate {A = ℕ} size i x 0 l) (q i l);
      }

  -- one row more: stored, or as it is
  module _ {n : ℕ} {l : List ℕ} (h : n < size) (f : UpTo size P Q n l) where
    pub one_stored : (x : ℕ) → P n x → UpTo size P Q (n + 1) (set l n x)
    one_stored x p =
        let s = f.sized in
        record {
          sized = simp length-set s;
          passed =
              below_more (λ i. P i (get_or (set l n x) i 0)) n (λ i g. rw (get_or-set_other l n i x 0 (λ e. omega arith)) (f.passed i g))
              (rw (get_or-set_same l n x 0 (omega arith)) p);
          ahead = λ i g k. rw (get_or-set_other l n i x 0 (λ e. omega arith)) (f.ahead i (omega arith) k);
        }

    pub one_kept : P n (get_or l n 0) → UpTo size P Q (n + 1) l
    one_kept p = record { sized = f.sized; passed = below_more (λ i. P i (get_or l i 0)) n f.passed p; ahead = λ i g k. f.ahead i (omega arith) k }

  -- two such tables are one, where P and Q each have one number
  pub table_one : ((i : ℕ) → Only (P i)) → ((i : ℕ) → Only (Q i)) → (n : ℕ) → Only (UpTo size P Q n)
  table_one p q n a b f g = ext_get_or 0 a b (f.sized ∙ sym g.sized) (λ i h. row i h (dec_lt i n))
    where
      row : (i : ℕ) → i < length a → Dec (i < n) → get_or a i 0 ≡ get_or b i 0
      row i h (yes l) = p i _ _ (f.passed i l) (g.passed i l)
      row i h (no l) = let s = f.sized in q i _ _ (f.ahead i (omega arith) (omega arith)) (g.ahead i (omega arith) (omega arith))

-- ---- searches

-- what a search promises has one answer
pub seeks_one : (n : ℕ) (P : ℕ → Type 0) → Only (λ r. Seeks r n P)
seeks_one n P (Some j) (Some k) p q = ap Some (lowest_one p q)
seeks_one n P (Some j) None p q = absurd (q j p.below p.holds)
seeks_one n P None (Some k) p q = absurd (p k q.below q.holds)
seeks_one n P None None p q = refl

-- and so has its table
pub searches_one :
    (from n : ℕ) (P : ℕ → Type 0) (T : ℕ → List ℕ → Type 0) → ((k : ℕ) → Only (T k)) → (x y : Option ℕ) (a b : List ℕ) → Searches x from n P T a → Searches y from n P T b
    → (x ≡ y) × (a ≡ b)
searches_one from n P T one x y a b p q = let e = seeks_one n (From from P) x y p.found q.found in (e, one (stopped_at x n) a b p.table (rw e q.table))

-- a place that was found is one
pub found_same : {x : Option ℕ} {j k : ℕ} → x ≡ Some j → x ≡ Some k → j ≡ k
found_same p q = cc

pub found_apart : {x : Option ℕ} {k : ℕ} → x ≡ Some k → x ≡ None → ⊥
found_apart p q = let z : ◌≡◌ {A = ℕ} 0 1 = cc in omega arith

-- a search from the start on is a search
module _ {n : ℕ} {P : ℕ → Type 0} where
  pub lowest_from : {k : ℕ} → Lowest n (From 0 P) k → Lowest n P k
  lowest_from l = record { below = l.below; holds = l.holds.1; before = λ i h p. l.before i h (omega arith, p) }

  pub none_from : Every n (λ i. ¬ From 0 P i) → Every n (λ i. ¬ P i)
  none_from f i h p = f i h (omega arith, p)
