-- Masks, over the numbers: a number that has a bit for each place from j to n, the lowest bit for place j.
use mathlib.Core.Path.{◌≡◌, refl, sym, ap, ◌∙◌}
use mathlib.Core.Logic.{◌↔◌, ◌≢◌, ⊎_elim}
use Prim.Native.Nat.{ℕ, zero, suc, ◌+◌, ◌-◌, ◌*◌, ◌/◌, ◌%◌, ◌^◌, ◌≤◌, ◌<◌}
use native.Mathlib.Decide.{ℕ_discrete}
use native.Mathlib.Nat.{add-zero, zero-div, eq-or-lt_of_le, pow-suc, le_refl, lt_of_lt_of_le}
use native.Mathlib.Omega.{arith}
use lib.ListN.{length}
use lib.Pow.{shr-shr, pow_mono, pow_pos}
use Rattle.little.specs.Promise.{Only}
use Rattle.meaning.specs.Places.{Some}
use Rattle.meaning.specs.Model.{Graph, Schema}
use Rattle.meaning.specs.Fits.{HasLabel}
use Rattle.meaning.specs.Rules.{NodePlaced}
use Rattle.meaning.proofs.Decide.{by_dec, dec_some}
use Rattle.layout.proofs.Labels.{no_bits, labels_below}
use Rattle.placing.specs.Masks.{MaskOf}

pub record Bits (P : ℕ → Type 0) (n j m : ℕ) : Type 0 where
  pub bits : (k : ℕ) → j ≤ k → k < n → HasLabel m (k - j) ↔ P k
  pub below : m < 2 ^ (n - j)

pub bits_none : (P : ℕ → Type 0) (n : ℕ) → Bits P n n 0
bits_none P n = record { bits = λ k h l. absurd (omega arith); below = let e : n - n ≡ 0 = omega arith in rw e (le_refl 1) }

module _ (m b : ℕ) (h : b < 2) where
  lowest : HasLabel (2 * m + b) 0 ↔ (b ≡ 1)
  lowest = (λ e. omega arith, λ e. omega arith)

  -- the bits above the lowest
  higher : (k : ℕ) → (2 * m + b) / 2 ^ (1 + k) ≡ m / 2 ^ k
  higher k = let e : (2 * m + b) / 2 ^ 1 ≡ m = omega arith in sym (shr-shr (2 * m + b) 1 k) ∙ ap (λ x. x / 2 ^ k) e

-- one place more, before the others
module _ {P : ℕ → Type 0} {n j m : ℕ} (r : Bits P n j m) (l : 0 < j) (g : j ≤ n) where
  less : (b : ℕ) → b < 2 → 2 * m + b < 2 ^ (n - (j - 1))
  less b h = let e : n - (j - 1) ≡ suc (n - j) = omega arith in rw (e, pow-suc) (omega (arith, r.below))

  bit_more : (b : ℕ) → b < 2 → (b ≡ 1) ↔ P (j - 1) → Bits P n (j - 1) (2 * m + b)
  bit_more b h q =
      record {
        bits = λ k i f.
            ⊎_elim (λ (e : j - 1 ≡ k). let z : k - (j - 1) ≡ 0 = omega arith in rw (z, ← e) (λ t. q.0 ((lowest m b h).0 t), λ t. (lowest m b h).1 (q.1 t)))
            (λ (a : j - 1 < k). let e : k - (j - 1) ≡ 1 + (k - j) = omega arith in rw (e, higher m b h (k - j)) (r.bits k (omega arith) f))
            (eq-or-lt_of_le i);
        below = less b h;
      }

  pub bit_yes : P (j - 1) → Bits P n (j - 1) (2 * m + 1)
  bit_yes p = bit_more 1 (le_refl 2) (λ e. p, λ t. refl)

  pub bit_no : ¬ P (j - 1) → Bits P n (j - 1) (2 * m)
  bit_no p = rw add-zero at (bit_more 0 (omega arith) (λ e. absurd (omega arith), λ t. absurd (p t)))

  -- and 32 of them fit a number of 32 bits
  pub room : n ≤ 32 → 2 * m + 1 < 2 ^ 32
  room h = lt_of_lt_of_le (less 1 (le_refl 2)) (pow_mono {j = 32} (omega arith))

-- 0 has no bit, and a number that is not 0 and is below 2 ^ n has one below n
pub no_bit : (k : ℕ) → ¬ HasLabel 0 k
no_bit k h = let e : 0 % 2 ≡ 1 = rw (zero-div (2 ^ k)) at h in omega arith

pub some_bit : (m n : ℕ) → m < 2 ^ n → m ≢ 0 → Some n (HasLabel m)
some_bit m n h z = by_dec (dec_some (λ k. ℕ_discrete (m / 2 ^ k % 2) 1) n) (λ f. z (no_bits m m (le_refl m) (λ k b. f (k, (labels_below m n).1 h k b, b))))

-- a node is placed exactly if its mask is not 0
module _ {G : Graph} {S : Schema} {i m : ℕ} (r : MaskOf G S i m) where
  pub placed : m ≢ 0 → NodePlaced G S i
  placed z = let b = some_bit m _ r.below z in (b.0, b.1, (r.bits b.0 b.1).0 b.2)

  pub not_placed : m ≡ 0 → ¬ NodePlaced G S i
  not_placed z p = no_bit p.0 (rw z at ((r.bits p.0 p.1).1 p.2))

pub mask_none : {G : Graph} {S : Schema} {i : ℕ} → ¬ NodePlaced G S i → MaskOf G S i 0
mask_none {G} {S} {i} n = record { bits = λ j h. (λ b. absurd (no_bit j b), λ f. absurd (n (j, h, f))); below = pow_pos (length S.nodes) }

-- numbers with the same bits are equal, and so two masks of a node are one
same_bits : (m p q : ℕ) → p ≤ m → q ≤ m → ((k : ℕ) → HasLabel p k ↔ HasLabel q k) → p ≡ q
same_bits zero p q g h f = omega arith
same_bits (suc m) p q g h f =
    let e = same_bits m (p / 2) (q / 2) (omega arith) (omega arith) (λ k. rw (shr-shr p 1 k, shr-shr q 1 k) (f (1 + k))) in
    let x : p % 2 ≡ 1 → q % 2 ≡ 1 = λ y. let z : q / 2 ^ 0 % 2 ≡ 1 = (f 0).0 (omega arith) in omega arith in
    let y : q % 2 ≡ 1 → p % 2 ≡ 1 = λ y. let z : p / 2 ^ 0 % 2 ≡ 1 = (f 0).1 (omega arith) in omega arith in
    by_dec (ℕ_discrete p q) (λ n. go x y e n (ℕ_discrete (p % 2) 1) (ℕ_discrete (q % 2) 1))
  where
    go : (p % 2 ≡ 1 → q % 2 ≡ 1) → (q % 2 ≡ 1 → p % 2 ≡ 1) → p / 2 ≡ q / 2 → p ≢ q → Dec (p % 2 ≡ 1) → Dec (q % 2 ≡ 1) → ⊥
    go x y e n (yes a) b = let c = x a in n (omega arith)
    go x y e n (no a) (yes b) = a (y b)
    go x y e n (no a) (no b) = n (omega arith)

pub mask_one : {G : Graph} {S : Schema} {i : ℕ} → Only (MaskOf G S i)
mask_one {G} {S} {i} p q a b = same_bits (p + q) p q (omega arith) (omega arith) (λ k. (there a b k, there b a k))
  where
    there : {p q : ℕ} → MaskOf G S i p → MaskOf G S i q → (k : ℕ) → HasLabel p k → HasLabel q k
    there {p} a b k h = let l = (labels_below p (length S.nodes)).1 a.below k h in (b.bits k l).1 ((a.bits k l).0 h)
