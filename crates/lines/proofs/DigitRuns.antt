-- Laws of digits: their number, and how they are read one after another.
use mathlib.Core.Path.{◌≡◌, refl, sym, ap, ◌∙◌, subst}
use mathlib.Core.Logic.{◌≢◌}
use mathlib.Core.Bool.{Bool, true, false}
use mathlib.Core.List.{List, [], ◌∷◌, ◌++◌}
use Prim.Native.Nat.{ℕ, zero, suc, ◌+◌, ◌-◌, ◌*◌, ◌^◌, ◌≤◌, ◌<◌}
use native.Mathlib.Nat.{pow-suc, mul-one, mul_assoc, mul_comm, mul_left_comm, one-le-pow, mul-le-mul_left}
use native.Mathlib.Omega.{arith}
use lib.ListN.{length, get_or, drop, length-append}
use Rattle.std.specs.Prelude.{Option, Some, None}
use Rattle.lines.specs.declared.Run as declared
use Rattle.lines.specs.declared.Numeral.{Numeral}
use Rattle.lines.specs.Digits.{Each, Digit, Digits, after, number, Sign, unsigned, negative}
use Rattle.lines.specs.Inner.{From, ReadsDigits, SomeDigits, NoDigits, TellsUnsigned, ReadsNumber, TellsNumber}
use Rattle.lines.proofs.Texts.{each_append, byte_is, step, within, from_none, from_then, from_byte, rest_of, run_one, run_full}

-- ---- the number of digits

pub after_append : (v : ℕ) (t u : List ℕ) → after v (t ++ u) ≡ after (after v t) u
after_append v [] u = refl
after_append v (x ∷ t) u = after_append (10 * v + (x - 0x30)) t u

-- up to m digits behind a number below b
pub after_below : (m b v : ℕ) (t : List ℕ) → v < b → length t ≤ m → Each Digit t → after v t < b * 10 ^ m
after_below m b v [] h l d = let p : b * 1 ≤ b * 10 ^ m = mul-le-mul_left b (one-le-pow m 10 (omega arith)) in let q = mul-one b in omega arith
after_below zero b v (x ∷ t) h l d = absurd (omega arith)
after_below (suc m) b v (x ∷ t) h l d =
    let e : b * 10 ^ suc m ≡ (10 * b) * 10 ^ m = simp (pow-suc, mul_assoc, mul_comm, mul_left_comm) in
    let k : 10 * v + (x - 0x30) < 10 * b = omega (arith, d.0.to) in
    rw e (after_below m (10 * b) (10 * v + (x - 0x30)) t k (omega arith) d.1)

pub after_small : {v : ℕ} (t : List ℕ) → v < 1000000 → length t ≤ 6 → Each Digit t → after v t < 1000000000000
after_small {v} t h l d = after_below 6 1000000 v t h l d

pub number_small : (t : List ℕ) → length t ≤ 6 → Each Digit t → number t < 1000000
number_small t l d = after_below 6 1 0 t (omega arith) l d

-- ---- reading digit after digit

module _ (s : List ℕ) (at most v : ℕ) where
  -- the digits so far, and their number
  pub record Going (n end : ℕ) : Type 0 where
    pub text : List ℕ
    pub from : From s at end text
    pub few : length text ≤ most
    pub each : Each Digit text
    pub value : n ≡ after v text

  pub begun : at ≤ length s → Going v at
  begun h = record { text = []; from = from_none s h; few = omega arith; each = tt; value = refl }

  module _ {n end : ℕ} (g : Going n end) where
    pub so_small : v < 1000000 → most ≤ 6 → n < 1000000000000
    so_small h k = let e = g.value in let l = g.few in let b = after_small g.text h (omega arith) g.each in omega arith

    digit_within : Digit (get_or s end 0) → end < length s
    digit_within d = within s end (omega (arith, d.from))

    pub next : end < at + most → (d : Digit (get_or s end 0)) → Going (10 * n + (get_or s end 0 - 48)) (end + 1)
    next h d =
        record {
          text = g.text ++ (get_or s end 0 ∷ []);
          from = from_then s g.from (from_byte s (digit_within d) refl);
          few = let l = length-append g.text (get_or s end 0 ∷ []) in let e = g.from.ends in omega arith;
          each = each_append Digit g.text (get_or s end 0 ∷ []) g.each (d, tt);
          value = ap (λ (x : ℕ). 10 * x + (get_or s end 0 - 48)) g.value ∙ sym (after_append v g.text (get_or s end 0 ∷ []));
        }

    pub stopped : ¬ Digit (get_or s end 0) → ReadsDigits s at most v (record { number = n; end = end })
    stopped not_so =
        record {
          text = g.text;
          from = g.from;
          run = record { few = g.few; each = g.each; stops = λ h x r e d. not_so (subst Digit (sym (byte_is s end x r e)) d) };
          value = g.value;
        }

    pub all_read : ¬ (end < at + most) → ReadsDigits s at most v (record { number = n; end = end })
    all_read h =
        record {
          text = g.text;
          from = g.from;
          run = record { few = g.few; each = g.each; stops = λ k. absurd (let e = g.from.ends in omega arith) };
          value = g.value;
        }

-- ---- at least one digit, or none

module _ {s : List ℕ} {at most v : ℕ} {d : declared.Run} (g : ReadsDigits s at most v d) where
  pub some_digits : d.end ≢ at → SomeDigits s at most d.end g.text
  some_digits h =
      record {
        from = g.from;
        few = record { from = let e = g.from.ends in omega arith; to = g.run.few; each = g.run.each };
        run = g.run;
      }

  pub digits_small : v < 1000000 → most ≤ 6 → d.number < 1000000000000
  digits_small h k = let e = g.value in let b = after_small g.text h (omega (arith, g.run.few)) g.run.each in omega arith

  pub no_digits : d.end ≡ at → NoDigits s at most
  no_digits h [] rest q e = absurd (omega (arith, q.from))
  no_digits h (x ∷ t) rest q e =
      let l : length g.text ≡ 0 = omega (arith, g.from.ends) in
      let f : drop d.end s ≡ x ∷ (t ++ rest) = rw h e in
      g.run.stops (omega (arith, q.to)) x (t ++ rest) f q.each.0

  -- where so many digits stand as are read at most
  pub full : {u w : List ℕ} → Digits most most u → drop at s ≡ u ++ w → (g.text ≡ u) × (d.end ≡ at + most) × (drop (at + most) s ≡ w)
  full {u} {w} q e =
      let l : length u ≡ most = omega (arith, q.from, q.to) in
      let k : g.text ≡ u = run_one most g.text u g.run (run_full most u l q.each) (sym g.from.here ∙ e) in
      let m : d.end ≡ at + most = omega (arith, g.from.ends, ap length k) in
      (k, m, rw (sym m) (rest_of s g.from k e))

-- ---- digits with a sign

module _ (s : List ℕ) (at most : ℕ) where
  pub minus_within : get_or s at 0 ≡ 45 → at < length s
  minus_within e = within s at (omega arith)

  pub with_minus : (r : Option Numeral) → get_or s at 0 ≡ 45 → TellsUnsigned r s (at + 1) most true → TellsNumber r s at most
  with_minus (Some n) e (f, u) =
      record {
        text = 45 ∷ u.text;
        digits = u.text;
        from = from_then s (from_byte s (minus_within e) e) u.digits.from;
        says = rw f (record { sign = 45 ∷ []; text = refl; minus = negative; few = u.digits.few });
        run = u.digits.run;
        value = u.value;
      }
  with_minus None e none = λ t ds rest b q h. none_behind none rest q.minus q.few (ap (λ (l : List ℕ). l ++ rest) (sym q.text) ∙ sym h)
    where
      no_minus : (ds rest : List ℕ) → Digits 1 most ds → ds ++ rest ≡ drop at s → ⊥
      no_minus [] rest k h = absurd (omega (arith, k.from))
      no_minus (x ∷ ds) rest k h = let y : get_or s at 0 ≡ x = byte_is s at x (ds ++ rest) (sym h) in omega (arith, k.each.0.from)

      none_behind : NoDigits s (at + 1) most → (rest : List ℕ) {b : Bool} {sign ds : List ℕ} → Sign b sign → Digits 1 most ds → sign ++ ds ++ rest ≡ drop at s → ⊥
      none_behind none rest {ds = ds} unsigned k h = no_minus ds rest k h
      none_behind none rest {ds = ds} negative k h = none ds rest k (step s at 45 (ds ++ rest) (sym h))

  pub without_minus : (r : Option Numeral) → get_or s at 0 ≢ 45 → TellsUnsigned r s at most false → TellsNumber r s at most
  without_minus (Some n) e (f, u) =
      record {
        text = u.text;
        digits = u.text;
        from = u.digits.from;
        says = rw f (record { sign = []; text = refl; minus = unsigned; few = u.digits.few });
        run = u.digits.run;
        value = u.value;
      }
  without_minus None e none = λ t ds rest b q h. none_here rest q.minus q.few (ap (λ (l : List ℕ). l ++ rest) (sym q.text) ∙ sym h)
    where
      none_here : (rest : List ℕ) {b : Bool} {sign ds : List ℕ} → Sign b sign → Digits 1 most ds → sign ++ ds ++ rest ≡ drop at s → ⊥
      none_here rest {ds = ds} unsigned k h = none ds rest k (sym h)
      none_here rest {ds = ds} negative k h = e (byte_is s at 45 (ds ++ rest) (sym h))

-- the number of what was read is small
pub number_read_small : {s : List ℕ} {at most n end : ℕ} {b : Bool} → ReadsNumber s at most b n end → most ≤ 6 → n < 1000000
number_read_small g h = let e = g.value in let k = number_small g.digits (omega (arith, g.run.few)) g.run.each in omega arith
