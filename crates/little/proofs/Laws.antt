-- A number of a + b bytes is read, and written, as its a low bytes and the b after them; a part of a slice is read as it stands there.
use mathlib.Core.Path.{◌≡◌, refl, ap}
use mathlib.Core.List.{List, [], ◌∷◌, ◌++◌, append_assoc, append-nil}
use Prim.Native.Nat.{ℕ, zero, suc, ◌+◌, ◌*◌, ◌^◌, ◌/◌, ◌%◌, ◌<◌, ◌≤◌}
use native.Mathlib.Nat.{add-zero, zero-add, suc-add, add-suc, add_assoc, one-mul, mul_comm, mul-add, mul_assoc, pow-zero, pow-suc, pow-succ', one-le-pow, div-one, div-div-eq-div-mul}
use native.Mathlib.Numerals.{add-one}
use native.Mathlib.Omega.{arith}
use Rattle.std.specs.Prelude.{◌≢◌, ◌-◌, Result, Ok, MatchResult}
use Rattle.std.specs.Array.{IsWholeChunk}
use Rattle.std.proofs.lemmas.List.{get_or-take, get_or-drop}
use Rattle.std.proofs.lemmas.Result.{MatchResult-at_ok}
use lib.Arith.{mod-mul, digits_mod, digits_div}
use lib.ListN.{length, take, drop, drop_of_length-le, length-append}
use lib.Seq.{take-append_seam, drop-append-add, drop-drop, drop-nil, take_all}
use Rattle.little.specs.Little.{little, bytes, written}

-- the b bytes after the first a weigh 256 ^ a
pub little_add : (a b : ℕ) (s : List ℕ) (at : ℕ) → little (a + b) s at ≡ little a s at + 256 ^ a * little b s (at + a)
unfolding little
little_add zero b s at = simp (zero-add, pow-zero, one-mul, add-zero)
little_add (suc a) b s at = simp (add-one, suc-add, add-suc, little_add a b s (suc at), pow-succ', mul-add, mul_assoc, add_assoc)

-- as many bytes as are asked for
pub length_bytes : (w v : ℕ) → length (bytes w v) ≡ w
length_bytes zero v = refl
length_bytes (suc w) v = ap suc (length_bytes w (v / 256))

-- the a low bytes are those of the remainder, the b after them those of the quotient
pub bytes_add : (a b v : ℕ) → bytes (a + b) v ≡ bytes a (v % 256 ^ a) ++ bytes b (v / 256 ^ a)
bytes_add zero b v = simp (zero-add, pow-zero, div-one)
bytes_add (suc a) b v =
    let base : zero < 256 = omega arith in
    let weight : zero < 256 ^ a = one-le-pow a 256 base in
    let low : v % 256 < 256 = omega arith in
    simp (suc-add, pow-suc, mod-mul, digits_mod, digits_div, bytes_add a b, div-div-eq-div-mul, mul_comm 256 (256 ^ a))

-- a second write where the first ended
pub written_add : (s : List ℕ) (at : ℕ) (xs ys : List ℕ) → written (written s at xs) (at + length xs) ys ≡ written s at (xs ++ ys)
written_add s zero xs ys = simp (zero-add, take-append_seam, drop-append-add, drop-drop, append_assoc, length-append)
written_add [] (suc at) xs ys =
    let past : length xs ≤ suc at + length xs = omega arith in
    let beyond : length xs ≤ suc at + length xs + length ys = omega arith in
    simp (drop-nil, append-nil, take_all, drop_of_length-le)
written_add (x ∷ s) (suc at) xs ys = simp suc-add (cc (written_add s at xs ys))

-- the a low bytes and then the b after them
pub written_halves : (a b : ℕ) (s : List ℕ) (at v : ℕ) → written (written s at (bytes a (v % 256 ^ a))) (at + a) (bytes b (v / 256 ^ a)) ≡ written s at (bytes (a + b) v)
written_halves a b s at v = rw (bytes_add, ← written_add, length_bytes a)

-- a part of s is read as s is from where the part begins
little_part : (w n : ℕ) (s : List ℕ) (at i : ℕ) → i + w ≤ n → little w (take n (drop at s)) i ≡ little w s (at + i)
unfolding little
little_part zero n s at i fits = refl
little_part (suc w) n s at i fits = rw (get_or-take n (drop at s) i 0 (omega arith), get_or-drop, little_part w n s at (i + 1) (omega arith), add_assoc) refl

-- the w bytes of s from `at` on, as `try_into` makes an array of them
pub little_array : (w : ℕ) (s : List ℕ) (at : ℕ) {E : Type 0} {r : Result (List ℕ) E} {part : List ℕ} → r ≡ Ok part → MatchResult r (λ ys. IsWholeChunk (take (at + w - at) (drop at s)) ys w) (λ _. length (take (at + w - at) (drop at s)) ≢ w) → little w part 0 ≡ little w s at
little_array w s at made told = rw ((MatchResult-at_ok _ _ _ made told).same, little_part w (at + w - at) s at 0 (omega arith), add-zero) refl
