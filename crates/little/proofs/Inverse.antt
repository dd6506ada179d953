-- Reading undoes writing, and writing undoes reading, at every width.
use mathlib.Core.Path.{◌≡◌, refl}
use mathlib.Core.List.{List, [], ◌∷◌, ◌++◌}
use Prim.Native.Nat.{ℕ, zero, suc, ◌+◌, ◌*◌, ◌^◌, ◌/◌, ◌%◌, ◌≤◌, ◌<◌}
use native.Mathlib.Nat.{pow-suc}
use native.Mathlib.Numerals.{add-one}
use native.Mathlib.Omega.{arith}
use lib.ListN.{length, get_or, take, drop, length-append}
use lib.Seq.{append_snoc, get_or-append_seam, drop-cons, length-take-le}
use Rattle.little.specs.Little.{little, bytes, written}

-- the bytes of v, read from behind any others
little_past : (w v : ℕ) (p t : List ℕ) → v < 256 ^ w → little w (p ++ (bytes w v ++ t)) (length p) ≡ v
unfolding little
little_past zero v p t h = omega arith
little_past (suc w) v p t h =
    let e = simp (append_snoc, length-append) at (little_past w (v / 256) (p ++ (v % 256 ∷ [])) t (omega (arith, pow-suc 256 w))) in
    rw get_or-append_seam (omega arith)

-- a number that was written is read again
pub little_bytes : (w : ℕ) (s : List ℕ) (at v : ℕ) → v < 256 ^ w → at + w ≤ length s → little w (written s at (bytes w v)) at ≡ v
little_bytes w s at v h fits = rw (length-take-le at s (omega arith)) at (little_past w v (take at s) (drop (at + length (bytes w v)) s) h)

-- where every element of s is a byte (past the end `get_or` gives 0)
module _ (s : List ℕ) (small : (i : ℕ) → get_or s i 0 < 256) where
  -- the bytes of the number that is read are those that stand there
  pub bytes_little : (w at : ℕ) → at + w ≤ length s → bytes w (little w s at) ≡ take w (drop at s)
  unfolding little
  bytes_little zero at fits = refl
  bytes_little (suc w) at fits =
      let n = little w s (at + 1) in
      let low : (get_or s at 0 + 256 * n) % 256 ≡ get_or s at 0 = omega (arith, small at) in
      let high : (get_or s at 0 + 256 * n) / 256 ≡ n = omega (arith, small at) in
      rw (drop-cons s at 0 (omega arith), low, high, bytes_little w (at + 1) (omega arith), add-one)

  -- a number of w bytes is below 256 ^ w
  pub little_below : (w at : ℕ) → little w s at < 256 ^ w
  unfolding little
  little_below zero at = omega arith
  little_below (suc w) at = rw pow-suc (omega (arith, small at, little_below w (at + 1)))
