-- Laws of rows as they are put: in words of eight bytes, with what is moved added to a word. Two numbers of four bytes are one word, and neither sum carries.
use mathlib.Core.Path.{◌≡◌, refl, sym, ap, ◌∙◌}
use mathlib.Core.Bool.{Bool, true, false, cond}
use mathlib.Core.List.{List, [], ◌++◌, append_assoc, append-nil}
use Prim.Native.Nat.{ℕ, ◌+◌, ◌*◌, ◌^◌, ◌/◌, ◌%◌, ◌≤◌, ◌<◌}
use native.Mathlib.Nat.{add-zero}
use native.Mathlib.Omega.{arith}
use lib.Dec.{eqb}
use lib.ListN.{length, get_or, take, drop, length-append, length-drop, take-append-drop, drop_of_length-le}
use lib.Seq.{drop-drop, drop_at, take-append-le, take-take, length-take-le}
use Rattle.little.specs.Little.{little, bytes, written}
use Rattle.little.proofs.Laws.{little_add, length_bytes, bytes_add, written_add}
use Rattle.little.proofs.Inverse.{bytes_little, little_below}
use Rattle.writer.proofs.Laws.{then}
use Rattle.join.specs.Moved.{raised, moved_edge, moved_row}
use Rattle.join.specs.Inner.{offset_by}
use Rattle.join.proofs.Raised.{length_raised, raised_before, raised_behind}

-- every element is a byte
abbrev pub Small : List ℕ → Type 0
Small row = (i : ℕ) → get_or row i 0 < 256

module _ (row : List ℕ) (p d e : ℕ) (low : little 4 row p + d < 256 ^ 4) where
  -- the word with d more in its lower half, and e more in its upper half
  word_halves : bytes 8 (little 8 row p + (d + 4294967296 * e)) ≡ bytes 4 (little 4 row p + d) ++ bytes 4 (little 4 row (p + 4) + e)
  word_halves =
      let v = little 8 row p + (d + 4294967296 * e) in
      let whole = little_add 4 4 row p in
      let lower : v % 256 ^ 4 ≡ little 4 row p + d = omega arith in
      let upper : v / 256 ^ 4 ≡ little 4 row (p + 4) + e = omega arith in
      bytes_add 4 4 v ∙ rw (lower, upper) refl

  pub word_room : little 4 row (p + 4) + e < 256 ^ 4 → little 8 row p + (d + 4294967296 * e) < 256 ^ 8
  word_room high = let whole = little_add 4 4 row p in omega arith

  -- both numbers of a word
  pub both_raised : p + 8 ≤ length row → raised 4 (p + 4) e (raised 4 p d row) ≡ raised 8 p (d + 4294967296 * e) row
  both_raised fits =
      let low_bytes = bytes 4 (little 4 row p + d) in
      let l : length low_bytes ≡ 4 = length_bytes 4 (little 4 row p + d) in
      let stays : little 4 (raised 4 p d row) (p + 4) ≡ little 4 row (p + 4) = raised_behind 4 p d row (omega arith) 4 (p + 4) (omega arith) in
      ap (λ (x : ℕ). written (raised 4 p d row) (p + 4) (bytes 4 (x + e))) stays
      ∙ ap (λ (x : ℕ). written (written row p low_bytes) (p + x) (bytes 4 (little 4 row (p + 4) + e))) (sym l)
      ∙ written_add row p low_bytes (bytes 4 (little 4 row (p + 4) + e))
      ∙ ap (written row p) (sym word_halves)

module _ (row : List ℕ) (small : Small row) where
  -- the lower one alone: the upper half is put as it stands
  pub lower_raised : (p d : ℕ) → p + 8 ≤ length row → little 4 row p + d < 256 ^ 4 → raised 4 p d row ≡ raised 8 p d row
  lower_raised p d fits low =
      let low_bytes = bytes 4 (little 4 row p + d) in
      let upper : bytes 4 (little 4 row (p + 4) + 0) ≡ take 4 (drop (p + 4) row) = rw add-zero (bytes_little row small 4 (p + 4) (omega arith)) in
      let rest : take 4 (drop (p + 4) row) ++ drop (p + 8) row ≡ drop (p + 4) row =
      let e : p + 4 + 4 ≡ p + 8 = omega arith in
      ap (λ (x : List ℕ). take 4 (drop (p + 4) row) ++ x) (ap (λ (n : ℕ). drop n row) (sym e) ∙ sym (drop-drop 4 (p + 4) row)) ∙ take-append-drop 4 (drop (p + 4) row) in
      let sum : d + 4294967296 * 0 ≡ d = omega arith in
      let halves = rw sum at (word_halves row p d 0 low) in
      rw (length_bytes, length_bytes) (ap (λ (x : List ℕ). take p row ++ x)
      (ap (λ (x : List ℕ). low_bytes ++ x) (sym rest) ∙ sym (append_assoc low_bytes (take 4 (drop (p + 4) row)) (drop (p + 8) row))
      ∙ ap (λ (x : List ℕ). low_bytes ++ x ++ drop (p + 8) row) (sym upper) ∙ ap (λ (x : List ℕ). x ++ drop (p + 8) row) (sym halves)))

  pub lower_room : (p d : ℕ) → little 4 row p + d < 256 ^ 4 → little 8 row p + d < 256 ^ 8
  lower_room p d low = omega (arith, word_room row p d 0 low (omega (arith, little_below row small 4 (p + 4))))

  -- d more is no more where d is 0
  pub raised_nothing : (p : ℕ) → p + 8 ≤ length row → raised 8 p 0 row ≡ row
  raised_nothing p fits =
      let same : bytes 8 (little 8 row p + 0) ≡ take 8 (drop p row) = rw add-zero (bytes_little row small 8 p fits) in
      let long : length (take 8 (drop p row)) ≡ 8 = length-take-le 8 (drop p row) (rw length-drop (omega arith)) in
      ap (written row p) same
      ∙ ap (λ (n : ℕ). take p row ++ (take 8 (drop p row) ++ drop (p + n) row)) long
      ∙ ap (λ (x : List ℕ). take p row ++ (take 8 (drop p row) ++ x)) (sym (drop-drop 8 p row))
      ∙ ap (λ (x : List ℕ). take p row ++ x) (take-append-drop 8 (drop p row))
      ∙ take-append-drop p row

  -- ---- a row of two words, and one of three

  module _ (s t u : List ℕ) (at d : ℕ) where
    pub two_words :
        length row ≡ 16 → t ≡ written s at (bytes 8 (little 8 row 0)) → u ≡ written t (at + 8) (bytes 8 (little 8 row 8 + d)) → u ≡ written s at (raised 8 8 d row)
    two_words wide e f =
        let first = bytes 8 (little 8 row 0) in
        let second = bytes 8 (little 8 row 8 + d) in
        let begins : first ≡ take 8 row = bytes_little row small 8 0 (omega arith) in
        let none : drop (8 + length second) row ≡ [] = ap (λ (n : ℕ). drop (8 + n) row) (length_bytes 8 (little 8 row 8 + d)) ∙ drop_of_length-le row {i = 16} (omega arith) in
        let whole : first ++ second ≡ raised 8 8 d row =
        ap (λ (x : List ℕ). x ++ second) begins ∙ ap (λ (x : List ℕ). take 8 row ++ x) (sym (append-nil second)) ∙ ap (λ (x : List ℕ). take 8 row ++ (second ++ x)) (sym none) in
        then s t u at first second e (rw length_bytes f) ∙ ap (written s at) whole

    pub three_words :
        (v : List ℕ) (c : ℕ) → length row ≡ 24 → t ≡ written s at (bytes 8 (little 8 row 0)) → u ≡ written t (at + 8) (bytes 8 (little 8 row 8 + d))
        → v ≡ written u (at + 16) (bytes 8 (little 8 row 16 + c)) → v ≡ written s at (raised 8 8 d (raised 8 16 c row))
    three_words v c wide e f g =
        let first = bytes 8 (little 8 row 0) in
        let second = bytes 8 (little 8 row 8 + d) in
        let third = bytes 8 (little 8 row 16 + c) in
        let R = raised 8 16 c row in
        let none : drop (16 + length third) row ≡ [] = ap (λ (n : ℕ). drop (16 + n) row) (length_bytes 8 (little 8 row 16 + c)) ∙ drop_of_length-le row {i = 24} (omega arith) in
        let one : R ≡ take 16 row ++ third = ap (λ (x : List ℕ). take 16 row ++ (third ++ x)) none ∙ ap (λ (x : List ℕ). take 16 row ++ x) (append-nil third) in
        let stays : little 8 R 8 ≡ little 8 row 8 = raised_before 8 16 c row (omega arith) 8 8 (omega arith) in
        let long : length (take 16 row) ≡ 16 = length-take-le 16 row (omega arith) in
        let begins : take 8 R ≡ first = ap (take 8) one ∙ take-append-le 8 (take 16 row) third (omega arith) ∙ take-take 8 16 row (omega arith) ∙ sym (bytes_little row small 8 0 (omega arith)) in
        let ends : drop 16 R ≡ third = ap (drop 16) one ∙ drop_at (take 16 row) third 16 long in
        let whole : raised 8 8 d R ≡ first ++ (second ++ third) =
        ap (λ (x : ℕ). written R 8 (bytes 8 (x + d))) stays
        ∙ ap (λ (n : ℕ). take 8 R ++ (second ++ drop (8 + n) R)) (length_bytes 8 (little 8 row 8 + d))
        ∙ ap (λ (x : List ℕ). x ++ (second ++ drop 16 R)) begins
        ∙ ap (λ (x : List ℕ). first ++ (second ++ x)) ends in
        let two : length (first ++ second) ≡ 16 = omega (arith, length-append first second, length_bytes 8 (little 8 row 0), length_bytes 8 (little 8 row 8 + d)) in
        then s u v at (first ++ second) third (then s t u at first second e (rw length_bytes f)) (rw two g)
        ∙ ap (written s at) (append_assoc first second third ∙ sym whole)

-- ---- the rows

-- an edge row: its ends are the second word, its run's start the lower half of the third
pub edge_words :
    (ends run : ℕ) (row : List ℕ) → Small row → length row ≡ 24 → little 4 row 8 + ends < 256 ^ 4 → little 4 row 16 + run < 256 ^ 4
    → moved_edge ends run row ≡ raised 8 8 (ends + 4294967296 * ends) (raised 8 16 run row)
edge_words ends run row small wide source first =
    let one = raised 8 16 run row in
    let w : length one ≡ 24 = length_raised 8 16 run row (omega arith) ∙ wide in
    let stays : little 4 one 8 ≡ little 4 row 8 = raised_before 8 16 run row (omega arith) 4 8 (omega arith) in
    ap (λ (x : List ℕ). raised 4 12 ends (raised 4 8 ends x)) (lower_raised row small 16 run (omega arith) first)
    ∙ both_raised one 8 ends ends (rw stays source) (omega (arith, w))

-- a property row: its value is the second word
pub property_words : (text : ℕ) (row : List ℕ) → Small row → length row ≡ 16 → moved_row text row ≡ raised 8 8 (offset_by text row) row
property_words text row small wide = go (eqb (little 1 row 2) 5)
  where
    go : (b : Bool) → cond b (raised 8 8 text row) row ≡ raised 8 8 (cond b text 0) row
    go true = refl
    go false = sym (raised_nothing row small 8 (omega arith))
