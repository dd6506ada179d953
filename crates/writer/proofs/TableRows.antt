-- Tables whose rows have one width: what is read at a row, and rows put one behind the other.
use mathlib.Core.Path.{◌≡◌, refl, sym, ap, ◌∙◌}
use mathlib.Core.List.{List, [], ◌++◌, append_assoc, append-nil}
use Prim.Native.Nat.{ℕ, zero, suc, ◌+◌, ◌*◌, ◌^◌, ◌≤◌, ◌<◌}
use native.Mathlib.Nat.{add-zero, add_assoc, not-suc-le-zero, mul-le-mul_left}
use native.Mathlib.Decide.{dec_lt}
use native.Mathlib.Numerals.{add-one}
use native.Mathlib.Omega.{arith}
use lib.ListN.{length, take, drop, take-append-drop, length-append, length-take, length-drop, get_or-append}
use lib.Seq.{get_or-append-add}
use Rattle.little.specs.Little.{little, bytes, written}
use Rattle.little.proofs.Inverse.{little_bytes}
use Rattle.writer.specs.TableRows.{rows_up_to}
use Rattle.writer.proofs.Laws.{then}

-- a number is read from the bytes at its places alone, whatever stands before and behind them
pub little_inside : (w : ℕ) (p q t : List ℕ) (k : ℕ) → k + w ≤ length q → little w (p ++ (q ++ t)) (length p + k) ≡ little w q k
unfolding little
little_inside zero p q t k h = refl
little_inside (suc w) p q t k h =
    rw (get_or-append-add p (q ++ t) k 0, get_or-append q t 0 k (omega arith), add_assoc (length p) k 1, little_inside w p q t (k + 1) (omega arith))

-- ---- a row where it stands

-- row i of a table: behind i rows of W bytes each
pub record Row (W : ℕ) (t : List ℕ) (i : ℕ) (row : List ℕ) : Type 0 where
  pub before : List ℕ
  pub behind : List ℕ
  pub whole : t ≡ before ++ (row ++ behind)
  pub place : length before ≡ W * i

pub first_row : (W : ℕ) (row q : List ℕ) → Row W (row ++ q) 0 row
first_row W row q = record { before = []; behind = q; whole = refl; place = omega arith }

module _ {W : ℕ} {t : List ℕ} {i : ℕ} {row : List ℕ} (r : Row W t i row) where
  -- m rows further on, where m rows are put before the table
  pub rows_before : (p : List ℕ) (m : ℕ) → length p ≡ W * m → Row W (p ++ t) (m + i) row
  rows_before p m l =
      record {
        before = p ++ r.before;
        behind = r.behind;
        whole = rw (r.whole, append_assoc);
        place = rw length-append (omega arith);
      }

  pub rows_behind : (q : List ℕ) → Row W (t ++ q) i row
  rows_behind q = record { before = r.before; behind = r.behind ++ q; whole = rw r.whole (simp append_assoc); place = r.place }

  -- a number v of the row, which stands k bytes after the row's first, is read there
  pub reads : {at : ℕ} (w k v : ℕ) → at ≡ W * i + k → k + w ≤ length row → v < 256 ^ w → written row k (bytes w v) ≡ row → little w t at ≡ v
  reads w k v e fits h same =
      rw (e, r.whole, ← r.place, little_inside w r.before row r.behind k fits) (rw same at (little_bytes w row k v h fits))

-- ---- rows made one after another

-- the first n rows have W bytes each
abbrev pub Wide : ℕ → (ℕ → List ℕ) → ℕ → Type 0
Wide W row n = (i : ℕ) → i < n → length (row i) ≡ W

module _ (W : ℕ) (row : ℕ → List ℕ) where
  pub length_up_to : (n : ℕ) → Wide W row n → length (rows_up_to n row) ≡ W * n
  length_up_to zero wide = omega arith
  length_up_to (suc n) wide = rw length-append (omega (arith, length_up_to n (λ i h. wide i (omega arith)), wide n (omega arith)))

  pub row_up_to : (n : ℕ) → Wide W row n → (i : ℕ) → i < n → Row W (rows_up_to n row) i (row i)
  row_up_to zero wide i h = absurd (not-suc-le-zero h)
  row_up_to (suc n) wide i h = go (dec_lt i n) (row_up_to n (λ i h. wide i (omega arith)) i)
    where
      go : Dec (i < n) → (i < n → Row W (rows_up_to n row) i (row i)) → Row W (rows_up_to n row ++ row n) i (row i)
      go (yes l) k = rows_behind (k l) (row n)
      go (no l) k =
          let e : i ≡ n = omega arith in
          rw e (record { before = rows_up_to n row; behind = []; whole = rw append-nil; place = length_up_to n (λ i h. wide i (omega arith)) })

-- ---- rows put one behind the other

-- what is written inside leaves the length
pub length_written : (s : List ℕ) (at : ℕ) (bs : List ℕ) → at + length bs ≤ length s → length (written s at bs) ≡ length s
length_written s at bs h =
    let a = length-append (take at s) (bs ++ drop (at + length bs) s) in
    let b = length-append bs (drop (at + length bs) s) in
    let c = length-take at s in
    let d = length-drop (at + length bs) s in
    omega arith

pub length_kept : {n : ℕ} (s t : List ℕ) (at : ℕ) (bs : List ℕ) → length s ≡ n → at + length bs ≤ n → t ≡ written s at bs → length t ≡ n
length_kept s t at bs l h e = ap length e ∙ length_written s at bs (omega arith) ∙ l

-- rows of W bytes, put one behind the other from `at` on
module _ (W : ℕ) (row : ℕ → List ℕ) (n : ℕ) (wide : Wide W row n) (s : List ℕ) (at : ℕ) where
  pub none_put : s ≡ written s at (rows_up_to 0 row)
  none_put = sym (take-append-drop at s) ∙ ap (λ (n : ℕ). take at s ++ drop n s) (sym (add-zero at))

  pub next_put : (t u : List ℕ) (i : ℕ) → i ≤ n → t ≡ written s at (rows_up_to i row) → u ≡ written t (at + W * i) (row i) → u ≡ written s at (rows_up_to (i + 1) row)
  next_put t u i h e f =
      let l : W * i ≡ length (rows_up_to i row) = omega (arith, length_up_to W row i (λ j k. wide j (omega arith))) in
      rw (add-one i) (then s t u at (rows_up_to i row) (row i) e (rw l at f))

  pub length_put : (t : List ℕ) (i : ℕ) → i ≤ n → at + W * n ≤ length s → t ≡ written s at (rows_up_to i row) → length t ≡ length s
  length_put t i h fits e =
      let m : W * i ≤ W * n = mul-le-mul_left W h in
      ap length e ∙ length_written s at (rows_up_to i row) (omega (arith, length_up_to W row i (λ j k. wide j (omega arith))))
