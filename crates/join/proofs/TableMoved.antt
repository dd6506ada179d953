-- Laws of a table in which something is moved in each row: how long it is, what is lent and put of a row, and what is read at it.
use mathlib.Core.Path.{◌≡◌, refl, sym, ap, ◌∙◌}
use mathlib.Core.List.{List, ◌++◌}
use Prim.Native.Nat.{ℕ, ◌+◌, ◌-◌, ◌*◌, ◌≤◌, ◌<◌}
use native.Mathlib.Omega.{arith}
use lib.ListN.{length, get_or, take, drop, length-take, length-drop}
use lib.Seq.{get_or-take, get_or-drop}
use Rattle.little.specs.Little.{little, written}
use Rattle.layout.proofs.RowsOf.{row_in_lem}
use Rattle.writer.proofs.TableRows.{Wide, length_up_to, row_up_to, little_inside}
use Rattle.join.specs.declared.Moving.{Moving}
use Rattle.join.specs.Moved.{row_at}
use Rattle.join.specs.Inner.{width_of, changed, moved_table, Room, RoomIn}
use Rattle.join.proofs.Raised.{same_bytes, length_changed}

abbrev pub row_in : Moving → List ℕ → ℕ → List ℕ
row_in m t i = changed m (row_at (width_of m) t i)

pub length_row : (W : ℕ) (t : List ℕ) (i : ℕ) → W * i + W ≤ length t → length (row_at W t i) ≡ W
length_row W t i h = rw (length-take, length-drop) (omega arith)

-- a number of a row is that of its table
pub row_number : (W : ℕ) (t : List ℕ) (i w k : ℕ) → k + w ≤ W → little w (row_at W t i) k ≡ little w t (W * i + k)
row_number W t i w k h =
    same_bytes w (row_at W t i) t k (W * i + k)
    (λ j l.
    let e : W * i + (k + j) ≡ W * i + k + j = omega arith in
    get_or-take W (drop (W * i) t) (k + j) 0 (omega arith) ∙ get_or-drop (W * i) t (k + j) 0 ∙ ap (λ (x : ℕ). get_or t x 0) e)

module _ (m : Moving) (n : ℕ) (t : List ℕ) (full : length t ≡ width_of m * n) where
  pub row_wide : (i : ℕ) → i < n → length (row_at (width_of m) t i) ≡ width_of m
  row_wide i h = length_row (width_of m) t i (rw full (row_in_lem (width_of m) i n h))

  pub all_wide : Wide (width_of m) (row_in m t) n
  all_wide i h = length_changed m (row_at (width_of m) t i) (row_wide i h)

  pub length_table : length (moved_table m n t) ≡ width_of m * n
  length_table = length_up_to (width_of m) (row_in m t) n all_wide

  -- what is read at row i of the moved table is read at the row that was put there
  pub table_number : (i w k : ℕ) → i < n → k + w ≤ width_of m → little w (moved_table m n t) (width_of m * i + k) ≡ little w (row_in m t i) k
  table_number i w k h fits =
      let r = row_up_to (width_of m) (row_in m t) n all_wide i h in
      let l = all_wide i h in
      ap (λ (x : List ℕ). little w x (width_of m * i + k)) r.whole
      ∙ ap (λ (x : ℕ). little w (r.before ++ (row_in m t i ++ r.behind)) (x + k)) (sym r.place)
      ∙ little_inside w r.before (row_in m t i) r.behind k (omega arith)

  -- a row, lent as the part of the table from its first byte up to the next row's
  module _ {W : ℕ} (e : W ≡ width_of m) (i : ℕ) where
    lent : take (W * i + W - W * i) (drop (W * i) t) ≡ row_at (width_of m) t i
    lent = let f : W * i + W - W * i ≡ W = omega arith in rw (f, e) refl

    pub row_fits : i < n → W * i + W ≤ length t
    row_fits h = rw (e, full) (row_in_lem (width_of m) i n h)

    pub row_ready :
        (at k : ℕ) → i < n → at + length t ≤ k → RoomIn m n t
        → (length (take (W * i + W - W * i) (drop (W * i) t)) ≡ width_of m) × (at + W * i + width_of m ≤ k) × Room m (take (W * i + W - W * i) (drop (W * i) t))
    row_ready at k h fits r = (ap length lent ∙ row_wide i h, omega (arith, row_fits h), rw lent (r i h))

    pub row_put :
        (s u : List ℕ) (at : ℕ) → u ≡ written s (at + W * i) (changed m (take (W * i + W - W * i) (drop (W * i) t)))
        → u ≡ written s (at + width_of m * i) (row_in m t i)
    row_put s u at f = rw (lent, e) at f
