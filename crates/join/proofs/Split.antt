-- A moved table taken apart at a row.
use mathlib.Core.Path.{◌≡◌, refl, sym, ap, ◌∙◌}
use mathlib.Core.List.{List, ◌++◌, append_assoc, append-nil}
use Prim.Native.Nat.{ℕ, zero, suc, ◌+◌, ◌-◌, ◌*◌, ◌≤◌, ◌<◌}
use native.Mathlib.Nat.{add-zero, add-suc, mul-add, mul-le-mul_left}
use native.Mathlib.Omega.{arith}
use lib.ListN.{length, take, drop, length-take}
use lib.Seq.{take_at, drop_at, drop-drop, ext_get_or, get_or-take, get_or-drop}
use Rattle.layout.proofs.RowsOf.{row_in_lem}
use Rattle.writer.specs.TableRows.{rows_up_to}
use Rattle.join.specs.declared.Moving.{Moving}
use Rattle.join.specs.Moved.{row_at}
use Rattle.join.specs.Inner.{width_of, changed, moved_table, RoomIn}
use Rattle.join.proofs.TableMoved.{row_in, length_row, length_table}

up_to_add : (p q : ℕ) (row : ℕ → List ℕ) → rows_up_to (p + q) row ≡ rows_up_to p row ++ rows_up_to q (λ i. row (p + i))
up_to_add p zero row = rw (add-zero, append-nil) refl
up_to_add p (suc q) row = rw (add-suc, up_to_add p q row) (append_assoc (rows_up_to p row) (rows_up_to q (λ i. row (p + i))) (row (p + q)))

pub up_to_same : (n : ℕ) (f g : ℕ → List ℕ) → ((i : ℕ) → i < n → f i ≡ g i) → rows_up_to n f ≡ rows_up_to n g
up_to_same zero f g h = refl
up_to_same (suc n) f g h = rw (up_to_same n f g (λ i l. h i (omega arith)), h n (omega arith)) refl

module _ (W : ℕ) (t : List ℕ) (p : ℕ) where
  pub row_taken : (i : ℕ) → i < p → W * p ≤ length t → row_at W (take (W * p) t) i ≡ row_at W t i
  row_taken i h fits =
      let z = row_in_lem W i p h in
      let l : length (take (W * p) t) ≡ W * p = rw length-take (omega arith) in
      let u = length_row W (take (W * p) t) i (omega arith) in
      let v = length_row W t i (omega arith) in
      ext_get_or 0 (row_at W (take (W * p) t) i) (row_at W t i) (u ∙ sym v)
      (λ k m.
      let k< : k < W = omega arith in
      get_or-take W (drop (W * i) (take (W * p) t)) k 0 k< ∙ get_or-drop (W * i) (take (W * p) t) k 0 ∙ get_or-take (W * p) t (W * i + k) 0 (omega arith)
      ∙ sym (get_or-take W (drop (W * i) t) k 0 k< ∙ get_or-drop (W * i) t k 0))

  pub row_left : (i : ℕ) → row_at W (drop (W * p) t) i ≡ row_at W t (p + i)
  row_left i = rw (drop-drop, mul-add) refl

module _ (m : Moving) (n : ℕ) (t : List ℕ) (full : length t ≡ width_of m * n) (p : ℕ) (h : p ≤ n) where
  inside : width_of m * p ≤ length t
  inside = rw full (mul-le-mul_left (width_of m) h)

  apart : moved_table m n t ≡ moved_table m p (take (width_of m * p) t) ++ moved_table m (n - p) (drop (width_of m * p) t)
  apart =
      let e : p + (n - p) ≡ n = omega arith in
      ap (λ (k : ℕ). rows_up_to k (row_in m t)) (sym e)
      ∙ up_to_add p (n - p) (row_in m t)
      ∙ ap (λ (l : List ℕ). l ++ rows_up_to (n - p) (λ i. row_in m t (p + i))) (up_to_same p _ _ (λ i l. ap (changed m) (sym (row_taken (width_of m) t p i l inside))))
      ∙ ap (λ (l : List ℕ). moved_table m p (take (width_of m * p) t) ++ l) (up_to_same (n - p) _ _ (λ i l. ap (changed m) (sym (row_left (width_of m) t p i))))

  taken_full : length (take (width_of m * p) t) ≡ width_of m * p
  taken_full = rw length-take (omega (arith, inside))

  long : length (moved_table m p (take (width_of m * p) t)) ≡ width_of m * p
  long = length_table m p (take (width_of m * p) t) taken_full

  pub table_taken : take (width_of m * p) (moved_table m n t) ≡ moved_table m p (take (width_of m * p) t)
  table_taken = ap (take (width_of m * p)) apart ∙ take_at (moved_table m p (take (width_of m * p) t)) _ (width_of m * p) long

  pub table_left : drop (width_of m * p) (moved_table m n t) ≡ moved_table m (n - p) (drop (width_of m * p) t)
  table_left = ap (drop (width_of m * p)) apart ∙ drop_at (moved_table m p (take (width_of m * p) t)) _ (width_of m * p) long

  pub room_taken : RoomIn m n t → RoomIn m p (take (width_of m * p) t)
  room_taken r i l = rw (row_taken (width_of m) t p i l inside) (r i (omega arith))

  pub room_left : RoomIn m n t → RoomIn m (n - p) (drop (width_of m * p) t)
  room_left r i l = rw (row_left (width_of m) t p i) (r (p + i) (omega arith))
