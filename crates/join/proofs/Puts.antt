-- What the functions that put tables are given, and what they leave.
use mathlib.Core.Path.{◌≡◌, sym, ap, ◌∙◌}
use mathlib.Core.List.{List, ◌++◌, append_assoc}
use Prim.Native.Nat.{ℕ, ◌+◌, ◌-◌, ◌*◌, ◌≤◌}
use native.Mathlib.Omega.{arith}
use lib.ListN.{length, take, drop, length-append, length-take, length-drop}
use Rattle.little.specs.Little.{written}
use Rattle.writer.proofs.Laws.{then}
use Rattle.join.specs.declared.Moving.TheVariants.{Rows}
use Rattle.join.specs.Inner.{moved_table, RoomIn}
use Rattle.join.proofs.Split.{table_taken, table_left, room_taken, room_left}
use Rattle.join.proofs.TableMoved.{length_table}

module _ (first second : List ℕ) (p m q text : ℕ) (hp : 16 * p ≤ length first) (full : length second ≡ 16 * m) (hq : q ≤ m) (at : ℕ) where
  module _ (k : ℕ) (fits : at + length first + length second ≤ k) (room : RoomIn (Rows text) m second) where
    pub front_ready :
        (length (take (16 * q) second) ≡ 16 * q) × (at + length (take (16 * p) first) + length (take (16 * q) second) ≤ k)
        × RoomIn (Rows text) q (take (16 * q) second)
    front_ready = simp length-take (omega arith, omega arith, room_taken (Rows text) m second full q hq room)

    pub back_ready :
        (length (drop (16 * q) second) ≡ 16 * (m - q))
        × (at + length (take (16 * p) first) + length (take (16 * q) second) + length (drop (16 * p) first) + length (drop (16 * q) second) ≤ k)
        × RoomIn (Rows text) (m - q) (drop (16 * q) second)
    back_ready = (rw length-drop (omega arith), simp (length-take, length-drop) (omega arith), room_left (Rows text) m second full q hq room)

  pub both_put :
      (s t u : List ℕ) → t ≡ written s at (take (16 * p) first ++ moved_table (Rows text) q (take (16 * q) second))
      → u ≡ written t (at + length (take (16 * p) first) + length (take (16 * q) second)) (drop (16 * p) first ++ moved_table (Rows text) (m - q) (drop (16 * q) second))
      → u ≡ written s at (take (16 * p) first ++ take (16 * q) (moved_table (Rows text) m second) ++ drop (16 * p) first ++ drop (16 * q) (moved_table (Rows text) m second))
  both_put s t u e f =
      let front = take (16 * p) first ++ moved_table (Rows text) q (take (16 * q) second) in
      let taken : length (take (16 * q) second) ≡ 16 * q = rw length-take (omega arith) in
      let l : at + length (take (16 * p) first) + length (take (16 * q) second) ≡ at + length front =
      omega (arith, length-append (take (16 * p) first) (moved_table (Rows text) q (take (16 * q) second)), length_table (Rows text) q (take (16 * q) second) taken, taken) in
      then s t u at front (drop (16 * p) first ++ moved_table (Rows text) (m - q) (drop (16 * q) second)) e (rw l at f)
      ∙ rw (table_taken (Rows text) m second full q hq, table_left (Rows text) m second full q hq) (ap (written s at) (sym (append_assoc front (drop (16 * p) first) (moved_table (Rows text) (m - q) (drop (16 * q) second)))))
