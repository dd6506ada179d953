-- Laws of putting rows: numbers that are written one behind the other are a row, and rows a table.
use mathlib.Core.Path.{◌≡◌, ap, ◌∙◌, subst}
use mathlib.Core.List.{List, [], ◌∷◌, ◌++◌}
use Prim.Native.Nat.{ℕ, ◌+◌, ◌*◌, ◌/◌, ◌%◌, ◌<◌}
use native.Mathlib.Omega.{arith}
use lib.ListN.{length, take, drop}
use lib.Seq.{take_at}
use lib.Ieee.{binary64, to_bits}
use Rattle.little.specs.Little.{bytes, written}
use Rattle.writer.proofs.Laws.{then}
use Rattle.lines.specs.declared.Angle.{Angle}
use Rattle.sheet.specs.Tables.{node_row, edge_row, property_row, twos, angle_rows}

-- ---- rows

module _ (s t u v : List ℕ) (at : ℕ) where
  pub put_node_row :
      (labels first count : ℕ) → t ≡ written s at (bytes 8 labels) → u ≡ written t (at + 8) (bytes 4 first) → v ≡ written u (at + 12) (bytes 4 count)
      → v ≡ written s at (node_row labels first count)
  put_node_row labels first count e f g = then s u v at (bytes 8 labels ++ bytes 4 first) (bytes 4 count) (then s t u at (bytes 8 labels) (bytes 4 first) e f) g

  pub put_edge_row :
      (w x : List ℕ) (labels source target first count : ℕ) → t ≡ written s at (bytes 8 labels) → u ≡ written t (at + 8) (bytes 4 source)
      → v ≡ written u (at + 12) (bytes 4 target) → w ≡ written v (at + 16) (bytes 4 first) → x ≡ written w (at + 20) (bytes 4 count)
      → x ≡ written s at (edge_row labels source target first count)
  put_edge_row w x labels source target first count e f g h i =
      let three : v ≡ written s at (node_row labels source target) = put_node_row labels source target e f g in
      then s w x at (node_row labels source target ++ bytes 4 first) (bytes 4 count) (then s v w at (node_row labels source target) (bytes 4 first) three h) i

  -- a kind below 256 and the zero byte behind it are two bytes of one number
  pub put_property_row :
      (w : List ℕ) (name kind size value : ℕ) → kind < 256 → t ≡ written s at (bytes 2 name) → u ≡ written t (at + 2) (bytes 2 kind)
      → v ≡ written u (at + 4) (bytes 4 size) → w ≡ written v (at + 8) (bytes 8 value) → w ≡ written s at (property_row name kind size value)
  put_property_row w name kind size value k e f g h =
      let zero_byte : kind / 256 % 256 ≡ 0 = omega arith in
      let two = then s t u at (bytes 2 name) (bytes 2 kind) e f in
      let three = then s u v at (bytes 2 name ++ bytes 2 kind) (bytes 4 size) two g in
      subst (λ (z : ℕ). w ≡ written s at (bytes 2 name ++ (kind % 256 ∷ z ∷ []) ++ bytes 4 size ++ bytes 8 value)) zero_byte
      (then s v w at (bytes 2 name ++ bytes 2 kind ++ bytes 4 size) (bytes 8 value) three h)

-- an angle's two rows
pub put_angle_rows :
    (s t u : List ℕ) (i : ℕ) (a : Angle) {d : ℕ} → d ≡ twos a.degrees → t ≡ written s (16 * (2 * i + 2)) (property_row 3 2 0 d)
    → u ≡ written t (16 * (2 * i + 3)) (property_row 4 3 0 (to_bits binary64 a.coefficient)) → u ≡ written s (32 * i + 32) (angle_rows a)
put_angle_rows s t u i a {d} b e f =
    let first : 16 * (2 * i + 2) ≡ 32 * i + 32 = omega arith in
    let second : 16 * (2 * i + 3) ≡ 32 * i + 32 + 16 = omega arith in
    then s t u (32 * i + 32) (property_row 3 2 0 (twos a.degrees)) (property_row 4 3 0 (to_bits binary64 a.coefficient)) (rw (first, b) at e) (rw second at f)

-- ---- tables

-- a table that was written from the first byte on is what stands there
pub table_there : (s t bs : List ℕ) (n : ℕ) → t ≡ written s 0 bs → length bs ≡ n → take n t ≡ bs
table_there s t bs n e l = ap (λ (x : List ℕ). take n x) e ∙ take_at bs (drop (0 + length bs) s) n l
