-- The numbers of the tables that are lent to the writer.
use mathlib.Core.Path.{◌≡◌, sym, ap, ◌∙◌}
use mathlib.Core.List.{List}
use Prim.Native.Nat.{ℕ, ◌+◌, ◌*◌}
use native.Mathlib.Omega.{arith}
use lib.ListN.{length}
use Rattle.std.specs.Prelude.{Some}
use Rattle.layout.specs.Files.{Body, body}
use Rattle.writer.specs.GraphFile.{tables, numbers_for}
use Rattle.writer.specs.Writes.{Writable}
use Rattle.writer.specs.Told.{Tells}
use Rattle.writer.proofs.LentTables.{tables_size}
use Rattle.sheet.specs.Tables.{node_table, edge_table, angle_tables}
use Rattle.sheet.proofs.SheetRows.{nodes_length, edges_length, numbers_with, counted_are}

module _ (n : ℕ) (rows text : List ℕ) (l : length rows ≡ 32 * n + 32) where
  numbers_same : numbers_with n (length text) (72 * n + 88 + length text) ≡ numbers_for (angle_tables n rows text) 5 5
  numbers_same =
      let b : Body = angle_tables n rows text in
      let back : length (tables b) ≡ 72 * n + 88 + length text = omega (arith, tables_size b, nodes_length n, edges_length n) in
      sym (counted_are n rows text (omega arith) (length (tables b)) ∙ ap (numbers_with n (length text)) back)

  pub told : {ns es : List ℕ} → ns ≡ node_table n → es ≡ edge_table n → Writable (angle_tables n rows text) 5 5 → Tells (Some (numbers_with n (length text) (72 * n + 88 + length text))) (body ns es rows text) 5 5
  told e f w = rw (e, f) (w, numbers_same)
