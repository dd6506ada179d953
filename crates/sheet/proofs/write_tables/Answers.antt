-- `write_tables`: the two tables are made and lent, as long as they are.
use mathlib.Core.Path.{◌≡◌}
use mathlib.Core.List.{List}
use Prim.Native.Nat.{ℕ, ◌+◌, ◌*◌}
use native.Mathlib.Omega.{arith}
use lib.ListN.{take}
use Rattle.little.specs.Little.{written}
use Rattle.sheet.specs.Tables.{node_table, edge_table}
use Rattle.sheet.proofs.SheetRows.{nodes_length, edges_length}
use Rattle.sheet.proofs.Puts.{table_there}
use Rattle.sheet.proofs.LentTables.{told}
use Rattle.sheet.proofs.write_tables.Goals as goal

nodes_there : (s t : List ℕ) (n : ℕ) → t ≡ written s 0 (node_table n) → take (16 * n + 32) t ≡ node_table n
nodes_there s t n e = table_there s t (node_table n) (16 * n + 32) e (omega (arith, nodes_length n))

edges_there : (s t : List ℕ) (n : ℕ) → t ≡ written s 0 (edge_table n) → take (24 * n + 24) t ≡ edge_table n
edges_there s t n e = table_there s t (edge_table n) (24 * n + 24) e (omega (arith, edges_length n))

pub put_file-requires : goal.put_file-requires
put_file-requires c =
    let n = c.args.n in
    told n c.args.rows.now c.args.serial.now c.requires.1 (nodes_there _ _ n c.put_nodes.ensures) (edges_there _ _ n c.put_edges.ensures) c.requires.3

pub returns : goal.returns
returns c =
    let n = c.args.n in
    rw (nodes_there _ _ n c.put_nodes.ensures, edges_there _ _ n c.put_edges.ensures) at c.put_file.ensures
