-- What is read at a row of a table whose rows have one width: the numbers that the row was made of.
use mathlib.Core.Path.{◌≡◌, refl}
use mathlib.Core.List.{List}
use Prim.Native.Nat.{ℕ, ◌+◌, ◌*◌, ◌^◌, ◌<◌}
use native.Mathlib.Omega.{arith}
use Rattle.little.specs.Little.{little}
use Rattle.layout.specs.declared.File.TheVariants.{Graph}
use Rattle.layout.specs.declared.Sort.TheVariants.{Nodes, Edges}
use Rattle.layout.specs.declared.Head.{Head}
use Rattle.layout.specs.Files.{form, source_at, target_at}
use Rattle.layout.specs.Runs.{head_at, name_at}
use Rattle.layout.specs.Graph.{kind_at, zero_at, length_at, bits_at}
use Rattle.writer.proofs.TableRows.{Row, reads}
use Rattle.sheet.specs.Tables.{node_row, edge_row, property_row}

-- ---- the fields of each row, where they hold its numbers

abbrev pub head_of : ℕ → ℕ → ℕ → Head
head_of l f c = record { labels = l; first = f; count = c }

pub node_fields : {t : List ℕ} {i l f c : ℕ} → l < 256 ^ 8 → f < 256 ^ 4 → c < 256 ^ 4 → Row 16 t i (node_row l f c) → head_at (form Graph Nodes) t i ≡ head_of l f c
node_fields {t} {i} {l} {f} {c} hl hf hc r =
    let labels : little 8 t (16 * i) ≡ l = reads r 8 0 l (omega arith) (omega arith) hl refl in
    let first : little 4 t (16 * i + 8) ≡ f = reads r 4 8 f refl (omega arith) hf refl in
    let count : little 4 t (16 * i + 8 + 4) ≡ c = reads r 4 12 c (omega arith) (omega arith) hc refl in
    rw (labels, first, count)

-- what is read at an edge row
pub record EdgeRead (t : List ℕ) (e l a b f c : ℕ) : Type 0 where
  pub head : head_at (form Graph Edges) t e ≡ head_of l f c
  pub source : source_at Graph t e ≡ a
  pub target : target_at Graph t e ≡ b

pub edge_fields :
    {t : List ℕ} {e l a b f c : ℕ} → l < 256 ^ 8 → a < 256 ^ 4 → b < 256 ^ 4 → f < 256 ^ 4 → c < 256 ^ 4 → Row 24 t e (edge_row l a b f c)
    → EdgeRead t e l a b f c
edge_fields {t} {e} {l} {a} {b} {f} {c} hl ha hb hf hc r =
    let labels : little 8 t (24 * e) ≡ l = reads r 8 0 l (omega arith) (omega arith) hl refl in
    let first : little 4 t (24 * e + 16) ≡ f = reads r 4 16 f refl (omega arith) hf refl in
    let count : little 4 t (24 * e + 16 + 4) ≡ c = reads r 4 20 c (omega arith) (omega arith) hc refl in
    record { head = rw (labels, first, count); source = reads r 4 8 a refl (omega arith) ha refl; target = reads r 4 12 b refl (omega arith) hb refl }

-- what is read at a property row
pub record PropertyRead (t : List ℕ) (i n k l v : ℕ) : Type 0 where
  pub name : name_at Graph t i ≡ n
  pub kind : kind_at t i ≡ k
  pub zero : zero_at t i ≡ 0
  pub len : length_at t i ≡ l
  pub bits : bits_at t i ≡ v

pub property_fields : {t : List ℕ} {i n k l v : ℕ} → n < 256 ^ 2 → k < 256 ^ 1 → l < 256 ^ 4 → v < 256 ^ 8 → Row 16 t i (property_row n k l v) → PropertyRead t i n k l v
property_fields {n = n} {k} {l} {v} hn hk hl hv r =
    record {
      name = reads r 2 0 n (omega arith) (omega arith) hn refl;
      kind = reads r 1 2 k refl (omega arith) hk refl;
      zero = reads r 1 3 0 refl (omega arith) (omega arith) refl;
      len = reads r 4 4 l refl (omega arith) hl refl;
      bits = reads r 8 8 v refl (omega arith) hv refl;
    }
