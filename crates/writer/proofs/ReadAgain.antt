-- "Reading what was written gives the same values back", and what is written is always accepted.
use mathlib.Core.Path.{◌≡◌, refl, sym, ap, ap₂, ◌∙◌}
use mathlib.Core.Logic.{◌↔◌}
use mathlib.Core.List.{List, [], ◌++◌, append_assoc}
use Prim.Native.Nat.{ℕ, ◌+◌, ◌-◌, ◌^◌, ◌≤◌, ◌<◌}
use native.Mathlib.Nat.{zero-add}
use native.Mathlib.Omega.{arith}
use lib.ListN.{length, take, length-append}
use lib.Seq.{take-append_seam, drop-append_seam, drop-append-add}
use Rattle.little.specs.Little.{little}
use Rattle.little.proofs.Inverse.{little_bytes}
use Rattle.layout.specs.declared.File.{File}
use Rattle.layout.specs.declared.File.TheVariants.{Graph}
use Rattle.layout.specs.declared.Ceilings.{Ceilings}
use Rattle.layout.specs.declared.Trailer.{Trailer}
use Rattle.layout.specs.Tables.{between}
use Rattle.layout.specs.Files.{Body, Full, numbers, starts, body_at, before, numbers_of, body_of, ceilings}
use Rattle.layout.specs.Graph.{graph_of}
use Rattle.layout.specs.Refusals.{here, later, Sized, Marked, Held, Located, row_refusals, Passed, FileAccepted}
use Rattle.layout.specs.Checked.{graph_in}
use Rattle.layout.proofs.Accepted.{held, rows_good}
use Rattle.writer.specs.GraphFile.{tables, numbers_for, trailer, file_of}
use Rattle.writer.specs.declared.Outcome.{Outcome}
use Rattle.writer.specs.Outcome.{refused, wrote}
use Rattle.writer.specs.Writes.{Whole, Writable, Writes, SameValues}
use Rattle.writer.proofs.LentTables.{tables_size, few_bytes, whole_full}
use Rattle.writer.proofs.Filing.{file_length}

-- ---- the trailer

-- numbers that their fields hold
pub record Fits (n : Trailer) : Type 0 where
  pub nodes : n.nodes < 256 ^ 4
  pub edges : n.edges < 256 ^ 4
  pub rows : n.rows < 256 ^ 4
  pub text : n.text < 256 ^ 4
  pub labels : n.labels < 256 ^ 2
  pub names : n.names < 256 ^ 2
  pub back : n.back < 256 ^ 4

-- each number is read where it was written
pub numbers_again : (n : Trailer) → Fits n → numbers Graph (trailer n) ≡ n
numbers_again n f =
    let nodes : little 4 (trailer n) 0 ≡ n.nodes = little_bytes 4 (trailer n) 0 n.nodes f.nodes (omega arith) in
    let edges : little 4 (trailer n) 4 ≡ n.edges = little_bytes 4 (trailer n) 4 n.edges f.edges (omega arith) in
    let rows : little 4 (trailer n) 8 ≡ n.rows = little_bytes 4 (trailer n) 8 n.rows f.rows (omega arith) in
    let text : little 4 (trailer n) 12 ≡ n.text = little_bytes 4 (trailer n) 12 n.text f.text (omega arith) in
    let labels : little 2 (trailer n) 16 ≡ n.labels = little_bytes 2 (trailer n) 16 n.labels f.labels (omega arith) in
    let names : little 2 (trailer n) 18 ≡ n.names = little_bytes 2 (trailer n) 18 n.names f.names (omega arith) in
    let back : little 4 (trailer n) 20 ≡ n.back = little_bytes 4 (trailer n) 20 n.back f.back (omega arith) in
    rw (nodes, edges, rows, text, labels, names, back) refl

-- ---- the tables

-- a part of a list, between what stands before and behind it
part_is : (p q r : List ℕ) → between (p ++ (q ++ r)) (length p) (length p + length q) ≡ q
part_is p q r = let e : length p + length q - length p ≡ length q = omega arith in rw (e, drop-append_seam) (take-append_seam q r)

module _ (ns es rs ts t : List ℕ) where
  abbrev joined : List ℕ
  joined = ns ++ es ++ rs ++ ts ++ t

  nodes_part : between joined 0 (length ns) ≡ ns
  nodes_part = rw (append_assoc, append_assoc, append_assoc) (rw zero-add at (part_is [] ns (es ++ (rs ++ (ts ++ t)))))

  edges_part : between joined (length ns) (length ns + length es) ≡ es
  edges_part = rw (append_assoc, append_assoc, append_assoc) (part_is ns es (rs ++ (ts ++ t)))

  rows_part : between joined (length ns + length es) (length ns + length es + length rs) ≡ rs
  rows_part = rw (append_assoc, append_assoc) (rw length-append at (part_is (ns ++ es) rs (ts ++ t)))

  text_part : between joined (length ns + length es + length rs) (length ns + length es + length rs + length ts) ≡ ts
  text_part = rw append_assoc (rw (length-append, length-append) at (part_is (ns ++ es ++ rs) ts t))

-- full tables, read from where they were put
pub body_again : (n : Trailer) (b : Body) (t : List ℕ) → Full Graph n b → body_at (tables b ++ t) (starts Graph n 0) ≡ b
body_again n b t f =
    rw (zero-add, ← f.nodes, ← f.edges, ← f.rows, ← f.text)
    (rw (nodes_part b.nodes b.edges b.rows b.text t, edges_part b.nodes b.edges b.rows b.text t, rows_part b.nodes b.edges b.rows b.text t, text_part b.nodes b.edges b.rows b.text t) refl)

-- ---- the file

-- counts under the ceilings fit
pub held_fits : {n : Trailer} → Held (ceilings Graph) n → n.back ≤ (ceilings Graph).file → Fits n
held_fits h l = record { nodes = omega (arith, h.nodes); edges = omega (arith, h.edges); rows = omega (arith, h.rows); text = omega (arith, h.text); labels = omega (arith, h.labels); names = omega (arith, h.names); back = omega arith }

-- without a preface the tables start with the file
first_table : (f : List ℕ) (n : Trailer) → numbers_of Graph f ≡ n → before Graph f ≡ n.back → body_of Graph f ≡ body_at f (starts Graph n 0)
first_table f n e h =
    let z : before Graph f - n.back ≡ 0 = omega arith in
    ap (λ m. body_at f (starts Graph m (before Graph f - m.back))) e ∙ rw z refl

-- good rows of the same numbers and tables
pub rows_on : (F : File) {n m : Trailer} {b d : Body} → n ≡ m → b ≡ d → Passed (row_refusals F n b) → Passed (row_refusals F m d)
rows_on F e h p = rw (e, h) at p

-- a file whose numbers and tables are known is accepted by what these say
accept : (F : File) (c : Ceilings) (f : List ℕ) (n : Trailer) (b : Body) → numbers_of F f ≡ n → body_of F f ≡ b → Sized F c f → Marked F f → Held c n → Located F n (before F f) → Passed (row_refusals F n b) → FileAccepted F c f
accept F c f n b e h s m l o p = (λ i _. s, (λ i _. m, (λ i _. rw e l, (λ i _. rw e o, rows_on F (sym e) (sym h) p))))

module _ (b : Body) (labels names : ℕ) where
  -- the trailer follows the tables
  before_is : before Graph (file_of b labels names) ≡ length (tables b)
  before_is = omega (arith, file_length b labels names)

  pub read_marked : Marked Graph (file_of b labels names)
  read_marked = let e : length (file_of b labels names) - 4 ≡ length (tables b) + 24 = omega (arith, file_length b labels names) in rw (e, drop-append-add) refl

  module _ (f : Fits (numbers_for b labels names)) where
    pub read_numbers : numbers_of Graph (file_of b labels names) ≡ numbers_for b labels names
    read_numbers = rw (before_is, drop-append_seam) (numbers_again (numbers_for b labels names) f)

    module _ (w : Whole b) where
      pub read_body : body_of Graph (file_of b labels names) ≡ b
      read_body =
          first_table (file_of b labels names) (numbers_for b labels names) read_numbers before_is
          ∙ body_again (numbers_for b labels names) b (trailer (numbers_for b labels names)) (whole_full b labels names w)

      -- "the reader would refuse the values": the reader accepts the file exactly if the tables can be written
      pub accepted_iff : FileAccepted Graph (ceilings Graph) (file_of b labels names) ↔ Writable b labels names
      accepted_iff = (
        λ p. record { whole = w; held = rw read_numbers at (held Graph _ (ceilings Graph) p); rows = rows_on Graph read_numbers read_body (rows_good Graph _ (ceilings Graph) p) },
        λ u.
            let few = few_bytes b labels names w u.held in
            let full = whole_full b labels names {x = length (tables b)} w in
            accept Graph (ceilings Graph) (file_of b labels names) (numbers_for b labels names) b read_numbers read_body
            (record { least = omega (arith, file_length b labels names); most = omega (arith, file_length b labels names, tables_size b) })
            read_marked u.held
            (record { exact = omega (arith, tables_size b, full.nodes, full.edges, full.rows); inside = omega (arith, before_is) })
            u.rows,
      )

  -- ---- tables that can be written

  module _ (w : Writable b labels names) where
    fits : Fits (numbers_for b labels names)
    fits = held_fits w.held (omega (arith, tables_size b, few_bytes b labels names w.whole w.held))

    -- what is written is always accepted
    pub written_accepted : FileAccepted Graph (ceilings Graph) (file_of b labels names)
    written_accepted = (accepted_iff fits w.whole).1 w

    -- and says the same values: the numbers, every table byte for byte, and so the graph
    pub numbers_read : numbers_of Graph (file_of b labels names) ≡ numbers_for b labels names
    numbers_read = read_numbers fits

    pub tables_read : body_of Graph (file_of b labels names) ≡ b
    tables_read = read_body fits w.whole

    pub graph_read : graph_in (file_of b labels names) ≡ graph_of (numbers_for b labels names) b
    graph_read = ap₂ graph_of numbers_read tables_read

pub same_values : (b : Body) (labels names : ℕ) → Writable b labels names → SameValues b labels names (file_of b labels names)
same_values b labels names w =
    record { accepted = written_accepted b labels names w; numbers = numbers_read b labels names w; tables = tables_read b labels names w; graph = graph_read b labels names w }

-- the same of the writer's promise: where the code is 0, the bytes written are a file of these values
pub wrote_same : (b : Body) (labels names : ℕ) (out after : List ℕ) (o : Outcome) → Writes b labels names out o after → o.code ≡ 0 → SameValues b labels names (take o.number after)
wrote_same b labels names out after o (refused (here x l) e f) z = let y : o.code ≡ 41 = cc in absurd (omega arith)
wrote_same b labels names out after o (refused (later g (here x l)) e f) z = let y : o.code ≡ 42 = cc in absurd (omega arith)
wrote_same b labels names out after o (refused (later g (later h r)) e f) z = absurd r
wrote_same b labels names out after o (wrote p e f) z = rw (e, f, take-append_seam) (same_values b labels names (p.0 0 (omega arith)))
