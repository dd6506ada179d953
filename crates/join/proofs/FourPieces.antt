-- The joined tables are four pieces: the first's nodes, the second's nodes, the first's edges, the second's edges.
use mathlib.Core.Path.{◌≡◌, refl, sym, ap, ◌∙◌}
use mathlib.Core.List.{List, ◌++◌}
use Prim.Native.Nat.{ℕ, ◌+◌, ◌-◌, ◌*◌, ◌≤◌, ◌<◌}
use native.Mathlib.Nat.{add-zero, zero-add, add_assoc, add_comm}
use native.Mathlib.Omega.{arith}
use lib.ListN.{length, take, drop, length-append, length-take, length-drop}
use lib.Seq.{take-append-le, drop-append-le, drop-append-add}
use Rattle.little.specs.Little.{little}
use Rattle.layout.specs.declared.File.TheVariants.{Graph}
use Rattle.layout.specs.declared.Sort.TheVariants as sort
use Rattle.layout.specs.declared.Trailer.{Trailer}
use Rattle.layout.specs.declared.Head.{Head}
use Rattle.layout.specs.Tables.{between}
use Rattle.layout.specs.Files.{Body, Full}
use Rattle.layout.specs.Runs.{head_in, start, heads}
use Rattle.layout.proofs.Runs.{start_none}
use Rattle.layout.proofs.Heads.{length_heads, head_of_lem}
use Rattle.layout.proofs.Values.{tests_of}
use Rattle.layout.proofs.Accepted.{good_row, run_inside}
use Rattle.join.specs.declared.Moving.TheVariants.{Nodes, Edges, Rows}
use Rattle.join.specs.Joined.{node_rows, second_rows, joined_body, joined_numbers}
use Rattle.join.specs.Inner.{moved_table, Sound}
use Rattle.join.proofs.TableMoved.{length_table}
use Rattle.join.proofs.RunsMoved.{run_ends, all_rows, moved_head, Part, start_moved}
use Rattle.join.proofs.Reading.{in_first, in_second, in_taken, in_left, head_first, head_second, node_head, edge_head, before_value, text_value, other_value}
use Rattle.join.proofs.Pieces.{MovedRow, Piece}

unmoved : (h : Head) → h ≡ moved_head 0 h
unmoved h = rw add-zero refl

-- every field of row r is that of row q
abbrev SameRow : List ℕ → ℕ → List ℕ → ℕ → Type 0
SameRow R r t q = (w k : ℕ) → k + w ≤ 16 → little w R (16 * r + k) ≡ little w t (16 * q + k)

same_row : {R t : List ℕ} {r q : ℕ} → SameRow R r t q → MovedRow R r t q 0
same_row f =
    record {
      name = rw (add-zero, add-zero) at (f 2 0 (omega arith));
      kind = f 1 2 (omega arith);
      zero = f 1 3 (omega arith);
      length = f 4 4 (omega arith);
      text = λ e. rw add-zero (f 8 8 (omega arith));
      other = λ e. f 8 8 (omega arith);
    }

-- rows of two tables s and t of P and Q rows, put together in the order of the new rows: p of s, q of t, the rest of s, the rest of t
module _ (s t : List ℕ) (p q P Q : ℕ) (fs : length s ≡ 16 * P) (ft : length t ≡ 16 * Q) (hp : p ≤ P) (hq : q ≤ Q) where
  abbrev mixed : List ℕ
  mixed = take (16 * p) s ++ take (16 * q) t ++ drop (16 * p) s ++ drop (16 * q) t

  one : length (take (16 * p) s) ≡ 16 * p
  one = rw length-take (omega arith)

  two : length (take (16 * p) s ++ take (16 * q) t) ≡ 16 * (p + q)
  two = simp (length-append, length-take) (omega arith)

  three : length (take (16 * p) s ++ take (16 * q) t ++ drop (16 * p) s) ≡ 16 * (P + q)
  three = simp (length-append, length-take, length-drop) (omega arith)

  pub mixed_length : length mixed ≡ 16 * (P + Q)
  mixed_length = simp (length-append, length-take, length-drop) (omega arith)

  module _ (r : ℕ) where
    pub mixed_1 : r < p → SameRow mixed r s r
    mixed_1 h w k f =
        in_first 16 (P + q) (take (16 * p) s ++ take (16 * q) t ++ drop (16 * p) s) (drop (16 * q) t) three r w k f (omega arith)
        ∙ in_first 16 (p + q) (take (16 * p) s ++ take (16 * q) t) (drop (16 * p) s) two r w k f (omega arith)
        ∙ in_first 16 p (take (16 * p) s) (take (16 * q) t) one r w k f h
        ∙ in_taken 16 p s r w k f h

    pub mixed_2 : r < q → SameRow mixed (p + r) t r
    mixed_2 h w k f =
        in_first 16 (P + q) (take (16 * p) s ++ take (16 * q) t ++ drop (16 * p) s) (drop (16 * q) t) three (p + r) w k f (omega arith)
        ∙ in_first 16 (p + q) (take (16 * p) s ++ take (16 * q) t) (drop (16 * p) s) two (p + r) w k f (omega arith)
        ∙ in_second 16 p (take (16 * p) s) (take (16 * q) t) one r w k f
        ∙ in_taken 16 q t r w k f h

    pub mixed_3 : p + r < P → SameRow mixed (p + q + r) s (p + r)
    mixed_3 h w k f =
        in_first 16 (P + q) (take (16 * p) s ++ take (16 * q) t ++ drop (16 * p) s) (drop (16 * q) t) three (p + q + r) w k f (omega arith)
        ∙ in_second 16 (p + q) (take (16 * p) s ++ take (16 * q) t) (drop (16 * p) s) two r w k f
        ∙ in_left 16 p s r w k f

    pub mixed_4 : SameRow mixed (P + q + r) t (q + r)
    mixed_4 w k f =
        in_second 16 (P + q) (take (16 * p) s ++ take (16 * q) t ++ drop (16 * p) s) (drop (16 * q) t) three r w k f
        ∙ in_left 16 q t r w k f

module _ (n : Trailer) (a : Body) (m : Trailer) (b : Body) (x : Sound n a) (y : Sound m b) where
  pub p_in : node_rows n a ≤ n.rows
  p_in = run_ends Graph n a x.good n.nodes (omega (arith, length_heads Graph n a))

  pub q_in : node_rows m b ≤ m.rows
  q_in = run_ends Graph m b y.good m.nodes (omega (arith, length_heads Graph m b))

  second_full : length (second_rows n a m b) ≡ 16 * m.rows
  second_full = length_table (Rows n.text) m.rows b.rows y.full.rows

  pub joined_full : Full Graph (joined_numbers n m) (joined_body n a m b)
  joined_full =
      record {
        nodes = rw length-append (omega (arith, x.full.nodes, length_table (Nodes (node_rows n a)) m.nodes b.nodes y.full.nodes));
        edges = rw length-append (omega (arith, length_table (Edges 0 (node_rows m b)) n.edges a.edges x.full.edges, length_table (Edges n.nodes n.rows) m.edges b.edges y.full.edges));
        rows = mixed_length a.rows (second_rows n a m b) (node_rows n a) (node_rows m b) n.rows m.rows x.full.rows second_full p_in q_in;
        text = rw length-append (omega (arith, x.full.text, y.full.text));
      }

  -- ---- objects

  heads_1 : (i : ℕ) → i < n.nodes → head_in (heads Graph (joined_numbers n m) (joined_body n a m b)) (0 + i) ≡ moved_head 0 (head_in (heads Graph n a) (0 + i))
  heads_1 i h =
      head_of_lem Graph (joined_numbers n m) (joined_body n a m b) sort.Nodes i (omega arith)
      ∙ head_first n.nodes a.nodes _ i sort.Nodes x.full.nodes h
      ∙ unmoved _
      ∙ ap (moved_head 0) (sym (head_of_lem Graph n a sort.Nodes i h))

  heads_2 : (i : ℕ) → i < m.nodes → head_in (heads Graph (joined_numbers n m) (joined_body n a m b)) (n.nodes + i) ≡ moved_head (node_rows n a) (head_in (heads Graph m b) (0 + i))
  heads_2 i h =
      let r = run_inside Graph m b y.good sort.Nodes i h in
      rw zero-add at (head_of_lem Graph (joined_numbers n m) (joined_body n a m b) sort.Nodes (n.nodes + i) (omega arith))
      ∙ head_second n.nodes a.nodes _ i sort.Nodes x.full.nodes
      ∙ node_head m.nodes b.nodes i h (node_rows n a) y.full.nodes (omega (arith, r, p_in, x.held.rows, y.held.rows))
      ∙ ap (moved_head (node_rows n a)) (sym (head_of_lem Graph m b sort.Nodes i h))

  heads_3 : (i : ℕ) → i < n.edges → head_in (heads Graph (joined_numbers n m) (joined_body n a m b)) (n.nodes + m.nodes + i) ≡ moved_head (node_rows m b) (head_in (heads Graph n a) (n.nodes + i))
  heads_3 i h =
      let r = run_inside Graph n a x.good sort.Edges i h in
      head_of_lem Graph (joined_numbers n m) (joined_body n a m b) sort.Edges i (omega arith)
      ∙ head_first n.edges (moved_table (Edges 0 (node_rows m b)) n.edges a.edges) _ i sort.Edges (length_table (Edges 0 (node_rows m b)) n.edges a.edges x.full.edges) h
      ∙ edge_head n.edges a.edges i h 0 (node_rows m b) x.full.edges (omega (arith, r, q_in, x.held.rows, y.held.rows))
      ∙ ap (moved_head (node_rows m b)) (sym (head_of_lem Graph n a sort.Edges i h))

  heads_4 : (i : ℕ) → i < m.edges → head_in (heads Graph (joined_numbers n m) (joined_body n a m b)) (n.nodes + m.nodes + n.edges + i) ≡ moved_head n.rows (head_in (heads Graph m b) (m.nodes + i))
  heads_4 i h =
      let r = run_inside Graph m b y.good sort.Edges i h in
      ap (head_in (heads Graph (joined_numbers n m) (joined_body n a m b))) (add_assoc (n.nodes + m.nodes) n.edges i)
      ∙ head_of_lem Graph (joined_numbers n m) (joined_body n a m b) sort.Edges (n.edges + i) (omega arith)
      ∙ head_second n.edges (moved_table (Edges 0 (node_rows m b)) n.edges a.edges) _ i sort.Edges (length_table (Edges 0 (node_rows m b)) n.edges a.edges x.full.edges)
      ∙ edge_head m.edges b.edges i h n.nodes n.rows y.full.edges (omega (arith, r, x.held.rows, y.held.rows))
      ∙ ap (moved_head n.rows) (sym (head_of_lem Graph m b sort.Edges i h))

  -- each piece starts where the one before it ended
  part_1 : Part (heads Graph (joined_numbers n m) (joined_body n a m b)) (heads Graph n a) 0 0 n.nodes 0
  part_1 = record { heads = heads_1; base = rw (start_none, start_none) refl }

  part_2 : Part (heads Graph (joined_numbers n m) (joined_body n a m b)) (heads Graph m b) n.nodes 0 m.nodes (node_rows n a)
  part_2 = record { heads = heads_2; base = (rw (zero-add, add-zero) at (start_moved part_1 n.nodes (omega arith))) ∙ rw (start_none, zero-add) refl }

  part_3 : Part (heads Graph (joined_numbers n m) (joined_body n a m b)) (heads Graph n a) (n.nodes + m.nodes) n.nodes n.edges (node_rows m b)
  part_3 = let e = rw zero-add at (start_moved part_2 m.nodes (omega arith)) in record { heads = heads_3; base = omega arith }

  pub all_first : start (heads Graph n a) (n.nodes + n.edges) ≡ n.rows
  all_first = rw length_heads at (all_rows Graph n a x.good)

  pub all_second : start (heads Graph m b) (m.nodes + m.edges) ≡ m.rows
  all_second = rw length_heads at (all_rows Graph m b y.good)

  part_4 : Part (heads Graph (joined_numbers n m) (joined_body n a m b)) (heads Graph m b) (n.nodes + m.nodes + n.edges) m.nodes m.edges n.rows
  part_4 = let e = start_moved part_3 n.edges (omega arith) in record { heads = heads_4; base = omega (arith, all_first, e) }

  -- ---- property rows

  -- a row of the second file, where it was moved and where it stands
  moved_second : (r q : ℕ) (R : List ℕ) → q < m.rows → SameRow R r (second_rows n a m b) q → MovedRow R r b.rows q n.text
  moved_second r q R h f =
      let full = y.full.rows in
      let low : (w k : ℕ) → k + w ≤ 8 → little w R (16 * r + k) ≡ little w b.rows (16 * q + k) =
      λ w k l. f w k (omega arith) ∙ before_value m.rows b.rows q h n.text full w k l in
      let t = tests_of (good_row Graph m b y.good q h).good.own.value.1 in
      record {
        name = rw (add-zero, add-zero) at (low 2 0 (omega arith));
        kind = low 1 2 (omega arith);
        zero = low 1 3 (omega arith);
        length = low 4 4 (omega arith);
        text = λ e. f 8 8 (omega arith) ∙ text_value m.rows b.rows q h n.text full e (omega (arith, t.text e, y.full.text, x.held.text, y.held.text));
        other = λ e. f 8 8 (omega arith) ∙ other_value m.rows b.rows q h n.text full e;
      }

  -- ---- text

  first_text : (at l : ℕ) → at + l ≤ length a.text → between (a.text ++ b.text) (at + 0) (at + 0 + l) ≡ between a.text at (at + l)
  first_text at l h =
      let e : at + l - at ≡ l = omega arith in
      rw (add-zero, e, drop-append-le at a.text b.text (omega arith)) (take-append-le l (drop at a.text) b.text (omega (arith, length-drop at a.text)))

  second_text : (at l : ℕ) → at + l ≤ length b.text → between (a.text ++ b.text) (at + n.text) (at + n.text + l) ≡ between b.text at (at + l)
  second_text at l h =
      let e : at + l - at ≡ l = omega arith in
      let f : at + n.text + l - (at + n.text) ≡ l = omega arith in
      let g : at + n.text ≡ length a.text + at = omega (arith, x.full.text) in
      rw (e, f, g, drop-append-add) refl

  -- ---- the four pieces

  objects_in : length (heads Graph (joined_numbers n m) (joined_body n a m b)) ≡ n.nodes + m.nodes + (n.edges + m.edges)
  objects_in = length_heads Graph (joined_numbers n m) (joined_body n a m b)

  texts : length (a.text ++ b.text) ≡ length a.text + length b.text
  texts = length-append a.text b.text

  abbrev Of-first : ℕ → ℕ → ℕ → ℕ → Type 0
  Of-first to lo len d = Piece (joined_numbers n m) (joined_body n a m b) n a to lo len d 0

  abbrev Of-second : ℕ → ℕ → ℕ → ℕ → Type 0
  Of-second to lo len d = Piece (joined_numbers n m) (joined_body n a m b) m b to lo len d n.text

  pub piece_1 : Of-first 0 0 n.nodes 0
  piece_1 =
      record {
        objects = part_1;
        inside = omega (arith, length_heads Graph n a);
        inside_joined = omega (arith, objects_in);
        property = λ r from until.
            let u : r < node_rows n a = rw zero-add at until in
            rw add-zero (same_row (mixed_1 a.rows (second_rows n a m b) (node_rows n a) (node_rows m b) n.rows m.rows x.full.rows second_full p_in q_in r u));
        names = omega arith;
        text = omega (arith, texts);
        same_text = first_text;
      }

  pub piece_2 : Of-second n.nodes 0 m.nodes (node_rows n a)
  piece_2 =
      record {
        objects = part_2;
        inside = omega (arith, length_heads Graph m b);
        inside_joined = omega (arith, objects_in);
        property = λ r from until.
            let u : r < node_rows m b = rw zero-add at until in
            moved_second (r + node_rows n a) r _ (omega (arith, q_in)) (rw add_comm (mixed_2 a.rows (second_rows n a m b) (node_rows n a) (node_rows m b) n.rows m.rows x.full.rows second_full p_in q_in r u));
        names = omega arith;
        text = omega (arith, texts, x.full.text);
        same_text = second_text;
      }

  pub piece_3 : Of-first (n.nodes + m.nodes) n.nodes n.edges (node_rows m b)
  piece_3 =
      record {
        objects = part_3;
        inside = omega (arith, length_heads Graph n a);
        inside_joined = omega (arith, objects_in);
        property = λ r from until.
            let u : r < n.rows = rw all_first at until in
            let e : node_rows n a + (r - node_rows n a) ≡ r = omega arith in
            let f : node_rows n a + node_rows m b + (r - node_rows n a) ≡ r + node_rows m b = omega arith in
            same_row (rw (e, f) at (mixed_3 a.rows (second_rows n a m b) (node_rows n a) (node_rows m b) n.rows m.rows x.full.rows second_full p_in q_in (r - node_rows n a) (omega arith)));
        names = omega arith;
        text = omega (arith, texts);
        same_text = first_text;
      }

  pub piece_4 : Of-second (n.nodes + m.nodes + n.edges) m.nodes m.edges n.rows
  piece_4 =
      record {
        objects = part_4;
        inside = omega (arith, length_heads Graph m b);
        inside_joined = omega (arith, objects_in);
        property = λ r from until.
            let u : r < m.rows = rw all_second at until in
            let e : node_rows m b + (r - node_rows m b) ≡ r = omega arith in
            let f : n.rows + node_rows m b + (r - node_rows m b) ≡ r + n.rows = omega arith in
            moved_second (r + n.rows) r _ u (rw (e, f) at (mixed_4 a.rows (second_rows n a m b) (node_rows n a) (node_rows m b) n.rows m.rows x.full.rows second_full p_in q_in (r - node_rows m b)));
        names = omega arith;
        text = omega (arith, texts, x.full.text);
        same_text = second_text;
      }
