-- Three graphs joined either way are the same bytes: rows that are moved twice are moved once, by the sum.
use mathlib.Core.Path.{◌≡◌, refl, sym, ap, ap₂, ◌∙◌}
use mathlib.Core.List.{List, ◌++◌, append_assoc}
use Prim.Native.Nat.{ℕ, zero, suc, ◌+◌, ◌-◌, ◌*◌, ◌^◌, ◌/◌, ◌≤◌, ◌<◌, max}
use native.Mathlib.Nat.{add_assoc, mul-add}
use native.Mathlib.Decide.{dec_lt, ℕ_discrete}
use native.Mathlib.Omega.{arith}
use lib.ListN.{length, get_or, take, drop, length-append, length-take, length-drop, take-append-drop, get_or-append}
use lib.Seq.{take_all, take_at, drop_at, length-take-le, get_or-append-add, get_or-drop}
use Rattle.little.specs.Little.{little, bytes, written}
use Rattle.little.proofs.Laws.{little_add, length_bytes}
use Rattle.little.proofs.Inverse.{bytes_little}
use Rattle.layout.specs.declared.File.TheVariants.{Graph}
use Rattle.layout.specs.declared.Trailer.{Trailer}
use Rattle.layout.specs.Files.{Body, ceilings, numbers_of, tables_of, body_of}
use Rattle.layout.specs.Refusals.{Held, FileAccepted}
use Rattle.writer.specs.GraphFile.{file_of}
use Rattle.writer.proofs.ReadAgain.{same_values}
use Rattle.writer.proofs.TableRows.{Wide, row_up_to}
use Rattle.join.specs.declared.Moving.{Moving}
use Rattle.join.specs.declared.Moving.TheVariants.{Nodes, Edges, Rows}
use Rattle.join.specs.Moved.{raised, row_at, each_row, moved_edge, moved_row}
use Rattle.join.specs.Joined.{node_rows, second_rows, joined_body, joined_numbers, joined_tables, numbers_of_both, joined_file}
use Rattle.join.specs.Inner.{width_of, changed, moved_table, Room, RoomIn, Sound}
use Rattle.join.proofs.Raised.{raised_there, raised_before, edge_wide, edge_labels, edge_source, edge_target, edge_first, edge_count, text_moved, other_stays}
use Rattle.join.proofs.Words.{Small}
use Rattle.join.proofs.TableMoved.{row_wide, all_wide, length_table}
use Rattle.join.proofs.Split.{table_taken, table_left, up_to_same}
use Rattle.join.proofs.FourPieces.{p_in, q_in, piece_3}
use Rattle.join.proofs.Rooms.{node_room, edge_room, row_room}
use Rattle.join.proofs.Tied.{sound, both_numbers, joined_writable}
use Rattle.join.proofs.EmptyGraph.{small_take, small_between, same_body}

-- ---- a number raised twice

written_twice : (s : List ℕ) (p : ℕ) (xs ys : List ℕ) → length xs ≡ length ys → p ≤ length s → written (written s p xs) p ys ≡ written s p ys
written_twice s p xs ys e h =
    let l : length (take p s) ≡ p = length-take-le p s h in
    let k : length (take p s ++ xs) ≡ p + length ys = rw length-append (omega arith) in
    ap₂ (λ (u v : List ℕ). u ++ (ys ++ v)) (take_at (take p s) (xs ++ drop (p + length xs) s) p l)
    (ap (drop (p + length ys)) (sym (append_assoc (take p s) xs (drop (p + length xs) s))) ∙ drop_at (take p s ++ xs) (drop (p + length xs) s) (p + length ys) k ∙ ap (λ (i : ℕ). drop (p + i) s) e)

raised_twice :
    (w p d e : ℕ) (row : List ℕ) → p + w ≤ length row → little w row p + (e + d) < 256 ^ w → raised w p d (raised w p e row) ≡ raised w p (e + d) row
raised_twice w p d e row fits room =
    let v = little w row p in
    let there : little w (raised w p e row) p + d ≡ v + (e + d) = ap (λ (i : ℕ). i + d) (raised_there w p e row fits (omega arith)) ∙ add_assoc v e d in
    ap (λ (i : ℕ). written (raised w p e row) p (bytes w i)) there
    ∙ written_twice row p (bytes w (v + e)) (bytes w (v + (e + d))) (length_bytes w (v + e) ∙ sym (length_bytes w (v + (e + d)))) (omega arith)

row_twice : (d e : ℕ) (row : List ℕ) → length row ≡ 16 → Room (Rows (e + d)) row → moved_row d (moved_row e row) ≡ moved_row (e + d) row
row_twice d e row wide room = go (ℕ_discrete (little 1 row 2) 5)
  where
    go : Dec (little 1 row 2 ≡ 5) → moved_row d (moved_row e row) ≡ moved_row (e + d) row
    go (yes k) =
        let kind : little 1 (raised 8 8 e row) 2 ≡ 5 = raised_before 8 8 e row (omega arith) 1 2 (omega arith) ∙ k in
        ap (moved_row d) (text_moved e row k) ∙ text_moved d (raised 8 8 e row) kind ∙ raised_twice 8 8 d e row (omega arith) (room k) ∙ sym (text_moved (e + d) row k)
    go (no k) = ap (moved_row d) (other_stays e row k) ∙ other_stays d row k ∙ sym (other_stays (e + d) row k)

-- ---- an edge row is its five numbers

small_append : (s t : List ℕ) → Small s → Small t → Small (s ++ t)
small_append s t a b i = go (dec_lt i (length s))
  where
    go : Dec (i < length s) → get_or (s ++ t) i 0 < 256
    go (yes h) = rw (get_or-append s t 0 i h) (a i)
    go (no h) =
        let e : length s + (i - length s) ≡ i = omega arith in
        let f : get_or (s ++ t) i 0 ≡ get_or t (i - length s) 0 = ap (λ (k : ℕ). get_or (s ++ t) k 0) (sym e) ∙ get_or-append-add s t (i - length s) 0 in
        rw f (b (i - length s))

small_bytes : (w v : ℕ) → Small (bytes w v)
small_bytes zero v i = omega arith
small_bytes (suc w) v zero = omega arith
small_bytes (suc w) v (suc i) = small_bytes w (v / 256) i

small_raised : (w p d : ℕ) (row : List ℕ) → Small row → Small (raised w p d row)
small_raised w p d row small =
    let bs = bytes w (little w row p + d) in
    small_append (take p row) (bs ++ drop (p + length bs) row) (small_take p row small)
    (small_append bs (drop (p + length bs) row) (small_bytes w (little w row p + d)) (λ i. rw get_or-drop (small (p + length bs + i))))

small_edge : (c d : ℕ) (row : List ℕ) → Small row → Small (moved_edge c d row)
small_edge c d row small =
    small_raised 4 12 c (raised 4 8 c (raised 4 16 d row)) (small_raised 4 8 c (raised 4 16 d row) (small_raised 4 16 d row small))

same_number : (W : ℕ) (r s : List ℕ) → Small r → Small s → length r ≡ W → length s ≡ W → little W r 0 ≡ little W s 0 → r ≡ s
same_number W r s a b l k e =
    sym (take_all W r (omega arith)) ∙ sym (bytes_little r a W 0 (omega arith)) ∙ ap (bytes W) e ∙ bytes_little s b W 0 (omega arith) ∙ take_all W s (omega arith)

same_numbers :
    (r s : List ℕ) → little 8 r 0 ≡ little 8 s 0 → little 4 r 8 ≡ little 4 s 8 → little 4 r 12 ≡ little 4 s 12 → little 4 r 16 ≡ little 4 s 16 → little 4 r 20 ≡ little 4 s 20
    → little 24 r 0 ≡ little 24 s 0
same_numbers r s a b c d e =
    cc (little_add 8 16 r 0, little_add 4 12 r 8, little_add 4 8 r 12, little_add 4 4 r 16, little_add 8 16 s 0, little_add 4 12 s 8, little_add 4 8 s 12, little_add 4 4 s 16)

edge_twice :
    (c d c' d' : ℕ) (row : List ℕ) → Small row → length row ≡ 24 → Room (Edges (c' + c) (d' + d)) row
    → moved_edge c d (moved_edge c' d' row) ≡ moved_edge (c' + c) (d' + d) row
edge_twice c d c' d' row small wide room =
    let one = moved_edge c' d' row in
    let w : length one ≡ 24 = edge_wide c' d' row wide in
    let source : little 4 one 8 ≡ little 4 row 8 + c' = edge_source c' d' row wide (omega (arith, room.0)) in
    let target : little 4 one 12 ≡ little 4 row 12 + c' = edge_target c' d' row wide (omega (arith, room.1)) in
    let first : little 4 one 16 ≡ little 4 row 16 + d' = edge_first c' d' row wide (omega (arith, room.2)) in
    same_number 24 (moved_edge c d one) (moved_edge (c' + c) (d' + d) row) (small_edge c d one (small_edge c' d' row small)) (small_edge (c' + c) (d' + d) row small)
    (edge_wide c d one w) (edge_wide (c' + c) (d' + d) row wide)
    (same_numbers (moved_edge c d one) (moved_edge (c' + c) (d' + d) row)
    (edge_labels c d one w ∙ edge_labels c' d' row wide ∙ sym (edge_labels (c' + c) (d' + d) row wide))
    (edge_source c d one w (omega (arith, room.0)) ∙ omega arith ∙ sym (edge_source (c' + c) (d' + d) row wide room.0))
    (edge_target c d one w (omega (arith, room.1)) ∙ omega arith ∙ sym (edge_target (c' + c) (d' + d) row wide room.1))
    (edge_first c d one w (omega (arith, room.2)) ∙ omega arith ∙ sym (edge_first (c' + c) (d' + d) row wide room.2))
    (edge_count c d one w ∙ edge_count c' d' row wide ∙ sym (edge_count (c' + c) (d' + d) row wide)))

-- ---- tables

each_twice :
    (W : ℕ) (c d e : List ℕ → List ℕ) (n : ℕ) (t : List ℕ) → Wide W (λ i. c (row_at W t i)) n → ((i : ℕ) → i < n → d (c (row_at W t i)) ≡ e (row_at W t i))
    → each_row W d n (each_row W c n t) ≡ each_row W e n t
each_twice W c d e n t wide h =
    up_to_same n _ _
    (λ i l.
    let r = row_up_to W (λ i. c (row_at W t i)) n wide i l in
    let it : row_at W (each_row W c n t) i ≡ c (row_at W t i) =
    ap (λ (x : List ℕ). take W (drop (W * i) x)) r.whole ∙ ap (take W) (drop_at r.before _ (W * i) r.place) ∙ take_at (c (row_at W t i)) r.behind W (wide i l) in
    ap d it ∙ h i l)

module _ (n : ℕ) (t : List ℕ) where
  nodes_twice : (d e s : ℕ) → s ≡ e + d → length t ≡ 16 * n → RoomIn (Nodes s) n t → moved_table (Nodes d) n (moved_table (Nodes e) n t) ≡ moved_table (Nodes s) n t
  nodes_twice d e s z full room =
      each_twice 16 (changed (Nodes e)) (changed (Nodes d)) (changed (Nodes s)) n t (all_wide (Nodes e) n t full)
      (λ i l. let w = row_wide (Nodes e) n t full i l in rw z (raised_twice 4 8 d e (row_at 16 t i) (omega arith) (omega (arith, room i l))))

  rows_twice : (d e s : ℕ) → s ≡ e + d → length t ≡ 16 * n → RoomIn (Rows s) n t → moved_table (Rows d) n (moved_table (Rows e) n t) ≡ moved_table (Rows s) n t
  rows_twice d e s z full room =
      each_twice 16 (changed (Rows e)) (changed (Rows d)) (changed (Rows s)) n t (all_wide (Rows e) n t full)
      (λ i l. rw z (row_twice d e (row_at 16 t i) (row_wide (Rows e) n t full i l) (rw z at (room i l))))

  edges_twice :
      (c d c' d' u v : ℕ) → u ≡ c' + c → v ≡ d' + d → Small t → length t ≡ 24 * n → RoomIn (Edges u v) n t
      → moved_table (Edges c d) n (moved_table (Edges c' d') n t) ≡ moved_table (Edges u v) n t
  edges_twice c d c' d' u v y z small full room =
      each_twice 24 (changed (Edges c' d')) (changed (Edges c d)) (changed (Edges u v)) n t (all_wide (Edges c' d') n t full)
      (λ i l.
      rw (y, z) (edge_twice c d c' d' (row_at 24 t i) (small_take 24 (drop (24 * i) t) (λ k. rw get_or-drop (small (24 * i + k)))) (row_wide (Edges c' d') n t full i l) (rw (y, z) at (room i l))))

table_append :
    (m : Moving) (x y : ℕ) (s t : List ℕ) → length s ≡ width_of m * x → length t ≡ width_of m * y
    → moved_table m (x + y) (s ++ t) ≡ moved_table m x s ++ moved_table m y t
table_append m x y s t ls lt =
    let full : length (s ++ t) ≡ width_of m * (x + y) = rw (length-append, ls, lt) (sym (mul-add (width_of m) x y)) in
    let e : x + y - x ≡ y = omega arith in
    sym (take-append-drop (width_of m * x) (moved_table m (x + y) (s ++ t)))
    ∙ ap₂ ◌++◌ (table_taken m (x + y) (s ++ t) full x (omega arith) ∙ ap (moved_table m x) (take_at s t (width_of m * x) ls))
    (table_left m (x + y) (s ++ t) full x (omega arith) ∙ ap₂ (moved_table m) e (drop_at s t (width_of m * x) ls))

-- ---- three graphs

-- rows in the order of the new rows, taken apart before the first edge's
module _ (a b c d t : List ℕ) (i : ℕ) (whole : t ≡ a ++ b ++ c ++ d) (long : length (a ++ b) ≡ i) where
  halves : t ≡ (a ++ b) ++ (c ++ d)
  halves = whole ∙ append_assoc (a ++ b) c d

  upper : take i t ≡ a ++ b
  upper = ap (take i) halves ∙ take_at (a ++ b) (c ++ d) i long

  lower : drop i t ≡ c ++ d
  lower = ap (drop i) halves ∙ drop_at (a ++ b) (c ++ d) i long

two_long : (s t : List ℕ) (i j : ℕ) → 16 * i ≤ length s → 16 * j ≤ length t → length (take (16 * i) s ++ take (16 * j) t) ≡ 16 * (i + j)
two_long s t i j h l = simp (length-append, length-take) (omega arith)

rest_long : (s t : List ℕ) (i j u v : ℕ) → length s ≡ 16 * u → length t ≡ 16 * v → length (drop (16 * i) s ++ drop (16 * j) t) ≡ 16 * (u - i + (v - j))
rest_long s t i j u v h l = simp (length-append, length-drop) (omega arith)

regroup : (s t u v w o : List ℕ) → s ++ t ++ u ++ (v ++ w) ++ o ≡ s ++ (t ++ u) ++ v ++ (w ++ o)
regroup s t u v w o = simp append_assoc

module _
    (n : Trailer) (a : Body) (m : Trailer) (b : Body) (k : Trailer) (c : Body) (x : Sound n a) (y : Sound m b) (z : Sound k c)
    (held : Held (ceilings Graph) (joined_numbers (joined_numbers n m) k)) where
  abbrev p : ℕ
  p = node_rows n a

  abbrev q : ℕ
  q = node_rows m b

  abbrev r : ℕ
  r = node_rows k c

  p_few : p ≤ n.rows
  p_few = p_in n a m b x y

  q_few : q ≤ m.rows
  q_few = q_in n a m b x y

  r_few : r ≤ k.rows
  r_few = q_in m b k c y z

  abbrev AB : Body
  AB = joined_body n a m b

  abbrev BC : Body
  BC = joined_body m b k c

  rows_ab : node_rows (joined_numbers n m) AB ≡ p + q
  rows_ab = (piece_3 n a m b x y).objects.base

  rows_bc : node_rows (joined_numbers m k) BC ≡ q + r
  rows_bc = (piece_3 m b k c y z).objects.base

  abbrev left : Body
  left = joined_body (joined_numbers n m) AB k c

  abbrev right : Body
  right = joined_body n a (joined_numbers m k) BC

  nodes_same : left.nodes ≡ right.nodes
  nodes_same =
      let inner = moved_table (Nodes q) k.nodes c.nodes in
      let B = moved_table (Nodes p) m.nodes b.nodes in
      ap (λ (i : ℕ). AB.nodes ++ moved_table (Nodes i) k.nodes c.nodes) rows_ab
      ∙ append_assoc a.nodes B (moved_table (Nodes (p + q)) k.nodes c.nodes)
      ∙ ap (λ (t : List ℕ). a.nodes ++ (B ++ t))
      (sym (nodes_twice k.nodes c.nodes p q (p + q) (omega arith) z.full.nodes (node_room k c z (p + q) (omega (arith, p_few, q_few, held.rows)))))
      ∙ ap (λ (t : List ℕ). a.nodes ++ t) (sym (table_append (Nodes p) m.nodes k.nodes b.nodes inner y.full.nodes (length_table (Nodes q) k.nodes c.nodes z.full.nodes)))

  module _ (sa : Small a.edges) (sb : Small b.edges) (sc : Small c.edges) where
    abbrev first_edges : List ℕ
    first_edges = moved_table (Edges 0 (q + r)) n.edges a.edges

    abbrev second_edges : List ℕ
    second_edges = moved_table (Edges n.nodes (n.rows + r)) m.edges b.edges

    abbrev third_edges : List ℕ
    third_edges = moved_table (Edges (n.nodes + m.nodes) (n.rows + m.rows)) k.edges c.edges

    second_room : RoomIn (Edges n.nodes (n.rows + r)) m.edges b.edges
    second_room = edge_room m b y n.nodes (n.rows + r) (omega (arith, held.nodes)) (omega (arith, r_few, held.rows))

    edges_left : left.edges ≡ first_edges ++ second_edges ++ third_edges
    edges_left =
        let A = moved_table (Edges 0 q) n.edges a.edges in
        let B = moved_table (Edges n.nodes n.rows) m.edges b.edges in
        ap (λ (t : List ℕ). t ++ third_edges)
        (table_append (Edges 0 r) n.edges m.edges A B (length_table (Edges 0 q) n.edges a.edges x.full.edges) (length_table (Edges n.nodes n.rows) m.edges b.edges y.full.edges)
        ∙ ap₂ ◌++◌
        (edges_twice n.edges a.edges 0 r 0 q 0 (q + r) (omega arith) refl sa x.full.edges (edge_room n a x 0 (q + r) (omega arith) (omega (arith, q_few, r_few, held.rows))))
        (edges_twice m.edges b.edges 0 r n.nodes n.rows n.nodes (n.rows + r) (omega arith) refl sb y.full.edges second_room))

    edges_right : right.edges ≡ first_edges ++ (second_edges ++ third_edges)
    edges_right =
        let B = moved_table (Edges 0 r) m.edges b.edges in
        let C = moved_table (Edges m.nodes m.rows) k.edges c.edges in
        ap₂ ◌++◌
        (ap (λ (i : ℕ). moved_table (Edges 0 i) n.edges a.edges) rows_bc)
        (table_append (Edges n.nodes n.rows) m.edges k.edges B C (length_table (Edges 0 r) m.edges b.edges y.full.edges) (length_table (Edges m.nodes m.rows) k.edges c.edges z.full.edges)
        ∙ ap₂ ◌++◌
        (edges_twice m.edges b.edges n.nodes n.rows 0 r n.nodes (n.rows + r) (omega arith) (omega arith) sb y.full.edges second_room)
        (edges_twice k.edges c.edges n.nodes n.rows m.nodes m.rows (n.nodes + m.nodes) (n.rows + m.rows) (omega arith) (omega arith) sc z.full.edges
        (edge_room k c z (n.nodes + m.nodes) (n.rows + m.rows) (omega (arith, held.nodes)) (omega (arith, held.rows)))))

    edges_same : left.edges ≡ right.edges
    edges_same = edges_left ∙ append_assoc first_edges second_edges third_edges ∙ sym edges_right

  -- ---- the rows of the second and the third graph, moved

  abbrev B' : List ℕ
  B' = second_rows n a m b

  abbrev C' : List ℕ
  C' = second_rows m b k c

  abbrev C'' : List ℕ
  C'' = moved_table (Rows (n.text + m.text)) k.rows c.rows

  long_b : length B' ≡ 16 * m.rows
  long_b = length_table (Rows n.text) m.rows b.rows y.full.rows

  long_c : length C' ≡ 16 * k.rows
  long_c = length_table (Rows m.text) k.rows c.rows z.full.rows

  long_c'' : length C'' ≡ 16 * k.rows
  long_c'' = length_table (Rows (n.text + m.text)) k.rows c.rows z.full.rows

  c_twice : moved_table (Rows n.text) k.rows C' ≡ C''
  c_twice = rows_twice k.rows c.rows n.text m.text (n.text + m.text) (omega arith) z.full.rows (row_room k c z (n.text + m.text) (omega (arith, held.text)))

  rows_left : left.rows ≡ take (16 * p) a.rows ++ take (16 * q) B' ++ take (16 * r) C'' ++ (drop (16 * p) a.rows ++ drop (16 * q) B') ++ drop (16 * r) C''
  rows_left =
      let i = 16 * node_rows (joined_numbers n m) AB in
      let l : length (take (16 * p) a.rows ++ take (16 * q) B') ≡ i = two_long a.rows B' p q (omega (arith, x.full.rows, p_few)) (omega (arith, long_b, q_few)) ∙ ap (λ (j : ℕ). 16 * j) (sym rows_ab) in
      ap₂ (λ (u v : List ℕ). u ++ take (16 * r) C'' ++ v ++ drop (16 * r) C'')
      (upper (take (16 * p) a.rows) (take (16 * q) B') (drop (16 * p) a.rows) (drop (16 * q) B') AB.rows i refl l)
      (lower (take (16 * p) a.rows) (take (16 * q) B') (drop (16 * p) a.rows) (drop (16 * q) B') AB.rows i refl l)

  moved_both : second_rows n a (joined_numbers m k) BC ≡ (take (16 * q) B' ++ take (16 * r) C'') ++ (drop (16 * q) B' ++ drop (16 * r) C'')
  moved_both =
      let M = Rows n.text in
      let Bn = take (16 * q) b.rows in
      let Be = drop (16 * q) b.rows in
      let Cn = take (16 * r) C' in
      let Ce = drop (16 * r) C' in
      let e : m.rows + k.rows ≡ q + r + (m.rows - q + (k.rows - r)) = omega (arith, q_few, r_few) in
      let u : length (Bn ++ Cn) ≡ 16 * (q + r) = two_long b.rows C' q r (omega (arith, y.full.rows, q_few)) (omega (arith, long_c, r_few)) in
      let v : length (Be ++ Ce) ≡ 16 * (m.rows - q + (k.rows - r)) = rest_long b.rows C' q r m.rows k.rows y.full.rows long_c in
      let bn : length Bn ≡ 16 * q = rw length-take (omega (arith, y.full.rows, q_few)) in
      let cn : length Cn ≡ 16 * r = rw length-take (omega (arith, long_c, r_few)) in
      let be : length Be ≡ 16 * (m.rows - q) = rw length-drop (omega (arith, y.full.rows)) in
      let ce : length Ce ≡ 16 * (k.rows - r) = rw length-drop (omega (arith, long_c)) in
      ap₂ (moved_table M) e (append_assoc (Bn ++ Cn) Be Ce)
      ∙ table_append M (q + r) (m.rows - q + (k.rows - r)) (Bn ++ Cn) (Be ++ Ce) u v
      ∙ ap₂ ◌++◌
      (table_append M q r Bn Cn bn cn
      ∙ ap₂ ◌++◌ (sym (table_taken M m.rows b.rows y.full.rows q q_few)) (sym (table_taken M k.rows C' long_c r r_few) ∙ ap (take (16 * r)) c_twice))
      (table_append M (m.rows - q) (k.rows - r) Be Ce be ce
      ∙ ap₂ ◌++◌ (sym (table_left M m.rows b.rows y.full.rows q q_few)) (sym (table_left M k.rows C' long_c r r_few) ∙ ap (drop (16 * r)) c_twice))

  rows_right : right.rows ≡ take (16 * p) a.rows ++ (take (16 * q) B' ++ take (16 * r) C'') ++ drop (16 * p) a.rows ++ (drop (16 * q) B' ++ drop (16 * r) C'')
  rows_right =
      let i = 16 * node_rows (joined_numbers m k) BC in
      let l : length (take (16 * q) B' ++ take (16 * r) C'') ≡ i = two_long B' C'' q r (omega (arith, long_b, q_few)) (omega (arith, long_c'', r_few)) ∙ ap (λ (j : ℕ). 16 * j) (sym rows_bc) in
      ap₂ (λ (u v : List ℕ). take (16 * p) a.rows ++ u ++ drop (16 * p) a.rows ++ v)
      (ap (take i) moved_both ∙ take_at (take (16 * q) B' ++ take (16 * r) C'') _ i l)
      (ap (drop i) moved_both ∙ drop_at (take (16 * q) B' ++ take (16 * r) C'') _ i l)

  rows_same : left.rows ≡ right.rows
  rows_same = rows_left ∙ regroup (take (16 * p) a.rows) (take (16 * q) B') (take (16 * r) C'') (drop (16 * p) a.rows) (drop (16 * q) B') (drop (16 * r) C'') ∙ sym rows_right

  three_bodies : Small a.edges → Small b.edges → Small c.edges → left ≡ right
  three_bodies sa sb sc = same_body nodes_same (edges_same sa sb sc) rows_same (append_assoc a.text b.text c.text)

-- ---- three accepted files

-- where the counts of all three are under the ceilings, those of two are
fewer_first : (n m k : Trailer) → Held (ceilings Graph) (joined_numbers (joined_numbers n m) k) → Held (ceilings Graph) (joined_numbers n m)
fewer_first n m k h =
    record { nodes = omega (arith, h.nodes); edges = omega (arith, h.edges); rows = omega (arith, h.rows); text = omega (arith, h.text); labels = omega (arith, h.labels); names = omega (arith, h.names) }

fewer_last : (n m k : Trailer) → Held (ceilings Graph) (joined_numbers (joined_numbers n m) k) → Held (ceilings Graph) (joined_numbers m k)
fewer_last n m k h =
    record { nodes = omega (arith, h.nodes); edges = omega (arith, h.edges); rows = omega (arith, h.rows); text = omega (arith, h.text); labels = omega (arith, h.labels); names = omega (arith, h.names) }

-- a joined file is read as the joined numbers and tables
module _ (f g : List ℕ) (pf : FileAccepted Graph (ceilings Graph) f) (pg : FileAccepted Graph (ceilings Graph) g) (held : Held (ceilings Graph) (numbers_of_both f g)) where
  numbers_joined : numbers_of Graph (joined_file f g) ≡ numbers_of_both f g
  numbers_joined = (same_values (joined_tables f g) (numbers_of_both f g).labels (numbers_of_both f g).names (joined_writable f g pf pg held)).numbers ∙ both_numbers f g pf pg

  tables_joined : body_of Graph (joined_file f g) ≡ joined_tables f g
  tables_joined = (same_values (joined_tables f g) (numbers_of_both f g).labels (numbers_of_both f g).names (joined_writable f g pf pg held)).tables

max_assoc : (i j k : ℕ) → max (max i j) k ≡ max i (max j k)
max_assoc i j k = omega arith

abbrev file_from : Trailer → Body → Trailer → Body → List ℕ
file_from n a m b = file_of (joined_body n a m b) (joined_numbers n m).labels (joined_numbers n m).names

module _ (f g h : List ℕ) (pf : FileAccepted Graph (ceilings Graph) f) (pg : FileAccepted Graph (ceilings Graph) g) (ph : FileAccepted Graph (ceilings Graph) h) where
  -- The first two joined before the third, or the last two before the first: the same file, where the counts of all three are under the ceilings. Every
  -- element is a byte, as in each block that is lent.
  pub three_files :
      Small f → Small g → Small h → Held (ceilings Graph) (joined_numbers (numbers_of_both f g) (numbers_of Graph h))
      → joined_file (joined_file f g) h ≡ joined_file f (joined_file g h)
  three_files sf sg sh held =
      let n = numbers_of Graph f in
      let m = numbers_of Graph g in
      let k = numbers_of Graph h in
      let edges : (e : List ℕ) → Small e → Small (body_of Graph e).edges = λ e s. small_between e (tables_of Graph e).starts.edges (tables_of Graph e).starts.rows s in
      let fg = fewer_first n m k held in
      let gh = fewer_last n m k held in
      ap₂ (λ (N : Trailer) (B : Body). file_from N B k (body_of Graph h)) (numbers_joined f g pf pg fg) (tables_joined f g pf pg fg)
      ∙ ap (λ (B : Body). file_of B (max (max n.labels m.labels) k.labels) (max (max n.names m.names) k.names))
      (three_bodies n (body_of Graph f) m (body_of Graph g) k (body_of Graph h) (sound f pf) (sound g pg) (sound h ph) held (edges f sf) (edges g sg) (edges h sh))
      ∙ ap₂ (file_of (joined_body n (body_of Graph f) (numbers_of_both g h) (joined_tables g h))) (max_assoc n.labels m.labels k.labels) (max_assoc n.names m.names k.names)
      ∙ sym (ap₂ (λ (N : Trailer) (B : Body). file_from n (body_of Graph f) N B) (numbers_joined g h pg ph gh) (tables_joined g h pg ph gh))
