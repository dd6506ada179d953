-- Laws of a row in which a number is raised, over the number's width and place: they serve run starts, ends and offsets alike.
use mathlib.Core.Path.{◌≡◌, refl, sym, ap, ◌∙◌}
use mathlib.Core.Bool.{Bool, true, false, cond}
use mathlib.Core.List.{List, ◌++◌}
use Prim.Native.Nat.{ℕ, zero, suc, ◌+◌, ◌-◌, ◌^◌, ◌≤◌, ◌<◌}
use native.Mathlib.Nat.{add-zero}
use native.Mathlib.Omega.{arith}
use borrow.Author.Tests.{eq-eqb, ne_eqb}
use lib.Dec.{eqb}
use lib.ListN.{length, get_or, take, drop, get_or-append}
use lib.Seq.{length-take-le, get_or-append-add, get_or-take, get_or-drop}
use Rattle.little.specs.Little.{little, bytes, written}
use Rattle.little.proofs.Laws.{length_bytes}
use Rattle.little.proofs.Inverse.{little_bytes}
use Rattle.writer.proofs.TableRows.{length_written}
use Rattle.join.specs.declared.Moving.{Moving}
use Rattle.join.specs.declared.Moving.TheVariants.{Nodes, Edges, Rows}
use Rattle.join.specs.Moved.{raised, moved_edge, moved_row}
use Rattle.join.specs.Inner.{width_of, changed}

-- ---- what is read in bytes that were written

-- two lists with the same bytes there have the same number there
pub same_bytes : (u : ℕ) (s t : List ℕ) (a b : ℕ) → ((i : ℕ) → i < u → get_or s (a + i) 0 ≡ get_or t (b + i) 0) → little u s a ≡ little u t b
unfolding little
same_bytes zero s t a b h = refl
same_bytes (suc u) s t a b h =
    let x : get_or s a 0 ≡ get_or t b 0 = rw (add-zero, add-zero) at (h 0 (omega arith)) in
    let y : little u s (a + 1) ≡ little u t (b + 1) = same_bytes u s t (a + 1) (b + 1) (λ i l. let k = h (i + 1) (omega arith) in let e : a + (i + 1) ≡ a + 1 + i = omega arith in let f : b + (i + 1) ≡ b + 1 + i = omega arith in rw (e, f) at k) in
    rw (x, y) refl

-- a byte before or behind what is written keeps its value
byte_before : (row : List ℕ) (p : ℕ) (bs : List ℕ) (q : ℕ) → p ≤ length row → q < p → get_or (written row p bs) q 0 ≡ get_or row q 0
byte_before row p bs q h l =
    let a : q < length (take p row) = omega (arith, length-take-le p row h) in
    get_or-append (take p row) (bs ++ drop (p + length bs) row) 0 q a ∙ get_or-take p row q 0 l

byte_behind : (row : List ℕ) (p : ℕ) (bs : List ℕ) (k : ℕ) → p ≤ length row → get_or (written row p bs) (p + (length bs + k)) 0 ≡ get_or row (p + length bs + k) 0
byte_behind row p bs k h =
    let a : length (take p row) ≡ p = length-take-le p row h in
    ap (λ (n : ℕ). get_or (written row p bs) (n + (length bs + k)) 0) (sym a)
    ∙ get_or-append-add (take p row) (bs ++ drop (p + length bs) row) (length bs + k) 0
    ∙ get_or-append-add bs (drop (p + length bs) row) k 0
    ∙ get_or-drop (p + length bs) row k 0

-- ---- the w bytes from p on, d more

module _ (w p d : ℕ) (row : List ℕ) (fits : p + w ≤ length row) where
  pub length_raised : length (raised w p d row) ≡ length row
  length_raised = length_written row p (bytes w (little w row p + d)) (rw length_bytes fits)

  pub raised_there : little w row p + d < 256 ^ w → little w (raised w p d row) p ≡ little w row p + d
  raised_there h = little_bytes w row p (little w row p + d) h fits

  -- a number of u bytes from q on that lies before them or behind them stays
  pub raised_before : (u q : ℕ) → q + u ≤ p → little u (raised w p d row) q ≡ little u row q
  raised_before u q h = same_bytes u (raised w p d row) row q q (λ i l. byte_before row p (bytes w (little w row p + d)) (q + i) (omega arith) (omega arith))

  pub raised_behind : (u q : ℕ) → p + w ≤ q → little u (raised w p d row) q ≡ little u row q
  raised_behind u q h =
      let v = little w row p + d in
      let b = length_bytes w v in
      same_bytes u (raised w p d row) row q q
      (λ i l.
      let e : p + (length (bytes w v) + (q + i - (p + w))) ≡ q + i = omega arith in
      let f : p + length (bytes w v) + (q + i - (p + w)) ≡ q + i = omega arith in
      rw (e, f) at (byte_behind row p (bytes w v) (q + i - (p + w)) (omega arith)))

-- ---- the three numbers of an edge row

module _ (ends run : ℕ) (row : List ℕ) (wide : length row ≡ 24) where
  abbrev one : List ℕ
  one = raised 4 16 run row

  abbrev two : List ℕ
  two = raised 4 8 ends one

  one_wide : length one ≡ 24
  one_wide = length_raised 4 16 run row (omega arith) ∙ wide

  two_wide : length two ≡ 24
  two_wide = length_raised 4 8 ends one (omega (arith, one_wide)) ∙ one_wide

  pub edge_wide : length (moved_edge ends run row) ≡ 24
  edge_wide = length_raised 4 12 ends two (omega (arith, two_wide)) ∙ two_wide

  -- no number is touched by those that are raised before it
  source_stays : little 4 one 8 ≡ little 4 row 8
  source_stays = raised_before 4 16 run row (omega arith) 4 8 (omega arith)

  target_stays : little 4 two 12 ≡ little 4 row 12
  target_stays = raised_behind 4 8 ends one (omega (arith, one_wide)) 4 12 (omega arith) ∙ raised_before 4 16 run row (omega arith) 4 12 (omega arith)

  pub edge_labels : little 8 (moved_edge ends run row) 0 ≡ little 8 row 0
  edge_labels =
      raised_before 4 12 ends two (omega (arith, two_wide)) 8 0 (omega arith)
      ∙ raised_before 4 8 ends one (omega (arith, one_wide)) 8 0 (omega arith)
      ∙ raised_before 4 16 run row (omega arith) 8 0 (omega arith)

  pub edge_source : little 4 row 8 + ends < 256 ^ 4 → little 4 (moved_edge ends run row) 8 ≡ little 4 row 8 + ends
  edge_source h =
      raised_before 4 12 ends two (omega (arith, two_wide)) 4 8 (omega arith)
      ∙ raised_there 4 8 ends one (omega (arith, one_wide)) (rw source_stays h)
      ∙ ap (λ (x : ℕ). x + ends) source_stays

  pub edge_target : little 4 row 12 + ends < 256 ^ 4 → little 4 (moved_edge ends run row) 12 ≡ little 4 row 12 + ends
  edge_target h = raised_there 4 12 ends two (omega (arith, two_wide)) (rw target_stays h) ∙ ap (λ (x : ℕ). x + ends) target_stays

  -- behind both ends
  behind : (q : ℕ) → 16 ≤ q → little 4 (moved_edge ends run row) q ≡ little 4 one q
  behind q h = raised_behind 4 12 ends two (omega (arith, two_wide)) 4 q (omega arith) ∙ raised_behind 4 8 ends one (omega (arith, one_wide)) 4 q (omega arith)

  pub edge_first : little 4 row 16 + run < 256 ^ 4 → little 4 (moved_edge ends run row) 16 ≡ little 4 row 16 + run
  edge_first h = behind 16 (omega arith) ∙ raised_there 4 16 run row (omega arith) h

  pub edge_count : little 4 (moved_edge ends run row) 20 ≡ little 4 row 20
  edge_count = behind 20 (omega arith) ∙ raised_behind 4 16 run row (omega arith) 4 20 (omega arith)

-- ---- the offset of a Text

module _ (text : ℕ) (row : List ℕ) where
  pub text_moved : little 1 row 2 ≡ 5 → moved_row text row ≡ raised 8 8 text row
  text_moved kind = rw (eq-eqb (little 1 row 2) 5 kind) refl

  pub other_stays : ¬ (little 1 row 2 ≡ 5) → moved_row text row ≡ row
  other_stays kind = rw (ne_eqb (little 1 row 2) 5 kind) refl

  module _ (wide : length row ≡ 16) where
    length_either : (b : Bool) → length (cond b (raised 8 8 text row) row) ≡ 16
    length_either true = length_raised 8 8 text row (omega arith) ∙ wide
    length_either false = wide

    pub property_wide : length (moved_row text row) ≡ 16
    property_wide = length_either (eqb (little 1 row 2) 5)

    before_either : (b : Bool) (w k : ℕ) → k + w ≤ 8 → little w (cond b (raised 8 8 text row) row) k ≡ little w row k
    before_either true w k fits = raised_before 8 8 text row (omega arith) w k fits
    before_either false w k fits = refl

    -- name, kind, zero and length stay
    pub before_value : (w k : ℕ) → k + w ≤ 8 → little w (moved_row text row) k ≡ little w row k
    before_value = before_either (eqb (little 1 row 2) 5)

-- ---- any row

pub length_changed : (m : Moving) (row : List ℕ) → length row ≡ width_of m → length (changed m row) ≡ width_of m
length_changed (Nodes run) row h = length_raised 4 8 run row (omega arith) ∙ h
length_changed (Edges ends run) row h = edge_wide ends run row h
length_changed (Rows text) row h = property_wide text row h
