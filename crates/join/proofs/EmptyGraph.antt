-- A graph joined with an empty one stays as it is: its tables are the same bytes, whichever of the two stands first.
use mathlib.Core.Path.{◌≡◌, refl, sym, ap, ap₂, ◌∙◌}
use mathlib.Core.Bool.{Bool, true, false, cond}
use mathlib.Core.List.{List, [], ◌++◌, append-nil}
use Prim.Native.Nat.{ℕ, zero, suc, ◌+◌, ◌-◌, ◌*◌, ◌≤◌, ◌<◌}
use native.Mathlib.Nat.{mul-zero, mul-suc, max-eq_left, max-eq_right}
use native.Mathlib.Decide.{dec_lt}
use native.Mathlib.Omega.{arith}
use lib.Dec.{eqb}
use lib.ListN.{length, get_or, take, drop, length-take, take-append-drop, drop_of_length-le, get_or-eq_default}
use lib.Seq.{take_all, take-add, get_or-take, get_or-drop}
use Rattle.little.specs.Little.{little}
use Rattle.little.proofs.Inverse.{little_below}
use Rattle.layout.specs.declared.File.TheVariants.{Graph}
use Rattle.layout.specs.declared.Trailer.{Trailer}
use Rattle.layout.specs.Tables.{between}
use Rattle.layout.specs.Files.{Body, body, ceilings, numbers_of, tables_of, body_of}
use Rattle.layout.specs.Runs.{start, heads}
use Rattle.layout.specs.Refusals.{FileAccepted}
use Rattle.layout.proofs.Runs.{start_none}
use Rattle.layout.proofs.Heads.{length_heads}
use Rattle.writer.specs.TableRows.{rows_up_to}
use Rattle.writer.specs.GraphFile.{file_of, without_preface}
use Rattle.writer.proofs.WrittenAgain.{file_again}
use Rattle.join.specs.declared.Moving.{Moving}
use Rattle.join.specs.declared.Moving.TheVariants.{Nodes, Edges, Rows}
use Rattle.join.specs.Moved.{raised, row_at}
use Rattle.join.specs.Joined.{node_rows, second_rows, joined_body, numbers_of_both, joined_file}
use Rattle.join.specs.Inner.{width_of, changed, moved_table, Sound}
use Rattle.join.proofs.Words.{Small, lower_raised, raised_nothing}
use Rattle.join.proofs.TableMoved.{row_in, row_wide}
use Rattle.join.proofs.RunsMoved.{all_rows}
use Rattle.join.proofs.Tied.{sound}

-- ---- nothing is moved

-- nothing is added to any number
abbrev Still : Moving → Type 0
Still (Nodes run) = run ≡ 0
Still (Edges ends run) = (ends ≡ 0) × (run ≡ 0)
Still (Rows text) = text ≡ 0

module _ (row : List ℕ) (small : Small row) where
  half : (p : ℕ) → p + 8 ≤ length row → raised 4 p 0 row ≡ row
  half p fits = lower_raised row small p 0 fits (omega (arith, little_below row small 4 p)) ∙ raised_nothing row small p fits

  row_stays : (m : Moving) → Still m → length row ≡ width_of m → changed m row ≡ row
  row_stays (Nodes run) s wide = rw s (half 8 (omega arith))
  row_stays (Edges ends run) s wide =
      rw (s.0, s.1) (ap (λ (x : List ℕ). raised 4 12 0 (raised 4 8 0 x)) (half 16 (omega arith)) ∙ ap (raised 4 12 0) (half 8 (omega arith)) ∙ half 12 (omega arith))
  row_stays (Rows text) s wide = rw s (go (eqb (little 1 row 2) 5))
    where
      go : (b : Bool) → cond b (raised 8 8 0 row) row ≡ row
      go true = raised_nothing row small 8 (omega arith)
      go false = refl

pub small_take : (k : ℕ) (t : List ℕ) → Small t → Small (take k t)
small_take k t small i = go (dec_lt i k)
  where
    go : Dec (i < k) → get_or (take k t) i 0 < 256
    go (yes h) = rw (get_or-take k t i 0 h) (small i)
    go (no h) = rw (get_or-eq_default (take k t) 0 {n = i} (rw length-take (omega arith))) (omega arith)

pub small_between : (f : List ℕ) (a b : ℕ) → Small f → Small (between f a b)
small_between f a b small = small_take (b - a) (drop a f) (λ i. rw get_or-drop (small (a + i)))

rows_stay : (W : ℕ) (t : List ℕ) (row : ℕ → List ℕ) (n : ℕ) → ((i : ℕ) → i < n → row i ≡ row_at W t i) → rows_up_to n row ≡ take (W * n) t
rows_stay W t row zero h = rw mul-zero refl
rows_stay W t row (suc n) h = rw (rows_stay W t row n (λ i l. h i (omega arith)), h n (omega arith), mul-suc) (sym (take-add (W * n) W t))

table_stays : (m : Moving) (n : ℕ) (t : List ℕ) → Still m → Small t → length t ≡ width_of m * n → moved_table m n t ≡ t
table_stays m n t s small full =
    rows_stay (width_of m) t (row_in m t) n
    (λ i h. row_stays (row_at (width_of m) t i) (small_take (width_of m) (drop (width_of m * i) t) (λ k. rw get_or-drop (small (width_of m * i + k)))) m s (row_wide m n t full i h))
    ∙ take_all (width_of m * n) t (omega arith)

-- ---- a graph without anything

-- no property rows either: no_rows below
pub record Empty (n : Trailer) : Type 0 where
  pub nodes : n.nodes ≡ 0
  pub edges : n.edges ≡ 0
  pub text : n.text ≡ 0

none : (t : List ℕ) → length t ≡ 0 → t ≡ []
none t h = sym (take_all 0 t (omega arith))

module _ (n : Trailer) (b : Body) (s : Sound n b) (e : Empty n) where
  no_node_rows : node_rows n b ≡ 0
  no_node_rows = ap (start (heads Graph n b)) e.nodes ∙ start_none (heads Graph n b)

  -- every row is in a run
  no_rows : n.rows ≡ 0
  no_rows =
      let l : length (heads Graph n b) ≡ 0 = length_heads Graph n b ∙ omega (arith, e.nodes, e.edges) in
      sym (all_rows Graph n b s.good) ∙ ap (start (heads Graph n b)) l ∙ start_none (heads Graph n b)

pub same_body : {p q r s p' q' r' s' : List ℕ} → p ≡ p' → q ≡ q' → r ≡ r' → s ≡ s' → body p q r s ≡ body p' q' r' s'
same_body e f g h = cc

-- rows of one table, put together with those of a table without any
mixed_first : (j k : ℕ) (t r : List ℕ) → r ≡ [] → take j t ++ take k r ++ drop j t ++ drop k r ≡ t
mixed_first j k t r e =
    ap (λ (x : List ℕ). take j t ++ take k x ++ drop j t ++ drop k x) e
    ∙ rw (take_all {A = ℕ} k [] (omega arith), drop_of_length-le {A = ℕ} [] {i = k} (omega arith), append-nil, append-nil) (take-append-drop j t)

mixed_second : (j k : ℕ) (t r : List ℕ) → t ≡ [] → take j t ++ take k r ++ drop j t ++ drop k r ≡ r
mixed_second j k t r e =
    ap (λ (x : List ℕ). take j x ++ take k r ++ drop j x ++ drop k r) e
    ∙ rw (take_all {A = ℕ} j [] (omega arith), drop_of_length-le {A = ℕ} [] {i = j} (omega arith), append-nil) (take-append-drop k r)

module _ (n : Trailer) (a : Body) (m : Trailer) (b : Body) (x : Sound n a) (y : Sound m b) where
  second_adds_nothing : Empty m → Small a.edges → joined_body n a m b ≡ a
  second_adds_nothing e small =
      same_body
      (ap (λ (k : ℕ). a.nodes ++ moved_table (Nodes (node_rows n a)) k b.nodes) e.nodes ∙ append-nil a.nodes)
      (ap₂ ◌++◌ (table_stays (Edges 0 (node_rows m b)) n.edges a.edges (refl, no_node_rows m b y e) small x.full.edges)
      (ap (λ (k : ℕ). moved_table (Edges n.nodes n.rows) k b.edges) e.edges) ∙ append-nil a.edges)
      (mixed_first (16 * node_rows n a) (16 * node_rows m b) a.rows (second_rows n a m b) (ap (λ (k : ℕ). moved_table (Rows n.text) k b.rows) (no_rows m b y e)))
      (ap (λ (t : List ℕ). a.text ++ t) (none b.text (y.full.text ∙ e.text)) ∙ append-nil a.text)

  first_adds_nothing : Empty n → Small b.nodes → Small b.edges → Small b.rows → joined_body n a m b ≡ b
  first_adds_nothing e small small' small'' =
      same_body
      (ap₂ ◌++◌ (none a.nodes (omega (arith, x.full.nodes, e.nodes))) (table_stays (Nodes (node_rows n a)) m.nodes b.nodes (no_node_rows n a x e) small y.full.nodes))
      (ap₂ ◌++◌ (ap (λ (k : ℕ). moved_table (Edges 0 (node_rows m b)) k a.edges) e.edges)
      (table_stays (Edges n.nodes n.rows) m.edges b.edges (e.nodes, no_rows n a x e) small' y.full.edges))
      (mixed_second (16 * node_rows n a) (16 * node_rows m b) a.rows (second_rows n a m b) (none a.rows (omega (arith, x.full.rows, no_rows n a x e)))
      ∙ table_stays (Rows n.text) m.rows b.rows e.text small'' y.full.rows)
      (ap (λ (t : List ℕ). t ++ b.text) (none a.text (x.full.text ∙ e.text)))

-- ---- two accepted files, one of them without a node, an edge or a text

module _ (f g : List ℕ) (pf : FileAccepted Graph (ceilings Graph) f) (pg : FileAccepted Graph (ceilings Graph) g) where
  -- The joined file has the tables of the other, and the greater counts of labels and of names. Every element is a byte, as in each block that is lent.
  pub second_empty : Small f → Empty (numbers_of Graph g) → joined_file f g ≡ file_of (body_of Graph f) (numbers_of_both f g).labels (numbers_of_both f g).names
  second_empty small e =
      let s = (tables_of Graph f).starts in
      ap (λ (b : Body). file_of b (numbers_of_both f g).labels (numbers_of_both f g).names)
      (second_adds_nothing _ _ _ _ (sound f pf) (sound g pg) e (small_between f s.edges s.rows small))

  pub first_empty : Small g → Empty (numbers_of Graph f) → joined_file f g ≡ file_of (body_of Graph g) (numbers_of_both f g).labels (numbers_of_both f g).names
  first_empty small e =
      let s = (tables_of Graph g).starts in
      ap (λ (b : Body). file_of b (numbers_of_both f g).labels (numbers_of_both f g).names)
      (first_adds_nothing _ _ _ _ (sound f pf) (sound g pg) e (small_between g s.nodes s.edges small) (small_between g s.edges s.rows small) (small_between g s.rows s.text small))

  -- so it is the other file without its preface where the empty one's counts are not above the other's
  pub second_leaves :
      Small f → Empty (numbers_of Graph g) → (numbers_of Graph g).labels ≤ (numbers_of Graph f).labels → (numbers_of Graph g).names ≤ (numbers_of Graph f).names
      → joined_file f g ≡ without_preface f
  second_leaves small e h k = second_empty small e ∙ ap₂ (file_of (body_of Graph f)) (max-eq_left h) (max-eq_left k) ∙ file_again f pf small

  pub first_leaves :
      Small g → Empty (numbers_of Graph f) → (numbers_of Graph f).labels ≤ (numbers_of Graph g).labels → (numbers_of Graph f).names ≤ (numbers_of Graph g).names
      → joined_file f g ≡ without_preface g
  first_leaves small e h k = first_empty small e ∙ ap₂ (file_of (body_of Graph g)) (max-eq_right h) (max-eq_right k) ∙ file_again g pg small
