-- Whether a file is refused can be decided, refusal by refusal.
use mathlib.Core.Path.{◌≡◌, refl}
use mathlib.Core.Logic.{◌⊎◌, inl, inr, ⊎_elim}
use mathlib.Core.List.{List, [], ◌∷◌}
use Prim.Native.Nat.{ℕ, ◌^◌}
use native.Mathlib.Decide.{ℕ_discrete, dec_le, dec_lt}
use native.Mathlib.Omega.{arith}
use lib.ListN.{length}
use Rattle.meaning.proofs.Decide.{dec_iff, dec_and, dec_imp, dec_some}
use Rattle.layout.specs.declared.File.{File}
use Rattle.layout.specs.declared.File.TheVariants.{Graph, Schema}
use Rattle.layout.specs.declared.Sort.{Sort}
use Rattle.layout.specs.declared.Sort.TheVariants.{Nodes, Edges}
use Rattle.layout.specs.declared.Ceilings.{Ceilings}
use Rattle.layout.specs.declared.Trailer.{Trailer}
use Rattle.layout.specs.declared.Head.{Head}
use Rattle.layout.specs.Files.{Body, mark, numbers_of, body_of}
use Rattle.layout.specs.Runs.{start, InRun, GoodHead, RowIn, GoodRow, heads, name_at}
use Rattle.layout.specs.Rows.{GoodInterval, GoodEnds, OwnObject, OwnRow, GoodObject, GoodPropertyRow}
use Rattle.layout.specs.Refusals.{Held, row_refusals, refusals}
use Rattle.layout.proofs.Values.{dec_value}
use Rattle.layout.proofs.Labels.{labels_below}
use Rattle.layout.proofs.Refusing.{Decided}

unfoldable pub dec_head : (n : Trailer) (h : Head) (s : ℕ) → Dec (GoodHead n h s)
unfolding dec_iff dec_and dec_le dec_lt ℕ_discrete
dec_head n h s =
    dec_iff
    (λ t. record { labelled = (labels_below _ _).1 t.0; begins = t.1.0; ends = t.1.1 })
    (λ g. ((labels_below _ _).0 g.labelled, (g.begins, g.ends)))
    (dec_and (dec_lt h.labels (2 ^ n.labels)) (dec_and (ℕ_discrete _ _) (dec_le _ _)))

unfoldable pub dec_row_in : (names : ℕ) (name : ℕ → ℕ) {Own : ℕ → Type 0} → ((r : ℕ) → Dec (Own r)) → (s r : ℕ) → Dec (RowIn names name Own s r)
unfolding dec_iff dec_and dec_imp dec_lt
dec_row_in names name d s r =
    dec_iff (λ t. record { named = t.0; rising = t.1.0; own = t.1.1 }) (λ h. (h.named, (h.rising, h.own)))
    (dec_and (dec_lt _ _) (dec_and (dec_imp (dec_lt _ _) (dec_lt _ _)) (d r)))

module _ (hs : List Head) where
  unfoldable pub dec_in_run : (r j : ℕ) → Dec (InRun hs r j)
  unfolding dec_iff dec_and dec_le dec_lt start
  dec_in_run r j = dec_iff (λ t. record { from = t.0; until = t.1 }) (λ h. (h.from, h.until)) (dec_and (dec_le _ _) (dec_lt _ _))

  unfoldable pub dec_row : (names : ℕ) (name : ℕ → ℕ) {Own : ℕ → Type 0} → ((r : ℕ) → Dec (Own r)) → (r : ℕ) → Dec (GoodRow hs names name Own r)
  unfolding dec_iff dec_and dec_some dec_in_run dec_row_in start
  dec_row names name d r =
      dec_iff (λ t. record { object = t.0; below = t.1; run = t.2.0; good = t.2.1 }) (λ h. (h.object, h.below, (h.run, h.good)))
      (dec_some (λ j. dec_and (dec_in_run r j) (dec_row_in names name d (start hs j) r)) _)

unfoldable pub dec_or : {A B : Type 0} → Dec A → Dec B → Dec (A ⊎ B)
dec_or (yes a) d = yes (inl a)
dec_or (no h) (yes b) = yes (inr b)
dec_or (no h) (no k) = no (λ s. ⊎_elim h k s)

unfoldable pub dec_interval : (a m : ℕ) → Dec (GoodInterval a m)
unfolding dec_iff dec_and dec_or dec_le ℕ_discrete
dec_interval a m =
    dec_iff (λ t. record { minimum = t.0; maximum = t.1.0; ordered = t.1.1 }) (λ h. (h.minimum, (h.maximum, h.ordered)))
    (dec_and (dec_le _ _) (dec_and (dec_or (dec_le _ _) (ℕ_discrete _ _)) (dec_le _ _)))

unfoldable pub dec_ends : (F : File) (nodes : ℕ) (t : List ℕ) (e : ℕ) → Dec (GoodEnds F nodes t e)
unfolding dec_iff dec_and dec_lt
dec_ends F nodes t e = dec_iff (λ t. record { source = t.0; target = t.1 }) (λ h. (h.source, h.target)) (dec_and (dec_lt _ _) (dec_lt _ _))

unfoldable pub dec_own_object : (F : File) (o : Sort) (nodes : ℕ) (t : List ℕ) (i : ℕ) → Dec (OwnObject F o nodes t i)
unfolding dec_iff dec_and dec_ends dec_interval dec_le
dec_own_object Graph Nodes nodes t i = yes tt
dec_own_object Graph Edges nodes t e = dec_ends Graph nodes t e
dec_own_object Schema Nodes nodes t i = dec_le _ _
dec_own_object Schema Edges nodes t e =
    dec_iff (λ t. record { ends = t.0; open? = t.1.0; sources = t.1.1.0; targets = t.1.1.1 }) (λ h. (h.ends, (h.open?, (h.sources, h.targets))))
    (dec_and (dec_ends Schema nodes t e) (dec_and (dec_le _ _) (dec_and (dec_interval _ _) (dec_interval _ _))))

unfoldable pub dec_own_row : (F : File) (T : ℕ) (t : List ℕ) (r : ℕ) → Dec (OwnRow F T t r)
unfolding dec_iff dec_and dec_value dec_le ℕ_discrete
dec_own_row Graph T t r = dec_iff (λ t. record { zero = t.0; value = t.1 }) (λ h. (h.zero, h.value)) (dec_and (ℕ_discrete _ _) (dec_value T _ _ _))
dec_own_row Schema T t r =
    dec_iff (λ t. record { least_type = t.0; most_type = t.1.0; flag = t.1.1 }) (λ h. (h.least_type, (h.most_type, h.flag)))
    (dec_and (dec_le _ _) (dec_and (dec_le _ _) (dec_le _ _)))

unfoldable pub dec_same : (xs ys : List ℕ) → Dec (xs ≡ ys)
unfolding dec_iff dec_and ℕ_discrete
dec_same [] [] = yes refl
dec_same [] (y ∷ ys) = no (λ e. let z : ◌≡◌ {A = ℕ} 0 1 = cc in absurd (omega arith))
dec_same (x ∷ xs) [] = no (λ e. let z : ◌≡◌ {A = ℕ} 0 1 = cc in absurd (omega arith))
dec_same (x ∷ xs) (y ∷ ys) = dec_iff (λ t. let a = t.0 in let b = t.1 in cc) (λ e. (cc, cc)) (dec_and (ℕ_discrete x y) (dec_same xs ys))

unfoldable pub dec_held : (c : Ceilings) (n : Trailer) → Dec (Held c n)
unfolding dec_iff dec_and dec_le
dec_held c n =
    dec_iff
    (λ t. record { nodes = t.0; edges = t.1.0; rows = t.1.1.0; text = t.1.1.1.0; labels = t.1.1.1.1.0; names = t.1.1.1.1.1 })
    (λ h. (h.nodes, (h.edges, (h.rows, (h.text, (h.labels, h.names))))))
    (dec_and (dec_le _ _) (dec_and (dec_le _ _) (dec_and (dec_le _ _) (dec_and (dec_le _ _) (dec_and (dec_le _ _) (dec_le _ _))))))

module _ (F : File) (n : Trailer) (b : Body) where
  unfoldable pub dec_object : (o : Sort) (i : ℕ) → Dec (GoodObject F n b o i)
  unfolding dec_iff dec_and dec_head dec_own_object start
  dec_object o i = dec_iff (λ t. record { head = t.0; own = t.1 }) (λ h. (h.head, h.own)) (dec_and (dec_head n _ _) (dec_own_object F o _ _ i))

  unfoldable pub dec_property_row : (r : ℕ) → Dec (GoodPropertyRow F n b r)
  unfolding dec_row dec_own_row
  dec_property_row r = dec_row (heads F n b) n.names (name_at F b.rows) (dec_own_row F (length b.text) b.rows) r

  -- so that the rows of tables are refused or pass
  unfoldable pub dec_rows : Decided (row_refusals F n b)
  unfolding dec_object dec_property_row
  dec_rows = (dec_object Nodes, (dec_object Edges, (dec_property_row, tt)))

module _ (F : File) (c : Ceilings) (f : List ℕ) where
  unfoldable pub dec_refusals : Decided (refusals F c f)
  unfolding dec_iff dec_and dec_same dec_held dec_object dec_property_row dec_le ℕ_discrete
  dec_refusals = (
    λ i. dec_iff (λ t. record { least = t.0; most = t.1 }) (λ h. (h.least, h.most)) (dec_and (dec_le _ _) (dec_le _ _)),
    (
      λ i. dec_same _ (mark F),
      (
        λ i. dec_held c (numbers_of F f),
        (
          λ i. dec_iff (λ t. record { exact = t.0; inside = t.1 }) (λ h. (h.exact, h.inside)) (dec_and (ℕ_discrete _ _) (dec_le _ _)),
          (dec_object F (numbers_of F f) (body_of F f) Nodes, (dec_object F (numbers_of F f) (body_of F f) Edges, (dec_property_row F (numbers_of F f) (body_of F f), tt))),
        ),
      ),
    ),
  )
