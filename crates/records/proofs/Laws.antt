-- Laws of the record test.
use mathlib.Core.Path.{◌≡◌, refl, sym, ap, ◌∙◌}
use mathlib.Core.Logic.{◌≢◌}
use mathlib.Core.Bool.{false}
use mathlib.Core.List.{List, []}
use Prim.Native.Nat.{ℕ, ◌+◌, ◌*◌, ◌/◌, ◌%◌, ◌<◌}
use native.Mathlib.Decide.{ℕ_discrete}
use native.Mathlib.Omega.{arith}
use borrow.Author.Tests.{eq-eqb, ne_eqb}
use lib.Dec.{eqb}
use lib.ListN.{length, get_or}
use Rattle.std.specs.Prelude.{Err}
use Rattle.little.specs.Little.{little}
use Rattle.little.proofs.Laws.{little_add}
use Rattle.little.proofs.Inverse.{little_below}
use Rattle.meaning.specs.Places.{Every, Lowest, Least}
use Rattle.meaning.specs.Model.{Object, Shape, no_property, no_listed, property_at, listed_at}
use Rattle.meaning.specs.Fits.{PresentAt, AllPresent, ListedAt, AllListed, TypedAt, AllTyped}
use Rattle.meaning.specs.Answer.{not_present, not_listed, not_typed, lowest_missing, lowest_unlisted, lowest_mistyped}
use Rattle.meaning.proofs.Decide.{by_dec}
use Rattle.meaning.proofs.Decided.{dec_listed_at, dec_typed_at}
use Rattle.meaning.proofs.Faults.{Faults, missing_faults, unlisted_faults, mistyped_faults}
use Rattle.layout.specs.declared.File.TheVariants.{Graph, Schema}
use Rattle.layout.specs.declared.Head.{Head}
use Rattle.layout.specs.Runs.{Rises, name_at}
use Rattle.layout.specs.Graph.{kind_at, property_of, object_of}
use Rattle.layout.specs.Schema.{type_at, flag_at, listed_of, shape_of}
use Rattle.layout.specs.Rows.{GoodProperty}
use Rattle.layout.proofs.Runs.{rises_up}
use Rattle.layout.proofs.Accepted.{Rising, RisingShape, rises_rows, object_row, object_rows, shape_row, shape_rows, row_type}
use Rattle.records.specs.declared.Misfit.TheVariants.{Missing, Unlisted, Mistyped}
use Rattle.records.specs.declared.run.Row.{Row}
use Rattle.records.specs.Record.{Tests, properties}
use Rattle.records.specs.Walk.{row_at}

-- the first four bytes of a row, read as one number
pub row_is :
    (t : List ℕ) → ((k : ℕ) → get_or t k 0 < 256) → (w r : ℕ) {v : ℕ} → v ≡ little 4 t (w * r)
    → ◌≡◌ {A = Row} (record { name = v % 65536; kind = v / 65536 % 256; flag = v / 16777216 }) (row_at w t r)
row_is t small w r {v} e =
    let a = little_below t small 2 (w * r) in
    let b = little_below t small 1 (w * r + 2) in
    let p = little_add 2 2 t (w * r) in
    let q = little_add 1 1 t (w * r + 2) in
    let n : v % 65536 ≡ little 2 t (w * r) = omega arith in
    let m : v / 65536 ≡ little 2 t (w * r + 2) = omega arith in
    let k : v / 65536 % 256 ≡ little 1 t (w * r + 2) = rw m (omega (arith, q, b)) in
    let d : v / 16777216 ≡ v / 65536 / 256 = omega arith in
    let z : w * r + 2 + 1 ≡ w * r + 3 = omega arith in
    let f : v / 16777216 ≡ little 1 t (w * r + 3) = rw (d, m, ← z) (omega (arith, q, b)) in
    rw (n, k, f) refl

-- a flag of 1 is set
eqb_apart : (n : ℕ) → n ≡ 1 → eqb n 1 ≡ false → ⊥
eqb_apart n e f = let t = eq-eqb n 1 e in let z : ◌≡◌ {A = ℕ} 0 1 = cc in omega arith

-- where names rise, the lowest row at fault has the lowest name at fault
rising_lowest :
    {n : ℕ} {Right : ℕ → Type 0} {name : ℕ → ℕ} {At : ℕ → Type 0} → Faults n Right name At → Rises n name → {i : ℕ} → Lowest n (λ i. ¬ Right i) i → Least At (name i)
rising_lowest {name = name} f r {i} l =
    record {
      holds = f.of_row i l.below l.holds;
      least = λ x a.
          let t = f.row_of x a in
          let k : ¬ (t.0 < i) = λ b. l.before t.0 b t.2.1 in
          rw t.2.0 at (rises_up r i t.0 (omega arith) t.1);
    }

-- ---- the letters, said of rows

module _ (rows text : List ℕ) (h : Head) (listed : List ℕ) (g : Head) (opens : ℕ) where
  abbrev o : Object
  o = object_of (properties rows text) h

  abbrev s : Shape
  s = shape_of (properties listed []) g opens

  -- what stands at the places of the object and of the shape
  row : (i : ℕ) → i < h.count → property_at o i ≡ property_of (properties rows text) (h.first + i)
  row i l = object_row (properties rows text) h i l

  listing : (j : ℕ) → j < g.count → listed_at s j ≡ listed_of (properties listed []) (g.first + j)
  listing j l = shape_row (properties listed []) g opens j l

  module _ (j : ℕ) (l : j < g.count) where
    -- (b)
    pub optional_present : flag_at listed (g.first + j) ≡ 1 → PresentAt o s j
    optional_present e m = absurd (eqb_apart _ e (rw (listing j l) at m))

    pub found_present : (k : ℕ) → k < h.count → name_at Graph rows (h.first + k) ≡ name_at Schema listed (g.first + j) → PresentAt o s j
    found_present k b e m = (k, rw (object_rows (properties rows text) h) b, rw (row k b, listing j l) e)

    pub none_present :
        flag_at listed (g.first + j) ≢ 1 → Every h.count (λ i. ¬ (name_at Graph rows (h.first + i) ≡ name_at Schema listed (g.first + j))) → ¬ PresentAt o s j
    none_present f e p =
        let t = p (rw (listing j l) (ne_eqb _ _ f)) in
        let b : t.0 < h.count = rw (object_rows (properties rows text) h) at t.1 in
        e t.0 b (rw (row t.0 b, listing j l) at t.2)

  module _ (i : ℕ) (l : i < h.count) where
    -- (c)
    pub open_listed : opens ≡ 1 → ListedAt o s i
    open_listed e m = absurd (eqb_apart opens e m)

    pub found_listed : (k : ℕ) → k < g.count → name_at Schema listed (g.first + k) ≡ name_at Graph rows (h.first + i) → ListedAt o s i
    found_listed k b e m = (k, rw (shape_rows (properties listed []) g opens) b, rw (row i l, listing k b) e)

    pub none_listed : opens ≢ 1 → Every g.count (λ j. ¬ (name_at Schema listed (g.first + j) ≡ name_at Graph rows (h.first + i))) → ¬ ListedAt o s i
    none_listed f e p =
        let t = p (ne_eqb _ _ f) in
        let b : t.0 < g.count = rw (shape_rows (properties listed []) g opens) at t.1 in
        e t.0 b (rw (row i l, listing t.0 b) at t.2)

    -- (d)
    module _ (good : GoodProperty (length text) rows (h.first + i)) where
      pub other_type :
          (j : ℕ) → j < g.count → name_at Graph rows (h.first + i) ≡ name_at Schema listed (g.first + j) → kind_at rows (h.first + i) ≢ type_at listed (g.first + j)
          → ¬ TypedAt o s i
      other_type j b e f p =
          let t = p j (rw (shape_rows (properties listed []) g opens) b) (rw (row i l, listing j b) e) in
          f ((row_type (length text) (properties rows text) (h.first + i) good _).0 (rw (row i l, listing j b) at t))

      pub all_typed :
          Every g.count (λ j. ¬ ((name_at Graph rows (h.first + i) ≡ name_at Schema listed (g.first + j)) × (kind_at rows (h.first + i) ≢ type_at listed (g.first + j))))
          → TypedAt o s i
      all_typed e j b m =
          let c : j < g.count = rw (shape_rows (properties listed []) g opens) at b in
          let q = rw (row i l, listing j c) at m in
          rw (row i l, listing j c)
          ((row_type (length text) (properties rows text) (h.first + i) good _).1 (by_dec (ℕ_discrete _ _) (λ f. e j c (q, f))))

  -- ---- from the rows to the test

  pub all_present : Every g.count (λ j. PresentAt o s j) → AllPresent o s
  all_present e j l = e j (rw (shape_rows (properties listed []) g opens) at l)

  pub all_listed : Every h.count (λ i. ¬ ¬ ListedAt o s i) → AllListed o s
  all_listed e i l = by_dec (dec_listed_at o s i) (e i (rw (object_rows (properties rows text) h) at l))

  pub all_of_type : Every h.count (λ i. ¬ ¬ TypedAt o s i) → AllTyped o s
  all_of_type e i l = by_dec (dec_typed_at o s i) (e i (rw (object_rows (properties rows text) h) at l))

  -- ---- the lowest row at fault has the lowest name at fault

  module _ (rises : Rises g.count (λ j. name_at Schema listed (g.first + j))) where
    shape_rising : RisingShape s
    shape_rising = rises_rows (λ x. x.name) no_listed _ (λ k. listed_of (properties listed []) (g.first + k)) rises

    pub tells_missing : (j name : ℕ) → Lowest g.count (λ j. ¬ PresentAt o s j) j → name ≡ name_at Schema listed (g.first + j) → Tests (Err (Missing name)) o s
    tells_missing j name l e =
        let q : Lowest (length s.listed) (λ j. ¬ PresentAt o s j) j = rw (shape_rows (properties listed []) g opens) l in
        let p : (listed_at s j).name ≡ name = ap (λ x. x.name) (listing j l.below) ∙ sym e in
        (not_present (λ a. q.holds (a j q.below)), lowest_missing (rw p at (rising_lowest (missing_faults o s) shape_rising q)))

  module _ (rises : Rises h.count (λ i. name_at Graph rows (h.first + i))) where
    object_rising : Rising o
    object_rising = rises_rows (λ x. x.name) no_property _ (λ k. property_of (properties rows text) (h.first + k)) rises

    -- (c) and (d) go by the object's rows
    row_lowest :
        {Right At : ℕ → Type 0} → Faults (length o.properties) Right (λ i. (property_at o i).name) At → (i name : ℕ) → Lowest h.count (λ i. ¬ Right i) i
        → name ≡ name_at Graph rows (h.first + i) → (¬ Every (length o.properties) Right) × Least At name
    row_lowest {Right} {At} f i name l e =
        let q : Lowest (length o.properties) (λ i. ¬ Right i) i = rw (object_rows (properties rows text) h) l in
        let p : (property_at o i).name ≡ name = ap (λ x. x.name) (row i l.below) ∙ sym e in
        (λ a. q.holds (a i q.below), rw p at (rising_lowest f object_rising q))

    pub tells_unlisted :
        AllPresent o s → (i name : ℕ) → Lowest h.count (λ i. ¬ ListedAt o s i) i → name ≡ name_at Graph rows (h.first + i) → Tests (Err (Unlisted name)) o s
    tells_unlisted b i name l e = let t = row_lowest (unlisted_faults o s) i name l e in (not_listed b t.0, lowest_unlisted t.1)

    pub tells_mistyped :
        AllPresent o s → AllListed o s → (i name : ℕ) → Lowest h.count (λ i. ¬ TypedAt o s i) i → name ≡ name_at Graph rows (h.first + i) → Tests (Err (Mistyped name)) o s
    tells_mistyped b c i name l e = let t = row_lowest (mistyped_faults o s) i name l e in (not_typed b c t.0, lowest_mistyped t.1)
