-- The steps of the record test's walk: what the two rows ahead say of the record, and what is known when the lower one is passed, or both.
use mathlib.Core.Path.{◌≡◌, sym, ap, ◌∙◌}
use mathlib.Core.Logic.{◌≢◌}
use mathlib.Core.List.{List, []}
use Prim.Native.Nat.{ℕ, ◌+◌, ◌≤◌, ◌<◌}
use native.Mathlib.Decide.{ℕ_discrete, dec_lt}
use native.Mathlib.Omega.{arith}
use borrow.Author.Count.{below_more}
use Rattle.std.specs.Prelude.{Option, None, Result, Err, ⊤}
use Rattle.meaning.specs.Places.{Every}
use Rattle.meaning.specs.Model.{Object, Shape}
use Rattle.meaning.specs.Fits.{PresentAt, AllPresent, ListedAt, AllListed, TypedAt}
use Rattle.meaning.proofs.Decide.{by_dec}
use Rattle.layout.specs.declared.File.TheVariants.{Graph, Schema}
use Rattle.layout.specs.declared.Head.{Head}
use Rattle.layout.specs.Runs.{name_at}
use Rattle.layout.specs.Graph.{kind_at, object_of}
use Rattle.layout.specs.Schema.{type_at, shape_of}
use Rattle.records.specs.declared.Misfit.{Misfit}
use Rattle.records.specs.declared.Misfit.TheVariants.{Missing}
use Rattle.records.specs.declared.run.Row.{Row}
use Rattle.records.specs.Record.{Tests, properties, Runs}
use Rattle.records.specs.Walk.{no_name, row_at, Ahead, Keeps, FirstLetter, unlisted, mistyped, neither}
use Rattle.records.proofs.Laws.{optional_present, found_present, none_present, open_listed, found_listed, none_listed, other_type, all_typed, all_present, all_listed, all_of_type, tells_missing, tells_unlisted, tells_mistyped}
use Rattle.records.proofs.RowAhead.{row_ahead, none_ahead, name_ahead, name_within, passed_within}
use Rattle.records.proofs.TwoLists.{Behind, none_behind, further, passes, lower_row, lower_under, lower_absent, equal_row, equal_names, equal_under, equal_one}
use Rattle.records.proofs.HeldName.{Held, keeps_as, none_held, held_more, held_none_more, held_same, held_rest, held_found, held_name, held_none}

-- i rows of the object and j listed rows are passed, m and n are read: x and y are ahead, c and d are the lowest unlisted and the lowest wrongly typed
-- name so far
pub record Walking (rows text : List ℕ) (h : Head) (listed : List ℕ) (g : Head) (opens i j m n : ℕ) (c d : Option ℕ) (x y : Row) : Type 0 where
  pub runs : Runs rows text h listed g
  pub row : Ahead 16 rows h.first h.count i m x
  pub listing : Ahead 4 listed g.first g.count j n y
  pub rows_behind : Behind g.count (λ k. name_at Graph rows (h.first + k)) (λ l. name_at Schema listed (g.first + l)) i j
  pub listed_behind : Behind h.count (λ l. name_at Schema listed (g.first + l)) (λ k. name_at Graph rows (h.first + k)) j i
  pub present : Every j (λ l. PresentAt (object_of (properties rows text) h) (shape_of (properties listed []) g opens) l)
  pub unlisted : Held (λ k. name_at Graph rows (h.first + k)) (λ k. ¬ ListedAt (object_of (properties rows text) h) (shape_of (properties listed []) g opens) k) i c
  pub mistyped : Held (λ k. name_at Graph rows (h.first + k)) (λ k. ¬ TypedAt (object_of (properties rows text) h) (shape_of (properties listed []) g opens) k) i d

pub starts :
    {rows text : List ℕ} {h : Head} {listed : List ℕ} {g : Head} (opens : ℕ) {m n : ℕ} {x y : Row} → Runs rows text h listed g
    → Ahead 16 rows h.first h.count 0 m x → Ahead 4 listed g.first g.count 0 n y → Walking rows text h listed g opens 0 0 m n None None x y
starts {h = h} {g = g} opens r p q =
    record {
      runs = r;
      row = p;
      listing = q;
      rows_behind = none_behind g.count _ _ 0;
      listed_behind = none_behind h.count _ _ 0;
      present = λ k l. absurd (omega arith);
      unlisted = none_held;
      mistyped = none_held;
    }

module _ {rows text : List ℕ} {h : Head} {listed : List ℕ} {g : Head} {opens i j m n : ℕ} {c d : Option ℕ} {x y : Row} (w : Walking rows text h listed g opens i j m n c d x y) where
  abbrev o : Object
  o = object_of (properties rows text) h

  abbrev s : Shape
  s = shape_of (properties listed []) g opens

  -- the names of the object's rows and of the listed rows
  abbrev a : ℕ → ℕ
  a k = name_at Graph rows (h.first + k)

  abbrev b : ℕ → ℕ
  b l = name_at Schema listed (g.first + l)

  -- ---- the lower name is the listed one: it is not present

  module _ (lower : y.name < x.name) where
    not_there : Every h.count (λ k. ¬ (a k ≡ b j))
    not_there = lower_absent w.listing w.row w.runs.object_rises lower w.rows_behind

    there : (j < g.count) × (n ≡ j + 1) × (y ≡ row_at 4 listed (g.first + j))
    there = lower_row w.listing w.row w.runs.object_rises lower

    pub told_missing : y.flag ≢ 1 → Tests (Err (Missing y.name)) o s
    told_missing f =
        tells_missing rows text h listed g opens w.runs.shape_rises j y.name
        (record { below = there.0; holds = none_present rows text h listed g opens j there.0 (λ e. f (ap (λ y. y.flag) there.2 ∙ e)) not_there; before = λ k l v. v (w.present k l) })
        (name_ahead w.listing there.0)

    pub listing_passed : {n' : ℕ} {y' : Row} → y.flag ≡ 1 → Ahead 4 listed g.first g.count n n' y' → Walking rows text h listed g opens i n m n' c d x y'
    listing_passed f r =
        record {
          runs = w.runs;
          row = w.row;
          listing = r;
          rows_behind = further w.rows_behind (omega (arith, there.1));
          listed_behind = rw there.1 (passes w.listed_behind (omega arith) (lower_under w.listing w.row w.runs.object_rises lower));
          present =
              rw there.1
              (below_more (λ k. PresentAt o s k) j w.present
              (optional_present rows text h listed g opens j there.0 (sym (ap (λ y. y.flag) there.2) ∙ f)));
          unlisted = w.unlisted;
          mistyped = w.mistyped;
        }

  -- ---- the lower name is the object's: it is not listed

  module _ (lower : x.name < y.name) where
    here : (i < h.count) × (m ≡ i + 1) × (x ≡ row_at 16 rows (h.first + i))
    here = lower_row w.row w.listing w.runs.shape_rises lower

    not_listed : Every g.count (λ l. ¬ (b l ≡ a i))
    not_listed = lower_absent w.row w.listing w.runs.shape_rises lower w.listed_behind

    unlisted_fault : opens ≢ 1 → ¬ ListedAt o s i
    unlisted_fault v = none_listed rows text h listed g opens i here.0 v not_listed

    unlisted_more : {c' : Option ℕ} → Keeps c x.name (opens ≢ 1) c' → Held a (λ k. ¬ ListedAt o s k) (i + 1) c'
    unlisted_more p =
        held_more w.unlisted p (name_ahead w.row here.0) unlisted_fault
        (λ f v. v (open_listed rows text h listed g opens i here.0 (by_dec (ℕ_discrete opens 1) f)))

    pub row_passed : {m' : ℕ} {c' : Option ℕ} {x' : Row} → Keeps c x.name (opens ≢ 1) c' → Ahead 16 rows h.first h.count m m' x' → Walking rows text h listed g opens m j m' n c' d x' y
    row_passed p r =
        record {
          runs = w.runs;
          row = r;
          listing = w.listing;
          rows_behind = rw here.1 (passes w.rows_behind (omega arith) (lower_under w.row w.listing w.runs.shape_rises lower));
          listed_behind = further w.listed_behind (omega (arith, here.1));
          present = w.present;
          unlisted = rw here.1 (unlisted_more p);
          mistyped =
              rw here.1
              (held_none_more w.mistyped (λ v. v (all_typed rows text h listed g opens i here.0 (w.runs.values i here.0) (λ l z k. not_listed l z (sym k.0)))));
        }

  -- ---- equal names: the name is present and listed, and has the listed type or another

  module _ (equal : x.name ≡ y.name) (ahead : y.name < no_name) where
    row_here : (i < h.count) × (m ≡ i + 1) × (x ≡ row_at 16 rows (h.first + i))
    row_here = equal_row w.row w.listing w.runs.shape_rises equal ahead

    listing_here : (j < g.count) × (n ≡ j + 1) × (y ≡ row_at 4 listed (g.first + j))
    listing_here = row_ahead w.listing ahead

    same : a i ≡ b j
    same = equal_names w.row w.listing w.runs.shape_rises equal ahead

    kind_is : x.kind ≡ kind_at rows (h.first + i)
    kind_is = ap (λ x. x.kind) row_here.2

    type_is : y.kind ≡ type_at listed (g.first + j)
    type_is = ap (λ y. y.kind) listing_here.2

    mistyped_fault : x.kind ≢ y.kind → ¬ TypedAt o s i
    mistyped_fault f =
        other_type rows text h listed g opens i row_here.0 (w.runs.values i row_here.0) j listing_here.0 same (λ e. f (kind_is ∙ e ∙ sym type_is))

    mistyped_right : ¬ (x.kind ≢ y.kind) → ¬ ¬ TypedAt o s i
    mistyped_right f v =
        v
        (all_typed rows text h listed g opens i row_here.0 (w.runs.values i row_here.0)
        (λ l z k. f (λ e. k.1 (rw (equal_one w.row w.listing w.runs.shape_rises equal ahead l z k.0) (sym kind_is ∙ e ∙ type_is)))))

    pub both_passed :
        {m' n' : ℕ} {d' : Option ℕ} {x' y' : Row} → Keeps d x.name (x.kind ≢ y.kind) d' → Ahead 16 rows h.first h.count m m' x'
        → Ahead 4 listed g.first g.count n n' y' → Walking rows text h listed g opens m n m' n' c d' x' y'
    both_passed q r t =
        record {
          runs = w.runs;
          row = r;
          listing = t;
          rows_behind = rw (row_here.1, listing_here.1) (passes w.rows_behind (omega arith) (equal_under w.row w.listing w.runs.shape_rises equal ahead));
          listed_behind =
              rw (row_here.1, listing_here.1)
              (passes w.listed_behind (omega arith) (equal_under w.listing w.row w.runs.object_rises (sym equal) (omega arith)));
          present =
              rw listing_here.1
              (below_more (λ k. PresentAt o s k) j w.present (found_present rows text h listed g opens j listing_here.0 i row_here.0 same));
          unlisted = rw row_here.1 (held_none_more w.unlisted (λ v. v (found_listed rows text h listed g opens i row_here.0 j listing_here.0 (sym same))));
          mistyped = rw row_here.1 (held_more w.mistyped q (name_ahead w.row row_here.0) mistyped_fault mistyped_right);
        }

  -- ---- no listed row is left: the names left in the object are not listed

  module _ (last : ¬ (y.name < no_name)) where
    all_asked : j ≡ g.count
    all_asked = none_ahead w.listing last

    -- none of them stands in the list
    rest : (k : ℕ) → i ≤ k → k < h.count → Every g.count (λ l. ¬ (b l ≡ a k))
    rest k p q l z e = let t = w.listed_behind l (omega (arith, all_asked)) k p q in omega arith

    ends_present : AllPresent o s
    ends_present = all_present rows text h listed g opens (rw all_asked at w.present)

    ends_mistyped : Held a (λ k. ¬ TypedAt o s k) h.count d
    ends_mistyped =
        held_rest w.mistyped (passed_within w.row)
        (λ k p q v. v (all_typed rows text h listed g opens k q (w.runs.values k q) (λ l z f. rest k p q l z (sym f.0))))

    -- the fault of the row ahead: there is one, and the type is closed
    abbrev Rest : Type 0
    Rest = (x.name < no_name) × (opens ≢ 1)

    ends_unlisted : {c' : Option ℕ} → Keeps c x.name Rest c' → Held a (λ k. ¬ ListedAt o s k) h.count c'
    ends_unlisted {c'} p = go (dec_lt x.name y.name) (ℕ_discrete opens 1)
      where
        go : Dec (x.name < y.name) → Dec (opens ≡ 1) → Held a (λ k. ¬ ListedAt o s k) h.count c'
        go q (yes e) = held_rest (held_same w.unlisted p (λ f. f.1 e)) (passed_within w.row) (λ k l z v. v (open_listed rows text h listed g opens k z e))
        go (yes l) (no e) =
            held_found {i = i + 1} (unlisted_more l (keeps_as p (λ f. f.1) (λ f. (omega (arith, l, name_within w.listing), f)))) (omega arith) (unlisted_fault l e) (omega (arith, (here l).0))
        go (no l) (no e) = rw (none_ahead w.row (λ u. l (omega arith))) at (held_same w.unlisted p (λ f. l (omega (arith, f.0))))

    ends_listed : {c' : Option ℕ} → Keeps c x.name Rest c' → c' ≡ None → AllListed o s
    ends_listed p v = all_listed rows text h listed g opens (held_none (ends_unlisted p) v)

    -- what is told then
    pub told : {c' : Option ℕ} {r : Result ⊤ Misfit} → Keeps c x.name Rest c' → FirstLetter c' d r → Tests r o s
    told p (unlisted name u e) =
        let t = held_name (ends_unlisted p) u in rw e (tells_unlisted rows text h listed g opens w.runs.object_rises ends_present t.0 name t.1 t.2)
    told p (mistyped name v u e) =
        let t = held_name ends_mistyped u in
        rw e (tells_mistyped rows text h listed g opens w.runs.object_rises ends_present (ends_listed p v) t.0 name t.1 t.2)
    told p (neither v u e) =
        rw e (record { present = ends_present; listed = ends_listed p v; typed = all_of_type rows text h listed g opens (held_none ends_mistyped u) })
