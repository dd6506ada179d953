-- The lines of 01's table, over the counts of the trailers and as the functions find them.
use mathlib.Core.Path.{◌≡◌, refl, sym, ap}
use Prim.Native.Nat.{ℕ, ◌+◌, ◌*◌, ◌≤◌, ◌<◌}
use native.Mathlib.Omega.{arith}
use borrow.Author.Count.{below_more}
use Rattle.little.specs.Little.{little}
use Rattle.meaning.specs.Model.{Object, Shape}
use Rattle.meaning.specs.Fits.{SameLabels, RecordFits, Fits}
use Rattle.meaning.specs.Places.{Every, Lowest}
use Rattle.meaning.specs.Rules.{Way, near}
use Rattle.meaning.specs.Violations.{edge, number, Misnumbered}
use Rattle.meaning.specs.Answer.{answer, Broken, Named, SourceFits, Told, code_21, code_22, code_23, code_24, code_25_source, code_25_target, code_31_33, code_32_34}
use Rattle.layout.specs.declared.Sort.{Sort}
use Rattle.layout.specs.declared.Sort.TheVariants.{Nodes, Edges}
use Rattle.layout.specs.declared.Trailer.{Trailer}
use Rattle.layout.specs.Files.{of, most_edges, most_schema_edges, Body}
use Rattle.std.specs.Prelude.{Option, Err, MatchOption}
use Rattle.std.specs.declared.option.Option.TheVariants as some
use Rattle.layout.specs.Search.{Seeks, From}
use Rattle.layout.specs.Graph.{graph_of}
use Rattle.layout.specs.Schema.{schema_of}
use Rattle.layout.proofs.Accepted.{schema_nodes, schema_edges}
use Rattle.records.specs.declared.Misfit.{Misfit}
use Rattle.records.specs.declared.Misfit.TheVariants.{Missing, Unlisted, Mistyped}
use Rattle.records.specs.Record.{letter, property, Tests}
use Rattle.records.proofs.Answers.{unbroken}
use Rattle.fitting.specs.Objects.{object_in, shape_in}
use Rattle.fitting.proofs.Laws.{Sound}
use Rattle.fitting.proofs.Labels.{none_behind}
use Rattle.placing.proofs.Ends.{across_in, interval_is, schema_across}
use Rattle.telling.specs.Told.{violation_of, FitsNone}

-- the letter that a misfit is told by is the first that is broken, and the property it names the lowest at fault
first_broken : {o : Object} {s : Shape} (m : Misfit) → Tests (Err m) o s → Broken o s (letter (Err m)) × Named o s (letter (Err m)) (property (Err m))
first_broken (Missing name) x = x
first_broken (Unlisted name) x = x
first_broken (Mistyped name) x = x

-- a record that misfits does not fit
pub misfits : {o : Object} {s : Shape} (m : Misfit) → Tests (Err m) o s → ¬ RecordFits o s
misfits m x f = unbroken f (first_broken m x).0

-- where the record misfits at the lowest shape that has an object's label set, what the object fits is found behind that one
module _ (o : Object) (shapes : ℕ → Shape) {n j : ℕ} (l : Lowest n (λ k. SameLabels o (shapes k)) j) (p : ¬ RecordFits o (shapes j)) where
  fits_none_yet : Every (j + 1) (λ k. ¬ Fits o (shapes k))
  fits_none_yet = below_more _ _ (λ k h f. l.before k h f.labels) (λ f. p f.properties)

  pub fits_behind : (r : Option ℕ) → Seeks r n (From (j + 1) (λ k. Fits o (shapes k))) → Seeks r n (λ k. Fits o (shapes k))
  fits_behind (some.Some k) q = record { below = q.below; holds = q.holds.1; before = none_behind (λ k f. f) fits_none_yet q.before }
  fits_behind some.None q = none_behind (λ k f. f) fits_none_yet q

-- what a search through a range finds is the lowest place from its start on
pub lowest_found :
    (r : Option ℕ) (from n : ℕ) (P : ℕ → Type 0)
    → MatchOption r ((k : ℕ) → from ≤ k → k < n → ¬ P k) (λ i. (from ≤ i) × (i < n) × P i × ((k : ℕ) → from ≤ k → k < i → ¬ P k)) → Seeks r n (From from P)
lowest_found (some.Some i) from n P x = record { below = x.1; holds = (x.0, x.2); before = λ k h f. x.3 k f.0 h f.1 }
lowest_found some.None from n P x = λ k h f. x k f.0 h f.1

module _ {n : Trailer} {b : Body} {m : Trailer} {d : Body} (r : Sound n b m d) where
  -- the counts are small
  pub objects_few : (o : Sort) → of o n.nodes n.edges ≤ most_edges
  objects_few Nodes = omega (arith, r.nodes)
  objects_few Edges = r.edges

  pub shapes_few : (o : Sort) → of o m.nodes m.edges ≤ most_schema_edges
  shapes_few Nodes = omega (arith, r.schema_nodes)
  shapes_few Edges = r.schema_edges

  -- ---- a node or an edge that fits nothing: 21 and 23 are one line for a node and for an edge, and so are 22 and 24

  pub tell_21_23 :
      (o : Sort) (i : ℕ) → Every (of o m.nodes m.edges) (λ j. ¬ SameLabels (object_in (graph_of n b) o i) (shape_in (schema_of m d) o j))
      → Told (graph_of n b) (schema_of m d) (violation_of o i) (answer (of o 21 23) i 0 0 0)
  tell_21_23 Nodes i f = code_21 {i = i} (rw (schema_nodes m d) f)
  tell_21_23 Edges e f = code_23 {e = e} (rw (schema_edges m d) f)

  record_line :
      (o : Sort) (i j k x : ℕ) → FitsNone (graph_of n b) (schema_of m d) o (of o m.nodes m.edges) i
      → Lowest (of o m.nodes m.edges) (λ j. SameLabels (object_in (graph_of n b) o i) (shape_in (schema_of m d) o j)) j
      → Broken (object_in (graph_of n b) o i) (shape_in (schema_of m d) o j) k → Named (object_in (graph_of n b) o i) (shape_in (schema_of m d) o j) k x
      → Told (graph_of n b) (schema_of m d) (violation_of o i) (answer (of o 22 24) i j k x)
  record_line Nodes i j k x f l p q = code_22 {i = i} {j = j} {k = k} {x = x} (rw (schema_nodes m d) l) p q
  record_line Edges e s k x f l p q = code_24 {e = e} {s = s} {k = k} {x = x} (rw (schema_edges m d) f) (rw (schema_edges m d) l) p q

  pub tell_22_24 :
      (o : Sort) (i j : ℕ) (k : Misfit) → FitsNone (graph_of n b) (schema_of m d) o (of o m.nodes m.edges) i
      → Lowest (of o m.nodes m.edges) (λ j. SameLabels (object_in (graph_of n b) o i) (shape_in (schema_of m d) o j)) j
      → Tests (Err k) (object_in (graph_of n b) o i) (shape_in (schema_of m d) o j)
      → Told (graph_of n b) (schema_of m d) (violation_of o i) (answer (of o 22 24) i j (letter (Err k)) (property (Err k)))
  tell_22_24 o i j k f l w = let p = first_broken k w in record_line o i j (letter (Err k)) (property (Err k)) f l p.0 p.1

  -- ---- an edge whose ends do not fit

  module _ (e s : ℕ) (l : Lowest m.edges (λ s. Fits (object_in (graph_of n b) Edges e) (shape_in (schema_of m d) Edges s)) s) where
    pub tell_25_source : ¬ SourceFits (graph_of n b) (schema_of m d) e s → Told (graph_of n b) (schema_of m d) (edge e) (answer 25 e s 1 0)
    tell_25_source x = code_25_source {e = e} {s = s} (rw (schema_edges m d) l) x

    pub tell_25_target : SourceFits (graph_of n b) (schema_of m d) e s → Told (graph_of n b) (schema_of m d) (edge e) (answer 25 e s 2 0)
    tell_25_target x = code_25_target {e = e} {s = s} (rw (schema_edges m d) l) x

  -- ---- a wrong number

  -- the least number across, as it lies: out, the target interval's; into, the source interval's
  abbrev pub least_in : Way → ℕ → ℕ
  least_in w s = near w (little 4 d.edges (40 * s + 32)) (little 4 d.edges (40 * s + 24))

  least_is : (w : Way) (s : ℕ) → (across_in w d.edges s).minimum ≡ least_in w s
  least_is w s = sym (ap (λ i. i.minimum) (interval_is w d.edges s _ _ refl refl))

  module _ (w : Way) (s v k : ℕ) (x : Misnumbered (graph_of n b) (schema_of m d) w s v k) where
    pub wrong_edge : s < m.edges
    wrong_edge = rw schema_edges at x.schema_edge

    pub tell_few : k < least_in w s → Told (graph_of n b) (schema_of m d) (number w s v k) (answer (near w 31 33) v s k 0)
    tell_few l = code_31_33 {w = w} {s = s} {v = v} {n = k} (rw (schema_across r w s wrong_edge, least_is w s) l)

    pub tell_many : least_in w s ≤ k → Told (graph_of n b) (schema_of m d) (number w s v k) (answer (near w 32 34) v s k 0)
    tell_many l =
        let e : least_in w s ≡ (across_in w d.edges s).minimum = sym (least_is w s) in
        let a = schema_across r w s wrong_edge in
        code_32_34 {w = w} {s = s} {v = v} {n = k} (rw a (λ f. absurd (omega (arith, e)))) (λ f. x.wrong (record { enough = rw a (omega (arith, e)); not_too_many = f }))
