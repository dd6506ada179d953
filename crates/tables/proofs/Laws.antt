-- Laws of judging rows: a walk through the objects of a table, and from the walks to the table of refusals.
use mathlib.Core.Path.{◌≡◌, refl, sym, ◌∙◌}
use Prim.Native.Nat.{ℕ, ◌+◌, ◌*◌, ◌/◌, ◌^◌, ◌<◌}
use native.Mathlib.Decide.{ℕ_discrete}
use native.Mathlib.Nat.{add_assoc, div-lt_iff_lt-mul, div-eq_of_lt}
use native.Mathlib.Omega.{arith}
use borrow.Author.Tests.{eq-eqb, ne_eqb}
use lib.Dec.{eqb}
use lib.ListN.{length}
use lib.Pow.{pow_pos}
use Rattle.little.specs.Promise.{Says}
use Rattle.meaning.specs.Places.{Every}
use Rattle.layout.specs.declared.File.{File}
use Rattle.layout.specs.declared.Sort.{Sort}
use Rattle.layout.specs.declared.Sort.TheVariants.{Nodes, Edges}
use Rattle.layout.specs.declared.Trailer.{Trailer}
use Rattle.layout.specs.declared.Head.{Head}
use Rattle.std.specs.Prelude.{Option}
use Rattle.std.specs.Prelude.{Some, None}
use Rattle.layout.specs.Files.{either, form, Body, Full, ceilings}
use Rattle.layout.specs.Runs.{LabelsBelow, head_at, head_in, start, heads, GoodHead, name_at}
use Rattle.layout.specs.Rows.{OwnObject, OwnRow, count_of, table_of, first_of, GoodObject, GoodPropertyRow}
use Rattle.layout.specs.Refusals.{here, later, RefusedBy, Held, row_refusals}
use Rattle.layout.proofs.Labels.{labels_below}
use Rattle.layout.proofs.UnderCeilings.{ceilings_small}
use Rattle.layout.proofs.Heads.{length_heads, head_of_lem, object_below}
use Rattle.layout.proofs.Runs.{start_none, start_more, run_bad, run_good, rest_bad}
use Rattle.tables.specs.declared.Reached.{Reached}
use Rattle.tables.specs.Told.{Given}
use Rattle.tables.specs.Inner.{Finds, GoodIn, Extends, Stands}

-- no bit is left of a label set that is shifted by the label count exactly if no label is at or above it
pub shifted_out : (l n : ℕ) → Says (eqb (l / 2 ^ n) 0) (LabelsBelow l n)
shifted_out l n =
    elim (ℕ_discrete (l / 2 ^ n) 0) [
      | yes e ↦ rw (eq-eqb _ _ e) ((labels_below l n).1 (let h : l < 1 * 2 ^ n = (div-lt_iff_lt-mul (pow_pos n)).0 (omega arith) in omega arith))
      | no d ↦ rw (ne_eqb _ _ d) (λ h. d (div-eq_of_lt ((labels_below l n).0 h)))
    ]

-- full tables under the ceilings can be judged
pub held_given : {F : File} {n : Trailer} {b : Body} → Full F n b → Held (ceilings F) n → Given F n b
held_given {F} full h =
    let few = ceilings_small F in
    record { full = full; nodes = omega arith; edges = omega arith; rows = omega arith; text = omega (arith, full.text) }

-- ---- a walk through the objects of one table

-- it starts before the first node
pub at_first : {F : File} {n : Trailer} {b : Body} → Given F n b → Stands F n b Nodes 0 (record { next = 0; bad = None })
at_first {F} {n} {b} t = record { next = sym (start_none (heads F n b)); inside = omega arith; bad = λ r h. absurd (omega arith) }

-- at object i, whose head is h
module _ {F : File} {n : Trailer} {b : Body} {o : Sort} {i : ℕ} {p : Reached} {h : Head} (s : Stands F n b o i p) (below : i < count_of F n b o) (is : h ≡ head_at (form F o) (table_of F n b o) i) where
  own_head : h ≡ head_in (heads F n b) (first_of F n b o + i)
  own_head = is ∙ sym (head_of_lem F n b o i below)

  pub bad_head : ¬ GoodHead n h p.next → ¬ GoodObject F n b o i
  bad_head x g = x (rw (own_head, s.next) g.head)

  pub good_object : GoodHead n h p.next → OwnObject F o n.nodes (table_of F n b o) i → GoodObject F n b o i
  good_object x y = record { head = rw (own_head, s.next) at x; own = y }

  run_end : p.next + h.count ≡ start (heads F n b) (first_of F n b o + i + 1)
  run_end = rw (own_head, s.next, start_more (heads F n b) (first_of F n b o + i)) refl

  -- the lowest bad row, one run further
  bad_further :
      (bad found : Option ℕ) → Finds bad p.next (GoodPropertyRow F n b) → Extends found bad p.next (p.next + h.count) (GoodIn F b.rows (length b.text) n.names p.next)
      → Finds found (p.next + h.count) (GoodPropertyRow F n b)
  bad_further (Some k) found l e = let m = l.below in rw e (record { below = omega arith; holds = l.holds; before = l.before })
  bad_further None (Some k) l e =
      rw run_end
      (run_bad (heads F n b) n.names (name_at F b.rows) (OwnRow F (length b.text) b.rows) _ (object_below F n b o i below) (rw s.next at l) k (rw (own_head, s.next) at e))
  bad_further None None l e =
      rw run_end
      (run_good (heads F n b) n.names (name_at F b.rows) (OwnRow F (length b.text) b.rows) _ (object_below F n b o i below) (rw s.next at l) (rw (own_head, s.next) at e))

  pub one_run_more :
      {found : Option ℕ} → GoodHead n h p.next → Extends found p.bad p.next (p.next + h.count) (GoodIn F b.rows (length b.text) n.names p.next)
      → Stands F n b o (i + 1) (record { next = p.next + h.count; bad = found })
  one_run_more g e = record { next = rw (← add_assoc) run_end; inside = omega (arith, g.begins, g.ends); bad = bad_further p.bad _ s.bad e }

-- ---- from the walks to the refusals of rows

-- where all objects are good, and all rows of their runs, the first row behind the last run is in none
pub refuse_rest :
    {F : File} {n : Trailer} {b : Body} {p : Reached} → Every n.nodes (GoodObject F n b Nodes) → Every n.edges (GoodObject F n b Edges) × Stands F n b Edges n.edges p
    → Every p.next (GoodPropertyRow F n b) → p.next < n.rows → RefusedBy (row_refusals F n b) (either F 8 15) p.next
refuse_rest {F} {n} {b} a w g h =
    let e = w.1.next in
    later a
    (later w.0
    (here refl
    (record {
      below = h;
      holds = rest_bad (heads F n b) n.names (name_at F b.rows) (OwnRow F (length b.text) b.rows) _ (rw (length_heads F n b) (omega arith));
      before = λ i l q. q (g i l);
    })))
