-- Of the row ahead in a run: whether there is one, its name, and how many rows are read, passed and left.
use mathlib.Core.Path.{◌≡◌, refl, ap, ◌∙◌}
use mathlib.Core.List.{List}
use Prim.Native.Nat.{ℕ, zero, suc, ◌+◌, ◌-◌, ◌*◌, ◌/◌, ◌≤◌, ◌<◌}
use native.Mathlib.Nat.{zero-add, add_assoc, mul-add}
use native.Mathlib.Omega.{arith}
use lib.ListN.{drop}
use Rattle.std.proofs.lemmas.List.{get_or-drop}
use Rattle.little.specs.Little.{little}
use Rattle.layout.specs.declared.Head.{Head}
use Rattle.records.specs.declared.run.Row.{Row}
use Rattle.records.specs.declared.run.Run.{Run}
use Rattle.records.specs.Walk.{no_name, row_at, Ahead, at_row, at_end, RunOf, Goes}

-- a number behind the first a bytes
little_behind : (n : ℕ) (t : List ℕ) (a i : ℕ) → little n (drop a t) i ≡ little n t (a + i)
unfolding little
little_behind zero t a i = refl
little_behind (suc n) t a i = rw (get_or-drop, little_behind n t a (i + 1), add_assoc) refl

-- row i of a run that is cut out of its table is the table's row first + i
row_behind : (w : ℕ) (t : List ℕ) (first i : ℕ) → row_at w (drop (w * first) t) (0 + i) ≡ row_at w t (first + i)
row_behind w t first i =
    let e : w * first + w * (0 + i) ≡ w * (first + i) = rw (zero-add, mul-add) refl in
    rw (little_behind, little_behind, little_behind, ← add_assoc, ← add_assoc, e) refl

ahead_behind : {w : ℕ} {t : List ℕ} {first count i read : ℕ} {x : Row} → Ahead w (drop (w * first) t) 0 count i read x → Ahead w t first count i read x
ahead_behind {w} {t} {first} {i = i} (at_row l e q b) = at_row l e (q ∙ row_behind w t first i) b
ahead_behind (at_end e f q) = at_end e f q

-- the next row of a run comes ahead
pub goes_ahead : {w : ℕ} {t : List ℕ} {h : Head} {p q : Run} {x : Row} → RunOf w t h p → Goes p q x → Ahead w t h.first h.count p.read q.read x
goes_ahead r g = ahead_behind (rw (r.width, r.rows, r.count) at g.ahead)

pub goes_on : {w : ℕ} {t : List ℕ} {h : Head} {p q : Run} {x : Row} → RunOf w t h p → Goes p q x → RunOf w t h q
goes_on r g = record { width = g.width ∙ r.width; rows = g.rows ∙ r.rows; count = g.count ∙ r.count }

module _ {w : ℕ} {t : List ℕ} {first count i read : ℕ} {x : Row} where
  -- no more rows are read than there are
  pub read_within : Ahead w t first count i read x → read ≤ count
  read_within (at_row l e q b) = omega arith
  read_within (at_end e f q) = omega arith

  pub passed_within : Ahead w t first count i read x → i ≤ count
  passed_within (at_row l e q b) = omega arith
  passed_within (at_end e f q) = omega arith

  -- a name below no_name is that of a row, and no_name is none
  pub row_ahead : Ahead w t first count i read x → x.name < no_name → (i < count) × (read ≡ i + 1) × (x ≡ row_at w t (first + i))
  row_ahead (at_row l e q b) u = (l, e, q)
  row_ahead (at_end e f q) u = absurd (omega (arith, ap (λ x. x.name) q))

  pub none_ahead : Ahead w t first count i read x → ¬ (x.name < no_name) → i ≡ count
  none_ahead (at_row l e q b) u = absurd (u b)
  none_ahead (at_end e f q) u = e

  pub name_ahead : Ahead w t first count i read x → i < count → x.name ≡ little 2 t (w * (first + i))
  name_ahead (at_row l e q b) u = ap (λ x. x.name) q
  name_ahead (at_end e f q) u = absurd (omega arith)

  pub name_within : Ahead w t first count i read x → x.name ≤ no_name
  name_within (at_row l e q b) = omega arith
  name_within (at_end e f q) = omega (arith, ap (λ x. x.name) q)

-- the rows of a run that are not passed, by what the walk holds: the row ahead is read and not passed
abbrev pub left : ℕ → ℕ → Row → ℕ
left count read x = count - read + (1 - x.name / no_name)

left_is : {w : ℕ} {t : List ℕ} {first count i read : ℕ} {x : Row} → Ahead w t first count i read x → left count read x + i ≡ count
left_is (at_row l e q b) = omega arith
left_is (at_end e f q) = omega (arith, ap (λ x. x.name) q)

-- a row that is passed is not left
pub left_less :
    {w : ℕ} {t : List ℕ} {first count i read read' : ℕ} {x x' : Row} → Ahead w t first count i read x → x.name < no_name → Ahead w t first count read read' x'
    → left count read' x' < left count read x
left_less p u q = omega (arith, left_is p, left_is q, (row_ahead p u).0, (row_ahead p u).1)
