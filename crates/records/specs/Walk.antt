-- The words in which the functions of the walk promise something to each other. No public promise uses them.
use Rattle.std.specs.Prelude.{◌≡◌, ◌≢◌, List, ℕ, ◌+◌, ◌*◌, ◌<◌, drop, Option, Some, None, Result, Ok, Err, ⊤}
use Rattle.little.specs.Little.{little}
use Rattle.layout.specs.declared.Head.{Head}
use Rattle.records.specs.declared.Misfit.{Misfit}
use Rattle.records.specs.declared.Misfit.TheVariants.{Unlisted, Mistyped}
use Rattle.records.specs.declared.run.Row.{Row}
use Rattle.records.specs.declared.run.Run.{Run}

-- the first four bytes of a property row, in a table whose rows have w bytes: "name (16), kind (8), zero (8)", in a schema "name (16), type (8), flag (8)"
abbrev pub row_at : ℕ → List ℕ → ℕ → Row
row_at w t r = record { name = little 2 t (w * r); kind = little 1 t (w * r + 2); flag = little 1 t (w * r + 3) }

-- above every name, which is a number of 16 bits
abbrev pub no_name : ℕ
no_name = 65536

-- what stands after the last row
abbrev pub past : Row
past = record { name = no_name; kind = 0; flag = 0 }

-- i rows of a run are passed and `read` are read: x is the row ahead, which is the last one read, or no row is left
pub data Ahead (w : ℕ) (t : List ℕ) (first count i read : ℕ) (x : Row) : Type 0 where
  at_row : i < count → read ≡ i + 1 → x ≡ row_at w t (first + i) → x.name < no_name → Ahead w t first count i read x
  at_end : i ≡ count → read ≡ i → x ≡ past → Ahead w t first count i read x

-- the run of rows of w bytes in table t where head h says, cut out of the table: its rows begin at its first
pub record RunOf (w : ℕ) (t : List ℕ) (h : Head) (p : Run) : Type 0 where
  pub width : p.width ≡ w
  pub rows : p.rows.now ≡ drop (w * h.first) t
  pub count : p.count ≡ h.count

-- nothing of it is read
pub record Starts (w : ℕ) (t : List ℕ) (h : Head) (p : Run) : Type 0 where
  pub run : RunOf w t h p
  pub read : p.read ≡ 0

-- the rows that were read are passed, and the next one comes ahead; the run's rows stay
pub record Goes (p q : Run) (x : Row) : Type 0 where
  pub width : q.width ≡ p.width
  pub rows : q.rows.now ≡ p.rows.now
  pub count : q.count ≡ p.count
  pub ahead : Ahead p.width p.rows.now 0 p.count p.read q.read x

-- the name held is kept, unless none is held and there is a fault: then the new name is held
pub data Keeps (held : Option ℕ) (name : ℕ) (Fault : Type 0) (r : Option ℕ) : Type 0 where
  kept : (Fault → held ≢ None) → r ≡ held → Keeps held name Fault r
  new : Fault → held ≡ None → r ≡ Some name → Keeps held name Fault r

-- (c) comes before (d)
pub data FirstLetter (c d : Option ℕ) (r : Result ⊤ Misfit) : Type 0 where
  unlisted : (x : ℕ) → c ≡ Some x → r ≡ Err (Unlisted x) → FirstLetter c d r
  mistyped : (x : ℕ) → c ≡ None → d ≡ Some x → r ≡ Err (Mistyped x) → FirstLetter c d r
  neither : c ≡ None → d ≡ None → r ≡ Ok tt → FirstLetter c d r
