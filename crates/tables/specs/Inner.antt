-- The words in which the functions that judge rows promise something to each other. No public promise uses them.
use Rattle.std.specs.Prelude.{◌≡◌, List, ℕ, ◌+◌, ◌≤◌, Option, Some, None, Result, Ok, Err}
use Rattle.meaning.specs.Places.{Every, Lowest}
use Rattle.layout.specs.declared.File.{File}
use Rattle.layout.specs.declared.Sort.{Sort}
use Rattle.layout.specs.declared.Trailer.{Trailer}
use Rattle.layout.specs.declared.Refused.{Refused}
use Rattle.layout.specs.declared.Refused.TheVariants.{Node, Edge}
use Rattle.layout.specs.Files.{of, Body}
use Rattle.layout.specs.Runs.{heads, start, RowIn, name_at}
use Rattle.layout.specs.Rows.{OwnRow, count_of, first_of, GoodObject, GoodPropertyRow}
use Rattle.tables.specs.declared.Reached.{Reached}

-- the lowest bad one of n rows, or that all are good
abbrev pub Finds : Option ℕ → ℕ → (ℕ → Type 0) → Type 0
Finds (Some k) n P = Lowest n (λ i. ¬ P i) k
Finds None n P = Every n P

-- a property row is good in a run that starts at s
abbrev pub GoodIn : File → List ℕ → ℕ → ℕ → ℕ → ℕ → Type 0
GoodIn F rows text names s r = RowIn names (name_at F rows) (OwnRow F text rows) s r

-- the lowest bad row up to e, where only the rows from s on are asked about; a bad row that was found before s stays the lowest
abbrev pub Extends : Option ℕ → Option ℕ → ℕ → ℕ → (ℕ → Type 0) → Type 0
Extends r (Some k) s e P = r ≡ Some k
Extends r None s e P = Finds r e (λ i. s ≤ i → P i)

-- how far a walk came before object i of a sort: where the next run starts, and the lowest bad property row before that
pub record Stands (F : File) (n : Trailer) (b : Body) (o : Sort) (i : ℕ) (p : Reached) : Type 0 where
  pub next : p.next ≡ start (heads F n b) (first_of F n b o + i)
  pub inside : p.next ≤ n.rows
  pub bad : Finds p.bad p.next (GoodPropertyRow F n b)

-- all objects of a table are good, and how far the walk came behind them; or it is refused for the lowest bad one
abbrev pub Walks : Result Reached Refused → File → Trailer → Body → Sort → Type 0
Walks (Ok p) F n b o = Every (count_of F n b o) (GoodObject F n b o) × Stands F n b o (count_of F n b o) p
Walks (Err r) F n b o = (k : ℕ) × (r ≡ of o (Node k) (Edge k)) × Lowest (count_of F n b o) (λ i. ¬ GoodObject F n b o i) k
