-- Refusals: the table of codes, tried in order (01, "Ceilings and refusals").
use Rattle.std.specs.Prelude.{◌≡◌, List, [], ◌∷◌, ℕ, ◌-◌, ◌≤◌, length, drop}
use Rattle.meaning.specs.Places.{Every, Lowest}
use Rattle.layout.specs.declared.File.{File}
use Rattle.layout.specs.declared.Sort.TheVariants.{Nodes, Edges}
use Rattle.layout.specs.declared.Ceilings.{Ceilings}
use Rattle.layout.specs.declared.Trailer.{Trailer}
use Rattle.layout.specs.Files.{either, trailer_size, mark, body_size, Body, before, numbers_of, body_of}
use Rattle.layout.specs.Rows.{GoodObject, GoodPropertyRow}

-- ---- a table of refusals

-- a refusal of the table: its code, how many rows it tries, and which rows are good
pub record Refusal : Type 1 where
  pub code : ℕ
  pub rows : ℕ
  pub Good : ℕ → Type 0

abbrev pub each : ℕ → ℕ → (ℕ → Type 0) → Refusal
each c n P = record { code = c; rows = n; Good = P }

-- a test of the whole file tries one row, so that its place is 0
abbrev pub once : ℕ → Type 0 → Refusal
once c P = each c 1 (λ i. P)

-- "Codes are tried in rising order, all of one code before the next." "Place is the lowest bad row .."
pub data Tried (l : Refusal) (Later : ℕ → ℕ → Type 0) (code place : ℕ) : Type 0 where
  here : code ≡ l.code → Lowest l.rows (λ i. ¬ l.Good i) place → Tried l Later code place
  later : Every l.rows l.Good → Later code place → Tried l Later code place

abbrev pub RefusedBy : List Refusal → ℕ → ℕ → Type 0
RefusedBy [] = λ c k. ⊥
RefusedBy (l ∷ ls) = Tried l (RefusedBy ls)

-- none of them refuses
abbrev pub Passed : List Refusal → Type 0
Passed [] = Unit {0}
Passed (l ∷ ls) = Every l.rows l.Good × Passed ls

-- ---- the refusals of a file

-- 2 / 9 "file length outside its range" is bad
pub record Sized (F : File) (c : Ceilings) (f : List ℕ) : Type 0 where
  pub least : trailer_size F ≤ length f
  pub most : length f ≤ c.file

-- 3 / 10 "last four bytes are not the mark"
abbrev pub Marked : File → List ℕ → Type 0
Marked F f = drop (length f - 4) f ≡ mark F

-- 4 / 11 "a trailer count above its ceiling"
pub record Held (c : Ceilings) (n : Trailer) : Type 0 where
  pub nodes : n.nodes ≤ c.nodes
  pub edges : n.edges ≤ c.edges
  pub rows : n.rows ≤ c.rows
  pub text : n.text ≤ c.text
  pub labels : n.labels ≤ c.labels
  pub names : n.names ≤ c.names

-- 5 / 12 "back differs from the body size that the counts give, or is more than the bytes before the trailer"
pub record Located (F : File) (n : Trailer) (bytes : ℕ) : Type 0 where
  pub exact : n.back ≡ body_size F n
  pub inside : n.back ≤ bytes

-- those of rows, of any tables
abbrev pub row_refusals : File → Trailer → Body → List Refusal
row_refusals F n b =
    each (either F 6 13) n.nodes (GoodObject F n b Nodes)
    ∷ each (either F 7 14) n.edges (GoodObject F n b Edges)
    ∷ each (either F 8 15) n.rows (GoodPropertyRow F n b)
    ∷ []

-- the whole table for a file
abbrev pub refusals : File → Ceilings → List ℕ → List Refusal
refusals F c f =
    once (either F 2 9) (Sized F c f)
    ∷ once (either F 3 10) (Marked F f)
    ∷ once (either F 4 11) (Held c (numbers_of F f))
    ∷ once (either F 5 12) (Located F (numbers_of F f) (before F f))
    ∷ row_refusals F (numbers_of F f) (body_of F f)

-- the file is refused with this code and place; the file is accepted
abbrev pub FileRefused : File → Ceilings → List ℕ → ℕ → ℕ → Type 0
FileRefused F c f = RefusedBy (refusals F c f)

abbrev pub FileAccepted : File → Ceilings → List ℕ → Type 0
FileAccepted F c f = Passed (refusals F c f)
