-- The words in which the functions that read a trailer promise something to each other. No public promise uses them.
use Rattle.std.specs.Prelude.{◌≡◌, List, ℕ, ◌+◌, ◌*◌, ◌≤◌, Result, Ok, Err}
use Rattle.layout.specs.declared.File.{File}
use Rattle.layout.specs.declared.Sort.TheVariants.{Nodes, Edges}
use Rattle.layout.specs.declared.Trailer.{Trailer}
use Rattle.layout.specs.declared.Tables.{Tables}
use Rattle.layout.specs.declared.Refused.{Refused}
use Rattle.layout.specs.Files.{form, row_width, before, numbers_of, tables_of, ceilings}
use Rattle.layout.specs.Codes.{code_of, place_of}
use Rattle.layout.specs.Refusals.{Sized, Marked, Held, Located, FileRefused}
use Rattle.reader.specs.declared.Sizes.{Sizes}

-- the bytes of each table, which are few: 32 bits hold their sum, as they hold back
pub record SizesOf (F : File) (n : Trailer) (z : Sizes) : Type 0 where
  pub nodes : z.nodes ≡ (form F Nodes).width * n.nodes
  pub edges : z.edges ≡ (form F Edges).width * n.edges
  pub rows : z.rows ≡ row_width F * n.rows
  pub text : z.text ≡ n.text
  pub few : z.nodes + z.edges + z.rows + z.text ≤ 4294967295

-- codes 2 to 5, or 9 to 12, do not refuse the file, and these are its tables
pub record IsOpen (F : File) (f : List ℕ) (t : Tables) : Type 0 where
  pub sized : Sized F (ceilings F) f
  pub marked : Marked F f
  pub held : Held (ceilings F) (numbers_of F f)
  pub located : Located F (numbers_of F f) (before F f)
  pub tables : t ≡ tables_of F f

-- the file is open, or the trailer refuses it for this
abbrev pub Opens : Result Tables Refused → File → List ℕ → Type 0
Opens (Ok t) F f = IsOpen F f t
Opens (Err r) F f = FileRefused F (ceilings F) f (code_of F r) (place_of r)
