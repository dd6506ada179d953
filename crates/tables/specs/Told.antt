-- What judging the rows of tables asks for, and what it says.
use Rattle.std.specs.Prelude.{◌≤◌, length, Result, Ok, Err}
use Rattle.layout.specs.declared.File.{File}
use Rattle.layout.specs.declared.Refused.{Refused}
use Rattle.layout.specs.declared.Trailer.{Trailer}
use Rattle.layout.specs.Files.{Body, Full}
use Rattle.layout.specs.Codes.{code_of, place_of}
use Rattle.layout.specs.Refusals.{row_refusals, RefusedBy, Passed}

-- tables to be judged: each has the bytes of its rows, and the counts are 32-bit numbers
pub record Given (F : File) (n : Trailer) (b : Body) : Type 0 where
  pub full : Full F n b
  pub nodes : n.nodes ≤ 4294967295
  pub edges : n.edges ≤ 4294967295
  pub rows : n.rows ≤ 4294967295
  pub text : length b.text ≤ 4294967295

-- the rows pass, or are refused for this
abbrev pub Tries : Result (Unit {0}) Refused → File → Trailer → Body → Type 0
Tries (Ok u) F n b = Passed (row_refusals F n b)
Tries (Err r) F n b = RefusedBy (row_refusals F n b) (code_of F r) (place_of r)
