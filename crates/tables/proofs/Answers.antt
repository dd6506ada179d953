-- What `try_rows` promises has one answer: the rows are refused with one code and place, or pass.
use mathlib.Core.Path.{refl, ap}
use Rattle.std.specs.Prelude.{Ok, Err}
use Rattle.little.specs.Promise.{Only}
use Rattle.layout.specs.declared.File.{File}
use Rattle.layout.specs.declared.Trailer.{Trailer}
use Rattle.layout.specs.Files.{Body}
use Rattle.layout.specs.Refusals.{row_refusals}
use Rattle.layout.proofs.Refusing.{not_both, refused_one}
use Rattle.layout.proofs.Codes.{codes_apart}
use Rattle.tables.specs.Told.{Tries}

pub tries_one : (F : File) (n : Trailer) (b : Body) → Only (λ r. Tries r F n b)
tries_one F n b (Err r) (Err s) p q = let e = refused_one (row_refusals F n b) _ _ _ _ p q in ap Err (codes_apart F r s e.0 e.1)
tries_one F n b (Err r) (Ok u) p q = absurd (not_both (row_refusals F n b) _ _ q p)
tries_one F n b (Ok u) (Err r) p q = absurd (not_both (row_refusals F n b) _ _ p q)
tries_one F n b (Ok u) (Ok v) p q = refl
