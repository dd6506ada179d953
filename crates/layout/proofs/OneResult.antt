-- Every file has exactly one result: it is refused with one code and one place, or accepted.
use mathlib.Core.List.{List}
use Prim.Native.Nat.{ℕ}
use Rattle.little.specs.Promise.{Only}
use Rattle.layout.specs.declared.File.{File}
use Rattle.layout.specs.declared.Ceilings.{Ceilings}
use Rattle.std.specs.Prelude.{Ok, Err}
use Rattle.std.proofs.Common.{ap}
use Rattle.layout.specs.Refusals.{refusals}
use Rattle.layout.specs.Promise.{Reads}
use Rattle.layout.proofs.Refusing.{not_both, refused_one, Outcome, outcome}
use Rattle.layout.proofs.Codes.{codes_apart}
use Rattle.layout.proofs.Decided.{dec_refusals}

module _ (F : File) (c : Ceilings) (f : List ℕ) where
  -- it has one
  unfoldable pub result : Outcome (refusals F c f)
  unfolding outcome dec_refusals
  result = outcome (refusals F c f) (dec_refusals F c f)

  -- and only one
  pub reads_one : Only (λ r. Reads r F c f)
  reads_one (Err r) (Err s) p q = let e = refused_one (refusals F c f) _ _ _ _ p q in ap Err (codes_apart F r s e.0 e.1)
  reads_one (Err r) (Ok t) p q = absurd (not_both (refusals F c f) _ _ q.0 p)
  reads_one (Ok t) (Err r) p q = absurd (not_both (refusals F c f) _ _ p.0 q)
  reads_one (Ok t) (Ok u) p q = let e = p.1 in let g = q.1 in cc
