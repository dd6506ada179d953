-- What a tool with an output promises has one answer: what is returned, and every byte of the output.
use mathlib.Core.Path.{◌≡◌}
use mathlib.Core.List.{List}
use Prim.Native.Nat.{ℕ}
use Rattle.little.specs.Promise.{Only}
use Rattle.little.proofs.Promise.{pair}
use Rattle.layout.specs.Files.{Body}
use Rattle.layout.specs.Refusals.{Refusal}
use Rattle.layout.proofs.Refusing.{not_both, refused_one}
use Rattle.writer.specs.declared.Outcome.{Outcome}
use Rattle.writer.specs.GraphFile.{file_of}
use Rattle.writer.specs.Outcome.{Leaves, refused, wrote}
use Rattle.writer.specs.Writes.{write_refusals, Writes}

module _ (ls : List Refusal) (file before : List ℕ) where
  leaves_parts : {o p : Outcome} {v w : List ℕ} → Leaves ls file before o v → Leaves ls file before p w → (o ≡ p) × (v ≡ w)
  leaves_parts (refused r e f) (refused s g h) = let i = refused_one ls _ _ _ _ r s in (cc, cc)
  leaves_parts (refused r e f) (wrote p g h) = absurd (not_both ls _ _ p r)
  leaves_parts (wrote p e f) (refused r g h) = absurd (not_both ls _ _ p r)
  leaves_parts (wrote p e f) (wrote q g h) = (cc, cc)

  pub leaves_one : Only (λ (a : Outcome × List ℕ). Leaves ls file before a.0 a.1)
  leaves_one x y p q = let e = leaves_parts p q in pair x e.0 e.1

-- the writer's promise, for every input
pub writes_one : (b : Body) (labels names : ℕ) (out : List ℕ) → Only (λ (a : Outcome × List ℕ). Writes b labels names out a.0 a.1)
writes_one b labels names out = leaves_one (write_refusals b labels names out) (file_of b labels names) out
