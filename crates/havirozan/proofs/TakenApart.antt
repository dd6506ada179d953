-- A file taken apart where `find_tables` says, and written again by `write_graph`.
use mathlib.Core.Path.{◌≡◌, refl}
use mathlib.Core.List.{List, ◌++◌}
use Prim.Native.Nat.{ℕ, ◌≤◌, ◌<◌}
use native.Mathlib.Omega.{arith}
use lib.ListN.{length, get_or, drop}
use Rattle.layout.specs.declared.File.TheVariants.{Graph}
use Rattle.layout.specs.Files.{numbers_of, body_of, ceilings}
use Rattle.layout.specs.Refusals.{FileAccepted}
use Rattle.layout.proofs.Whole.{refused_code}
use Rattle.writer.specs.declared.Outcome.{Outcome}
use Rattle.writer.specs.GraphFile.{without_preface}
use Rattle.writer.specs.Outcome.{outcome}
use Rattle.writer.specs.Writes.{Writes}
use Rattle.writer.proofs.WrittenAgain.{wrote_again}
use Rattle.havirozan.specs.declared.TablePlaces.{TablePlaces}
use Rattle.havirozan.specs.TablePlaces.{TablesLie, refused, found, lent}

-- where the code is 0, these are the file's tables
pub record Taken (f : List ℕ) (r : TablePlaces) : Type 0 where
  pub accepted : FileAccepted Graph (ceilings Graph) f
  pub tables : lent f r ≡ body_of Graph f
  pub labels : r.labels ≡ (numbers_of Graph f).labels
  pub names : r.names ≡ (numbers_of Graph f).names

pub taken_apart : (f : List ℕ) (r : TablePlaces) → TablesLie f r → r.code ≡ 0 → Taken f r
taken_apart f _ (refused {x} {k} p) z = absurd (omega (arith, refused_code Graph (ceilings Graph) f x k p))
taken_apart f _ (found p) z = record { accepted = p; tables = refl; labels = refl; names = refl }

-- and written again they are the same bytes without the preface
pub round_trip :
    (f : List ℕ) → ((i : ℕ) → get_or f i 0 < 256) → (r : TablePlaces) → TablesLie f r → r.code ≡ 0
    → (out after : List ℕ) (o : Outcome) → Writes (lent f r) r.labels r.names out o after → length (without_preface f) ≤ length out
    → (o ≡ outcome 0 (length (without_preface f))) × (after ≡ without_preface f ++ drop (length (without_preface f)) out)
round_trip f small _ (refused {x} {k} p) z out after o w h = absurd (omega (arith, refused_code Graph (ceilings Graph) f x k p))
round_trip f small _ (found p) z out after o w h = wrote_again f p small out after o w h
