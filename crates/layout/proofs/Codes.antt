-- What a file is refused for can be told from its code and its place.
use Rattle.std.specs.Prelude.{◌≡◌, refl, [], ◌∷◌, ℕ, ◌-◌, get_or}
use Rattle.std.proofs.Common.{sym, ◌∙◌, ap}
use Rattle.layout.specs.declared.File.{File}
use Rattle.layout.specs.declared.File.TheVariants.{Graph, Schema}
use Rattle.layout.specs.declared.Refused.{Refused}
use Rattle.layout.specs.declared.Refused.TheVariants.{Length, Mark, Count, Back, Node, Edge, Row}
use Rattle.layout.specs.Files.{either}
use Rattle.layout.specs.Codes.{code_of, place_of}

-- what has this code and this place
abbrev refused_for : File → ℕ → ℕ → Refused
refused_for F x k = get_or (Length ∷ Mark ∷ Count ∷ Back ∷ Node k ∷ Edge k ∷ Row k ∷ []) (x - either F 2 9) Length

told : (F : File) (r : Refused) → refused_for F (code_of F r) (place_of r) ≡ r
told Graph Length = refl
told Graph Mark = refl
told Graph Count = refl
told Graph Back = refl
told Graph (Node k) = refl
told Graph (Edge k) = refl
told Graph (Row k) = refl
told Schema Length = refl
told Schema Mark = refl
told Schema Count = refl
told Schema Back = refl
told Schema (Node k) = refl
told Schema (Edge k) = refl
told Schema (Row k) = refl

-- two with one code and one place are the same
pub codes_apart : (F : File) (r s : Refused) → code_of F r ≡ code_of F s → place_of r ≡ place_of s → r ≡ s
codes_apart F r s x k = sym (told F r) ∙ ap (λ y. refused_for F y (place_of r)) x ∙ ap (refused_for F (code_of F s)) k ∙ told F s
