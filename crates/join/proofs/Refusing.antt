-- What the joiner makes of what is read: both files' tables, or the refusal that one of them is owed, with which file it is.
use mathlib.Core.Path.{◌≡◌, sym, subst}
use mathlib.Core.List.{List}
use Prim.Native.Nat.{ℕ}
use Rattle.std.specs.Prelude.{Result, Ok, Err}
use Rattle.std.specs.Result.{MatchResult, IsErrAnd}
use Rattle.layout.specs.declared.File.TheVariants.{Graph}
use Rattle.layout.specs.declared.Refusal.{Refusal}
use Rattle.layout.specs.Codes.{code_of, place_of}
use Rattle.layout.specs.Files.{ceilings, tables_of}
use Rattle.layout.specs.Refusals.{FileAccepted, FileRefused}
use Rattle.parts.specs.declared.FileTables.{FileTables}
use Rattle.parts.specs.Accepted.{TablesOf}
use Rattle.reader.specs.Pair.{ReadsTables}
use Rattle.join.specs.declared.graphs.Graphs.{Graphs}
use Rattle.join.specs.declared.Unjoined.{Unjoined}
use Rattle.join.specs.Joins.{Joins}
use Rattle.join.specs.Inner.{Both, told, outcome_of}

-- what is read of file f, and what is made of it where it is refused
module _ (which : Refusal → Unjoined) (f : List ℕ) where
  pub refusal :
      (r : Result FileTables Refusal) (s : Result FileTables Unjoined) (o : Result Graphs Unjoined) {e : Unjoined} → ReadsTables r Graph f
      → MatchResult r (λ x. s ≡ Ok x) (λ k. IsErrAnd s (λ d. d ≡ which k)) → s ≡ Err e → IsErrAnd o (λ d. d ≡ e)
      → (k : Refusal) × (FileRefused Graph (ceilings Graph) f (code_of k.file k.cause) (place_of k.cause) × (o ≡ Err (which k)))
  refusal (Ok x) s o h m z i = absurd (cc)
  refusal (Err k) (Ok x) o h m z i = absurd m
  refusal (Err k) (Err d) (Ok x) h m z i = absurd i
  refusal (Err k) (Err d) (Err w) h m z i = (k, (subst (λ F. FileRefused Graph (ceilings Graph) f (code_of F k.cause) (place_of k.cause)) (sym h.0) h.1, cc))

  pub acceptance :
      {x : FileTables} (r : Result FileTables Refusal) (s : Result FileTables Unjoined) → ReadsTables r Graph f
      → MatchResult r (λ x. s ≡ Ok x) (λ k. IsErrAnd s (λ d. d ≡ which k)) → s ≡ Ok x → FileAccepted Graph (ceilings Graph) f × TablesOf Graph f (tables_of Graph f) x
  acceptance {x} (Ok y) s h m z = let e : y ≡ x = cc in subst (λ x. FileAccepted Graph (ceilings Graph) f × TablesOf Graph f (tables_of Graph f) x) e h
  acceptance (Err k) (Ok y) h m z = absurd m
  acceptance (Err k) (Err d) h m z = absurd (cc)

pub both_of :
    {f g : List ℕ} {a b : FileTables} {x : Graphs} → FileAccepted Graph (ceilings Graph) f × TablesOf Graph f (tables_of Graph f) a
    → FileAccepted Graph (ceilings Graph) g × TablesOf Graph g (tables_of Graph g) b → (x.first ≡ a) × (x.second ≡ b) → Both f g x
both_of {f} {g} p q e =
    record {
      first = p.0;
      second = q.0;
      first_tables = subst (TablesOf Graph f (tables_of Graph f)) (sym e.0) p.1;
      second_tables = subst (TablesOf Graph g (tables_of Graph g)) (sym e.1) q.1;
    }

-- the error that is returned is the one that is read
pub told_again : (f g out : List ℕ) (e : Unjoined) (o : Result ℕ Unjoined) → Joins f g out (told e) out → IsErrAnd o (λ d. d ≡ e) → Joins f g out (outcome_of o) out
told_again f g out e (Ok n) j i = absurd i
told_again f g out e (Err d) j i = subst (λ w. Joins f g out (told w) out) (sym i) j
