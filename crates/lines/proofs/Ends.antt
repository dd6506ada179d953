-- Laws of a line's end.
use mathlib.Core.Path.{◌≡◌, refl}
use mathlib.Core.Logic.{◌≢◌}
use mathlib.Core.List.{List, [], ◌∷◌}
use Prim.Native.Nat.{ℕ, ◌+◌}
use native.Mathlib.Omega.{arith}
use lib.ListN.{get_or}
use Rattle.std.specs.Prelude.{None}
use Rattle.lines.specs.Line.{End, by_lf, by_cr_lf}
use Rattle.lines.specs.Inner.{From, ReadsEnd, TellsEnd, Behind}
use Rattle.lines.proofs.Texts.{byte_is, step, within, from_then, from_byte}

module _ (s : List ℕ) (at : ℕ) where
  pub ends_by_lf : get_or s at 0 ≡ 10 → ReadsEnd s at (at + 1)
  ends_by_lf e = record { text = 10 ∷ []; from = from_byte s (within s at (omega arith)) e; says = by_lf }

  pub ends_by_cr_lf : get_or s at 0 ≡ 13 → get_or s (at + 1) 0 ≡ 10 → ReadsEnd s at (at + 2)
  ends_by_cr_lf e f =
      let p : From s at (at + 1) (13 ∷ []) = from_byte s (within s at (omega arith)) e in
      let q : From s (at + 1) (at + 1 + 1) (10 ∷ []) = from_byte s (within s (at + 1) (omega arith)) f in
      let two : at + 1 + 1 ≡ at + 2 = omega arith in
      record { text = 13 ∷ 10 ∷ []; from = rw two at (from_then s p q); says = by_cr_lf }

  pub no_end : get_or s at 0 ≢ 10 → get_or s at 0 ≢ 13 → TellsEnd None s at
  no_end n m t rest by_lf e = n (byte_is s at 10 rest e)
  no_end n m t rest by_cr_lf e = m (byte_is s at 13 (10 ∷ rest) e)

  pub cr_alone : get_or s at 0 ≡ 13 → get_or s (at + 1) 0 ≢ 10 → TellsEnd None s at
  cr_alone e n t rest by_lf h = let x = byte_is s at 10 rest h in absurd (omega arith)
  cr_alone e n t rest by_cr_lf h = n (byte_is s (at + 1) 10 rest (step s at 13 (10 ∷ rest) h))

-- an end's first byte is no digit and no comma
pub record Opens (t : List ℕ) : Type 0 where
  pub first : ℕ
  pub rest : List ℕ
  pub text : t ≡ first ∷ rest
  pub behind : Behind first

pub end_opens : {t : List ℕ} → End t → Opens t
end_opens by_lf = record { first = 10; rest = []; text = refl; behind = record { digit = λ d. absurd (omega (arith, d.from)); comma = λ e. absurd (omega arith) } }
end_opens by_cr_lf = record { first = 13; rest = 10 ∷ []; text = refl; behind = record { digit = λ d. absurd (omega (arith, d.from)); comma = λ e. absurd (omega arith) } }
