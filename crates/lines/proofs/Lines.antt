-- Laws of the lines of a sheet.
use mathlib.Core.Path.{◌≡◌, refl, ap, ◌∙◌}
use mathlib.Core.Logic.{◌≢◌}
use mathlib.Core.Bool.{Bool, true, false, cond}
use mathlib.Core.List.{List, [], ◌∷◌, ◌++◌, append_assoc}
use Prim.Native.Nat.{ℕ}
use native.Mathlib.Omega.{arith}
use lib.Dec.{eqb}
use borrow.Author.Tests.{ne_eqb}
use Rattle.lines.specs.Digits.{LF, Each}
use Rattle.lines.specs.Line.{End, by_lf, by_cr_lf}
use Rattle.lines.specs.Sheet.{on_first, lines_of, line_of}
use Rattle.lines.proofs.Texts.{each_append}

abbrev pub NoLf : ℕ → Type 0
NoLf x = x ≢ LF

pub each_of : {P Q : ℕ → Type 0} → ((x : ℕ) → P x → Q x) → (t : List ℕ) → Each P t → Each Q t
each_of f [] p = tt
each_of f (x ∷ t) p = (f x p.0, each_of f t p.1)

-- a line goes up to its LF
cut_at_lf : (t rest : List ℕ) → Each NoLf t → lines_of (t ++ (LF ∷ rest)) ≡ (t ++ (LF ∷ [])) ∷ lines_of rest
unfolding lines_of
cut_at_lf [] rest p = refl
cut_at_lf (x ∷ t) rest p =
    ap (λ (b : Bool). cond b ((x ∷ []) ∷ lines_of (t ++ (LF ∷ rest))) (on_first x (lines_of (t ++ (LF ∷ rest))))) (ne_eqb x LF p.0)
    ∙ ap (λ (ls : List (List ℕ)). on_first x ls) (cut_at_lf t rest p.1)

-- bytes without LF and an end behind them are a line
pub line_cut : (t end rest : List ℕ) → Each NoLf t → End end → lines_of ((t ++ end) ++ rest) ≡ (t ++ end) ∷ lines_of rest
line_cut t end rest p by_lf = ap lines_of (append_assoc t (LF ∷ []) rest) ∙ cut_at_lf t rest p
line_cut t end rest p by_cr_lf =
    let q : Each NoLf (t ++ (13 ∷ [])) = each_append NoLf t (13 ∷ []) p ((λ e. absurd (omega arith)), tt) in
    let f : (t ++ (13 ∷ LF ∷ [])) ++ rest ≡ (t ++ (13 ∷ [])) ++ (LF ∷ rest) = simp append_assoc in
    let g : (t ++ (13 ∷ [])) ++ (LF ∷ []) ≡ t ++ (13 ∷ LF ∷ []) = simp append_assoc in
    ap lines_of f ∙ cut_at_lf (t ++ (13 ∷ [])) rest q ∙ ap (λ (l : List ℕ). l ∷ lines_of rest) g

-- the first line, and what follows it
pub record Cut (s : List ℕ) : Type 0 where
  pub line : List ℕ
  pub rest : List ℕ
  pub text : s ≡ line ++ rest
  pub lines : lines_of s ≡ line ∷ lines_of rest

-- by its first byte: LF, or another one before the line that follows
cut_by : (x : ℕ) (s : List ℕ) (b : Bool) → eqb x LF ≡ b → (eqb x LF ≡ false → Cut (x ∷ s)) → Cut (x ∷ s)
unfolding lines_of
cut_by x s true e other = record { line = x ∷ []; rest = s; text = refl; lines = ap (λ (b : Bool). cond b ((x ∷ []) ∷ lines_of s) (on_first x (lines_of s))) e }
cut_by x s false e other = other e

longer : (x y : ℕ) (s : List ℕ) → Cut (y ∷ s) → eqb x LF ≡ false → Cut (x ∷ y ∷ s)
unfolding lines_of
longer x y s c e =
    record {
      line = x ∷ c.line;
      rest = c.rest;
      text = ap (λ (l : List ℕ). x ∷ l) c.text;
      lines = ap (λ (b : Bool). cond b ((x ∷ []) ∷ lines_of (y ∷ s)) (on_first x (lines_of (y ∷ s)))) e ∙ ap (λ (ls : List (List ℕ)). on_first x ls) c.lines;
    }

pub cut : (x : ℕ) (s : List ℕ) → Cut (x ∷ s)
unfolding lines_of
cut x [] = cut_by x [] (eqb x LF) refl (λ e. record { line = x ∷ []; rest = []; text = refl; lines = ap (λ (b : Bool). cond b ((x ∷ []) ∷ []) ((x ∷ []) ∷ [])) e })
cut x (y ∷ s) = cut_by x (y ∷ s) (eqb x LF) refl (longer x y s (cut y s))

-- what stands before the rest of a sheet is its first line
pub record Front (s : List ℕ) : Type 0 where
  pub rest : List ℕ
  pub text : s ≡ line_of s 1 ++ rest

pub front : (s : List ℕ) → Front s
unfolding lines_of
front [] = record { rest = []; text = refl }
front (x ∷ s) = let c = cut x s in record { rest = c.rest; text = rw c.lines c.text }
