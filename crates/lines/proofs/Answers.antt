-- What the functions that read a line promise has one answer, for every input.
use mathlib.Core.Path.{◌≡◌, refl, sym, ap, ◌∙◌}
use mathlib.Core.List.{List}
use Prim.Native.Nat.{ℕ, ◌≤◌}
use lib.ListN.{length, take}
use lib.Seq.{length-take-le}
use Rattle.std.specs.Prelude.{Option, Some, None}
use Rattle.little.specs.Promise.{Only}
use Rattle.lines.specs.declared.Angle.{Angle}
use Rattle.lines.specs.declared.Heading.{Heading}
use Rattle.lines.specs.Sheet.{GoodFirst}
use Rattle.lines.specs.Promise.{Heads, TellsFirst, TellsFurther}
use Rattle.lines.proofs.OneLine.{angle_line_one, first_line_one}

-- ---- the first line

-- what a heading says is a good first line
pub heads_good : {s : List ℕ} {h : Heading} → Heads s h → GoodFirst s
heads_good {s} {h} p = record { serial = take h.serial s; date = h.date; says = p.says }

-- a heading is known by its parts
heading_same : {h k : Heading} → h.serial ≡ k.serial → h.date ≡ k.date → h.next ≡ k.next → h ≡ k
heading_same a b c = rw (← a, ← b, ← c)

-- the first bytes of a text are as many as were taken
taken_one : (s : List ℕ) {n m : ℕ} → n ≤ length s → m ≤ length s → take n s ≡ take m s → n ≡ m
taken_one s {n} {m} a b e = sym (length-take-le n s a) ∙ ap length e ∙ length-take-le m s b

pub first_one_answer : (s : List ℕ) → Only (λ (r : Option Heading). TellsFirst r s)
first_one_answer s (Some h) (Some k) p q =
    let o = first_line_one p.says q.says in
    ap Some (heading_same (taken_one s p.inside q.inside o.0) o.1 (p.next ∙ sym q.next))
first_one_answer s (Some h) None p q = absurd (q (heads_good p))
first_one_answer s None (Some k) p q = absurd (p (heads_good q))
first_one_answer s None None p q = refl

-- ---- the further lines

pub further_one_answer : (s : List ℕ) (at : ℕ) → Only (λ (r : Option (Angle × ℕ)). TellsFurther r s at)
further_one_answer s at (Some (a, n)) (Some (b, m)) p q = let o = angle_line_one p.says q.says in let e = p.follows ∙ sym q.follows in cc
further_one_answer s at (Some (a, n)) None p q = absurd (q a p.says)
further_one_answer s at None (Some (b, m)) p q = absurd (p b q.says)
further_one_answer s at None None p q = refl
