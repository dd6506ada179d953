-- What is told of a line, case by case: the promises of `first_line` and `angle_line`.
use Rattle.std.specs.Prelude.{◌≡◌, List, ℕ, ◌+◌, ◌≤◌, length, take, drop, Option, Some, None}
use Rattle.lines.specs.declared.Angle.{Angle}
use Rattle.lines.specs.declared.Heading.{Heading}
use Rattle.lines.specs.Line.{FirstLine, AngleLine}
use Rattle.lines.specs.Sheet.{line_of, GoodFirst}

-- the first line's serial is the first bytes of the sheet, and the next line follows it
pub record Heads (s : List ℕ) (h : Heading) : Type 0 where
  pub inside : h.serial ≤ length s
  pub says : FirstLine (line_of s 1) (take h.serial s) h.date
  pub next : h.next ≡ length (line_of s 1)

abbrev pub TellsFirst : Option Heading → List ℕ → Type 0
TellsFirst (Some h) s = Heads s h
TellsFirst None s = ¬ GoodFirst s

-- of the line that starts at `at`: its angle, and where the next line starts; or that it is bad
pub record Turns (s : List ℕ) (at : ℕ) (a : Angle) (next : ℕ) : Type 0 where
  pub says : AngleLine (line_of (drop at s) 1) a
  pub follows : next ≡ at + length (line_of (drop at s) 1)

abbrev pub TellsFurther : Option (Angle × ℕ) → List ℕ → ℕ → Type 0
TellsFurther (Some r) s at = Turns s at r.0 r.1
TellsFurther None s at = (a : Angle) → ¬ AngleLine (line_of (drop at s) 1) a
