-- `judge` gives the value that a row's kind, length and bits say, kind by kind, or that they say none.
use mir.Syntax.{w64}
use mir.Facts.{to_z-of_z}
use Rattle.layout.specs.Value.{is_boolean, is_integer, is_real, is_date, is_text}
use Rattle.layout.proofs.Values.{finite_iff, tests_of}
use Rattle.values.proofs.judge.Goals as goal

pub real_of-requires : goal.real_of-requires
real_of-requires c = (finite_iff _).1 c.if-bits-ne2047.true

pub returns-in-1-eq0 : goal.returns-in-1-eq0
returns-in-1-eq0 c = rw (c.in-1-eq0.is-0, c.in-1-eq0.is-1) (is_boolean c.if-bits-le1.true)

pub returns-in-2-eq0 : goal.returns-in-2-eq0
returns-in-2-eq0 c = rw (c.in-2-eq0.is-0, c.in-2-eq0.is-1, to_z-of_z {w = w64} (record { sfits = c.integer_of.type_inv }), c.integer_of.ensures) is_integer

pub returns-in-3-eq0 : goal.returns-in-3-eq0
returns-in-3-eq0 c = rw (c.in-3-eq0.is-0, c.in-3-eq0.is-1, c.real_of.ensures) (is_real ((finite_iff _).1 c.if-bits-ne2047.true))

pub returns-in-4-eq0 : goal.returns-in-4-eq0
returns-in-4-eq0 c = rw (c.in-4-eq0.is-0, c.in-4-eq0.is-1) (is_date c.if-is_date.ensures)

pub returns-in-5-default : goal.returns-in-5-default
returns-in-5-default c = rw c.in-5-default.is-0 (is_text {n = c.args.len} c.if-is_part.ensures)

pub returns-in_default-4 : goal.returns-in_default-4
returns-in_default-4 c v h = (tests_of h).real c.in-3-eq0.is-0 c.if-bits-ne2047.false
