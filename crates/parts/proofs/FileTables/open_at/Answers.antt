-- `open_at` reads whether a type is open.
use native.Mathlib.Omega.{arith}
use Rattle.layout.specs.declared.File.TheVariants.{Schema}
use Rattle.parts.proofs.Laws.{there, small, open_inside}
use Rattle.parts.proofs.FileTables.open_at.Goals as goal

pub overflow_mul-m : goal.overflow_mul-m
overflow_mul-m c =
    let k = small Schema _ c.requires.0 c.args.sort c.args.j c.requires.1 in
    rw c.form_of-m.ensures.0 (omega arith)

pub overflow_add-m : goal.overflow_add-m
overflow_add-m c =
    let k = small Schema _ c.requires.0 c.args.sort c.args.j c.requires.1 in
    rw c.form_of-m.ensures.0 (omega (arith, open_inside c.args.sort))

pub overflow_add-m-2 : goal.overflow_add-m-2
overflow_add-m-2 c =
    let k = small Schema _ c.requires.0 c.args.sort c.args.j c.requires.1 in
    rw c.form_of-m.ensures.0 (omega (arith, open_inside c.args.sort))

pub u16_at-requires : goal.u16_at-requires
u16_at-requires c =
    rw (c.form_of-m.ensures.0, c.objects.ensures)
    (omega (arith, there c.requires.0 c.args.sort c.args.j c.requires.1, open_inside c.args.sort))

pub returns : goal.returns
returns c = rw (← c.objects.ensures) (rw c.form_of-m.ensures.0 at c.u16_at.ensures)
