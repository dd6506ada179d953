-- `mask_of` makes the mask of a node: the bits of the schema nodes from j on are right.
use mathlib.Core.Path.{◌≡◌}
use native.Mathlib.Nat.{sub-zero}
use native.Mathlib.Omega.{arith}
use Rattle.layout.specs.Files.{body_in}
use Rattle.layout.proofs.Accepted.{schema_nodes}
use Rattle.fitting.proofs.Laws.{sound}
use Rattle.placing.proofs.Masks.{bits_none, bit_yes, bit_no, room}
use Rattle.placing.proofs.mask_of.Goals as goal

pub loop-j-init : goal.loop-j-init
loop-j-init c = (omega arith, bits_none _ _)

pub overflow_mul-mask : goal.overflow_mul-mask
overflow_mul-mask c = let l = c.loop-j in omega (arith, room l.invariant.1 c.loop-j-test.true l.invariant.0 (sound c.args.p.now).schema_nodes)

pub overflow_add-mask : goal.overflow_add-mask
overflow_add-mask c = let l = c.loop-j in omega (arith, room l.invariant.1 c.loop-j-test.true l.invariant.0 (sound c.args.p.now).schema_nodes)

pub loop-j-preserved-then-object_fits : goal.loop-j-preserved-then-object_fits
loop-j-preserved-then-object_fits c = let l = c.loop-j in (omega arith, bit_yes l.invariant.1 c.loop-j-test.true l.invariant.0 (rw c.if-object_fits.true at c.object_fits.ensures))

pub loop-j-preserved : goal.loop-j-preserved
loop-j-preserved c = let l = c.loop-j in (omega arith, bit_no l.invariant.1 c.loop-j-test.true l.invariant.0 (rw c.if-object_fits.false at c.object_fits.ensures))

pub returns : goal.returns
returns c =
    let l = c.loop-j in
    let z : l.j ≡ 0 = omega arith in
    let e = schema_nodes c.args.p.now.schema.numbers (body_in c.args.p.now.schema.bytes) in
    let r = rw z at l.invariant.1 in
    record { bits = λ j h. rw sub-zero at (r.bits j (omega arith) (rw e at h)); below = rw e (rw sub-zero at r.below) }
