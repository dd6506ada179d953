-- `put_bytes` copies byte after byte.
use mathlib.Core.Path.{◌≡◌, ap, ◌∙◌}
use mathlib.Core.List.{List}
use Prim.Native.Nat.{ℕ, ◌+◌, ◌≤◌}
use native.Mathlib.Numerals.{add-one}
use native.Mathlib.Omega.{arith}
use lib.ListN.{length}
use lib.Seq.{paste, paste-zero, paste-suc, length-paste}
use Rattle.writer.proofs.Laws.{copied}
use Rattle.writer.proofs.put_bytes.Goals as goal

pub loop-i-init : goal.loop-i-init
loop-i-init c = paste-zero c.args.out.now c.args.at c.args.bytes.now

-- the output has as many bytes as before
kept : (d : List ℕ) (at : ℕ) (s : List ℕ) (n : ℕ) (o : List ℕ) → at + length s ≤ length d → n ≤ length s → o ≡ paste d at s n → length o ≡ length d
kept d at s n o fits l e = ap length e ∙ length-paste d at s n (omega arith) l

pub bounds-out-at : goal.bounds-out-at
bounds-out-at c =
    let l = c.loop-i in
    omega (arith, kept c.args.out.now c.args.at c.args.bytes.now l.i l.out c.requires (omega arith) l.invariant)

pub loop-i-preserved : goal.loop-i-preserved
loop-i-preserved c =
    let l = c.loop-i in
    rw (l.invariant, add-one) (paste-suc c.args.out.now c.args.at c.args.bytes.now l.i 0 (omega arith) (omega arith))

pub shape_of-out : goal.shape_of-out
shape_of-out c =
    let l = c.loop-i in
    kept c.args.out.now c.args.at c.args.bytes.now l.i l.out c.requires (omega arith) l.invariant

pub returns : goal.returns
returns c =
    let l = c.loop-i in
    let e : l.i ≡ length c.args.bytes.now = omega arith in
    l.invariant ∙ rw e (copied c.args.out.now c.args.at c.args.bytes.now)
