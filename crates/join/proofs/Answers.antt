-- What the joiner promises has one answer; where the code is 0, the bytes written are an accepted file of the joined graph.
use mathlib.Core.Path.{◌≡◌, sym, subst}
use mathlib.Core.Logic.{◌↔◌}
use mathlib.Core.List.{List, [], ◌∷◌, ◌++◌}
use Prim.Native.Nat.{ℕ, ◌≤◌}
use native.Mathlib.Omega.{arith}
use lib.ListN.{take}
use lib.Seq.{take-append_seam}
use Rattle.little.specs.Promise.{Only}
use Rattle.meaning.specs.Answer.{Answer}
use Rattle.layout.specs.declared.File.TheVariants.{Graph, Schema}
use Rattle.layout.specs.Files.{ceilings}
use Rattle.layout.specs.Refusals.{Refusal, here, later, RefusedBy, Passed, refusals}
use Rattle.layout.specs.Checked.{Answers}
use Rattle.layout.proofs.Whole.{code_zero_iff}
use Rattle.writer.specs.declared.Outcome.{Outcome}
use Rattle.writer.specs.Outcome.{Leaves, refused, wrote}
use Rattle.writer.proofs.Answers.{leaves_one}
use Rattle.join.specs.Joined.{joined_file}
use Rattle.join.specs.Joins.{of_graph, own_refusals, join_refusals, Joins}
use Rattle.join.specs.JoinedFile.{JoinedFile}
use Rattle.join.proofs.Which.{apart}
use Rattle.join.proofs.Tied.{joined_file_lem}

pub joins_one : (f g out : List ℕ) → Only (λ (a : Outcome × List ℕ). Joins f g out a.0 a.1)
joins_one f g out = leaves_one (join_refusals f g out) (joined_file f g) out

-- no refusal has code 0
abbrev Coded : List Refusal → Type 0
Coded [] = Unit {0}
Coded (l ∷ ls) = (1 ≤ l.code) × Coded ls

coded : (ls : List Refusal) (x k : ℕ) → Coded ls → RefusedBy ls x k → 1 ≤ x
coded [] x k c r = absurd r
coded (l ∷ ls) x k c (here e b) = rw e c.0
coded (l ∷ ls) x k c (later h r) = coded ls x k c.1 r

-- what a tool with an output wrote, where its code is 0
written_file :
    (ls : List Refusal) (file before after : List ℕ) (o : Outcome) → Coded ls → Leaves ls file before o after → o.code ≡ 0 → Passed ls × (take o.number after ≡ file)
written_file ls file before after o c (refused {x} {k} r e h) z = let y : o.code ≡ x = cc in absurd (omega (arith, coded ls x k c r))
written_file ls file before after o c (wrote p e h) z = (p, rw (e, h) (take-append_seam file _))

module _ (f g out after : List ℕ) where
  pub wrote_joined_file : (o : Outcome) → Joins f g out o after → o.code ≡ 0 → JoinedFile f g (take o.number after)
  wrote_joined_file o j z =
      let c : Coded (join_refusals f g out) = omega arith in
      let w = written_file (join_refusals f g out) (joined_file f g) out after o c j z in
      let one = apart 0 (refusals Graph (ceilings Graph) f) (of_graph 1 g ++ own_refusals f g out) w.0 in
      let two = apart 1 (refusals Graph (ceilings Graph) g) (own_refusals f g out) one.1 in
      subst (JoinedFile f g) (sym w.1) (joined_file_lem f g one.0 two.0 (two.1.0 0 (omega arith)))

-- Over `check`'s own promise, whatever the schema's bytes are: its code for the joined file is 0 exactly if it is 0 for both.
pub check_joined :
    (f g h s : List ℕ) → JoinedFile f g h → {a b c : Answer} → Answers (ceilings Graph) (ceilings Schema) f s a → Answers (ceilings Graph) (ceilings Schema) g s b
    → Answers (ceilings Graph) (ceilings Schema) h s c → (c.code ≡ 0) ↔ ((a.code ≡ 0) × (b.code ≡ 0))
check_joined f g h s j a b c =
    let A = code_zero_iff (ceilings Graph) (ceilings Schema) f s a in
    let B = code_zero_iff (ceilings Graph) (ceilings Schema) g s b in
    let C = code_zero_iff (ceilings Graph) (ceilings Schema) h s c in (
      λ e. let x = C.0 e in let y = (j.conforms s x.1).0 x.2 in (A.1 (j.first, x.1, y.0), B.1 (j.second, x.1, y.1)),
      λ e. let x = A.0 e.0 in let y = B.0 e.1 in C.1 (j.accepted, x.1, (j.conforms s x.1).1 (x.2, y.2)),
    )
