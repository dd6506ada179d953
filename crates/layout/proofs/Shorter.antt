-- A lower longest length: a longer graph is refused for its length, and a graph within it is owed what it was owed before.
use mathlib.Core.Path.{refl}
use mathlib.Core.Logic.Iff
use mathlib.Core.Logic.{◌↔◌}
use mathlib.Core.List.{List, []}
use Prim.Native.Nat.{ℕ, ◌≤◌, ◌<◌}
use native.Mathlib.Omega.{arith}
use lib.ListN.{length}
use Rattle.meaning.specs.Answer.{Answer, answer}
use Rattle.layout.specs.declared.File.{File}
use Rattle.layout.specs.declared.File.TheVariants.{Graph}
use Rattle.layout.specs.declared.Ceilings.{Ceilings}
use Rattle.layout.specs.declared.Trailer.{Trailer}
use Rattle.layout.specs.Files.{files_up_to, numbers_of}
use Rattle.layout.specs.Refusals.{here, Sized, Held, refusals, FileRefused}
use Rattle.layout.specs.Checked.{Answers, graph_refused, schema_refused, judged}
use Rattle.layout.specs.AllAnswers.{AllAnswers}
use Rattle.layout.specs.AllAnswers as all
use Rattle.layout.proofs.Refusing.{Same, next, same, passed_on, refused_on}

module _ (m : ℕ) (c : Ceilings) where
  -- the counts are held to the same numbers
  same_held : (n : Trailer) → Held c n ↔ Held (files_up_to m c) n
  same_held n = (
    λ h. record { nodes = h.nodes; edges = h.edges; rows = h.rows; text = h.text; labels = h.labels; names = h.names },
    λ h. record { nodes = h.nodes; edges = h.edges; rows = h.rows; text = h.text; labels = h.labels; names = h.names },
  )

  module _ (F : File) (f : List ℕ) (l : m ≤ c.file) (h : length f ≤ m) where
    -- a file within the lower length is within the other too
    same_sized : Sized F c f ↔ Sized F (files_up_to m c) f
    same_sized = (λ z. record { least = z.least; most = h }, λ z. record { least = z.least; most = omega arith })

    -- the other refusals are the same
    same_refusals : Same (refusals F c f) (refusals F (files_up_to m c) f)
    same_refusals = next (λ i. same_sized) (next (λ i. Iff.rfl) (next (λ i. same_held (numbers_of F f)) (same _)))

  module _ (d : Ceilings) (g s : List ℕ) where
    length_refused : m < length g → FileRefused Graph (files_up_to m c) g 2 0
    length_refused h = here refl (record { below = omega arith; holds = λ z. omega (arith, z.most); before = λ i l. absurd (omega arith) })

    pub too_long : m < length g → Answers (files_up_to m c) d g s (answer 2 0 0 0 0)
    too_long h = graph_refused (length_refused h)

    pub within : {a : Answer} → m ≤ c.file → length g ≤ m → Answers c d g s a → Answers (files_up_to m c) d g s a
    within l h (graph_refused {x} {k} p) = graph_refused (refused_on (same_refusals Graph g l h) x k p)
    within l h (schema_refused p q) = schema_refused (passed_on (same_refusals Graph g l h) p) q
    within l h (judged p q i) = judged (passed_on (same_refusals Graph g l h) p) q i

    -- the same where all violations are asked for
    pub all_too_long : m < length g → AllAnswers (files_up_to m c) d g s 2 0 []
    all_too_long h = all.graph_refused (length_refused h)

    pub all_within : {x k : ℕ} {a : List Answer} → m ≤ c.file → length g ≤ m → AllAnswers c d g s x k a → AllAnswers (files_up_to m c) d g s x k a
    all_within l h (all.graph_refused {x} {k} p) = all.graph_refused (refused_on (same_refusals Graph g l h) x k p)
    all_within l h (all.schema_refused p q) = all.schema_refused (passed_on (same_refusals Graph g l h) p) q
    all_within l h (all.listed p q t) = all.listed (passed_on (same_refusals Graph g l h) p) q t
