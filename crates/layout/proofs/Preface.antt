-- "An optional preface of any bytes (ignored)": files that differ in the preface alone have the same result.
use mathlib.Core.Path.{◌≡◌, sym, ap, ap₂}
use mathlib.Core.Logic.Iff
use mathlib.Core.Logic.{◌↔◌}
use mathlib.Core.List.{List, ◌++◌}
use Prim.Native.Nat.{ℕ, ◌+◌, ◌-◌, ◌≤◌}
use native.Mathlib.Nat.{add_assoc}
use native.Mathlib.Omega.{arith}
use lib.ListN.{length, drop, length-append}
use lib.Seq.{drop-append-add}
use Rattle.meaning.specs.Answer.{Answer}
use Rattle.layout.specs.declared.File.{File}
use Rattle.layout.specs.declared.File.TheVariants.{Graph, Schema}
use Rattle.layout.specs.declared.Ceilings.{Ceilings}
use Rattle.layout.specs.declared.Trailer.{Trailer}
use Rattle.layout.specs.Tables.{between}
use Rattle.layout.specs.Files.{trailer_size, starts, Body, body_at, before, numbers, numbers_of, body_of}
use Rattle.layout.specs.Graph.{graph_of}
use Rattle.layout.specs.Schema.{schema_of}
use Rattle.layout.specs.Refusals.{Sized, Marked, Held, Located, row_refusals, refusals, FileRefused, FileAccepted}
use Rattle.layout.specs.Checked.{graph_in, schema_in, Answers, graph_refused, schema_refused, judged}
use Rattle.layout.proofs.Refusing.{Same, next, same, turned, passed_on, refused_on}

-- ---- a file behind a preface

same_rows : (F : File) {n m : Trailer} {b d : Body} → n ≡ m → b ≡ d → Same (row_refusals F n b) (row_refusals F m d)
same_rows F {n} {m} {b} {d} e h = rw (e, h) (same (row_refusals F m d))

between_behind : (p b : List ℕ) (m n : ℕ) → between (p ++ b) (length p + m) (length p + n) ≡ between b m n
between_behind p b m n = let e : length p + n - (length p + m) ≡ n - m = omega arith in rw (drop-append-add, e)

body_behind : (F : File) (n : Trailer) (p b : List ℕ) (s : ℕ) → body_at (p ++ b) (starts F n (length p + s)) ≡ body_at b (starts F n s)
body_behind F n p b s = simp (add_assoc, between_behind)

-- the last bytes
drop_behind : (p b : List ℕ) (n : ℕ) → n ≤ length b → drop (length (p ++ b) - n) (p ++ b) ≡ drop (length b - n) b
drop_behind p b n h = let e : length (p ++ b) - n ≡ length p + (length b - n) = rw length-append (omega arith) in rw (e, drop-append-add)

-- refused with the same codes and places, or accepted with the same numbers and tables
pub record SameResult (F : File) (c : Ceilings) (f g : List ℕ) : Type 0 where
  pub numbers : numbers_of F f ≡ numbers_of F g
  pub body : body_of F f ≡ body_of F g
  pub accepted : FileAccepted F c f ↔ FileAccepted F c g
  pub refused : (x k : ℕ) → FileRefused F c f x k ↔ FileRefused F c g x k

-- the mark lies inside the trailer
four : (F : File) → 4 ≤ trailer_size F
four Graph = omega arith
four Schema = omega arith

-- p is the preface: the trailer and the body stand in b, and the whole is in range
module _ (F : File) (c : Ceilings) (p b : List ℕ) (whole : trailer_size F ≤ length b) (inside : (numbers_of F b).back ≤ before F b) (most : length (p ++ b) ≤ c.file) where
  numbers_behind : numbers_of F (p ++ b) ≡ numbers_of F b
  numbers_behind = ap (numbers F) (drop_behind p b (trailer_size F) whole)

  before_behind : before F (p ++ b) ≡ length p + before F b
  before_behind = rw length-append (omega arith)

  same_body : body_of F (p ++ b) ≡ body_of F b
  same_body = let e : before F (p ++ b) - (numbers_of F b).back ≡ length p + (before F b - (numbers_of F b).back) = omega (arith, before_behind) in rw (numbers_behind, e, body_behind)

  same_sized : Sized F c (p ++ b) ↔ Sized F c b
  same_sized = (λ z. record { least = whole; most = omega (arith, length-append p b) }, λ z. record { least = omega (arith, length-append p b); most = most })

  same_marked : Marked F (p ++ b) ↔ Marked F b
  same_marked = rw (drop_behind p b 4 (omega (arith, four F))) Iff.rfl

  same_held : Held c (numbers_of F (p ++ b)) ↔ Held c (numbers_of F b)
  same_held = rw numbers_behind Iff.rfl

  same_located : Located F (numbers_of F (p ++ b)) (before F (p ++ b)) ↔ Located F (numbers_of F b) (before F b)
  same_located = rw numbers_behind (λ l. record { exact = l.exact; inside = inside }, λ l. record { exact = l.exact; inside = omega (arith, before_behind) })

  same_refusals : Same (refusals F c (p ++ b)) (refusals F c b)
  same_refusals = next (λ i. same_sized) (next (λ i. same_marked) (next (λ i. same_held) (next (λ i. same_located) (same_rows F numbers_behind same_body))))

  pub preface_ignored : SameResult F c (p ++ b) b
  preface_ignored = record {
    numbers = numbers_behind;
    body = same_body;
    accepted = (passed_on same_refusals, passed_on (turned same_refusals));
    refused = λ x k. (refused_on same_refusals x k, refused_on (turned same_refusals) x k);
  }

-- ---- files with the same result say the same graph or schema, and are owed the same answer

result_turned : {F : File} {c : Ceilings} {f g : List ℕ} → SameResult F c f g → SameResult F c g f
result_turned r =
    record { numbers = sym r.numbers; body = sym r.body; accepted = (r.accepted.1, r.accepted.0); refused = λ x k. ((r.refused x k).1, (r.refused x k).0) }

pub same_graph : {c : Ceilings} {f g : List ℕ} → SameResult Graph c f g → graph_in f ≡ graph_in g
same_graph r = ap₂ graph_of r.numbers r.body

pub same_schema : {c : Ceilings} {f g : List ℕ} → SameResult Schema c f g → schema_in f ≡ schema_in g
same_schema r = ap₂ schema_of r.numbers r.body

module _ {c d : Ceilings} where
  answers_on : {f g s t : List ℕ} {a : Answer} → SameResult Graph c f g → SameResult Schema d s t → Answers c d f s a → Answers c d g t a
  answers_on r q (graph_refused {x} {k} p) = graph_refused ((r.refused x k).0 p)
  answers_on r q (schema_refused {x} {k} h p) = schema_refused (r.accepted.0 h) ((q.refused x k).0 p)
  answers_on r q (judged h k i) = judged (r.accepted.0 h) (q.accepted.0 k) (rw (same_graph r, same_schema q) at i)

  pub same_answers : {f g s t : List ℕ} {a : Answer} → SameResult Graph c f g → SameResult Schema d s t → Answers c d f s a ↔ Answers c d g t a
  same_answers r q = (answers_on r q, answers_on (result_turned r) (result_turned q))
