-- What is read of two files has one answer, and so has what is read of one: of tables, as what they say.
use mathlib.Core.Path.{◌≡◌, sym, ◌∙◌}
use mathlib.Core.List.{List}
use Prim.Native.Nat.{ℕ}
use Rattle.std.specs.Prelude.{Result, Ok, Err}
use Rattle.layout.specs.declared.File.{File}
use Rattle.layout.specs.declared.File.TheVariants.{Graph, Schema}
use Rattle.layout.specs.declared.Refused.{Refused}
use Rattle.layout.specs.declared.Refusal.{Refusal}
use Rattle.layout.specs.Files.{tables_of, ceilings}
use Rattle.layout.specs.Codes.{code_of, place_of}
use Rattle.layout.specs.Refusals.{refusals, FileRefused}
use Rattle.layout.proofs.Refusing.{not_both, refused_one}
use Rattle.layout.proofs.Codes.{codes_apart}
use Rattle.parts.specs.declared.FileTables.{FileTables}
use Rattle.parts.specs.declared.pair.Pair.{Pair}
use Rattle.parts.proofs.Answers.{tables_one}
use Rattle.layout.specs.Files.{body_in}
use Rattle.reader.specs.Pair.{ReadsTables, RefusedPair, of_graph, of_schema, ReadsPair}

-- two results are the same: accepted files that say the same, or one refusal
abbrev pub SameTables : Result FileTables Refusal → Result FileTables Refusal → Type 0
SameTables (Ok x) (Ok y) = (x.numbers ≡ y.numbers) × (body_in x.bytes ≡ body_in y.bytes)
SameTables (Ok x) (Err r) = ⊥
SameTables (Err r) (Ok x) = ⊥
SameTables (Err r) (Err s) = r ≡ s

abbrev pub SamePair : Result Pair Refusal → Result Pair Refusal → Type 0
SamePair (Ok p) (Ok q) = SameTables (Ok p.graph) (Ok q.graph) × SameTables (Ok p.schema) (Ok q.schema)
SamePair (Ok p) (Err r) = ⊥
SamePair (Err r) (Ok p) = ⊥
SamePair (Err r) (Err s) = r ≡ s

same_refusal : (r s : Refusal) → r.file ≡ s.file → r.cause ≡ s.cause → r ≡ s
same_refusal r s e f = λ i. record { file = e i; cause = f i }

-- a file is refused for one cause
cause_one : (F : File) (f : List ℕ) (r s : Refused) → FileRefused F (ceilings F) f (code_of F r) (place_of r) → FileRefused F (ceilings F) f (code_of F s) (place_of s) → r ≡ s
cause_one F f r s p q = let e = refused_one (refusals F (ceilings F) f) _ _ _ _ p q in codes_apart F r s e.0 e.1

pub read_tables_one : (F : File) (f : List ℕ) (x y : Result FileTables Refusal) → ReadsTables x F f → ReadsTables y F f → SameTables x y
read_tables_one F f (Ok x) (Ok y) p q = tables_one F f (tables_of F f) x y p.1 q.1
read_tables_one F f (Ok x) (Err r) p q = not_both (refusals F (ceilings F) f) _ _ p.0 q.1
read_tables_one F f (Err r) (Ok x) p q = not_both (refusals F (ceilings F) f) _ _ q.0 p.1
read_tables_one F f (Err r) (Err s) p q = same_refusal r s (p.0 ∙ sym q.0) (cause_one F f r.cause s.cause p.1 q.1)

module _ (g s : List ℕ) where
  refused_pair_one : (r t : Refusal) → RefusedPair g s r → RefusedPair g s t → r ≡ t
  refused_pair_one r t (of_graph e p) (of_graph d q) = same_refusal r t (e ∙ sym d) (cause_one Graph g r.cause t.cause (rw e at p) (rw d at q))
  refused_pair_one r t (of_graph e p) (of_schema d h q) = absurd (not_both (refusals Graph (ceilings Graph) g) _ _ h (rw e at p))
  refused_pair_one r t (of_schema e h p) (of_graph d q) = absurd (not_both (refusals Graph (ceilings Graph) g) _ _ h (rw d at q))
  refused_pair_one r t (of_schema e h p) (of_schema d k q) = same_refusal r t (e ∙ sym d) (cause_one Schema s r.cause t.cause (rw e at p) (rw d at q))

  pub read_pair_one : (x y : Result Pair Refusal) → ReadsPair x g s → ReadsPair y g s → SamePair x y
  read_pair_one (Ok p) (Ok q) a b = (tables_one Graph g _ p.graph q.graph a.graph_tables b.graph_tables, tables_one Schema s _ p.schema q.schema a.schema_tables b.schema_tables)
  read_pair_one (Ok p) (Err r) a (of_graph d q) = not_both (refusals Graph (ceilings Graph) g) _ _ a.graph (rw d at q)
  read_pair_one (Ok p) (Err r) a (of_schema d k q) = not_both (refusals Schema (ceilings Schema) s) _ _ a.schema (rw d at q)
  read_pair_one (Err r) (Ok p) (of_graph d q) a = not_both (refusals Graph (ceilings Graph) g) _ _ a.graph (rw d at q)
  read_pair_one (Err r) (Ok p) (of_schema d k q) a = not_both (refusals Schema (ceilings Schema) s) _ _ a.schema (rw d at q)
  read_pair_one (Err r) (Err t) a b = refused_pair_one r t a b
