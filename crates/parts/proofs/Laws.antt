-- What lies in an accepted file: the order of its tables, their bytes, their rows.
use mathlib.Core.Path.{◌≡◌, sym, subst}
use mathlib.Core.List.{List}
use Prim.Native.Nat.{ℕ, ◌+◌, ◌*◌, ◌≤◌, ◌<◌}
use native.Mathlib.Nat.{ℕ_set}
use native.Mathlib.Omega.{arith}
use lib.ListN.{length}
use Rattle.layout.specs.declared.File.{File}
use Rattle.layout.specs.declared.File.TheVariants as file
use Rattle.layout.specs.declared.Sort.{Sort}
use Rattle.layout.specs.declared.Sort.TheVariants.{Nodes, Edges}
use Rattle.layout.specs.declared.Tables.{Tables}
use Rattle.layout.specs.declared.Trailer.{Trailer}
use Rattle.layout.specs.declared.Ceilings.{Ceilings}
use Rattle.layout.specs.Files.{form, Ordered, Body, Full, ceilings, tables_of, body_at, body_in}
use Rattle.layout.specs.Refusals.{Passed, Held, row_refusals, FileAccepted}
use Rattle.std.proofs.Math.Logic.{∥∥₁_elim, ∥∥₁_map}
use Rattle.meaning.proofs.Decide.{by_dec}
use Rattle.layout.proofs.Refusing.{passed_for}
use Rattle.layout.proofs.Decided.{dec_held, dec_rows}
use Rattle.layout.proofs.Accepted.{tables_ordered, held, located, rows_good, accepted_full, object_there}
use Rattle.parts.specs.declared.FileTables.{FileTables}
use Rattle.parts.specs.declared.pair.Pair.{Pair}
use Rattle.parts.specs.Accepted.{Accepted, with_tables, Good, count_at, objects_at}

module _ {F : File} {f : List ℕ} {t : Tables} where
  pub accepted : Accepted F f t → FileAccepted F (ceilings F) f
  accepted (with_tables p e) = p

  pub tables : Accepted F f t → t ≡ tables_of F f
  tables (with_tables p e) = e

module _ {F : File} {f : List ℕ} {t : Tables} (l : Accepted F f t) where
  pub ordered : Ordered t.starts (length f)
  ordered = tables_ordered F f (tables l) (located F f (ceilings F) (accepted l))

  pub good : Passed (row_refusals F t.numbers (body_at f t.starts))
  good = rw (tables l) (rows_good F f (ceilings F) (accepted l))

  pub full : Full F t.numbers (body_at f t.starts)
  full = rw (tables l) (accepted_full F f (ceilings F) (accepted l))

  pub few : Held (ceilings F) t.numbers
  few = rw (tables l) (held F f (ceilings F) (accepted l))

-- so that such tables are good
pub good_tables : {F : File} {f : List ℕ} {t : Tables} → Accepted F f t → (x : FileTables) → x.numbers ≡ t.numbers → body_in x.bytes ≡ body_at f t.starts → Good F x
good_tables {F} {f} {t} l x e b =
    record {
      held = rw e (few l);
      full = subst (λ d. Full F x.numbers d) (sym b) (rw e (full l));
      rows = subst (λ d. Passed (row_refusals F x.numbers d)) (sym b) (subst (λ n. Passed (row_refusals F n (body_at f t.starts))) (sym e) (good l));
    }

-- row i of the nodes or the edges stands in its table
pub there : {F : File} {x : FileTables} → Good F x → (o : Sort) (i : ℕ) → i < count_at o x → (form F o).width * i + (form F o).width ≤ length (objects_at o x)
there g o i h = object_there g.full o i h

-- and its place is a small number
pub small : (F : File) (x : FileTables) → Good F x → (o : Sort) (i : ℕ) → i < count_at o x → (form F o).width * i + (form F o).width ≤ 4294967295
small file.Graph x g Nodes i h = let k = g.held in omega arith
small file.Graph x g Edges i h = let k = g.held in omega arith
small file.Schema x g Nodes i h = let k = g.held in omega arith
small file.Schema x g Edges i h = let k = g.held in omega arith

-- ---- the two files of a check

-- counts and lengths that are known, though not how, are known
full_for : (F : File) (n : Trailer) (b : Body) → ∥ Full F n b ∥₁ → Full F n b
full_for F n b t =
    record {
      nodes = ∥∥₁_elim t (ℕ_set _ _) (λ f. f.nodes);
      edges = ∥∥₁_elim t (ℕ_set _ _) (λ f. f.edges);
      rows = ∥∥₁_elim t (ℕ_set _ _) (λ f. f.rows);
      text = ∥∥₁_elim t (ℕ_set _ _) (λ f. f.text);
    }

held_for : (c : Ceilings) (n : Trailer) → ∥ Held c n ∥₁ → Held c n
held_for c n t = by_dec (dec_held c n) (λ no. ∥∥₁_elim t (λ x y. absurd x) no)

pub good_for : (F : File) (x : FileTables) → ∥ Good F x ∥₁ → Good F x
good_for F x t =
    record {
      held = held_for (ceilings F) x.numbers (∥∥₁_map t (λ g. g.held));
      full = full_for F x.numbers (body_in x.bytes) (∥∥₁_map t (λ g. g.full));
      rows = passed_for (row_refusals F x.numbers (body_in x.bytes)) (dec_rows F x.numbers (body_in x.bytes)) (∥∥₁_map t (λ g. g.rows));
    }

pub graph_good : (p : Pair) → Good file.Graph p.graph
graph_good p = good_for file.Graph p.graph p.graph_good

pub schema_good : (p : Pair) → Good file.Schema p.schema
schema_good p = good_for file.Schema p.schema p.schema_good

-- "count (16), open (16)", after the run, end inside a schema row
pub open_inside : (o : Sort) → (form file.Schema o).run + 8 ≤ (form file.Schema o).width
open_inside Nodes = omega arith
open_inside Edges = omega arith
