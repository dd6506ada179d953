-- A list that a search fills, in whatever form it has its records: how it begins, goes on and ends. What both entries cite.
use mathlib.Core.Path.{◌≡◌, refl, sym, ap, ap₂, ◌∙◌, subst}
use mathlib.Core.List.{List, [], ◌∷◌, ◌++◌, map}
use Prim.Native.Nat.{ℕ, ◌+◌, ◌-◌, ◌*◌, ◌≤◌, ◌<◌}
use native.Mathlib.Nat.{mul-le-mul}
use native.Mathlib.Omega.{arith}
use lib.ListN.{length, set, length-map}
use denote.Bor.{Bor}
use Rattle.std.specs.Prelude.{Option, Some, None, Result, Ok, Err}
use Rattle.meaning.specs.Violations.{Violation}
use Rattle.meaning.specs.Answer.{Answer}
use Rattle.meaning.specs.Listing.{Lists, EachTold, none}
use Rattle.meaning.proofs.Listing.{each_told_more}
use Rattle.meaning.proofs.HowMany.{few_listed, told_length}
use Rattle.layout.specs.declared.File.{File}
use Rattle.layout.specs.declared.File.TheVariants.{Graph, Schema}
use Rattle.layout.specs.declared.Tables.{Tables}
use Rattle.layout.specs.declared.Refusal.{Refusal}
use Rattle.layout.specs.Files.{most_nodes, most_edges, most_schema_edges, ceilings, numbers_of, tables_of, body_at, body_of}
use Rattle.layout.specs.Codes.{code_of, place_of}
use Rattle.layout.specs.Refusals.{FileAccepted}
use Rattle.layout.specs.Graph.{graph_of}
use Rattle.layout.specs.Schema.{schema_of}
use Rattle.layout.specs.Checked.{graph_in, schema_in}
use Rattle.layout.specs.AllAnswers.{AllAnswers, graph_refused, schema_refused, listed, filled}
use Rattle.layout.proofs.Accepted.{graph_nodes, graph_edges, schema_edges, held}
use Rattle.layout.proofs.Filled.{none_filled, length_filled, one_more_in, one_more_out, length_more, map_more}
use Rattle.parts.specs.declared.FileTables.{FileTables}
use Rattle.parts.specs.declared.pair.Pair.{Pair}
use Rattle.parts.specs.Accepted.{Accepted, with_tables, TablesOf, graph_at, schema_at}
use Rattle.parts.proofs.Laws.{good_tables}
use Rattle.reader.specs.Pair.{AcceptedPair, RefusedPair, of_graph, of_schema}
use Rattle.telling.specs.declared.Finding.{Finding}
use Rattle.telling.specs.Told.{finding_of, answer_in}
use Rattle.rules.specs.declared.Search.{Search}
use Rattle.rules.specs.declared.Onward.{Onward}
use Rattle.rules.specs.Onward.{IsFresh, Stands, Finds, found, none_left}
use Rattle.rules.proofs.Standing.{begins as stands}
use Rattle.faults.specs.declared.Finder.{Finder}
use Rattle.faults.specs.Lists.{listed_by, ListsAll}
use Rattle.faults.specs.Finders.{tables_in, ReadsFiles, new_finder, Opens, FinderStands, onward_in, Goes}
use Rattle.faults.specs.Finders as finders
use Rattle.faults.proofs.Passed.{Passed, none_passed, all_passed, passed_more}

-- ---- refused files

pub refused_listed : {g s : List ℕ} {r : Refusal} → RefusedPair g s r → AllAnswers (ceilings Graph) (ceilings Schema) g s (code_of r.file r.cause) (place_of r.cause) []
refused_listed (of_graph e p) = graph_refused p
refused_listed (of_schema e h p) = schema_refused h p

-- they are not accepted
pub not_accepted : {A B : Type 0} {x : Result A B} {a : A} {b : B} → x ≡ Err b → x ≡ Ok a → ⊥
not_accepted p q = let z : ◌≡◌ {A = ℕ} 0 1 = cc in omega arith

same_tables : {A B : Type 0} {x : Result A B} {a b : A} → x ≡ Ok a → x ≡ Ok b → a ≡ b
same_tables p q = cc

-- ---- what is found

found_same : {x : Option Finding} {v w : Finding} → x ≡ Some v → x ≡ Some w → v ≡ w
found_same p q = cc

found_apart : {x : Option Finding} {v : Finding} → x ≡ Some v → x ≡ None → ⊥
found_apart p q = let z : ◌≡◌ {A = ℕ} 0 1 = cc in omega arith

-- ---- accepted files

-- there are two files of a check that say what they say, wherever the bytes lie
abbrev lent : List ℕ → Bor (List ℕ)
lent l = record { ref_ptr = (0, 0); now = l }

abbrev tables_at : File → List ℕ → FileTables
tables_at F f =
    let b = body_of F f in
    record { numbers = numbers_of F f; bytes = record { nodes = lent b.nodes; edges = lent b.edges; rows = lent b.rows; text = lent b.text } }

pub some_pair : {g s : List ℕ} → FileAccepted Graph (ceilings Graph) g → FileAccepted Schema (ceilings Schema) s → (x : Pair) × AcceptedPair x g s
some_pair {g} {s} p q = (
  record {
    graph = tables_at Graph g;
    schema = tables_at Schema s;
    graph_good = ∣ good_tables (with_tables p refl) _ refl refl ∣₁;
    schema_good = ∣ good_tables (with_tables q refl) _ refl refl ∣₁;
  },
  record {
    graph = p;
    schema = q;
    graph_tables = record { numbers = refl; bytes = refl; good = good_tables (with_tables p refl) _ refl refl };
    schema_tables = record { numbers = refl; bytes = refl; good = good_tables (with_tables q refl) _ refl refl };
    graph_says = refl;
    schema_says = refl;
  },
)

-- ---- a search begins, with masks, places and counters that nobody has touched

pub opens : {g s : List ℕ} {x : Result (Tables × Tables) Refusal} → ReadsFiles x g s → Opens g s (new_finder x)
opens {x = Ok t} h = rw h.2 (finders.accepted h.0 h.1)
opens {x = Err r} h = finders.refused h

module _ {g s m p c : List ℕ} (n : IsFresh m p c) where
  pub opened : {f : Finder} → Opens g s f → FinderStands g s m p c f
  opened (finders.refused r) = finders.refused r refl n
  opened (finders.accepted i j) = let x = some_pair i j in finders.accepted x.1 refl (rw (n.masks, n.places, n.counts) (stands x.0))

-- and stands in any two files of a check that say the same
pub stands_alike : {g s m p c : List ℕ} {f : Search} {x y : Pair} → AcceptedPair x g s → AcceptedPair y g s → Stands y m p c f → Stands x m p c f
stands_alike a b z =
    let e = a.graph_says ∙ sym b.graph_says in
    let d = a.schema_says ∙ sym b.schema_says in
    record { from_to = z.from_to; nodes = rw (e, d) z.nodes; edges = rw (e, d) z.edges; numbers = rw (e, d) z.numbers }

-- ---- it goes on

-- in refused files there is nothing to find
pub not_on : {g s m p c : List ℕ} {f : Finder} {r : Refusal} → FinderStands g s m p c f → f.files ≡ Err r → Goes g s f f
not_on (finders.refused p d n) e = finders.refused p d refl
not_on (finders.accepted a d x) e = absurd (not_accepted e d)

-- accepted files are the two files of a check, and the search stands there
pub on_from : {g s m p c : List ℕ} {f : Finder} → FinderStands g s m p c f → (t : Tables × Tables) → f.files ≡ Ok t → (t ≡ tables_in g s) × ((x : Pair) × AcceptedPair x g s × Stands x m p c f.search)
on_from (finders.refused p d n) t e = absurd (not_accepted (ap (λ i. i.files) d) e)
on_from (finders.accepted {x} a d y) t e = (same_tables e d, (x, a, y))

module _ {g s m p c : List ℕ} {f : Finder} {t u : Tables} (z : FinderStands g s m p c f) (e : f.files ≡ Ok (t, u)) where
  graph_tables : t ≡ tables_of Graph g
  graph_tables = ap (λ i. i.0) (on_from z (t, u) e).0

  schema_tables : u ≡ tables_of Schema s
  schema_tables = ap (λ i. i.1) (on_from z (t, u) e).0

  pub graph_accepted : Accepted Graph g t
  graph_accepted = with_tables (on_from z (t, u) e).1.1.graph graph_tables

  pub schema_accepted : Accepted Schema s u
  schema_accepted = with_tables (on_from z (t, u) e).1.1.schema schema_tables

  module _ {a b : FileTables} {x : Pair} (k : TablesOf Graph g t a) (l : TablesOf Schema s u b) (h : (x.graph ≡ a) × (x.schema ≡ b)) where
    pub pair_accepted : AcceptedPair x g s
    pair_accepted =
        let o = (on_from z (t, u) e).1.1 in
        record {
          graph = o.graph;
          schema = o.schema;
          graph_tables = subst (λ y. TablesOf Graph g (tables_of Graph g) y) (sym h.0) (subst (λ y. TablesOf Graph g y a) graph_tables k);
          schema_tables = subst (λ y. TablesOf Schema s (tables_of Schema s) y) (sym h.1) (subst (λ y. TablesOf Schema s y b) schema_tables l);
          graph_says = ap graph_at h.0 ∙ ap₂ graph_of k.numbers k.bytes ∙ ap (λ i. graph_of i.numbers (body_at g i.starts)) graph_tables;
          schema_says = ap schema_at h.1 ∙ ap₂ schema_of l.numbers l.bytes ∙ ap (λ i. schema_of i.numbers (body_at s i.starts)) schema_tables;
        }

    pub stands_on : Stands x m p c f.search
    stands_on = let o = (on_from z (t, u) e).1 in stands_alike pair_accepted o.1 o.2

-- ---- how many violations there may be

abbrev pub most_violations : ℕ
most_violations = most_nodes + most_edges + 2 * (most_nodes * most_schema_edges)

-- how many may be left where so many are found: a measure that falls with each
abbrev pub left : ℕ → ℕ
left total = most_violations - total

module _ {g s : List ℕ} (p : FileAccepted Graph (ceilings Graph) g) (q : FileAccepted Schema (ceilings Schema) s) where
  few_violations : {f : Search} {l : List Violation} → Lists (Passed (graph_in g) (schema_in s) f) l → length l ≤ most_violations
  few_violations {f} {l} a =
      let x = held Graph g (ceilings Graph) p in
      let y = held Schema s (ceilings Schema) q in
      let n : length (graph_in g).nodes ≤ most_nodes = rw graph_nodes x.nodes in
      let e : length (graph_in g).edges ≤ most_edges = rw graph_edges x.edges in
      let m : length (schema_in s).edges ≤ most_schema_edges = rw schema_edges y.edges in
      omega (arith, few_listed (graph_in g) (schema_in s) a (λ v p. p.0), mul-le-mul n m)

-- ---- the list

module _ {A : Type 0} (form : Answer → A) (g s : List ℕ) (before : List A) where
  -- in accepted files: the violations that are passed are told, and stand in the list as far as there is room
  pub record Filled (f : Search) (list : List A) (total : ℕ) : Type 0 where
    pub graph : FileAccepted Graph (ceilings Graph) g
    pub schema : FileAccepted Schema (ceilings Schema) s
    pub violations : List Violation
    pub answers : List Answer
    pub passed : Lists (Passed (graph_in g) (schema_in s) f) violations
    pub told : EachTold (graph_in g) (schema_in s) violations answers
    pub put : list ≡ filled (map form answers) before
    pub many : total ≡ length answers

  -- how far the list is filled where the search stands
  pub data Reached (f : Finder) (list : List A) (total : ℕ) : Type 0 where
    refused : {r : Refusal} → RefusedPair g s r → f ≡ new_finder (Err r) → list ≡ before → total ≡ 0 → Reached f list total
    accepted : f.files ≡ Ok (tables_in g s) → Filled f.search list total → Reached f list total

  pub begins : {f : Finder} → Opens g s f → Reached f before 0
  begins (finders.refused p) = refused p refl refl refl
  begins (finders.accepted p q) =
      accepted refl
      record {
        graph = p;
        schema = q;
        violations = [];
        answers = [];
        passed = none_passed (graph_in g) (schema_in s);
        told = none;
        put = sym (none_filled before);
        many = refl;
      }

  pub fits : {f : Finder} {list : List A} {total : ℕ} → Reached f list total → total ≤ most_violations
  fits (refused p e l n) = omega arith
  fits (accepted z x) = omega (arith, x.many, told_length _ _ x.told, few_violations x.graph x.schema x.passed)

  pub same_length : {f : Finder} {list : List A} {total : ℕ} → Reached f list total → length list ≡ length before
  same_length (refused p e l n) = ap length l
  same_length (accepted z x) = ap length x.put ∙ length_filled _ before

  -- the next violation, and the list with its record
  one_more :
      {f : Search} {r : Onward} {list : List A} {total : ℕ} {v : Violation} {a : Answer} → Finds (graph_in g) (schema_in s) f r v a → (x : Filled f list total)
      → {after : List A} → after ≡ filled (map form x.answers ++ form a ∷ []) before → Filled r.search after (total + 1)
  one_more {v = v} {a = a} y x p =
      record {
        graph = x.graph;
        schema = x.schema;
        violations = x.violations ++ v ∷ [];
        answers = x.answers ++ a ∷ [];
        passed = passed_more _ _ y x.passed;
        told = each_told_more _ _ x.told y.told;
        put = p ∙ ap (λ l. filled l before) (sym (map_more form x.answers a));
        many = omega (arith, x.many, length_more x.answers a);
      }

  -- a record stored behind those that stand in the list
  put_in : (m : List A) {list : List A} {total : ℕ} {x y : A} → list ≡ filled m before → total ≡ length m → x ≡ y → length m < length before → set list total x ≡ filled (m ++ y ∷ []) before
  put_in m {y = y} p n e h = rw (p, n, e) (one_more_in m before y h)

  -- the search goes on, so that the files are accepted
  record GoesOn (f r : Finder) (list : List A) (total : ℕ) (x : Finding) : Type 0 where
    violation : Violation
    answer : Answer
    told : x ≡ finding_of answer
    finds : Finds (graph_in g) (schema_in s) f.search (onward_in r) violation answer
    files : r.files ≡ Ok (tables_in g s)
    so_far : Filled f.search list total

  goes_on : {f r : Finder} {list : List A} {total : ℕ} {x : Finding} → r.found ≡ Some x → Goes g s f r → Reached f list total → GoesOn f r list total x
  goes_on some (finders.refused p e d) q = absurd (found_apart some (ap (λ i. i.found) (d ∙ e)))
  goes_on some (finders.accepted z (none_left n) t) q = absurd (found_apart some n.found)
  goes_on some (finders.accepted z (found w) t) (refused p e l m) = absurd (not_accepted (ap (λ i. i.files) e) z)
  goes_on some (finders.accepted z (found {a = a} w) t) (accepted o q) =
      record { violation = _; answer = a; told = found_same some w.found; finds = w; files = t ∙ z; so_far = q }

  with_record :
      {f r : Finder} {list : List A} {total : ℕ} {x : Finding} (o : GoesOn f r list total x) {after : List A}
      → after ≡ filled (map form o.so_far.answers ++ form o.answer ∷ []) before → Reached r after (total + 1)
  with_record o e = accepted o.files (one_more o.finds o.so_far e)

  -- how many stand in the list, or would
  so_many : {f : Search} {list : List A} {total : ℕ} (x : Filled f list total) → total ≡ length (map form x.answers)
  so_many x = x.many ∙ sym (length-map x.answers form)

  module _ {f r : Finder} {list : List A} {total : ℕ} (go : Goes g s f r) (at : Reached f list total) where
    module _ {v : Finding} (some : r.found ≡ Some v) where
      -- one record more where there is room: x is what is found, in the list's form
      pub goes_in : (x : A) → x ≡ form (answer_in v) → total < length list → Reached r (set list total x) (total + 1)
      goes_in x is h =
          let o = goes_on some go at in
          let n = so_many o.so_far in
          with_record o (put_in _ o.so_far.put n (is ∙ ap (λ i. form (answer_in i)) o.told) (omega (arith, same_length at)))

      -- the list stays as it is where there is none
      pub goes_out : length list ≤ total → Reached r list (total + 1)
      goes_out h =
          let o = goes_on some go at in
          let n = so_many o.so_far in
          with_record o (o.so_far.put ∙ one_more_out _ before _ (omega (arith, same_length at)))

      -- and there is less to be found
      pub less : left (total + 1) < left total
      less = let n = fits (with_record (goes_on some go at) refl) in omega arith

    -- nothing is found: that was all
    pub ends : r.found ≡ None → ListsAll form (ceilings Graph) (ceilings Schema) g s before (listed_by r.files total) list
    ends z = of go at
      where
        of : Goes g s f r → Reached f list total → ListsAll form (ceilings Graph) (ceilings Schema) g s before (listed_by r.files total) list
        of (finders.refused p e d) (refused q h l m) = rw (ap (λ i. i.files) (d ∙ e)) record { answers = []; owed = refused_listed p; total = m; list = l ∙ sym (none_filled before) }
        of (finders.refused p e d) (accepted o q) = absurd (not_accepted (ap (λ i. i.files) e) o)
        of (finders.accepted o w t) (refused p e l m) = absurd (not_accepted (ap (λ i. i.files) e) o)
        of (finders.accepted o (found w) t) (accepted i q) = absurd (found_apart w.found z)
        of (finders.accepted o (none_left n) t) (accepted i q) =
            rw (t ∙ o)
            record {
              answers = q.answers;
              owed = listed q.graph q.schema (record { violations = q.violations; lists = all_passed (graph_in g) (schema_in s) n.none q.passed; told = q.told });
              total = q.many;
              list = q.put;
            }
