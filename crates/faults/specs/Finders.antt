-- A search through two files, whatever they are: a refusal, or a search in accepted files.
use Rattle.std.specs.Prelude.{◌≡◌, List, ℕ, Result, Ok, Err, None}
use Rattle.layout.specs.declared.File.{File}
use Rattle.layout.specs.declared.File.TheVariants.{Graph, Schema}
use Rattle.layout.specs.declared.Tables.{Tables}
use Rattle.layout.specs.declared.Refusal.{Refusal}
use Rattle.layout.specs.Files.{tables_of, ceilings}
use Rattle.layout.specs.Codes.{code_of, place_of}
use Rattle.layout.specs.Refusals.{FileRefused, FileAccepted}
use Rattle.layout.specs.Checked.{graph_in, schema_in}
use Rattle.parts.specs.declared.pair.Pair.{Pair}
use Rattle.reader.specs.Pair.{AcceptedPair, RefusedPair}
use Rattle.rules.specs.declared.Onward.{Onward}
use Rattle.rules.specs.Onward.{at_start, IsFresh, Stands, NextFound}
use Rattle.faults.specs.declared.Finder.{Finder}

-- the tables of both files
abbrev pub tables_in : List ℕ → List ℕ → Tables × Tables
tables_in g s = (tables_of Graph g, tables_of Schema s)

-- a file is accepted, with its tables, or refused
abbrev pub ReadsFile : Result Tables Refusal → File → List ℕ → Type 0
ReadsFile (Ok t) F f = FileAccepted F (ceilings F) f × (t ≡ tables_of F f)
ReadsFile (Err r) F f = (r.file ≡ F) × FileRefused F (ceilings F) f (code_of F r.cause) (place_of r.cause)

-- both are accepted, with their tables, or refused: "the old entry's" refusals "without 1, in the same order", the graph's, else the schema's
abbrev pub ReadsFiles : Result (Tables × Tables) Refusal → List ℕ → List ℕ → Type 0
ReadsFiles (Ok x) g s = FileAccepted Graph (ceilings Graph) g × FileAccepted Schema (ceilings Schema) s × (x ≡ tables_in g s)
ReadsFiles (Err r) g s = RefusedPair g s r

-- a search that has found nothing yet, and passed nothing
abbrev pub new_finder : Result (Tables × Tables) Refusal → Finder
new_finder x = record { found = None; search = at_start; files = x }

pub data Opens (g s : List ℕ) : Finder → Type 0 where
  refused : {r : Refusal} → RefusedPair g s r → Opens g s (new_finder (Err r))
  accepted : FileAccepted Graph (ceilings Graph) g → FileAccepted Schema (ceilings Schema) s → Opens g s (new_finder (Ok (tables_in g s)))

-- how a search stands, with its masks, places and counters
pub data FinderStands (g s m p c : List ℕ) (f : Finder) : Type 0 where
  refused : {r : Refusal} → RefusedPair g s r → f ≡ new_finder (Err r) → IsFresh m p c → FinderStands g s m p c f
  accepted : {x : Pair} → AcceptedPair x g s → f.files ≡ Ok (tables_in g s) → Stands x m p c f.search → FinderStands g s m p c f

-- what a search finds and where it stands then: its next violation, or that there is none; refused files have none
abbrev pub onward_in : Finder → Onward
onward_in f = record { found = f.found; search = f.search }

pub data Goes (g s : List ℕ) (f r : Finder) : Type 0 where
  refused : {x : Refusal} → RefusedPair g s x → f ≡ new_finder (Err x) → r ≡ f → Goes g s f r
  accepted : f.files ≡ Ok (tables_in g s) → NextFound (graph_in g) (schema_in s) f.search (onward_in r) → r.files ≡ f.files → Goes g s f r
