-- What reading a sheet promises (02, Ask 4).
use Rattle.std.specs.Prelude.{◌≡◌, List, ℕ}
use Rattle.layout.specs.declared.File.TheVariants.{Graph}
use Rattle.layout.specs.Files.{ceilings, body_of}
use Rattle.layout.specs.Refusals.{RefusedBy, FileAccepted}
use Rattle.layout.specs.Checked.{graph_in}
use Rattle.writer.specs.declared.Outcome.{Outcome}
use Rattle.writer.specs.Outcome.{outcome}
use Rattle.writer.specs.Writes.{Writes}
use Rattle.lines.specs.Sheet.{Reading, SheetSays, sheet_refusals}
use Rattle.sheet.specs.Graph.{sheet_graph}
use Rattle.sheet.specs.Tables.{sheet_tables}

-- What is returned for a sheet, and what the output, which was `before`, holds afterwards.
module _ (s before : List ℕ) where
  pub data ReadsSheet (o : Outcome) (after : List ℕ) : Type 0 where
    -- "Refusals: 51 .., which is line 1; 52 .., returned with the lowest line number at fault"; "a refusal writes nothing"
    refused : {x k : ℕ} → RefusedBy (sheet_refusals s) x k → o ≡ outcome x k → after ≡ before → ReadsSheet o after
    -- "Label and name counts are 5"; "Write as in Ask 1 the graph"; "then 42". Ask 1's 41 cannot come: these tables are good ones (proofs/Written, `never_41`).
    says : {r : Reading} → SheetSays s r → Writes (sheet_tables r) 5 5 before o after → ReadsSheet o after

-- What is proved of the file that a reading gives: the reader accepts it, its value is the sheet's graph, and its text is the serial.
pub record SheetFile (r : Reading) (f : List ℕ) : Type 0 where
  pub accepted : FileAccepted Graph (ceilings Graph) f
  pub graph : graph_in f ≡ sheet_graph r
  pub text : (body_of Graph f).text ≡ r.serial
