-- 01's numbers for what a file is refused for: the code, and the place.
use Rattle.std.specs.Prelude.{ℕ}
use Rattle.layout.specs.declared.File.{File}
use Rattle.layout.specs.declared.Refused.{Refused}
use Rattle.layout.specs.declared.Refused.TheVariants.{Length, Mark, Count, Back, Node, Edge, Row}
use Rattle.layout.specs.Files.{either}

-- the code of a refusal of a graph file, or of a schema file
abbrev pub code_of : File → Refused → ℕ
-- "2 / 9: graph / schema file length outside its range"
code_of F Length = either F 2 9
-- "3 / 10: last four bytes are not the mark"
code_of F Mark = either F 3 10
-- "4 / 11: a trailer count above its ceiling"
code_of F Count = either F 4 11
-- "5 / 12: back differs from the body size that the counts give, or is more than the bytes before the trailer"
code_of F Back = either F 5 12
-- "6 / 13: node row", "7 / 14: edge row", "8 / 15: property row"
code_of F (Node i) = either F 6 13
code_of F (Edge e) = either F 7 14
code_of F (Row r) = either F 8 15

-- "Place is the lowest bad row for 6 to 8 and 13 to 15, counted from 0 in its own table, else 0."
abbrev pub place_of : Refused → ℕ
place_of Length = 0
place_of Mark = 0
place_of Count = 0
place_of Back = 0
place_of (Node i) = i
place_of (Edge e) = e
place_of (Row r) = r
