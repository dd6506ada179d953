-- Files that tables give, byte for byte, each computed: the graph of 01's run in full, and an empty graph with label and name counts.
use mathlib.Core.Path.{◌≡◌, refl}
use mathlib.Core.List.{[], ◌∷◌, ◌++◌}
use lib.ListN.{replicate}
use Rattle.layout.specs.Files.{body}
use Rattle.layout.proofs.RunInFull.{graph}
use Rattle.writer.specs.GraphFile.{file_of}

-- one node row of zeros
pub run_in_full : file_of (body (replicate 16 0) [] [] []) 0 0 ≡ graph
run_in_full = refl

-- no row at all: four counts of 0, 5 labels, 3 names, back 0, the mark
pub no_rows : file_of (body [] [] [] []) 5 3 ≡ replicate 16 0 ++ (0x05 ∷ 0x00 ∷ 0x03 ∷ 0x00 ∷ 0x00 ∷ 0x00 ∷ 0x00 ∷ 0x00 ∷ 0x47 ∷ 0x50 ∷ 0x48 ∷ 0x31 ∷ [])
no_rows = refl
