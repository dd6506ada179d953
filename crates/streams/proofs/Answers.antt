-- Of a reader over known bytes there is one count, and one list of bytes that were read.
use Rattle.std.proofs.Common.{◌≡◌, ℕ, List, length, take, sym, ap, ◌∙◌}
use Rattle.streams.specs.Reads.{IsPrefixLen}

pub read_one : (xs : List ℕ) (room n m : ℕ) (new other : List ℕ) → IsPrefixLen n new → IsPrefixLen m other → take n new ≡ take room xs → take m other ≡ take room xs → (n ≡ m) × (take n new ≡ take m other)
read_one xs room n m new other one two first second =
    let same = first ∙ sym second in
    (one.1 ∙ ap length same ∙ sym two.1, same)
