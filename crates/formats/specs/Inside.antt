-- What every form of a row has.
use Rattle.std.specs.Prelude.{◌≡◌, ◌⊎◌, ◌+◌, ◌≤◌}
use Rattle.layout.specs.declared.Form.{Form}

-- the fields of such a row lie inside it: the label set first, the run, its count of two or four bytes
pub record Inside (m : Form) : Type 0 where
  pub labels_first : 8 ≤ m.run
  pub counted_last : m.run + 4 + m.counted ≤ m.width
  pub two_or_four : (m.counted ≡ 2) ⊎ (m.counted ≡ 4)
