-- The words in which the functions that say where tables lie promise something to each other. No public promise uses them.
use Rattle.std.specs.Prelude.{◌≤◌}
use Rattle.layout.specs.declared.File.TheVariants.{Graph}
use Rattle.layout.specs.declared.Tables.{Tables}
use Rattle.layout.specs.Files.{ceilings}
use Rattle.layout.specs.Refusals.{Held}

-- tables whose numbers 32 bits hold
pub record Small (t : Tables) : Type 0 where
  pub starts : (t.starts.nodes ≤ 4294967295) × (t.starts.edges ≤ 4294967295) × (t.starts.rows ≤ 4294967295) × (t.starts.text ≤ 4294967295)
  pub counts : Held (ceilings Graph) t.numbers
