-- The two ways of the code are those of the rules.
use Rattle.meaning.specs.Rules as rules
use Rattle.layout.specs.declared.Way.{Way}
use Rattle.layout.specs.declared.Way.TheVariants.{Out, Into}

-- rule 3 and rule 4
abbrev pub way_of : Way → rules.Way
way_of Out = rules.out
way_of Into = rules.into
