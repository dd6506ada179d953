-- `labels_apart` goes through the schema edges: behind none of those passed stands one with its label set.
use Rattle.meaning.specs.Places.{Every}
use Rattle.parts.specs.Accepted.{schema_at}
use Rattle.placing.specs.Inner.{ApartBehind}
use Rattle.placing.proofs.labels_apart.Given as goal

abbrev pub invariant-loop-at : goal.invariant-loop-at
invariant-loop-at l = Every l.at (ApartBehind (schema_at l.schema))
