-- The compiler's ways as contracts see them.
use Rattle.std.specs.Prelude.{List}
use Rattle.i7_claims.specs.declared.statements.NumberedSentence.{NumberedSentence}
use Rattle.i7_kinds.specs.declared.ways.Ways.{Ways}

abbrev pub stated : Ways → List NumberedSentence
stated ways = ways.statements.now
