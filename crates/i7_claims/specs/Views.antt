-- The names of a source as contracts see them.
use Rattle.std.specs.Prelude.{List, map}
use Rattle.i7_claims.specs.Statements.{NameAt, Named}
use Rattle.i7_claims.specs.declared.names.Mention.{Mention}
use Rattle.i7_claims.specs.declared.names.Names.{Names}

abbrev pub mention_of : Mention → NameAt
mention_of mention = record { name = mention.name.now; line = mention.line }

abbrev pub mentions_of : List Mention → List NameAt
mentions_of mentions = map mention_of mentions

abbrev pub names_of : Names → Named
names_of names = record { keys = names.keys; mentions = mentions_of names.mentions.items }
