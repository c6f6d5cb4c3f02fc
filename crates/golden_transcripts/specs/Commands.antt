-- The commands of exchanges.
use Rattle.std.specs.Prelude.{ℕ, List, [], ◌∷◌, ◌++◌, Option, None, Some}
use Rattle.std.specs.Borrow.{Bor}
use Rattle.golden_transcripts.specs.declared.exchange.Exchange.{Exchange}

-- a command with its line break, if there is one
abbrev pub command_line : Option (Bor (List ℕ)) → List ℕ
command_line None = []
command_line (Some command) = command.now ++ 10 ∷ []

abbrev pub line_of : Exchange → List ℕ
line_of exchange = command_line exchange.command
