use Rattle.story_code.proofs.ShortShown.{rows_are_short}
use Rattle.story_code.proofs.short_laws.rows_of_what_is_short.Goals as goal

pub returns : goal.returns
returns c = rows_are_short
