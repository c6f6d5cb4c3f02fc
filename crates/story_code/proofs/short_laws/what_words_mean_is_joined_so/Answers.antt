use Rattle.story_code.proofs.ShortJoined.{meant_is_joined_so}
use Rattle.story_code.proofs.short_laws.what_words_mean_is_joined_so.Goals as goal

pub returns : goal.returns
returns c = meant_is_joined_so
