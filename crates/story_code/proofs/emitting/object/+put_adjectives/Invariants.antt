use Rattle.std.proofs.Common.{length}
use Rattle.story_code.proofs.emitting.object.+put_adjectives.Given as goal

abbrev pub decreases-put_adjectives : goal.decreases-put_adjectives
decreases-put_adjectives l = length l.adjectives.now
