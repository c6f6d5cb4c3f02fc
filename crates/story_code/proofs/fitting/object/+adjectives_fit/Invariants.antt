use Rattle.std.proofs.Common.{length}
use Rattle.story_code.proofs.fitting.object.+adjectives_fit.Given as goal

abbrev pub decreases-adjectives_fit : goal.decreases-adjectives_fit
decreases-adjectives_fit l = length l.adjectives.now
