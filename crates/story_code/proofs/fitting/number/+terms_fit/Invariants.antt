use Rattle.std.proofs.Common.{length}
use Rattle.story_code.proofs.fitting.number.+terms_fit.Given as goal

abbrev pub decreases-terms_fit : goal.decreases-terms_fit
decreases-terms_fit l = length l.joined.now
