use Rattle.std.proofs.Common.{sym, ap, ◌∙◌}
use Rattle.play_meaning.specs.Meant.{basic_meant}
use Rattle.story_code.specs.Fits.{condition_fits}
use Rattle.story_code.proofs.fitting.condition.basic_fits.Goals as goal

pub returns-in-IsHeldByOne : goal.returns-in-IsHeldByOne
unfolding condition_fits
returns-in-IsHeldByOne c =
    c.description_fits-in-IsHeldByOne.ensures ∙ ap (λ b. condition_fits c.args.counts.now c.args.loops (basic_meant b) c.args.room) (sym c.in-IsHeldByOne.is)
