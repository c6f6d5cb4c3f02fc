use Rattle.std.proofs.Common.{◌∙◌, ap}
use Rattle.story_format.specs.Once.{are_unmarked}
use Rattle.story_format.proofs.OnceLemmas.{unmarked_are_different}
use Rattle.story_format.proofs.once.are_different.Goals as goal

pub returns : goal.returns
returns c =
    c.are_unmarked.ensures ∙ ap (λ marks. are_unmarked marks c.args.numbers.now) (c.in_ok-marks.ensures.items_if_clones_equal (λ y same. same))
    ∙ unmarked_are_different c.args.count c.args.numbers.now c.requires
