use Rattle.std.proofs.Common.{ap, ◌∙◌}
use Rattle.i7_kinds.specs.Views.{target_at}
use Rattle.world_meaning.specs.Directions.{direction_number}
use Rattle.i7_kinds.proofs.ways.Ways.target_of.Goals as goal

pub returns : goal.returns
returns c =
    c.copied.ensures ∙ c.get.ensures.value
    ∙ ap (λ direction. target_at c.args.self.now.targets c.args.room direction) c.number.ensures
    ∙ c.args.self.now.led c.args.room (direction_number c.args.direction)
