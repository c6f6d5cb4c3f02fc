use Rattle.std.proofs.Common.{◌∙◌, [], Some, ap}
use Rattle.std.specs.Prelude.{filter}
use Rattle.play_meaning.specs.Settings.{thing_kind}
use Rattle.play_meaning.specs.Values.{is_among}
use Rattle.world_store.specs.StorySettings.{setting_of}
use Rattle.standard_rules.proofs.Lists.{things_held}
use Rattle.standard_rules.proofs.listing.things_held.Goals as goal

pub returns : goal.returns
returns c =
    let s = setting_of c.args.world.now.tables in
    c.in_ok-things_among.ensures ∙ ap (filter (is_among s c.args.world.now.world [] (Some thing_kind))) (c.as_slice.ensures.value ∙ c.in_ok-held.ensures)
    ∙ things_held s c.args.world.now.world c.args.now.now c.args.relation c.player.result c.player.ensures
