use Rattle.std.proofs.Common.{◌∙◌, ◌-◌, ap, length}
use Rattle.std.specs.Prelude.{slice_get, unwrap_or}
use Rattle.story_player.proofs.ShorterLogs.{first_within, shortened}
use Rattle.story_player.proofs.letting_go.shorten.Goals as goal

pub let_go-requires : goal.let_go-requires
let_go-requires c =
    let kept = c.args.kept.now in
    let oldest = c.first_needed-first.ensures ∙ ap (unwrap_or (slice_get kept (length kept - 1))) c.mark.ensures in
    first_within c.args.world.now c.first_needed-first.result kept c.requires oldest

pub returns : goal.returns
returns c =
    let kept = c.args.kept.now in
    let oldest = c.first_needed-first.ensures ∙ ap (unwrap_or (slice_get kept (length kept - 1))) c.mark.ensures in
    shortened c.args.world.now c.first_needed-first.result kept c.requires oldest c.let_go.new.self c.tell_from.new.kept c.let_go.ensures c.tell_from.ensures
