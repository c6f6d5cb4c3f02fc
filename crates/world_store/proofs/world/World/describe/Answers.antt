use Rattle.std.proofs.Common.{◌≡◌, ◌≢◌, Err, Ok, ap, subst}
use Rattle.std.specs.Prelude.{MatchResult, Some}
use Rattle.play_meaning.specs.Grounds.{telling_by}
use Rattle.play_meaning.specs.Saying.{Telling, description_in}
use Rattle.world_meaning.specs.declared.session.Abandon.TheVariants.{Memory}
use Rattle.story_format.specs.Codes.{AreCodesOf}
use Rattle.story_format.specs.Facts.{description_code_of}
use Rattle.story_format.specs.declared.tables.Tables.{Tables}
use Rattle.story_format.proofs.LoadedCodes.{loaded_told}
use Rattle.world_store.specs.StoryGames.{plain_story}
use Rattle.world_store.specs.StorySettings.{setting_of}
use Rattle.world_store.proofs.world.World.describe.Goals as goal

pub returns : goal.returns
unfolding plain_story
returns c =
    let t = c.args.self.now.tables in
    let codes = subst (λ (u : Tables). AreCodesOf u c.codes-codes.result.now) c.story.ensures c.codes-codes.ensures.codes in
    subst
    (λ (telling : Telling). MatchResult c.description.result (λ said. description_in telling c.args.now.now c.args.self.now.world (Some c.args.object) ≡ Ok said.items)
    (λ reason. reason ≢ Memory → description_in telling c.args.now.now c.args.self.now.world (Some c.args.object) ≡ Err reason))
    (ap (λ told. telling_by told (setting_of t) (description_code_of t)) (loaded_told t c.codes-codes.result.now codes)) c.description.ensures
