use Rattle.std.proofs.Common.{◌≡◌, subst, ◌∙◌, ap, List, ℕ}
use Rattle.std.specs.Prelude.{MatchResult, OnErr}
use Rattle.play_meaning.specs.Progress.{fresh}
use Rattle.play_meaning.specs.Sessions.{abandon_text, parted_by_break}
use Rattle.play_meaning.specs.Turns.{opening}
use Rattle.action_stages.specs.Answering.{Breaks}
use Rattle.world_store.specs.StoryPlay.{game_in_play}
use Rattle.story_player.specs.LineTexts.{LineText}
use Rattle.story_player.specs.Turns.{IsToldBehind}
use Rattle.story_player.proofs.Answering.{begun, not_begun, told_first}
use Rattle.story_player.proofs.trial.opened.Goals as goal

pub returns-in-Ok-told-clause-begun : goal.returns-in-Ok-told-clause-begun
returns-in-Ok-told-clause-begun g c =
    let now = c.tried-world.result.0 in
    let attempt = opening (game_in_play c.as_ref.result.now) (fresh c.in-Ok.world.world) in
    let before = c.new-text.result.said in
    let after = c.tried-world.new.text.said in
    let told = subst (λ r. MatchResult r (λ done. IsToldBehind attempt now.world before after) (Breaks attempt)) c.in-Ok-told.is c.tried-world.ensures.told in
    begun c.args.story.now.value c.as_ref.result.now c.in-Ok.world now after c.as_ref.ensures c.in-Ok.ensures c.tried-world.ensures.story
    (told_first attempt now.world before after (ap (λ (t : LineText). t.said) c.new-text.ensures) told)

pub returns-in_ok-say_unopened-in-Err-clause-begun : goal.returns-in_ok-say_unopened-in-Err-clause-begun
returns-in_ok-say_unopened-in-Err-clause-begun g c =
    let now = c.tried-world.result.0 in
    let attempt = opening (game_in_play c.as_ref.result.now) (fresh c.in-Ok.world.world) in
    let before = c.new-text.result.said in
    let after = c.tried-world.new.text.said in
    let broke = subst (λ r. MatchResult r (λ done. IsToldBehind attempt now.world before after) (Breaks attempt)) c.in-Err.is c.tried-world.ensures.told in
    let same = subst (λ r. OnErr r (now ≡ c.in-Ok.world)) c.in-Err.is c.tried-world.ensures.left in
    let empty = ap (λ (t : LineText). t.said) (subst (λ r. OnErr r (c.tried-world.new.text ≡ c.new-text.result)) c.in-Err.is c.tried-world.ensures.same ∙ c.new-text.ensures) in
    not_begun c.args.story.now.value c.as_ref.result.now c.in-Ok.world now c.say_unopened.new.text.said c.in-Err.reason c.as_ref.ensures c.in-Ok.ensures
    (same ∙ c.in-Ok.ensures) (c.in_ok-say_unopened-in-Err.ensures.said ∙ ap (λ (before : List ℕ). parted_by_break before (abandon_text c.in-Err.reason)) empty)
    c.in_ok-say_unopened-in-Err.ensures.known broke
