use Rattle.action_stages.proofs.AlikeSessions.{one_answer, one_opening}
use Rattle.source_player.proofs.Plays.{same_play}
use Rattle.story_file.specs.Compilations.{game_meant}
use Rattle.world_store.specs.StoryPlay.{game_in_play}
use Rattle.source_player.proofs.laws.compiled_stories_are_played_as_meant.Goals as goal

pub returns : goal.returns
returns c = λ source bytes compiled story spells.
    let g = game_in_play story in
    let h = game_meant compiled.tale compiled.said in
    let alike = same_play source bytes compiled story spells in
    record { opening = one_opening g h alike; answers = one_answer g h alike }
