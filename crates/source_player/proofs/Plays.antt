-- Playing the story that a source is compiled to is playing the source.
use Rattle.std.proofs.Common.{◌≡◌, ℕ, Bool, List, Ok, Err, Option, subst, sym, ◌∙◌}
use Rattle.std.specs.Prelude.{Result, IfErr, IfOk}
use Rattle.story_player.specs.Runs.{BrokeOff, streams_of, most_input}
use Rattle.story_player.specs.declared.fault.RunFault.{RunFault}
use Rattle.world_meaning.specs.declared.session.Ending.{Ending}
use Rattle.play_meaning.specs.Games.{Game}
use Rattle.play_meaning.specs.Sessions.{State, opened}
use Rattle.story_format.proofs.ReadingLemmas.{not_refused, same_story}
use Rattle.story_format.specs.Refusals.{IsRefused as IsNoStory}
use Rattle.story_format.specs.declared.fault.LoadFault.{LoadFault}
use Rattle.story_format.specs.declared.fault.LoadFault.TheVariants.{Memory}
use Rattle.story_format.specs.Making.{tables_of}
use Rattle.story_format.specs.Spells.{Spells}
use Rattle.story_format.specs.declared.tables.Tables.{Tables}
use Rattle.story_file.specs.Compilations.{IsCompiled, game_meant}
use Rattle.story_file.proofs.Held.{tale_kept}
use Rattle.story_file.proofs.Ranges.{says_ranged}
use Rattle.action_stages.proofs.TaleGames.{played_alike}
use Rattle.action_stages.specs.Alike.{ArePlayedAlike}
use Rattle.world_store.specs.StoryPlay.{game_in_play}
use Rattle.source_player.proofs.AlikeRuns.{broken_game_alike, game_alike}
use Rattle.source_player.specs.SourceRuns.{BrokeOffGame, LeavesSource, LeavesStory, PlayedSource, PlayedStory}
use Rattle.source_player.specs.declared.source_run.SourceRunFault.{SourceRunFault}
use Rattle.source_player.specs.declared.source_run.SourceRunFault.TheVariants.{Source, Story, Start, Run}

-- the story's game is played as the tale's
pub same_play : (source bytes : List ℕ) (compiled : IsCompiled source bytes) (story : Tables) → Spells bytes story → ArePlayedAlike (game_in_play story) (game_meant compiled.tale compiled.said)
same_play source bytes compiled story spells =
    let same : story ≡ tables_of compiled.tale compiled.said = same_story bytes story compiled.tables spells compiled.spells ∙ compiled.tables_are in
    let kept = tale_kept compiled.means.sentences compiled.tale (says_ranged source compiled.means.sentences compiled.means.says) compiled.means.meant.tale_is compiled.means.meant.short in
    subst (λ (t : Tables). ArePlayedAlike (game_in_play t) (game_meant compiled.tale compiled.said)) (sym same) (played_alike compiled.tale compiled.said kept.held compiled.held)

pub played_source : (source bytes : List ℕ) (echo : Bool) (unread rest held now : Option (List ℕ)) (result : Result Ending SourceRunFault) → IsCompiled source bytes → IfOk result (PlayedStory bytes echo (streams_of unread held) (streams_of rest now)) → IfOk result (PlayedSource source echo (streams_of unread held) (streams_of rest now))
played_source source bytes echo unread rest held now (Err fault) compiled played = tt
played_source source bytes echo unread rest held now (Ok ending) compiled played = record {
  tale = compiled.tale;
  said = compiled.said;
  means = compiled.means;
  held = compiled.held;
  played = game_alike (game_in_play played.story) (game_meant compiled.tale compiled.said) (same_play source bytes compiled played.story played.spells) echo (streams_of unread held) (streams_of rest now) ending played.played;
}

-- what was compiled is a story: of its faults only memory is left
pub story_fault : (source bytes : List ℕ) (fault : LoadFault) → IsCompiled source bytes → IsNoStory fault bytes → fault ≡ Memory
story_fault source bytes fault compiled refused = not_refused bytes compiled.tables fault compiled.spells refused

pub left_source : (stored : ℕ) (source bytes : List ℕ) (echo : Bool) (unread rest held now : Option (List ℕ)) (result : Result Ending SourceRunFault) → IsCompiled source bytes → IfErr result (λ fault. LeavesStory fault stored bytes echo (streams_of unread held) (streams_of rest now)) → IfErr result (λ fault. LeavesSource fault stored source echo (streams_of unread held) (streams_of rest now))
left_source stored source bytes echo unread rest held now (Ok ending) compiled left = tt
left_source stored source bytes echo unread rest held now (Err (Source fault)) compiled left = absurd left
left_source stored source bytes echo unread rest held now (Err (Story fault)) compiled left = (story_fault source bytes fault compiled left, record { tale = compiled.tale; said = compiled.said; means = compiled.means; held = compiled.held })
left_source stored source bytes echo unread rest held now (Err (Start fault)) compiled left = (left.0, record { tale = compiled.tale; said = compiled.said; means = compiled.means; held = compiled.held })
left_source stored source bytes echo unread rest held now (Err (Run fault)) compiled left = (
  left.0,
  record {
    tale = compiled.tale;
    said = compiled.said;
    means = compiled.means;
    held = compiled.held;
    broke = broken_game_alike (game_in_play left.1.story) (game_meant compiled.tale compiled.said) (same_play source bytes compiled left.1.story left.1.spells) fault echo (streams_of unread held) (streams_of rest now) left.1.broke;
  },
)

-- the run of a story that was begun broke off
pub broke_game : (fault : RunFault) (g h : Game) (echo : Bool) (unread rest held now : Option (List ℕ)) (from to : State) → g ≡ h → from ≡ (opened h).state → BrokeOff fault g echo (opened g).text most_input (streams_of unread held) (streams_of rest now) from to → BrokeOffGame fault h echo (streams_of unread held) (streams_of rest now)
broke_game fault g h echo unread rest held now from to same begun broke = record {
  last = to;
  broke = subst (λ x. BrokeOff fault x echo (opened x).text most_input (streams_of unread held) (streams_of rest now) (opened h).state to) same
      (subst (λ state. BrokeOff fault g echo (opened g).text most_input (streams_of unread held) (streams_of rest now) state to) begun broke);
}
