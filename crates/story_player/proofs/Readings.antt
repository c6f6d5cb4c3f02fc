-- What is read in a command is what the story's game means by it.
use Rattle.std.proofs.Common.{◌≡◌, ◌∙◌, ap, sym, subst, ℕ, true, false, List, [], ◌∷◌, length}
use Rattle.std.specs.Prelude.{◌==◌, Option, if◌then◌else◌}
use Rattle.command_parser.specs.Settling.{is_asking}
use Rattle.play_meaning.specs.CodedStories.{game_of_codes}
use Rattle.play_meaning.specs.Games.{Acts, ActsAll, Asks, Game, Question, Quit, Reading, Says, Undo}
use Rattle.play_meaning.specs.AllThings.{all_things}
use Rattle.play_meaning.specs.Progress.{fresh}
use Rattle.play_meaning.specs.Sessions.{Answer, State, abandoned, goes_on_behind, keep, meant, meant_among, played, read_answer, unless_none}
use Rattle.play_meaning.specs.Turns.{turn_upon}
use Rattle.play_meaning.specs.Settings.{Setting}
use Rattle.play_meaning.specs.Worlds.{World}
use Rattle.story_format.specs.declared.tables.Tables.{Tables}
use Rattle.world_meaning.specs.declared.session.Abandon.TheVariants.{Memory}
use Rattle.world_store.specs.StoryPlay.{coded_story, game_in_play}
use Rattle.world_store.specs.StorySettings.{setting_of}
use Rattle.world_store.specs.StoryWorlds.{StoryWorld}
use Rattle.story_player.specs.Given.{IsGiven, said_behind, so_far}
use Rattle.story_player.specs.Meant.{read_in}
use Rattle.story_player.specs.Refusals.{is_refusal}
use Rattle.story_player.specs.Turns.{deed_answer}
use Rattle.story_player.specs.declared.deed.Deed.TheVariants as deed
use Rattle.world_meaning.specs.declared.session.ReplyKind.TheVariants.{Kept}
use Rattle.story_player.specs.declared.commands.Given.{Given}

-- in a world that is the state's
pub meant_so : (w : StoryWorld) (s : State) (question : Option Question) (words : List (List ℕ)) → question ≡ s.question → w.world ≡ s.world
    → meant_among (setting_of w.tables) s.world (read_in w question words) ≡ meant (game_in_play w.tables) s words
unfolding game_of_codes coded_story
meant_so w s question words asked same = λ i. meant_among (setting_of w.tables) s.world (read_in (record w { world = same i }) (asked i) words)

-- a question of which memory was refused is not asked
pub not_asked : (g : Game) (setting : Setting) (w : World) (s to : State) (reading : Reading) (before after : List ℕ) (given : Given) → is_asking reading ≡ true
    → so_far after given.kind to ≡ said_behind before (abandoned Memory s) → given.goes_on ≡ false → IsGiven g (meant_among setting w reading) s to before after given
not_asked g setting w s to (Says text) before after given asks answer off = absurd cc
not_asked g setting w s to (Asks question text) before after given asks answer off = record {
  answer = answer ∙ ap (λ kind. said_behind before (read_answer g (is_refusal kind) s (Asks question text))) (sym (ap (λ (a : Answer). a.kind) answer));
  goes_on = off;
}
not_asked g setting w s to (Acts now) before after given asks answer off = absurd cc
not_asked g setting w s to (ActsAll action) before after given asks answer off = absurd cc
not_asked g setting w s to Undo before after given asks answer off = absurd cc
not_asked g setting w s to Quit before after given asks answer off = absurd cc

-- a turn of an action on all the things that are meant, which are some
pub acts_on_all : (t : Tables) (s to : State) (action : ℕ) (things : List ℕ) (before after : List ℕ) (given : Given) → things ≡ all_things (setting_of t) s.world action
    → (length things == 0) ≡ false → so_far after given.kind to ≡ said_behind before (deed_answer (deed.TurnUpon action things) (game_in_play t) (is_refusal given.kind) s)
    → given.goes_on ≡ goes_on_behind given.kind → IsGiven (game_in_play t) (unless_none action (all_things (setting_of t) s.world action)) s to before after given
unfolding game_of_codes coded_story
acts_on_all t s to action [] before after given is some answer on = absurd cc
acts_on_all t s to action (o ∷ things) before after given is some answer on =
    subst (λ (objects : List ℕ). IsGiven (game_in_play t) (unless_none action objects) s to before after given) is
    (record {
      answer = answer
          ∙ ap (λ objects. said_behind before (if is_refusal given.kind then abandoned Memory s else played Kept (keep s.world s.kept) s (turn_upon (game_in_play t) action objects (fresh s.world)))) is;
      goes_on = on;
    })
