-- What a world's story reads in a command.
use Rattle.std.specs.Prelude.{ℕ, Bool, true, false, List, [], ◌∷◌, Option}
use Rattle.play_meaning.specs.Commands.{read}
use Rattle.play_meaning.specs.Games.{Question, Reading}
use Rattle.play_meaning.specs.Seeing.{is_visible}
use Rattle.world_store.specs.StoryGrammars.{grammar_of}
use Rattle.world_store.specs.StorySettings.{setting_of}
use Rattle.world_store.specs.StoryWorlds.{StoryWorld}

-- whether a question is open or none
abbrev pub read_in : StoryWorld → Option Question → List (List ℕ) → Reading
read_in w question words = read (grammar_of w.tables) question (is_visible (setting_of w.tables) w.world) words

abbrev pub is_there : List ℕ → Bool
is_there [] = false
is_there (o ∷ objects) = true
