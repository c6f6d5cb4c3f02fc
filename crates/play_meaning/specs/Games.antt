-- A game: what a story gives to play, whether it is told by a tale's sentences or by the tables of a story file.
use Rattle.std.specs.Prelude.{ℕ, Bool, List, Option}
use Rattle.play_meaning.specs.Attempts.{Attempt}
use Rattle.play_meaning.specs.Doing.{Inner}
use Rattle.play_meaning.specs.Progress.{Done, Progress}
use Rattle.play_meaning.specs.Saying.{Telling}
use Rattle.play_meaning.specs.Worlds.{World}
use Rattle.play_meaning.specs.declared.action.ActionNow.{ActionNow}
use Rattle.world_meaning.specs.declared.needs.Needs.{Needs}

-- what is asked where a phrase of a command means several things: the nouns that are chosen, those of which one is
-- meant, and those that the slots behind it may mean
pub record Question : Type 0 where
  pub action : ℕ
  pub chosen : List ℕ
  pub candidates : List ℕ
  pub others : List (List ℕ)

-- what a command means
pub data Reading : Type 0 where
  -- nothing that can be done: this is said
  Says : List ℕ → Reading
  Asks : Question → List ℕ → Reading
  Acts : ActionNow → Reading
  -- an action on all the things that it may be meant for
  ActsAll : ℕ → Reading
  Undo : Reading
  Quit : Reading

pub record Game : Type 0 where
  pub start : World
  pub telling : Telling
  -- the rules of a rulebook, by their numbers, in the order in which they are asked
  pub books : ℕ → List ℕ
  -- what an action asks for
  pub needs : ℕ → Needs
  -- whether what a rule is about is there, and whether its condition holds
  pub is_about : ℕ → ActionNow → World → Bool
  pub holds : ℕ → ActionNow → World → Attempt Bool
  -- what a rule's body does
  pub body : ℕ → Inner → ActionNow → Progress → Attempt Done
  -- of each scene, whether it recurs; and whether it begins and ends
  pub scenes : List Bool
  pub begins : ℕ → World → Attempt Bool
  pub ends : ℕ → World → Attempt Bool
  -- what a command means by its words, where a question is open or none, and these objects are visible
  pub reads : Option Question → (ℕ → Bool) → List (List ℕ) → Reading
