-- What the words behind `as` mean: an action by its name, or else an object.
use Rattle.std.specs.Prelude.{ℕ, ◌+◌, nat_lt, List, [], ◌∷◌, codes, length, Option, Some, None, if◌then◌else◌}
use Rattle.std.specs.Option.{option_or}
use Rattle.world_meaning.specs.Spelling.{is_spelled}
use Rattle.world_meaning.specs.declared.tale.Object.{Object}
use Rattle.i7_actions.specs.Parts.{is_name}
use Rattle.i7_actions.specs.declared.action.Action.{Action}
use Rattle.i7_conditions.specs.Meanings.{Meanings}
use Rattle.i7_conditions.specs.Words.{Word, key_of, without_article}
use Rattle.i7_conditions.specs.declared.meaning.Meaning.{Meaning}
use Rattle.i7_conditions.specs.declared.meaning.Meaning.TheVariants as meaning
use Rattle.i7_grammar.specs.declared.target.Target.{Target}
use Rattle.i7_grammar.specs.declared.target.Target.TheVariants as target

-- what there is: names, actions by number, and objects by number
pub record Known : Type 0 where
  pub meanings : Meanings
  pub actions : List Action
  pub objects : List Object

-- the first of the actions that has this name, where they are numbered from n
abbrev pub action_from : ℕ → List Action → List Word → Option Target
action_from n [] words = None
action_from n (action ∷ actions) words = if is_name action.name words then Some (target.Action n action.nouns) else action_from (n + 1) actions words

-- the object that a name stands for
abbrev pub object_meant : Option Meaning → Option ℕ
object_meant (Some (meaning.Object o)) = Some o
object_meant _ = None

abbrev pub player_by : List ℕ → Option ℕ
player_by key = if is_spelled key (codes "player") then Some 0 else None

-- the object of this name
abbrev pub object_by : Meanings → List ℕ → Option ℕ
object_by meanings key = option_or (object_meant (meanings key)) (player_by key)

-- one of so many
abbrev pub object_of : ℕ → Option ℕ → Option Target
object_of count None = None
object_of count (Some o) = if nat_lt o count then Some (target.Object o) else None

-- an action's name has no article, and one in front of an object's is free
unfoldable pub target_of : Known → List Word → Option Target
target_of k words = option_or (action_from 0 k.actions words) (object_of (length k.objects) (object_by k.meanings (key_of (without_article words))))
