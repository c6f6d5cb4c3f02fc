-- The actions of a source: those that every story has, and those that its sentences declare (*Writing with Inform*, 12.7).
use Rattle.std.specs.Prelude.{ℕ, List, [], ◌∷◌, ◌++◌, bytes_eq, fold, map, slice_get, take, Option, None, Some, option_map, if◌then◌else◌}
use Rattle.std.specs.List.{list_any}
use Rattle.object_words.specs.Mentions.{mention}
use Rattle.i7_actions.specs.Actions.{action_named, standard_actions}
use Rattle.i7_actions.specs.declared.action.Action.{Action}
use Rattle.i7_conditions.specs.Words.{key_of}
use Rattle.i7_sentences.specs.ActionDeclarations.{ActionAt, actions_declared}
use Rattle.i7_sentences.specs.Lowest.{lower_of}
use Rattle.i7_sentences.specs.declared.sentence.Sentence.{Sentence}
use Rattle.i7_resolution.specs.declared.action_list.ActionAt.{ActionAt as Lent}

abbrev pub action_of : ActionAt → Action
action_of action = action_named action.said.name action.said.needs

abbrev pub actions_with : List ActionAt → List Action
actions_with declared = standard_actions ++ map action_of declared

-- by number: the standard ones, and behind them the author's in the order of their sentences
unfoldable pub actions_in : List Sentence → List Action
actions_in sentences = actions_with (actions_declared sentences)

-- rules know the first 255; of more there are too many
abbrev pub known_actions : List Action → List Action
known_actions actions = take 255 actions

-- ---- an action whose name another has

-- names are in small letters
abbrev pub key_of_action : Action → List ℕ
key_of_action action = key_of action.name

abbrev pub name_of : ActionAt → List ℕ
name_of action = key_of action.said.name

-- the names of the standard ones, each once
unfoldable pub standard_names : List (List ℕ)
standard_names = fold mention [] (map key_of_action standard_actions)

abbrev pub named_before : List (List ℕ) → ActionAt → Option ℕ
named_before names action = if list_any (bytes_eq (name_of action)) names then Some action.line else None

-- the lowest line of an action whose name is one of these, or that of an action before it
abbrev pub twice_among : List (List ℕ) → List ActionAt → Option ℕ
twice_among names [] = None
twice_among names (action ∷ more) = lower_of (named_before names action) (twice_among (mention names (name_of action)) more)

abbrev pub action_twice : List ActionAt → Option ℕ
action_twice declared = twice_among standard_names declared

-- ---- an action that is one too many

-- so many may be an author's: with the sixteen standard ones they are 200
abbrev pub most_actions : ℕ
most_actions = 184

-- the line of the one behind so many, if there is one
abbrev pub action_over : List ActionAt → Option ℕ
action_over declared = option_map (λ action. action.line) (slice_get declared most_actions)

-- ---- as they are lent

abbrev pub action_lent : Lent → ActionAt
action_lent l = record { line = l.line; said = l.said.now }

abbrev pub actions_lent : List Lent → List ActionAt
actions_lent actions = map action_lent actions
