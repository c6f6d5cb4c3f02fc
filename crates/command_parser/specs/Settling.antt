-- What the candidates of slots, one behind the other, come to: an action, or a question, whose lists come later.
use Rattle.std.specs.Prelude.{ℕ, Bool, true, false, List, [], ◌∷◌, ◌++◌, Option, None, Some, filter}
use Rattle.std.specs.Option.{option_map}
use Rattle.play_meaning.specs.Commands.{asks_for, settle}
use Rattle.play_meaning.specs.Games.{Acts as ActsSo, ActsAll as ActsAllSo, Asks as AsksSo, Question, Quit as QuitSo, Reading, Says, Undo as UndoSo}
use Rattle.play_meaning.specs.Grammar.{Grammar}
use Rattle.play_meaning.specs.declared.action.ActionNow.{ActionNow}
use Rattle.world_meaning.specs.Texts.{not_seen_text}
use Rattle.command_parser.specs.Fillings.{filling_of, is_meant}
use Rattle.command_parser.specs.declared.filling.Filling.{Filling}
use Rattle.command_parser.specs.declared.filling.Filling.TheVariants.{Empty, Open, Settled}
use Rattle.command_parser.specs.declared.filling.Outcome.{Outcome}
use Rattle.command_parser.specs.declared.filling.Outcome.TheVariants.{Acts, Asks, NotSeen}

-- ---- an action with one noun more: its first, its second or none of its own

abbrev pub next_noun : Option ℕ → ℕ → Option ℕ
next_noun None o = Some o
next_noun (Some noun) o = Some noun

abbrev pub next_second : Option ℕ → Option ℕ → ℕ → Option ℕ
next_second None second o = second
next_second (Some noun) None o = Some o
next_second (Some noun) (Some second) o = Some second

abbrev pub with_noun : ActionNow → ℕ → ActionNow
with_noun now o = record { action = now.action; noun = next_noun now.noun o; second = next_second now.noun now.second o; silent = now.silent }

-- ---- outcomes

abbrev pub settled_by : Filling → ActionNow → (ActionNow → Outcome) → Outcome
settled_by Empty now behind = NotSeen
settled_by (Settled o) now behind = behind (with_noun now o)
settled_by Open now behind = Asks

-- the slots of an action that has these nouns so far
abbrev pub outcome_of : Grammar → ActionNow → List (List ℕ) → Outcome
outcome_of g now [] = Acts now
outcome_of g now (slot ∷ slots) = settled_by (filling_of g slot) now (λ next. outcome_of g next slots)

-- what they come to, if the slots can be filled
abbrev pub comes_to : Grammar → ActionNow → Option (List (List ℕ)) → Option Outcome
comes_to g now slots = option_map (outcome_of g now) slots

-- where not all candidates of a slot are named alike, it is asked which is meant, whatever the slots behind it come to
abbrev pub asks_unless : Bool → Outcome → Outcome
asks_unless true later = later
asks_unless false later = Asks

-- what is read, where a question's lists are told
abbrev pub reading_by : Outcome → Reading → Reading
reading_by (Acts now) asked = ActsSo now
reading_by NotSeen asked = Says not_seen_text
reading_by Asks asked = asked

abbrev pub is_question : Outcome → Bool
is_question (Acts now) = false
is_question NotSeen = false
is_question Asks = true

abbrev pub is_asking : Reading → Bool
is_asking (Says text) = false
is_asking (AsksSo question text) = true
is_asking (ActsSo now) = false
is_asking (ActsAllSo action) = false
is_asking UndoSo = false
is_asking QuitSo = false

-- what a slot's candidates come to, in front of those of the slots behind it
abbrev pub settled_as : Grammar → ℕ → List ℕ → List ℕ → List (List ℕ) → Filling → Reading
settled_as g action chosen slot others Empty = Says not_seen_text
settled_as g action chosen slot others (Settled o) = settle g action (chosen ++ o ∷ []) others
settled_as g action chosen slot others Open = asks_for g action chosen slot others

-- what a question means whose candidates are those that go by the words of this noun
abbrev pub narrowed_to : Grammar → Question → List (List ℕ) → Reading
narrowed_to g question noun = settle g question.action question.chosen (filter (is_meant g noun) question.candidates ∷ question.others)
