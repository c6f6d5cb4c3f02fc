-- Rulebooks of the author's that are named as rules of actions are, which is a name given twice.
use Rattle.std.specs.Prelude.{ℕ, Bool, List, ◌++◌, bytes_eq, codes, map, Option, None, Some, if◌then◌else◌}
use Rattle.std.specs.List.{list_any}
use Rattle.world_meaning.specs.Spelling.{lowered}
use Rattle.i7_actions.specs.declared.action.Action.{Action}
use Rattle.i7_conditions.specs.Words.{key_of}
use Rattle.i7_sentences.specs.Lowest.{lowest}
use Rattle.i7_sentences.specs.declared.sentence.Assertion.{Assertion}
use Rattle.i7_sentences.specs.declared.sentence.Assertion.TheVariants as asserts
use Rattle.i7_sentences.specs.declared.sentence.Sentence.{Sentence}

-- the names by which `follow` knows the rules of actions in one stage, in small letters
abbrev pub books_of_stage : List ℕ → List Action → List (List ℕ)
books_of_stage stage actions = map (λ action. stage ++ key_of action.name) actions

-- in all three
abbrev pub action_books : List Action → List (List ℕ)
action_books actions = (books_of_stage (codes "check ") actions ++ books_of_stage (codes "carry out ") actions) ++ books_of_stage (codes "report ") actions

abbrev pub is_action_book : List (List ℕ) → List ℕ → Bool
is_action_book names name = list_any (λ other. bytes_eq other name) names

abbrev pub book_line_at : List (List ℕ) → ℕ → Assertion → Option ℕ
book_line_at names line (asserts.Rulebook name) = if is_action_book names (lowered name.text) then Some line else None
book_line_at names line _ = None

abbrev pub book_line : List (List ℕ) → Sentence → Option ℕ
book_line names sentence = book_line_at names sentence.line sentence.said

-- the lowest line of a sentence that declares such a rulebook
abbrev pub book_twice : List Action → List Sentence → Option ℕ
book_twice actions sentences = lowest (book_line (action_books actions)) sentences
