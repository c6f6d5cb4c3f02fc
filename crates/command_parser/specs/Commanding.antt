-- What the lines of a grammar make of a command, from the first on.
use Rattle.std.specs.Prelude.{ℕ, Bool, true, false, ◌&&◌, ◌||◌, ◌==◌, List, [], ◌∷◌, Option, None, Some, codes, length, if◌then◌else◌}
use Rattle.std.specs.List.{list_any}
use Rattle.std.specs.Option.{option_map}
use Rattle.world_meaning.specs.Texts.{empty_text, no_verb_text, not_seen_text, not_understood_text}
use Rattle.play_meaning.specs.Commands.{answer, begins_with, done_to, is_alone, means_all, settle}
use Rattle.play_meaning.specs.Games.{ActsAll, Question, Quit, Reading, Says, Undo}
use Rattle.play_meaning.specs.Grammar.{Grammar, Line}
use Rattle.command_parser.specs.Searching.{first_filled, fits, or_later}
use Rattle.command_parser.specs.Settling.{comes_to, is_asking}
use Rattle.command_parser.specs.declared.filling.Outcome.{Outcome}

-- what a line is read as, if its slots can be filled
abbrev pub filled_read : Grammar → (ℕ → Bool) → List (List ℕ) → Line → Option Reading
filled_read g sees words line = option_map (settle g line.action []) (first_filled g sees line.tokens words)

-- what its slots come to
abbrev pub line_outcome : Grammar → (ℕ → Bool) → List (List ℕ) → Line → Option Outcome
line_outcome g sees words line = comes_to g (done_to line.action []) (first_filled g sees line.tokens words)

-- what a line is read as, if it is
abbrev pub line_read : Grammar → (ℕ → Bool) → List (List ℕ) → Line → Option Reading
line_read g sees words line = if means_all words line then Some (ActsAll line.action) else filled_read g sees words line

-- the first that is
abbrev pub lines_read : Grammar → (ℕ → Bool) → List (List ℕ) → List Line → Option Reading
lines_read g sees words [] = None
lines_read g sees words (line ∷ lines) = or_later (line_read g sees words line) (lines_read g sees words lines)

-- a question, if anything
abbrev pub asks_if : Option Reading → Bool
asks_if None = false
asks_if (Some reading) = is_asking reading

abbrev pub read_or : Option Reading → Reading → Reading
read_or None otherwise = otherwise
read_or (Some reading) otherwise = reading

-- ---- a command that no line reads

abbrev pub line_begins : List ℕ → Line → Bool
line_begins verb line = begins_with verb line.tokens

-- a line that begins so has a way to part the words
abbrev pub line_fits : List ℕ → List (List ℕ) → Line → Bool
line_fits verb words line = line_begins verb line && fits line.tokens words

abbrev pub unread_by : Bool → Bool → List ℕ
unread_by false fitting = no_verb_text
unread_by true true = not_seen_text
unread_by true false = not_understood_text

abbrev pub unread_text : Grammar → List (List ℕ) → List ℕ
unread_text g [] = no_verb_text
unread_text g (verb ∷ words) = unread_by (list_any (line_begins verb) g.lines) (list_any (line_fits verb (verb ∷ words)) g.lines)

-- ---- a command

-- what the first line that is read makes of it, else what is said
abbrev pub line_command : Grammar → (ℕ → Bool) → List (List ℕ) → Reading
line_command g sees words = read_or (lines_read g sees words g.lines) (Says (unread_text g words))

abbrev pub command_by : Grammar → (ℕ → Bool) → List (List ℕ) → Reading
command_by g sees words =
    if length words == 0 then Says empty_text
    else if is_alone words (codes "undo") then Undo
    else if is_alone words (codes "quit") || is_alone words (codes "q") then Quit
    else line_command g sees words

-- and what it means while this question is open
abbrev pub answer_by : Grammar → (ℕ → Bool) → Question → List (List ℕ) → Reading
answer_by g sees question words = answer g (Some question) words (command_by g sees words)
