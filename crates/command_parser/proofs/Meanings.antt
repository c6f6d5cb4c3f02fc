-- What the code computes is what a command means.
use Rattle.std.proofs.Common.{◌≡◌, ℕ, Bool, true, false, List, [], ◌∷◌, length, refl, ap, sym, ◌∙◌, arith, inl, inr}
use Rattle.std.specs.Prelude.{Option, None, Some, ◌&&◌, ◌||◌, ◌==◌, codes, filter, if◌then◌else◌}
use Rattle.std.specs.List.{list_any}
use Rattle.std.specs.Option.{option_map}
use Rattle.std.proofs.lemmas.Bool.{ne_eqb, cases_Bool}
use Rattle.world_meaning.specs.Texts.{empty_text, not_seen_text, not_understood_text}
use Rattle.play_meaning.specs.Commands.{answer, command, first_reading, has_split, is_alone, means_all, misread, or_next, read, settle, unread}
use Rattle.play_meaning.specs.Games.{ActsAll, Question, Quit, Reading, Says, Undo}
use Rattle.play_meaning.specs.Grammar.{Grammar, Line, splits}
use Rattle.command_parser.specs.Commanding.{command_by, line_begins, lines_read, read_or, unread_by, unread_text}
use Rattle.command_parser.specs.Searching.{first_filled, fits, or_later}
use Rattle.command_parser.proofs.Splits.{first_filling, fits_is, has, has_is}

-- ---- lines

read_next : (g : Grammar) (action : ℕ) (found : Option (List (List ℕ))) (more : Option Reading) (later otherwise : Reading) → later ≡ read_or more otherwise
    → or_next g action found later ≡ read_or (or_later (option_map (settle g action []) found) more) otherwise
read_next g action None more later otherwise same = same
read_next g action (Some slots) more later otherwise same = refl

-- of a line that is said of all things, or isn't
read_line : (all : Bool) (g : Grammar) (action : ℕ) (found : Option (List (List ℕ))) (more : Option Reading) (later otherwise : Reading) → later ≡ read_or more otherwise
    → (if all then ActsAll action else or_next g action found later) ≡ read_or (or_later (if all then Some (ActsAll action) else option_map (settle g action []) found) more) otherwise
read_line true g action found more later otherwise same = refl
read_line false g action found more later otherwise same = read_next g action found more later otherwise same

lines_are_read : (g : Grammar) (sees : ℕ → Bool) (words : List (List ℕ)) (lines : List Line) (otherwise : Reading) → first_reading g sees words lines otherwise ≡ read_or (lines_read g sees words lines) otherwise
unfolding first_reading
lines_are_read g sees words [] otherwise = refl
lines_are_read g sees words (line ∷ lines) otherwise =
    ap (λ found. if means_all words line then ActsAll line.action else or_next g line.action found (first_reading g sees words lines otherwise)) (first_filling g sees line words)
    ∙ read_line (means_all words line) g line.action (first_filled g sees line.tokens words) (lines_read g sees words lines) (first_reading g sees words lines otherwise) otherwise (lines_are_read g sees words lines otherwise)

-- ---- what is said where none is read

misread_by : (words : List (List ℕ)) (lines : List Line) → misread words lines ≡ unread_by (has lines) (list_any (has_split words) lines)
misread_by words [] = refl
misread_by words (line ∷ lines) = one (list_any (has_split words) (line ∷ lines))
  where
    one : (any : Bool) → (if any then not_seen_text else not_understood_text) ≡ unread_by true any
    one true = refl
    one false = refl

has_passing : (p : Line → Bool) (lines : List Line) → has (filter p lines) ≡ list_any p lines
has_passing p [] = refl
has_passing p (line ∷ lines) = elim (cases_Bool (p line)) [
  | inl is ↦ rw is refl
  | inr isnt ↦ rw isnt (has_passing p lines)
]

has_split_is : (words : List (List ℕ)) (line : Line) → has_split words line ≡ fits line.tokens words
has_split_is words line = has_is (splits line.tokens words) ∙ fits_is line.tokens words

any_passing : (p : Line → Bool) (words : List (List ℕ)) (lines : List Line) → list_any (has_split words) (filter p lines) ≡ list_any (λ line. p line && fits line.tokens words) lines
any_passing p words [] = refl
any_passing p words (line ∷ lines) = elim (cases_Bool (p line)) [
  | inl is ↦ rw is (ap (λ b. b || list_any (has_split words) (filter p lines)) (has_split_is words line) ∙ ap (λ b. fits line.tokens words || b) (any_passing p words lines))
  | inr isnt ↦ rw isnt (any_passing p words lines)
]

unread_is : (g : Grammar) (word : List ℕ) (words : List (List ℕ)) → unread g word words ≡ Says (unread_text g (word ∷ words))
unread_is g word words =
    ap Says (misread_by (word ∷ words) (filter (line_begins word) g.lines)
    ∙ ap (λ known. unread_by known (list_any (has_split (word ∷ words)) (filter (line_begins word) g.lines))) (has_passing (line_begins word) g.lines)
    ∙ ap (unread_by (list_any (line_begins word) g.lines)) (any_passing (line_begins word) (word ∷ words) g.lines))

-- ---- a command

some_words : (none : Bool) → none ≡ false → (last : Reading)
    → (if none then Says empty_text else last) ≡ last
some_words true is last = absurd cc
some_words false is last = refl

command_is : (g : Grammar) (sees : ℕ → Bool) (words : List (List ℕ)) → command g sees words ≡ command_by g sees words
unfolding command
command_is g sees [] = refl
command_is g sees (word ∷ words) =
    ap (λ (last : Reading). if is_alone (word ∷ words) (codes "undo") then Undo else if is_alone (word ∷ words) (codes "quit") || is_alone (word ∷ words) (codes "q") then Quit else last)
    (lines_are_read g sees (word ∷ words) g.lines (unread g word words) ∙ ap (read_or (lines_read g sees (word ∷ words) g.lines)) (unread_is g word words))
    ∙ sym (some_words (length (word ∷ words) == 0) (ne_eqb (length (word ∷ words)) 0 (λ none. omega (arith, none))) _)

pub read_is : (g : Grammar) (question : Option Question) (sees : ℕ → Bool) (words : List (List ℕ)) → read g question sees words ≡ answer g question words (command_by g sees words)
unfolding read
read_is g question sees words = ap (answer g question words) (command_is g sees words)

-- where no question is open
pub command_read : (g : Grammar) (sees : ℕ → Bool) (words : List (List ℕ)) → read g None sees words ≡ command_by g sees words
unfolding read answer
command_read g sees words = command_is g sees words
