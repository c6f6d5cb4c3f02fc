-- What a command means by its words: an open question is answered first; then the first line of the grammar that fits
-- and leaves no slot without a candidate.
use Rattle.std.specs.Prelude.{ℕ, nat_lt, Bool, true, false, ◌&&◌, ◌||◌, ◌==◌, List, [], ◌∷◌, ◌++◌, length, filter, find, map, Option, None, Some, codes, if◌then◌else◌}
use Rattle.std.specs.List.{list_all, list_any}
use Rattle.world_meaning.specs.Reading.{noun_of}
use Rattle.world_meaning.specs.Spelling.{is_spelled}
use Rattle.world_meaning.specs.Texts.{empty_text, no_verb_text, not_seen_text, not_understood_text, said}
use Rattle.play_meaning.specs.Games.{Acts, ActsAll, Asks, Question, Quit, Reading, Says, Undo}
use Rattle.play_meaning.specs.Grammar.{Direction, Grammar, Line, Something, Token, Word, are_named_alike, candidates_by, is_slot, meant_by, splits}
use Rattle.play_meaning.specs.Saying.{named}
use Rattle.play_meaning.specs.Settings.{Setting}
use Rattle.play_meaning.specs.StandardActions.{dropping, taking}
use Rattle.play_meaning.specs.Trees.{Definite}
use Rattle.play_meaning.specs.declared.action.ActionNow.{ActionNow}

-- ---- the nouns of an action

abbrev pub noun_at : List ℕ → Option ℕ
noun_at [] = None
noun_at (o ∷ objects) = Some o

abbrev pub behind_first : List ℕ → List ℕ
behind_first [] = []
behind_first (o ∷ objects) = objects

abbrev pub done_to : ℕ → List ℕ → ActionNow
done_to action nouns = record { action = action; noun = noun_at nouns; second = noun_at (behind_first nouns); silent = false }

-- behind the first of those that are listed
abbrev pub offered_on : Setting → List ℕ → List ℕ
offered_on s [] = []
offered_on s (o ∷ []) = codes " or " ++ named s Definite o
offered_on s (o ∷ next ∷ more) = codes ", " ++ named s Definite o ++ offered_on s (next ∷ more)

abbrev pub offered : Setting → List ℕ → List ℕ
offered s [] = []
offered s (o ∷ objects) = named s Definite o ++ offered_on s objects

-- `Which do you mean, the x, the y or the z?`
abbrev pub asking_text : Setting → List ℕ → List ℕ
asking_text s objects = said (codes "Which do you mean, " ++ offered s objects ++ codes "?")

-- candidates that go by the same words: the first is meant
abbrev pub is_settled : Grammar → List ℕ → Bool
is_settled g [] = true
is_settled g (o ∷ objects) = list_all (are_named_alike g o) objects

abbrev pub asks_for : Grammar → ℕ → List ℕ → List ℕ → List (List ℕ) → Reading
asks_for g action chosen objects others = Asks (record { action = action; chosen = chosen; candidates = objects; others = others }) (asking_text g.setting objects)

-- one slot behind the other: its object is settled, or asked
unfoldable pub settle : Grammar → ℕ → List ℕ → List (List ℕ) → Reading
settle g action chosen [] = Acts (done_to action chosen)
settle g action chosen ([] ∷ others) = Says not_seen_text
settle g action chosen ((o ∷ objects) ∷ others) =
    if is_settled g (o ∷ objects) then settle g action (chosen ++ o ∷ []) others else asks_for g action chosen (o ∷ objects) others

-- ---- a new command

abbrev pub is_filled : List ℕ → Bool
is_filled [] = false
is_filled (o ∷ objects) = true

abbrev pub are_filled : List (List ℕ) → Bool
are_filled slots = list_all is_filled slots

abbrev pub fillings : Grammar → (ℕ → Bool) → Line → List (List ℕ) → List (List (List ℕ))
fillings g sees line words = map (candidates_by g sees (filter is_slot line.tokens)) (splits line.tokens words)

-- ---- all

-- things can be taken and dropped all at once
abbrev pub takes_all : ℕ → Bool
takes_all action = (action == taking) || (action == dropping)

-- a slot for a thing, and no other
abbrev pub is_one_thing : List Token → Bool
is_one_thing [] = false
is_one_thing (Word spelling ∷ slots) = false
is_one_thing (Something ∷ []) = true
is_one_thing (Something ∷ slot ∷ slots) = false
is_one_thing (Direction ∷ slots) = false

abbrev pub is_all : List ℕ → Bool
is_all word = is_spelled word (codes "all") || is_spelled word (codes "everything")

abbrev pub stands_at : Token → List ℕ → Bool
stands_at (Word spelling) word = is_spelled word spelling
stands_at Something word = is_all word
stands_at Direction word = false

-- the words of a line, with `all` or `everything` in the place of a slot
abbrev pub stand_at : List Token → List (List ℕ) → Bool
stand_at [] [] = true
stand_at [] (word ∷ words) = false
stand_at (token ∷ tokens) [] = false
stand_at (token ∷ tokens) (word ∷ words) = stands_at token word && stand_at tokens words

-- a line for taking or dropping a thing, said of all things, whatever goes by that word
abbrev pub means_all : List (List ℕ) → Line → Bool
means_all words line = takes_all line.action && is_one_thing (filter is_slot line.tokens) && stand_at line.tokens words

-- ---- lines

abbrev pub or_next : Grammar → ℕ → Option (List (List ℕ)) → Reading → Reading
or_next g action None later = later
or_next g action (Some slots) later = settle g action [] slots

-- what one line makes of the words; the later ones, if it has no split that leaves no slot without a candidate
abbrev pub line_reading : Grammar → (ℕ → Bool) → List (List ℕ) → Line → Reading → Reading
line_reading g sees words line later =
    if means_all words line then ActsAll line.action else or_next g line.action (find are_filled (fillings g sees line words)) later

-- the first line with a split that leaves no slot without a candidate; of these the one with the shortest first slot
unfoldable pub first_reading : Grammar → (ℕ → Bool) → List (List ℕ) → List Line → Reading → Reading
first_reading g sees words [] otherwise = otherwise
first_reading g sees words (line ∷ lines) otherwise = line_reading g sees words line (first_reading g sees words lines otherwise)

abbrev pub begins_so : List ℕ → Token → Bool
begins_so word (Word spelling) = is_spelled word spelling
begins_so word Something = false
begins_so word Direction = false

abbrev pub begins_with : List ℕ → List Token → Bool
begins_with word [] = false
begins_with word (token ∷ tokens) = begins_so word token

abbrev pub has_split : List (List ℕ) → Line → Bool
has_split words line = nat_lt 0 (length (splits line.tokens words))

-- no line begins so; or one that does has a split, of which a slot is without a candidate; or none
abbrev pub misread : List (List ℕ) → List Line → List ℕ
misread words [] = no_verb_text
misread words (line ∷ lines) = if list_any (has_split words) (line ∷ lines) then not_seen_text else not_understood_text

abbrev pub unread : Grammar → List ℕ → List (List ℕ) → Reading
unread g word words = Says (misread (word ∷ words) (filter (λ line. begins_with word line.tokens) g.lines))

abbrev pub is_alone : List (List ℕ) → List ℕ → Bool
is_alone [] word = false
is_alone (first ∷ []) word = is_spelled first word
is_alone (first ∷ next ∷ more) word = false

unfoldable pub command : Grammar → (ℕ → Bool) → List (List ℕ) → Reading
command g sees [] = Says empty_text
command g sees (word ∷ words) =
    if is_alone (word ∷ words) (codes "undo") then Undo
    else if is_alone (word ∷ words) (codes "quit") || is_alone (word ∷ words) (codes "q") then Quit
    else first_reading g sees (word ∷ words) g.lines (unread g word words)

-- ---- an answer

abbrev pub narrowed : Grammar → Question → List ℕ → Reading → Reading
narrowed g question [] otherwise = otherwise
narrowed g question (o ∷ objects) otherwise = settle g question.action question.chosen ((o ∷ objects) ∷ question.others)

-- the candidates that go by the words of the answer; if there are none it is a new command
unfoldable pub answer : Grammar → Option Question → List (List ℕ) → Reading → Reading
answer g None words otherwise = otherwise
answer g (Some question) words otherwise = narrowed g question (meant_by g (noun_of words) question.candidates) otherwise

-- what a command means
unfoldable pub read : Grammar → Option Question → (ℕ → Bool) → List (List ℕ) → Reading
read g question sees words = answer g question words (command g sees words)
