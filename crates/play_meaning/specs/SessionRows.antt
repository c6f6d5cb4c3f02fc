-- Small stories about scenes, endings, undo and texts.
use Rattle.std.specs.Prelude.{Bool, List, None, Some, [], codes, false, pos, replicate, true, ℕ, ◌∷◌}
use Rattle.play_meaning.specs.Settings.{described_flag, thing_kind}
use Rattle.world_meaning.specs.declared.article.Article.TheVariants as article
use Rattle.play_meaning.specs.ActionRows.{one_more}
use Rattle.play_meaning.specs.Consulting.{carry_out_book, every_turn_book, instead_book, play_begins_book}
use Rattle.play_meaning.specs.Grammar.{Word}
use Rattle.play_meaning.specs.Rows.{blank, in_hall, item, rule_of, says}
use Rattle.play_meaning.specs.Rules.{Anything, Rule}
use Rattle.play_meaning.specs.Sketches.{Sketch}
use Rattle.play_meaning.specs.StandardActions.{jumping}
use Rattle.play_meaning.specs.StandardRules.{line, only, plain}
use Rattle.play_meaning.specs.Trees.{Body, Bytes, Condition, End, EndStory, Equals, Figure, Happens, IfSaid, IsAtMost, Literal, NowVariable, Number, Phrase, Plus, Repeat, Say, Silence, Text, Then, Those, Variable}
use Rattle.world_meaning.specs.declared.needs.Needs.{Needs}
use Rattle.world_meaning.specs.declared.needs.Slot.TheVariants.{Absent}

abbrev pub score : Number
score = Variable 0

abbrev pub with_score : ℕ → List Rule → Sketch
with_score start rules = record (in_hall [] rules) { variables = pos start ∷ [] }

-- a rule of a book outside actions
abbrev pub rule_in : ℕ → Body → Rule
rule_in book body = rule_of book None Anything Anything None body

abbrev pub is_at_least : ℕ → Condition
is_at_least n = IsAtMost (Literal (pos n)) score

-- a storm that begins with a score of 1 and ends with 2, and these rules
abbrev pub storm_and : Bool → List Rule → Sketch
storm_and recurs rules = record (with_score 0
    (rule_in every_turn_book (one_more 0 End) ∷ rule_in 8 (says (codes "Thunder.")) ∷ rule_in 9 (says (codes "Calm.")) ∷ rules)) {
      scenes = record { recurs = recurs; begins = Some (is_at_least 1); ends = Some (is_at_least 2) } ∷ [];
    }

unfoldable pub one_storm : Sketch
one_storm = storm_and false []

unfoldable pub storms : Sketch
storms = storm_and true []

-- instead of jumping during the storm
unfoldable pub wet_jumping : Sketch
wet_jumping = storm_and false (record (rule_of instead_book (Some jumping) Anything Anything None (says (codes "Wet."))) { scene = Some 0 } ∷ [])

-- the same by the rule's condition
unfoldable pub wet_while_happening : Sketch
wet_while_happening = storm_and false (rule_of instead_book (Some jumping) Anything Anything (Some (Happens 0)) (says (codes "Wet.")) ∷ [])

unfoldable pub winning : Sketch
winning = in_hall [] (rule_of instead_book (Some jumping) Anything Anything None (only (EndStory (codes "You have won"))) ∷ [])

unfoldable pub over_at_once : Sketch
over_at_once = in_hall [] (rule_in play_begins_book (only (EndStory (codes "The End"))) ∷ [])

unfoldable pub empty_hall : Sketch
empty_hall = in_hall [] []

abbrev pub out_of_world : Needs
out_of_world = record { noun = Absent; second = Absent; light = false; out_of_world = true }

-- scoring is an action out of world, and jumping says the score
unfoldable pub scoring : Sketch
scoring = record (with_score 0
    (rule_of carry_out_book (Some 16) Anything Anything None (one_more 0 End)
    ∷ rule_of instead_book (Some jumping) Anything Anything None (only (Say (Figure score (line (codes "."))))) ∷ [])) {
      actions = out_of_world ∷ [];
      lines = record { action = 16; tokens = Word (codes "score") ∷ [] } ∷ [];
    }

-- what is said every turn
abbrev pub every_turn : ℕ → Body → Sketch
every_turn start body = with_score start (rule_in every_turn_book body ∷ [])

abbrev pub zero_or_more : Text
zero_or_more = Figure (Plus score (Literal (pos 2))) (Bytes (codes ", ") (IfSaid (Equals score (Literal (pos 0))) (plain (codes "zero")) (plain (codes "more")) (line (codes "."))))

unfoldable pub sums_and_choices : Sketch
sums_and_choices = every_turn 0 (only (Say zero_or_more))

unfoldable pub past_the_top : Sketch
past_the_top = every_turn 0 (Then (NowVariable 0 (Literal (pos 2147483647))) (one_more 0 End))

-- a text without a full stop: the reply ends with a line break all the same
unfoldable pub without_stop : Sketch
without_stop = every_turn 0 (only (Say (plain (codes "\"Isn't it?\" 'x'"))))

-- two repeats over ninety-nine tokens, one in the other, and one more: with the rule itself 10,000 units of work
abbrev pub say_nothing : Phrase
say_nothing = Say Silence

abbrev pub each_token : Body → Phrase
each_token body = Repeat (Those [] (Some 10)) body

abbrev pub all_the_work : Rule
all_the_work = rule_of instead_book (Some jumping) Anything Anything None
    (Then (each_token (Then say_nothing (only (each_token (only say_nothing))))) (Then (each_token (only say_nothing)) (says (codes "Done."))))

abbrev pub with_tokens : List Rule → Sketch
with_tokens rules = record (in_hall (replicate 99 (item 10 (codes "token") article.A None (described_flag ∷ []))) rules) { kinds = Some thing_kind ∷ [] }

unfoldable pub enough_work : Sketch
enough_work = with_tokens (all_the_work ∷ [])

unfoldable pub too_much_work : Sketch
too_much_work = with_tokens (all_the_work ∷ rule_in every_turn_book (only say_nothing) ∷ [])

-- ---- what is shown

unfoldable pub one_storm_shown : List (List ℕ)
one_storm_shown =
    codes "Hall" ∷ blank
    ∷ codes ">z" ∷ codes "Time passes." ∷ codes "Thunder." ∷ blank
    ∷ codes ">z" ∷ codes "Time passes." ∷ codes "Calm." ∷ blank
    ∷ codes ">z" ∷ codes "Time passes." ∷ blank ∷ codes ">" ∷ []

unfoldable pub storms_shown : List (List ℕ)
storms_shown =
    codes "Hall" ∷ blank
    ∷ codes ">z" ∷ codes "Time passes." ∷ codes "Thunder." ∷ blank
    ∷ codes ">z" ∷ codes "Time passes." ∷ codes "Calm." ∷ codes "Thunder." ∷ blank
    ∷ codes ">z" ∷ codes "Time passes." ∷ codes "Calm." ∷ codes "Thunder." ∷ codes "Calm." ∷ codes "Thunder." ∷ blank ∷ codes ">" ∷ []

unfoldable pub wet_jumping_shown : List (List ℕ)
wet_jumping_shown =
    codes "Hall" ∷ blank
    ∷ codes ">jump" ∷ codes "You jump on the spot." ∷ codes "Thunder." ∷ blank
    ∷ codes ">jump" ∷ codes "Wet." ∷ codes "Calm." ∷ blank
    ∷ codes ">jump" ∷ codes "You jump on the spot." ∷ blank ∷ codes ">" ∷ []

unfoldable pub winning_shown : List (List ℕ)
winning_shown =
    codes "Hall" ∷ blank
    ∷ codes ">jump" ∷ blank ∷ codes "*** You have won ***" ∷ blank ∷ []

unfoldable pub over_at_once_shown : List (List ℕ)
over_at_once_shown =
    blank ∷ codes "*** The End ***" ∷ blank ∷ []

unfoldable pub empty_hall_shown : List (List ℕ)
empty_hall_shown =
    codes "Hall" ∷ blank
    ∷ codes ">z" ∷ codes "Time passes." ∷ blank
    ∷ codes ">z" ∷ codes "Time passes." ∷ blank
    ∷ codes ">z" ∷ codes "Time passes." ∷ blank
    ∷ codes ">z" ∷ codes "Time passes." ∷ blank
    ∷ codes ">z" ∷ codes "Time passes." ∷ blank
    ∷ codes ">z" ∷ codes "Time passes." ∷ blank
    ∷ codes ">z" ∷ codes "Time passes." ∷ blank
    ∷ codes ">z" ∷ codes "Time passes." ∷ blank
    ∷ codes ">z" ∷ codes "Time passes." ∷ blank
    ∷ codes ">undo" ∷ codes "Previous turn undone." ∷ blank
    ∷ codes ">undo" ∷ codes "Previous turn undone." ∷ blank
    ∷ codes ">undo" ∷ codes "Previous turn undone." ∷ blank
    ∷ codes ">undo" ∷ codes "Previous turn undone." ∷ blank
    ∷ codes ">undo" ∷ codes "Previous turn undone." ∷ blank
    ∷ codes ">undo" ∷ codes "Previous turn undone." ∷ blank
    ∷ codes ">undo" ∷ codes "Previous turn undone." ∷ blank
    ∷ codes ">undo" ∷ codes "Previous turn undone." ∷ blank
    ∷ codes ">undo" ∷ codes "You can't undo any further." ∷ blank ∷ codes ">" ∷ []

unfoldable pub scoring_shown : List (List ℕ)
scoring_shown =
    codes "Hall" ∷ blank
    ∷ codes ">jump" ∷ codes "0." ∷ blank
    ∷ codes ">score" ∷ blank
    ∷ codes ">jump" ∷ codes "1." ∷ blank
    ∷ codes ">undo" ∷ codes "Previous turn undone." ∷ blank
    ∷ codes ">jump" ∷ codes "1." ∷ blank
    ∷ codes ">undo" ∷ codes "Previous turn undone." ∷ blank
    ∷ codes ">undo" ∷ codes "Previous turn undone." ∷ blank
    ∷ codes ">jump" ∷ codes "0." ∷ blank ∷ codes ">" ∷ []

unfoldable pub sums_and_choices_shown : List (List ℕ)
sums_and_choices_shown =
    codes "Hall" ∷ blank
    ∷ codes ">z" ∷ codes "Time passes." ∷ codes "2, zero." ∷ blank ∷ codes ">" ∷ []

unfoldable pub past_the_top_shown : List (List ℕ)
past_the_top_shown =
    codes "Hall" ∷ blank
    ∷ codes ">z" ∷ codes "[The turn was abandoned: number out of range.]" ∷ blank ∷ codes ">" ∷ []

unfoldable pub without_stop_shown : List (List ℕ)
without_stop_shown =
    codes "Hall" ∷ blank
    ∷ codes ">z" ∷ codes "Time passes." ∷ codes "\"Isn't it?\" 'x'" ∷ blank ∷ codes ">" ∷ []

unfoldable pub enough_work_shown : List (List ℕ)
enough_work_shown =
    codes "Hall" ∷ blank
    ∷ codes ">jump" ∷ codes "Done." ∷ blank ∷ codes ">" ∷ []

unfoldable pub too_much_work_shown : List (List ℕ)
too_much_work_shown =
    codes "Hall" ∷ blank
    ∷ codes ">jump" ∷ codes "[The turn was abandoned: too much work.]" ∷ blank ∷ codes ">" ∷ []
