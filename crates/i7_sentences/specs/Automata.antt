-- The classes as automata that read a letter's words from left to right.
use Rattle.std.specs.Prelude.{Bool, true, false, List, [], ◌∷◌, Option, Some, None, if◌then◌else◌}
use Rattle.i7_lexer.specs.declared.token.Token.{Token}
use Rattle.i7_sentences.specs.Words.{is_word, is_text}
use Rattle.i7_sentences.specs.Keywords.{is_article, is_sign}
use Rattle.i7_sentences.specs.Classes.{is_comma, is_degree, is_listed_word, is_vertical, is_direction, is_inner, is_number, is_body_mark, is_choice, is_head_token}
use Rattle.i7_sentences.specs.declared.keyword.Keyword.TheVariants as keyword
use Rattle.i7_sentences.specs.declared.class.Class.{Class}
use Rattle.i7_sentences.specs.declared.class.Class.TheVariants as class
use Rattle.i7_sentences.specs.declared.class.State.{State}
use Rattle.i7_sentences.specs.declared.class.State.TheVariants.{Start, Inside, Between, Beside}

-- one token or more
abbrev pub run_step : Bool → Option State
run_step passes = if passes then Some Inside else None

-- one token
abbrev pub alone_step : State → Bool → Option State
alone_step Start passes = if passes then Some Inside else None
alone_step Inside passes = None
alone_step Between passes = None
alone_step Beside passes = None

-- names and what parts them
unfoldable pub names_step : State → Token → Option State
names_step Start token = if is_word token then Some Inside else None
names_step Inside token = if is_comma token then Some Between else (if is_listed_word token then Some Inside else None)
names_step Between token = if is_word token then Some Inside else None
names_step Beside token = None

-- the first word of a side
abbrev pub side_start : Token → Option State
side_start token =
    if is_vertical token then Some Inside
    else (if is_direction token then (if is_inner token then Some Beside else Some Between) else None)

unfoldable pub side_step : State → Token → Option State
side_step Start token = side_start token
side_step Inside token = None
side_step Between token = if is_sign keyword.Of token then Some Inside else None
side_step Beside token = if is_sign keyword.Of token then Some Inside else (if is_sign keyword.From token then Some Inside else None)

-- `:` and anything, or `,` and a word that begins a phrase
unfoldable pub body_step : State → Token → Option State
body_step Start token = if is_body_mark token then Some Between else None
body_step Inside token = Some Inside
body_step Between token = Some Inside
body_step Beside token = None

-- `thing`, perhaps behind how near it must be
unfoldable pub asked_step : State → Token → Option State
asked_step Start token = if is_degree token then Some Between else run_step (is_sign keyword.Thing token)
asked_step Inside token = None
asked_step Between token = run_step (is_sign keyword.Thing token)
asked_step Beside token = None

-- how far a letter is read behind one more token, if it may go on with it
abbrev pub step : Class → State → Token → Option State
step class.Words state token = run_step (is_word token)
step class.Name state token = run_step (is_word token)
step class.Names state token = names_step state token
step class.What state token = run_step (is_word token)
step class.Usual state token = run_step (is_word token)
step class.Article state token = alone_step state (is_article token)
step class.Side state token = side_step state token
step class.Number state token = alone_step state (is_number token)
step class.Text state token = alone_step state (is_text token)
step class.Texts state token = run_step (is_choice token)
step class.Head state token = run_step (is_head_token token)
step class.Body state token = body_step state token
step class.Asked state token = asked_step state token

-- whether a letter may end here
abbrev pub accepts : State → Bool
accepts Start = false
accepts Inside = true
accepts Between = false
accepts Beside = false

abbrev pub then_runs : Option State → (State → Bool) → Bool
then_runs None runs = false
then_runs (Some state) runs = runs state

-- whether a letter that is read so far may stand for these words behind
abbrev pub runs : Class → State → List Token → Bool
runs class state [] = accepts state
runs class state (token ∷ tokens) = then_runs (step class state token) (λ after. runs class after tokens)

-- whether a letter of the class may stand for these words
abbrev pub is_of : Class → List Token → Bool
is_of class tokens = runs class Start tokens
