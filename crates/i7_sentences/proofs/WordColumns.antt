-- The column of a letter of words is told by one answer from token to token.
use Rattle.std.proofs.Common.{◌≡◌, Bool, true, false, List, [], ◌∷◌, refl}
use Rattle.std.specs.Prelude.{◌&&◌}
use Rattle.std.proofs.lemmas.Bool.{false≢true}
use Rattle.i7_lexer.specs.declared.token.Token.{Token}
use Rattle.i7_sentences.specs.Words.{is_word}
use Rattle.i7_sentences.specs.Automata.{run_step, step}
use Rattle.i7_sentences.specs.Matching.{ahead_of, letter_column, then_ahead}
use Rattle.i7_sentences.specs.WordColumns.{inside_of, is_words, words_column}
use Rattle.i7_sentences.specs.declared.class.Class.{Class}
use Rattle.i7_sentences.specs.declared.class.Class.TheVariants as class
use Rattle.i7_sentences.specs.declared.class.State.{State}
use Rattle.i7_sentences.specs.declared.class.State.TheVariants.{Start, Inside}
use Rattle.i7_sentences.specs.declared.lookahead.Ahead.{Ahead}

-- each step is one of a word
abbrev StepsByWords : Class → Type 0
StepsByWords class = (state : State) (token : Token) → step class state token ≡ run_step (is_word token)

run_ahead : (ahead : Ahead) (passes : Bool) → then_ahead ahead (run_step passes) ≡ (passes && ahead.inside)
run_ahead ahead true = refl
run_ahead ahead false = refl

inside_same : (class : Class) → StepsByWords class → (behind : List Bool) (tokens : List Token) → (ahead_of class behind tokens).inside ≡ inside_of behind tokens
inside_same class steps behind [] = refl
inside_same class steps behind (token ∷ tokens) =
    rw (steps Inside token, run_ahead (ahead_of class behind tokens) (is_word token), inside_same class steps behind tokens) refl

column_same : (class : Class) → StepsByWords class → (behind : List Bool) (tokens : List Token) → letter_column class behind tokens ≡ words_column behind tokens
column_same class steps behind [] = refl
column_same class steps behind (token ∷ tokens) =
    rw (column_same class steps behind tokens, steps Start token, run_ahead (ahead_of class behind tokens) (is_word token), inside_same class steps behind tokens) refl

steps_by_words : (class : Class) → is_words class ≡ true → StepsByWords class
steps_by_words class.Words is = λ state token. refl
steps_by_words class.Name is = λ state token. refl
steps_by_words class.Names is = absurd (false≢true is)
steps_by_words class.What is = λ state token. refl
steps_by_words class.Usual is = λ state token. refl
steps_by_words class.Article is = absurd (false≢true is)
steps_by_words class.Side is = absurd (false≢true is)
steps_by_words class.Number is = absurd (false≢true is)
steps_by_words class.Text is = absurd (false≢true is)
steps_by_words class.Texts is = absurd (false≢true is)
steps_by_words class.Head is = absurd (false≢true is)
steps_by_words class.Body is = absurd (false≢true is)
steps_by_words class.Asked is = absurd (false≢true is)

pub words_same : (class : Class) (behind : List Bool) (tokens : List Token) → is_words class ≡ true → letter_column class behind tokens ≡ words_column behind tokens
words_same class behind tokens is = column_same class (steps_by_words class is) behind tokens
