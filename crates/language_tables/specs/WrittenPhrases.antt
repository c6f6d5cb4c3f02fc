-- The forms of phrases, of which the first that fits is meant.
use Rattle.std.specs.Prelude.{ℕ, List, [], ◌∷◌, codes}
use Rattle.i7_sentences.specs.declared.form.Form.TheVariants.{Phrase}
use Rattle.i7_sentences.specs.declared.phrase_form.PhraseForm.{PhraseForm}
use Rattle.i7_sentences.specs.declared.phrase_form.PhraseForm.TheVariants.{Say, Now, Move, Increase, Decrease, Try, TrySilently, Follow, RuleSucceeds, RuleFails, MakeNoDecision, ContinueAction, StopAction, EndStory, EndStoryFinally, EndStorySaying, If, OtherwiseIf, Otherwise, Repeat}
use Rattle.language_tables.specs.WrittenForms.{Line}

abbrev pub says : PhraseForm → List ℕ → Line
says phrase words = (Phrase phrase, words)

abbrev pub written_phrases : List (List Line)
written_phrases =
    (says Say (codes "say TEXT") ∷ [])
    ∷ (says Now (codes "now WORDS is WORDS") ∷ says Now (codes "now WORDS carries WORDS") ∷ says Now (codes "now WORDS wears WORDS") ∷ [])
    ∷ (says Move (codes "move WORDS to WORDS") ∷ [])
    ∷ (says Increase (codes "increase WORDS by WORDS") ∷ [])
    ∷ (says Decrease (codes "decrease WORDS by WORDS") ∷ [])
    ∷ (says Try (codes "try WORDS") ∷ [])
    ∷ (says TrySilently (codes "silently try WORDS") ∷ [])
    ∷ (says Follow (codes "follow WORDS rules") ∷ [])
    ∷ (says RuleSucceeds (codes "rule succeeds") ∷ [])
    ∷ (says RuleFails (codes "rule fails") ∷ [])
    ∷ (says MakeNoDecision (codes "make no decision") ∷ [])
    ∷ (says ContinueAction (codes "continue the action") ∷ [])
    ∷ (says StopAction (codes "stop the action") ∷ [])
    ∷ (says EndStory (codes "end the story") ∷ [])
    ∷ (says EndStoryFinally (codes "end the story finally") ∷ [])
    ∷ (says EndStorySaying (codes "end the story saying TEXT") ∷ [])
    ∷ (says If (codes "if WORDS") ∷ [])
    ∷ (says OtherwiseIf (codes "otherwise if WORDS") ∷ [])
    ∷ (says Otherwise (codes "otherwise") ∷ [])
    ∷ (says Repeat (codes "repeat with NAME running through WORDS") ∷ [])
    ∷ []
