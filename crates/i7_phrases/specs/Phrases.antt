-- What phrases do that name no action, no rulebook and no text.
use Rattle.std.specs.Prelude.{ℕ, Bool, true, false, List, Option, None, Some, codes}
use Rattle.i7_sentences.specs.declared.spoken.Spoken.{Spoken}
use Rattle.i7_sentences.specs.declared.spoken.Spoken.TheVariants as spoken
use Rattle.play_meaning.specs.Trees as tree
use Rattle.play_meaning.specs.declared.outcome.Flow.TheVariants.{Decides, NoDecision}
use Rattle.play_meaning.specs.declared.outcome.Outcome.TheVariants.{Failure, Success}
use Rattle.play_meaning.specs.declared.tree.number.Operator.TheVariants.{Minus, Plus}
use Rattle.i7_conditions.specs.Scopes.{Scope}
use Rattle.i7_phrases.specs.Changes.{Adds, Moves, Now}

-- ---- changes of the world

abbrev pub is_change : Spoken → Bool
is_change (spoken.Now words) = true
is_change (spoken.Move words) = true
is_change (spoken.Increase value amount) = true
is_change (spoken.Decrease value amount) = true
is_change _ = false

abbrev pub Changes : Scope → Spoken → tree.Phrase → Type 0
Changes s (spoken.Now words) = Now s words
Changes s (spoken.Move words) = Moves s words
Changes s (spoken.Increase value amount) = Adds Plus s value amount
Changes s (spoken.Decrease value amount) = Adds Minus s value amount
Changes s _ = λ p. ⊥

-- ---- phrases that end a rule, or the story

-- what is printed at the end of a story of which nothing else is said
abbrev pub closing : Option (List ℕ) → List ℕ
closing None = codes "The End"
closing (Some text) = text

-- `continue the action` decides nothing, and `stop the action` is failure
abbrev pub ending_of : Spoken → Option tree.Phrase
ending_of spoken.RuleSucceeds = Some (tree.Leave (Decides Success))
ending_of spoken.RuleFails = Some (tree.Leave (Decides Failure))
ending_of spoken.MakeNoDecision = Some (tree.Leave NoDecision)
ending_of spoken.ContinueAction = Some (tree.Leave NoDecision)
ending_of spoken.StopAction = Some (tree.Leave (Decides Failure))
ending_of (spoken.EndStory text) = Some (tree.EndStory (closing text))
ending_of _ = None
