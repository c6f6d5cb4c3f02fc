-- What phrases that change the world do, by their words.
use Rattle.std.specs.Prelude.{Option, None, Some}
use Rattle.i7_sentences.specs.declared.spoken.Spoken.{Spoken}
use Rattle.i7_sentences.specs.declared.spoken.Spoken.TheVariants as spoken
use Rattle.play_meaning.specs.Trees as tree
use Rattle.play_meaning.specs.declared.tree.number.Operator.TheVariants.{Minus, Plus}
use Rattle.i7_conditions.specs.Scopes.{Scope}
use Rattle.i7_conditions.specs.declared.found.Found.{Found}
use Rattle.i7_phrases.specs.ChangeForms.{adds_said, moves_said, now_said}

abbrev pub change_said : Scope → Spoken → Option (Found tree.Phrase)
change_said s (spoken.Now words) = Some (now_said s words)
change_said s (spoken.Move words) = Some (moves_said s words)
change_said s (spoken.Increase value amount) = Some (adds_said Plus s value amount)
change_said s (spoken.Decrease value amount) = Some (adds_said Minus s value amount)
change_said s _ = None
