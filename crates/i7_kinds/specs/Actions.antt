-- The author's actions: what each asks for. Nothing is claimed of their names, which are apart.
use Rattle.std.specs.Prelude.{List, map, Result, Ok, Err}
use Rattle.world_meaning.specs.declared.fault.Fault.{Fault}
use Rattle.world_meaning.specs.declared.needs.Needs.{Needs}
use Rattle.world_meaning.specs.declared.tale.Tale.{Tale}
use Rattle.i7_sentences.specs.ActionDeclarations.{actions_declared}
use Rattle.i7_sentences.specs.declared.sentence.Sentence.{Sentence}

-- in the order of their sentences
unfoldable pub actions_said : List Sentence → List Needs
actions_said sentences = map (λ action. action.said.needs) (actions_declared sentences)

abbrev pub told_with : List Needs → Tale → Tale
told_with actions tale = record tale { declared = record tale.declared { actions = actions } }

-- a tale with these actions, unless a refusal stands
abbrev pub with_actions : List Needs → Result Tale Fault → Result Tale Fault
with_actions actions (Ok tale) = Ok (told_with actions tale)
with_actions actions (Err fault) = Err fault
