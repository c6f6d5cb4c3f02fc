use Rattle.i7_grammar.proofs.Sound.{sound_found}
use Rattle.i7_grammar.proofs.laws.grammar_is_sound.Goals as goal

pub returns : goal.returns
returns c = sound_found
