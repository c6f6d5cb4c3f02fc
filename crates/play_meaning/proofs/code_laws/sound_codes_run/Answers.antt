use Rattle.play_meaning.proofs.Unstuck.{sound_descriptions_end, sound_is_unstuck, sound_tests_answer}
use Rattle.play_meaning.proofs.code_laws.sound_codes_run.Goals as goal

pub returns-clause-unstuck : goal.returns-clause-unstuck
returns-clause-unstuck c = sound_is_unstuck

pub returns-clause-tests : goal.returns-clause-tests
returns-clause-tests c = sound_tests_answer

pub returns-clause-descriptions : goal.returns-clause-descriptions
returns-clause-descriptions c = sound_descriptions_end
