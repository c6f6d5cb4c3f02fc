use Rattle.story_code.proofs.SoundTrees.{body_sound, condition_sound, description_sound}
use Rattle.story_code.proofs.laws.emitted_codes_are_sound.Goals as goal

pub returns-clause-bodies : goal.returns-clause-bodies
returns-clause-bodies c = λ z string first body fits numbers. body_sound z first string body fits numbers

pub returns-clause-conditions : goal.returns-clause-conditions
returns-clause-conditions c = λ z first condition fits numbers. condition_sound z first condition fits numbers

pub returns-clause-descriptions : goal.returns-clause-descriptions
returns-clause-descriptions c = λ z string first text fits numbers. description_sound z first string text fits numbers
