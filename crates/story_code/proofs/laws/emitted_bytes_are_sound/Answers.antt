use Rattle.story_code.proofs.SoundBytes.{codes_sound, codes_stand}
use Rattle.story_code.proofs.laws.emitted_bytes_are_sound.Goals as goal

pub returns-clause-bytes : goal.returns-clause-bytes
returns-clause-bytes c = codes_sound

pub returns-clause-together : goal.returns-clause-together
returns-clause-together c = codes_stand
