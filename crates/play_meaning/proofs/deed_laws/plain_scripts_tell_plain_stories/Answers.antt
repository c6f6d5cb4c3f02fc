use Rattle.play_meaning.proofs.PlainTurns.{plain_script}
use Rattle.play_meaning.proofs.deed_laws.plain_scripts_tell_plain_stories.Goals as goal

pub returns : goal.returns
returns c = plain_script
