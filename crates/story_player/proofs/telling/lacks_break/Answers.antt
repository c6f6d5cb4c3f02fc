use Rattle.std.proofs.Common.{sym}
use Rattle.story_player.proofs.Completing.{break_lacking}
use Rattle.story_player.proofs.telling.lacks_break.Goals as goal

pub returns : goal.returns
returns c = break_lacking c.args.text.now 0 (sym c.if-is_empty.ensures)
