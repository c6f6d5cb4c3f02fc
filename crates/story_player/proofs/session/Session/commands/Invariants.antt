-- The commands in front were answered, and there is room for the texts of those that are left.
use Rattle.std.proofs.Common.{◌≡◌, ◌<◌, length}
use Rattle.story_player.specs.Sessions.{game_of, state_of, story_of}
use Rattle.story_player.proofs.GivenCommands.{IsUnderway}
use Rattle.story_player.proofs.session.Session.commands.Given as goal

abbrev pub invariant-loop-rest : goal.invariant-loop-rest
invariant-loop-rest g l = record {
  underway : IsUnderway (game_of l.fn.self) l.fn.first l.fn.more (state_of l.fn.self) l.fn.text.said l.command l.rest (state_of l.self) l.text.said;
  room : length l.rest < l.text.left;
  story : story_of l.self ≡ story_of l.fn.self;
}

abbrev pub decreases-loop-rest : goal.decreases-loop-rest
decreases-loop-rest g l = length l.rest
