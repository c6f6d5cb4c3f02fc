-- What is answered, and whether it tells that memory was refused.
use Rattle.std.specs.Prelude.{Bool, true, false}
use Rattle.play_meaning.specs.Sessions.{Answer, State}
use Rattle.world_meaning.specs.declared.session.Abandon.{Abandon}
use Rattle.world_meaning.specs.declared.session.Abandon.TheVariants.{Memory, NestedTooDeep, TooMuchWork, NumberOutOfRange}
use Rattle.world_meaning.specs.declared.session.ReplyKind.{ReplyKind}
use Rattle.world_meaning.specs.declared.session.ReplyKind.TheVariants.{Kept, Free, Abandoned, Ended, Over}
use Rattle.story_player.specs.Spoken.{Spoken}

-- a reply, and the state in which a session is behind it
abbrev pub answer_with : Spoken → State → Answer
answer_with reply state = record { text = reply.text; kind = reply.kind; state = state }

abbrev pub is_memory : Abandon → Bool
is_memory Memory = true
is_memory NestedTooDeep = false
is_memory TooMuchWork = false
is_memory NumberOutOfRange = false

-- whether an answer of this kind tells that memory was refused
abbrev pub is_refusal : ReplyKind → Bool
is_refusal Kept = false
is_refusal Free = false
is_refusal (Abandoned reason) = is_memory reason
is_refusal Ended = false
is_refusal Over = false
