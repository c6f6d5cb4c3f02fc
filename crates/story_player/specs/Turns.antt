-- What a turn and the opening come to, and what is told of them.
use Rattle.std.specs.Prelude.{◌≡◌, ℕ, Bool, true, false, not, List, [], ◌∷◌, ◌++◌, MatchResult, Option, None, Result, Some, Ok, if◌then◌else◌}
use Rattle.action_stages.specs.Answering.{Breaks}
use Rattle.world_meaning.specs.Texts.{closing_text}
use Rattle.world_meaning.specs.declared.session.Ending.{Ending}
use Rattle.world_meaning.specs.declared.session.Ending.TheVariants.{Story}
use Rattle.world_meaning.specs.declared.session.ReplyKind.{ReplyKind}
use Rattle.world_meaning.specs.declared.session.ReplyKind.TheVariants.{Ended, Free, Kept}
use Rattle.play_meaning.specs.Attempts.{Attempt}
use Rattle.play_meaning.specs.Games.{Game}
use Rattle.play_meaning.specs.Progress.{Progress, fresh}
use Rattle.play_meaning.specs.Sessions.{Answer, State, abandoned, keep, parted_by_break, played}
use Rattle.play_meaning.specs.Turns.{completed, ends_in_break, opening, perform, turn, turn_upon}
use Rattle.play_meaning.specs.Worlds.{World}
use Rattle.world_meaning.specs.declared.session.Abandon.{Abandon}
use Rattle.world_meaning.specs.declared.session.Abandon.TheVariants.{Memory}
use Rattle.story_player.specs.declared.deed.Deed.{Deed}
use Rattle.story_player.specs.declared.deed.Deed.TheVariants as deed

-- play has come to this world, with this said
pub record ComesTo (attempt : Attempt Progress) (w : World) (text : List ℕ) : Type 0 where
  pub work : ℕ
  pub comes : attempt ≡ Ok (record { world = w; text = text; work = work })

-- what is done on a world: the opening, an action by itself, a turn of one action, or a turn of an action on several things
abbrev pub done_by : Deed → Game → Progress → Attempt Progress
done_by deed.Opening g p = opening g p
done_by (deed.Alone now) g p = perform g now p
done_by (deed.Turn now) g p = turn g now p
done_by (deed.TurnUpon action objects) g p = turn_upon g action objects p

-- ---- what is told

-- whether a text says anything and has no line break at its end
abbrev pub lacks_break : List ℕ → Bool
lacks_break [] = false
lacks_break (byte ∷ bytes) = not (ends_in_break (byte ∷ bytes))

-- where the story ended a closing line is the last part
abbrev pub told_text : List ℕ → Option (List ℕ) → List ℕ
told_text text None = completed text
told_text text (Some ending) = completed text ++ closing_text ending

abbrev pub kind_told : ReplyKind → Option (List ℕ) → ReplyKind
kind_told kind None = kind
kind_told kind (Some ending) = Ended

abbrev pub ending_told : Option (List ℕ) → Option Ending
ending_told None = None
ending_told (Some ending) = Some Story

-- what is answered where play has come to this world, and this is told of it: a turn is kept
abbrev pub kept_by : Bool → State → List World
kept_by true s = keep s.world s.kept
kept_by false s = s.kept

abbrev pub kind_by : Bool → ReplyKind
kind_by true = Kept
kind_by false = Free

abbrev pub is_turn : Deed → Bool
is_turn deed.Opening = false
is_turn (deed.Alone now) = false
is_turn (deed.Turn now) = true
is_turn (deed.TurnUpon action objects) = true

-- what is answered to a deed; memory may have been refused
abbrev pub deed_answer : Deed → Game → Bool → State → Answer
deed_answer d g refused s = if refused then abandoned Memory s else played (kind_by (is_turn d)) (kept_by (is_turn d) s) s (done_by d g (fresh s.world))

-- play has come to this world, and this is told of it
pub record IsToldOf (attempt : Attempt Progress) (w : World) (text : List ℕ) : Type 0 where
  pub said : List ℕ
  pub comes : ComesTo attempt w said
  pub told : text ≡ told_text said w.ended

-- and behind what was said before
pub record IsToldBehind (attempt : Attempt Progress) (w : World) (before after : List ℕ) : Type 0 where
  pub text : List ℕ
  pub is : IsToldOf attempt w text
  pub behind : after ≡ parted_by_break before text

-- play has come to this world, and this is told of it, or it is abandoned
abbrev pub IsTried : {T : Type 0} → Result T Abandon → Attempt Progress → World → List ℕ → List ℕ → Type 0
IsTried result attempt w before after = MatchResult result (λ done. IsToldBehind attempt w before after) (Breaks attempt)
