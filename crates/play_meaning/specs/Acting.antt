-- An action in its nine stages, and actions that are tried within it (*Writing with Inform*, chapter 12).
use Rattle.std.specs.Prelude.{ℕ, zero, suc, Bool, true, false, not, ◌||◌, List, [], ◌∷◌, ◌++◌, Option, None, Some, Ok, Err, codes, if◌then◌else◌}
use Rattle.play_meaning.specs.Attempts.{Attempt, next}
use Rattle.world_meaning.specs.Texts.{not_seen_text, said}
use Rattle.world_meaning.specs.declared.session.Abandon.TheVariants.{NestedTooDeep}
use Rattle.play_meaning.specs.Consulting.{consult, after_book, before_book, carry_out_book, check_book, instead_book, report_book}
use Rattle.play_meaning.specs.Doing.{Inner}
use Rattle.play_meaning.specs.Games.{Game}
use Rattle.play_meaning.specs.Progress.{Asked, Progress, first_decision, say, undecided}
use Rattle.play_meaning.specs.Saying.{name_in}
use Rattle.play_meaning.specs.Seeing.{has_light, is_touchable, is_visible}
use Rattle.play_meaning.specs.Settings.{Setting}
use Rattle.play_meaning.specs.StandardActions.{taking}
use Rattle.play_meaning.specs.Trees.{Definite}
use Rattle.play_meaning.specs.Truth.{has_thing, of_some}
use Rattle.play_meaning.specs.Worlds.{World}
use Rattle.play_meaning.specs.declared.action.ActionNow.{ActionNow}
use Rattle.world_meaning.specs.declared.needs.Slot.{Slot}
use Rattle.world_meaning.specs.declared.needs.Slot.TheVariants.{Absent, Visible, Touched, Carried}
use Rattle.play_meaning.specs.declared.outcome.Outcome.TheVariants.{Failure}

-- ---- the three stages between the rulebooks

abbrev pub dark_text : List ℕ
dark_text = said (codes "It is pitch dark, and you can't see a thing.")

abbrev pub out_of_reach_text : Setting → Option ℕ → List ℕ
out_of_reach_text s noun = said (codes "You can't reach " ++ name_in s Definite noun ++ codes ".")

abbrev pub first_taking_text : Setting → Option ℕ → List ℕ
first_taking_text s noun = said (codes "(first taking " ++ name_in s Definite noun ++ codes ")")

-- the action fails, and this is said
abbrev pub fails : List ℕ → Progress → Attempt Asked
fails text p = Ok (record { progress = say text p; decision = Some Failure })

abbrev pub unless : Bool → Progress → Attempt Asked → Attempt Asked
unless is_met p otherwise = if is_met then Ok (undecided p) else otherwise

-- an action that wants light fails in darkness
unfoldable pub visibility : Game → ActionNow → Progress → Attempt Asked
visibility g now p = unless (not (g.needs now.action).light || has_light g.telling.setting p.world) p (fails dark_text p)

abbrev pub asks_sight : Slot → Bool
asks_sight Absent = false
asks_sight Visible = true
asks_sight Touched = true
asks_sight Carried = true

abbrev pub asks_touch : Slot → Bool
asks_touch Absent = false
asks_touch Visible = false
asks_touch Touched = true
asks_touch Carried = true

abbrev pub asks_holding : Slot → Bool
asks_holding Absent = false
asks_holding Visible = false
asks_holding Touched = false
asks_holding Carried = true

abbrev pub reach : Setting → Slot → Option ℕ → Progress → Attempt Asked
reach s slot noun p = unless (not (asks_touch slot) || of_some noun (is_touchable s p.world)) p (fails (out_of_reach_text s noun) p)

-- a noun must be there and seen, and touched where that is asked
unfoldable pub access : Setting → Slot → Option ℕ → Progress → Attempt Asked
access s slot noun p = if not (asks_sight slot) || of_some noun (is_visible s p.world) then reach s slot noun p else fails not_seen_text p

abbrev pub has_noun : World → Option ℕ → Bool
has_noun w noun = of_some noun (has_thing w 0)

abbrev pub silent_taking : Option ℕ → ActionNow
silent_taking noun = record { action = taking; noun = noun; second = None; silent = true }

-- what still isn't held behind the taking is a failure
abbrev pub unless_held : Option ℕ → Progress → Attempt Asked
unless_held noun p = unless (has_noun p.world noun) p (fails [] p)

-- what must be held and isn't is taken first
unfoldable pub carrying : Setting → Inner → Slot → Option ℕ → Progress → Attempt Asked
carrying s inner slot noun p =
    unless (not (asks_holding slot) || has_noun p.world noun) p (next (inner.tries (silent_taking noun) (say (first_taking_text s noun) p)) (unless_held noun))

-- ---- the stages

abbrev pub report : Game → Inner → ActionNow → Progress → Attempt Asked
report g inner now p = if now.silent then Ok (undecided p) else consult g inner report_book now p

-- what an action passes, in order; one out of world is checked, carried out and reported alone
unfoldable pub stages : Bool → Game → Inner → ActionNow → List (Progress → Attempt Asked)
stages true g inner now = consult g inner check_book now ∷ consult g inner carry_out_book now ∷ report g inner now ∷ []
stages false g inner now =
    consult g inner before_book now ∷ visibility g now
    ∷ access g.telling.setting (g.needs now.action).noun now.noun ∷ access g.telling.setting (g.needs now.action).second now.second
    ∷ carrying g.telling.setting inner (g.needs now.action).noun now.noun ∷ carrying g.telling.setting inner (g.needs now.action).second now.second
    ∷ consult g inner instead_book now ∷ consult g inner check_book now ∷ consult g inner carry_out_book now ∷ consult g inner after_book now
    ∷ report g inner now ∷ []

-- the first decision of its stages is the action's outcome; without one it succeeds
unfoldable pub act : Game → Inner → ActionNow → Progress → Attempt Asked
act g inner now = first_decision (stages (g.needs now.action).out_of_world g inner now)

-- where play has come to; the outcome is dropped
abbrev pub progress_of : Attempt Asked → Attempt Progress
progress_of asked = next asked (λ a. Ok a.progress)

-- trying and following, with so many levels left below
unfoldable pub inner_of : Game → ℕ → Inner
inner_of g zero = record { tries = λ now p. Err NestedTooDeep; follows = λ book now p. Err NestedTooDeep }
inner_of g (suc left) = record {
  tries = λ now p. progress_of (act g (inner_of g left) now p);
  follows = λ book now p. progress_of (consult g (inner_of g left) book now p);
}

-- a command's action has sixteen levels below it
abbrev pub top : Game → Inner
top g = inner_of g 16
