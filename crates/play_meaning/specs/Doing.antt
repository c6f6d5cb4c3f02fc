-- What phrases do: each of them takes play from where it has come to, and ends the body or lets the next one follow
-- (*Writing with Inform*, chapters 8 and 11).
use Rattle.std.specs.Prelude.{ℕ, Bool, true, false, List, [], ◌∷◌, ◌++◌, Ok}
use Rattle.play_meaning.specs.Attempts.{Attempt, next}
use Rattle.play_meaning.specs.Changes.{make_number, make_so, make_value, move, put, take_away}
use Rattle.play_meaning.specs.Progress.{Done, Progress, change, goes_on, leaves, say, spend, then_do}
use Rattle.play_meaning.specs.Saying.{Telling, chosen, said_in}
use Rattle.play_meaning.specs.Settings.{objects_of}
use Rattle.play_meaning.specs.Trees.{Body, End, EndStory, Follow, If, Instead, Leave, Move, NowHeld, NowIs, NowNowhere, NowNumber, NowValued, NowVariable, Object, Phrase, Repeat, Say, Text, Then, Try}
use Rattle.play_meaning.specs.Truth.{truth_in}
use Rattle.play_meaning.specs.Values.{Scope, is_one, number_in, object_in}
use Rattle.play_meaning.specs.Worlds.{World, end_with, set_variable}
use Rattle.play_meaning.specs.declared.action.ActionNow.{ActionNow}
use Rattle.play_meaning.specs.declared.outcome.Flow.TheVariants.{Decides}
use Rattle.play_meaning.specs.declared.outcome.Outcome.TheVariants.{Failure}

-- what trying an action and following a rulebook mean, one level deeper
pub record Inner : Type 0 where
  pub tries : ActionNow → Progress → Attempt Progress
  pub follows : ℕ → ActionNow → Progress → Attempt Progress

-- with the object of one more repeat
abbrev pub turning_to : Scope → ℕ → Scope
turning_to scope o = record scope { turning = scope.turning ++ o ∷ [] }

abbrev pub turn_if : Bool → (Progress → Attempt Done) → Progress → Attempt Done
turn_if false does p = Ok (goes_on p)
turn_if true does p = next (spend p) does

-- objects in a row: each is tested as its turn comes, and its turn is one unit of work
abbrev pub repeat : (ℕ → World → Bool) → (ℕ → Progress → Attempt Done) → List ℕ → Progress → Attempt Done
repeat passes does [] p = Ok (goes_on p)
repeat passes does (o ∷ objects) p = then_do (turn_if (passes o p.world) (does o) p) (repeat passes does objects)

abbrev pub going_on : Attempt Progress → Attempt Done
going_on attempt = next attempt (λ p. Ok (goes_on p))

abbrev pub said_then : Telling → Scope → Text → Progress → Attempt Done
said_then t scope text p = next (said_in t scope p.world text) (λ bytes. Ok (goes_on (say bytes p)))

-- a change of the world
abbrev pub changed : (World → World) → Progress → Attempt Done
changed f p = Ok (goes_on (change f p))

abbrev pub tried : Telling → Scope → World → Bool → ℕ → Object → Object → ActionNow
tried t scope w silent action noun second = record { action = action; noun = object_in t.setting scope w noun; second = object_in t.setting scope w second; silent = silent }

unfoldable mutual
  pub do_phrase : Telling → Inner → Phrase → Scope → Progress → Attempt Done
  do_phrase t inner (Say text) scope p = said_then t scope text p
  do_phrase t inner (NowIs o property value) scope p = changed (make_so t.setting (object_in t.setting scope p.world o) property value) p
  do_phrase t inner (NowHeld o relation holder) scope p = changed (put t.setting (object_in t.setting scope p.world o) relation (object_in t.setting scope p.world holder)) p
  do_phrase t inner (NowNowhere o) scope p = changed (take_away t.setting (object_in t.setting scope p.world o)) p
  do_phrase t inner (Move o holder) scope p = changed (move t.setting (object_in t.setting scope p.world o) (object_in t.setting scope p.world holder)) p
  do_phrase t inner (NowNumber property o number) scope p = next (number_in t.setting scope p.world number) (λ n. changed (make_number t.setting (object_in t.setting scope p.world o) property n) p)
  do_phrase t inner (NowVariable v number) scope p = next (number_in t.setting scope p.world number) (λ n. changed (set_variable v n) p)
  do_phrase t inner (NowValued o q value) scope p = changed (make_value t.setting (object_in t.setting scope p.world o) q value) p
  do_phrase t inner (Try silent action noun second) scope p = going_on (inner.tries (tried t scope p.world silent action noun second) p)
  do_phrase t inner (Follow book) scope p = going_on (inner.follows book scope.now p)
  do_phrase t inner (Leave flow) scope p = leaves flow p
  do_phrase t inner (EndStory text) scope p = changed (end_with text) p
  do_phrase t inner (If condition body otherwise) scope p = next (truth_in t.setting scope p.world condition) (λ holds. chosen holds (do_body t inner body scope p) (do_body t inner otherwise scope p))
  do_phrase t inner (Repeat description body) scope p = repeat (λ o w. is_one t.setting scope w description o) (λ o q. do_body t inner body (turning_to scope o) q) (objects_of t.setting) p
  do_phrase t inner (Instead phrase) scope p = then_do (do_phrase t inner phrase scope p) (leaves (Decides Failure))

  -- its phrases in order, up to one that ends it
  pub do_body : Telling → Inner → Body → Scope → Progress → Attempt Done
  do_body t inner End scope p = Ok (goes_on p)
  do_body t inner (Then phrase body) scope p = then_do (do_phrase t inner phrase scope p) (do_body t inner body scope)
