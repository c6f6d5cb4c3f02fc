-- The consultation of a rulebook: its rules in order, each asked in the world of that moment, up to the first
-- decision (*Writing with Inform*, chapter 19).
use Rattle.std.specs.Prelude.{ℕ, Bool, true, false, Option, None, Some, Ok, map, ◌==◌, if◌then◌else◌}
use Rattle.play_meaning.specs.Attempts.{Attempt, next}
use Rattle.play_meaning.specs.Doing.{Inner}
use Rattle.play_meaning.specs.Games.{Game}
use Rattle.play_meaning.specs.Progress.{Asked, Done, Progress, first_decision, spend, undecided}
use Rattle.play_meaning.specs.Worlds.{World}
use Rattle.play_meaning.specs.declared.action.ActionNow.{ActionNow}
use Rattle.play_meaning.specs.declared.outcome.Flow.{Flow}
use Rattle.play_meaning.specs.declared.outcome.Flow.TheVariants.{GoesOn, NoDecision, Decides}
use Rattle.play_meaning.specs.declared.outcome.Outcome.{Outcome}
use Rattle.play_meaning.specs.declared.outcome.Outcome.TheVariants.{Success, Failure}
use Rattle.play_meaning.specs.declared.standard_books.TheConstants.{AFTER, BEFORE, CARRY_OUT, CHECK, EVERY_TURN, INSTEAD, PLAY_BEGINS, REPORT}

-- ---- the rulebooks' numbers; behind these the scenes' two each, and the author's

abbrev pub before_book : ℕ
before_book = BEFORE

abbrev pub instead_book : ℕ
instead_book = INSTEAD

abbrev pub check_book : ℕ
check_book = CHECK

abbrev pub carry_out_book : ℕ
carry_out_book = CARRY_OUT

abbrev pub after_book : ℕ
after_book = AFTER

abbrev pub report_book : ℕ
report_book = REPORT

abbrev pub every_turn_book : ℕ
every_turn_book = EVERY_TURN

abbrev pub play_begins_book : ℕ
play_begins_book = PLAY_BEGINS

-- what a body that ends by itself decides
abbrev pub default_of : ℕ → Option Outcome
default_of book = if book == instead_book then Some Failure else if book == after_book then Some Success else None

abbrev pub decision_of : ℕ → Flow → Option Outcome
decision_of book GoesOn = default_of book
decision_of book NoDecision = None
decision_of book (Decides outcome) = Some outcome

abbrev pub asked_of : ℕ → Done → Asked
asked_of book done = record { progress = done.progress; decision = decision_of book done.flow }

-- whether a rule applies: its condition is looked at last, and only where what it is about is there
unfoldable pub applies : Game → ℕ → ActionNow → World → Attempt Bool
applies g rule now w = if g.is_about rule now w then g.holds rule now w else Ok false

abbrev pub done_if : Bool → Game → Inner → ℕ → ActionNow → ℕ → Progress → Attempt Asked
done_if false g inner book now rule p = Ok (undecided p)
done_if true g inner book now rule p = next (spend p) (λ q. next (g.body rule inner now q) (λ done. Ok (asked_of book done)))

-- one rule is asked; the body of one that applies is a unit of work
unfoldable pub ask : Game → Inner → ℕ → ActionNow → ℕ → Progress → Attempt Asked
ask g inner book now rule p = next (applies g rule now p.world) (λ applies. done_if applies g inner book now rule p)

-- with no action the nouns are nothing
abbrev pub with_nouns : ActionNow → ActionNow
with_nouns now = if now.action == 255 then record now { noun = None; second = None } else now

unfoldable pub consult : Game → Inner → ℕ → ActionNow → Progress → Attempt Asked
consult g inner book now = first_decision (map (ask g inner book (with_nouns now)) (g.books book))
