-- A story without rules, listings, scenes or actions of its own: what its objects are, what is said of them, and how its
-- commands are read.
use Rattle.std.specs.Prelude.{ℕ, Bool, false, List, [], Option, Ok, slice_get}
use Rattle.play_meaning.specs.Attempts.{Attempt}
use Rattle.play_meaning.specs.Games.{Game, Question, Reading}
use Rattle.play_meaning.specs.Order.{book_of}
use Rattle.play_meaning.specs.Saying.{Telling}
use Rattle.play_meaning.specs.Scripts.{rule_body, rule_condition, rule_is_about}
use Rattle.play_meaning.specs.Settings.{Setting}
use Rattle.play_meaning.specs.StandardActions.{needs_of}
use Rattle.play_meaning.specs.StandardRules.{standard_rules}
use Rattle.play_meaning.specs.Worlds.{World}
use Rattle.play_meaning.specs.declared.action.ActionNow.{ActionNow}

pub record PlainStory : Type 0 where
  pub setting : Setting
  pub start : World
  -- what is said of an object, in an action and a world
  pub describes : ℕ → ActionNow → World → Attempt (List ℕ)
  pub reads : Option Question → (ℕ → Bool) → List (List ℕ) → Reading

abbrev pub plain_telling : PlainStory → Telling
plain_telling k = record { setting = k.setting; describes = k.describes }

-- the standard rules are all its rules
unfoldable pub game_of_plain : PlainStory → Game
game_of_plain k = record {
  start = k.start;
  telling = plain_telling k;
  books = book_of k.setting standard_rules;
  needs = needs_of;
  is_about = λ rule now w. rule_is_about k.setting now w (slice_get standard_rules rule);
  holds = λ rule now w. rule_condition k.setting now w (slice_get standard_rules rule);
  body = λ rule inner now p. rule_body (plain_telling k) inner now p (slice_get standard_rules rule);
  scenes = [];
  begins = λ scene w. Ok false;
  ends = λ scene w. Ok false;
  reads = k.reads;
}
