-- Rulebooks by their words: built-in ones are tried first.
use Rattle.std.specs.Prelude.{ℕ, List, Option, Some, None, if◌then◌else◌}
use Rattle.std.specs.List.{position_from}
use Rattle.std.specs.Option.{option_or}
use Rattle.world_meaning.specs.Spelling.{is_spelled}
use Rattle.i7_conditions.specs.Words.{Word, key_of}
use Rattle.i7_actions.specs.Books.{book_alone, first_own, is_action, stage_at}
use Rattle.i7_actions.specs.declared.action.Action.{Action}

abbrev pub stage_said : List Action → Option (ℕ × List Word) → Option ℕ
stage_said actions None = None
stage_said actions (Some parts) = if is_action actions parts.1 then Some parts.0 else None

abbrev pub built_in_said : List Action → List Word → Option ℕ
built_in_said actions words = option_or (book_alone words) (stage_said actions (stage_at words))

abbrev pub own_said : List (List ℕ) → ℕ → List ℕ → Option ℕ
own_said rulebooks scenes key = position_from (λ name. is_spelled key name) (first_own scenes) rulebooks

unfoldable pub book_said : List Action → List (List ℕ) → ℕ → List Word → Option ℕ
book_said actions rulebooks scenes words = option_or (built_in_said actions words) (own_said rulebooks scenes (key_of words))
