-- The pattern that words are, by going over the actions by number.
use Rattle.std.specs.Prelude.{Bool, is_some, List, Option, Some, None}
use Rattle.std.specs.Option.{option_map, option_or}
use Rattle.play_meaning.specs.Patterns.{Pattern, aspect_meant, pattern_meant}
use Rattle.play_meaning.specs.Rules.{Aspect}
use Rattle.play_meaning.specs.declared.tree.pattern.Aspect.{Aspect as KeptAspect}
use Rattle.play_meaning.specs.declared.tree.pattern.Pattern.{Pattern as Kept}
use Rattle.i7_actions.specs.TryingForms.{Best, best_from}
use Rattle.i7_actions.specs.declared.action.Action.{Action}
use Rattle.i7_conditions.specs.Scopes.{Scope}
use Rattle.i7_conditions.specs.Words.{Word}
use Rattle.i7_patterns.specs.ActionForms.{aspects_asked, place_asked}
use Rattle.i7_patterns.specs.Patterns.{any_in, behind_anything, pattern_of}
use Rattle.i7_patterns.specs.declared.asked.Asked.{Asked}
use Rattle.i7_patterns.specs.declared.asked.Asked.TheVariants.{Read, TooMany, Unread, WrongKind}

-- ---- as they are kept

abbrev pub with_meaning : {A B : Type 0} → (A → B) → Asked A → Asked B
with_meaning meant (Read x) = Read (meant x)
with_meaning meant WrongKind = WrongKind
with_meaning meant TooMany = TooMany
with_meaning meant Unread = Unread

abbrev pub asked_pattern : Asked Kept → Asked Pattern
asked_pattern found = with_meaning pattern_meant found

abbrev pub asked_aspect : Asked KeptAspect → Asked Aspect
asked_aspect found = with_meaning aspect_meant found

-- ---- by their words

abbrev pub anything_by : Scope → Option (List Word) → Option Pattern
anything_by s None = None
anything_by s (Some rest) = option_map (λ place. pattern_of None (any_in place)) (place_asked s rest)

abbrev pub can_ask : Scope → List Word → Action → Bool
can_ask s words a = is_some (aspects_asked s a words)

abbrev pub action_by : Scope → List Word → Best → Option Pattern
action_by s words None = None
action_by s words (Some best) = option_map (pattern_of (Some best.0)) (aspects_asked s best.1 words)

abbrev pub action_asked : List Action → Scope → List Word → Option Pattern
action_asked actions s words = action_by s words (best_from (can_ask s words) 0 None actions)

unfoldable pub pattern_asked : List Action → Scope → List Word → Option Pattern
pattern_asked actions s words = option_or (anything_by s (behind_anything words)) (action_asked actions s words)
