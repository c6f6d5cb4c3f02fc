-- What is found of a pattern's words is what they mean.
use Rattle.std.proofs.Common.{◌≡◌, ℕ, Bool, true, List, refl, sym, ◌∙◌, subst, inl, inr}
use Rattle.std.specs.Prelude.{Option, Some, None, is_some}
use Rattle.std.specs.List.{slice_get}
use Rattle.std.specs.Option.{option_map}
use Rattle.std.proofs.lemmas.Option.{slice_get_within}
use Rattle.std.proofs.lemmas.Bool.{cases_Bool}
use Rattle.world_meaning.specs.declared.tale.Object.{Object}
use Rattle.play_meaning.specs.Rules.{Aspect}
use Rattle.i7_actions.specs.Trying.{GoesBefore}
use Rattle.i7_actions.specs.TryingForms.{Best, best_from}
use Rattle.i7_actions.specs.declared.action.Action.{Action}
use Rattle.i7_actions.proofs.Chosen.{IsBestOfAll, best_of_all}
use Rattle.i7_conditions.specs.Scopes.{Scope}
use Rattle.i7_conditions.specs.Words.{Word}
use Rattle.i7_patterns.specs.ActionForms.{aspects_asked, place_asked}
use Rattle.i7_patterns.specs.Actions.{Aspects, AsksAt, AsksPlace}
use Rattle.i7_patterns.specs.Asked.{IsAsked, judged}
use Rattle.i7_patterns.specs.AspectForms.{one_asked}
use Rattle.i7_patterns.specs.Aspects.{AsksOne}
use Rattle.i7_patterns.specs.PatternForms.{action_asked, action_by, anything_by, can_ask, pattern_asked}
use Rattle.i7_patterns.specs.Patterns.{AsksAction, AsksAnything, IsPattern, any_in, behind_anything, is_right, pattern_is_over, pattern_of}
use Rattle.play_meaning.specs.Patterns.{Pattern}
use Rattle.i7_patterns.specs.Places.{is_long, is_right_place}
use Rattle.i7_patterns.specs.declared.asked.Asked.{Asked}
use Rattle.i7_patterns.proofs.Described.{one_given}
use Rattle.i7_patterns.proofs.Given.{IsGiven, IsSearched, or_given, some_of}
use Rattle.i7_patterns.proofs.Placed.{aspects_given, place_given}

-- ---- `doing anything`

anything_as : (s : Scope) (words rest : List Word) → behind_anything words ≡ Some rest → (place : Option Aspect) → IsGiven (AsksPlace s rest) place
    → IsGiven (AsksAnything s words) (option_map (λ place. pattern_of None (any_in place)) place)
anything_as s words rest e (Some place) h = (rest, e, (place, h, refl))
anything_as s words rest e None h = λ p asks.
    let both : Some asks.0 ≡ Some rest = sym asks.1 ∙ e in
    let same : asks.0 ≡ rest = cc in
    h asks.2.0 (subst (λ (rest : List Word). AsksPlace s rest asks.2.0) same asks.2.1)

by_anything : (s : Scope) (words : List Word) (found : Option (List Word)) → behind_anything words ≡ found → IsGiven (AsksAnything s words) (anything_by s found)
by_anything s words None e = λ p asks. let same : None ≡ Some asks.0 = sym e ∙ asks.1 in absurd cc
by_anything s words (Some rest) e = anything_as s words rest e (place_asked s rest) (place_given s rest)

-- ---- an action

can_be_asked : (s : Scope) (words : List Word) (a : Action) (n : ℕ) (x : Aspects) → AsksAt s a words n x → can_ask s words a ≡ true
can_be_asked s words a n x asks = some_of (AsksAt s a words) (aspects_asked s a words) n x (aspects_given s a words) asks

action_as : (actions : List Action) (s : Scope) (words : List Word) (number : ℕ) (a : Action) → slice_get actions number ≡ Some a
    → ((m : ℕ) (other : Action) → slice_get actions m ≡ Some other → GoesBefore m other number a → can_ask s words other ≡ true → ⊥) → (found : Option Aspects) → is_some found ≡ true
    → IsSearched (AsksAt s a words) found → IsGiven (AsksAction actions s words) (option_map (pattern_of (Some number)) found)
action_as actions s words number a at first (Some x) is h = record {
  number = number;
  action = a;
  aspects = x;
  at = at;
  asks = h;
  first = λ m other there before n others asks. first m other there before (can_be_asked s words other n others asks);
  asked = refl;
}
action_as actions s words number a at first None is h = absurd cc

by_best : (actions : List Action) (s : Scope) (words : List Word) (best : Best) → IsBestOfAll (can_ask s words) actions best → IsGiven (AsksAction actions s words) (action_by s words best)
by_best actions s words None h = λ p asks. h asks.number asks.action asks.at (can_be_asked s words asks.action asks.asks.n asks.aspects asks.asks.stands)
by_best actions s words (Some best) h =
    action_as actions s words best.0 best.1 h.at (λ m other at before can. h.first m other (slice_get_within actions m other at) at before can)
    (aspects_asked s best.1 words) h.tries (aspects_given s best.1 words)

-- ---- patterns

pattern_given : (actions : List Action) (s : Scope) (words : List Word) → IsGiven (IsPattern actions s words) (pattern_asked actions s words)
unfolding pattern_asked
pattern_given actions s words =
    or_given (AsksAnything s words) (AsksAction actions s words) (anything_by s (behind_anything words)) (action_asked actions s words) (by_anything s words (behind_anything words) refl)
    (by_best actions s words (best_from (can_ask s words) 0 None actions) (best_of_all (can_ask s words) actions))

judged_as : {A : Type 0} (Means : A → Type 0) (is_right over : A → Bool) (found : Option A) → IsGiven Means found → IsAsked Means is_right over (judged is_right over found)
judged_as Means is_right over None h = h
judged_as Means is_right over (Some x) h =
    elim (cases_Bool (is_right x)) [
      | inl right ↦ elim (cases_Bool (over x)) [
        | inl long ↦ rw (right, long) (x, h, right, long)
        | inr short ↦ rw (right, short) (h, right, short)
      ]
      | inr wrong ↦ rw wrong (x, h, wrong)
    ]

pub patterns_found : (actions : List Action) (s : Scope) (words : List Word) (parents : List (Option ℕ)) (objects : List Object) (pattern : Option Pattern) (found : Asked Pattern)
    → pattern ≡ pattern_asked actions s words → found ≡ judged (is_right parents objects) pattern_is_over pattern
    → IsAsked (IsPattern actions s words) (is_right parents objects) pattern_is_over found
patterns_found actions s words parents objects pattern found e f =
    subst (IsAsked (IsPattern actions s words) (is_right parents objects) pattern_is_over) (sym f)
    (judged_as (IsPattern actions s words) (is_right parents objects) pattern_is_over pattern (subst (IsGiven (IsPattern actions s words)) (sym e) (pattern_given actions s words)))

pub places_found : (s : Scope) (words : List Word) (parents : List (Option ℕ)) (objects : List Object) (place : Option Aspect) (found : Asked Aspect) → place ≡ one_asked s words
    → found ≡ judged (is_right_place parents objects) is_long place → IsAsked (AsksOne s words) (is_right_place parents objects) is_long found
places_found s words parents objects place found e f =
    subst (IsAsked (AsksOne s words) (is_right_place parents objects) is_long) (sym f)
    (judged_as (AsksOne s words) (is_right_place parents objects) is_long place (subst (IsGiven (AsksOne s words)) (sym e) (one_given s words)))
