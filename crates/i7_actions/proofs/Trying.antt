-- What is found of words behind `try` is what they try.
use Rattle.std.proofs.Common.{◌≡◌, ℕ, true, List, sym, subst}
use Rattle.std.specs.Prelude.{Some, None}
use Rattle.std.specs.List.{slice_get}
use Rattle.std.proofs.lemmas.Option.{slice_get_within}
use Rattle.i7_conditions.specs.Joining.{is_read}
use Rattle.i7_conditions.specs.Readings.{IsFoundAs, one}
use Rattle.i7_conditions.specs.Scopes.{Scope}
use Rattle.i7_conditions.specs.Words.{Word}
use Rattle.i7_conditions.specs.declared.found.Found.{Found}
use Rattle.i7_conditions.specs.declared.found.Found.TheVariants.{Read, TooMany, Unread}
use Rattle.i7_actions.specs.NounForms.{nouns_said}
use Rattle.i7_actions.specs.Nouns.{Nouns, Reads}
use Rattle.i7_actions.specs.Trying.{GoesBefore, Tries, Try, try_is_over}
use Rattle.i7_actions.specs.TryingForms.{Best, best_from, can_try, tried_by, tried_said, try_of}
use Rattle.i7_actions.specs.declared.action.Action.{Action}
use Rattle.i7_actions.proofs.Chosen.{IsBestOfAll, best_of_all}
use Rattle.i7_actions.proofs.Found.{IsGiven, IsShortest, given_of, nouns_given, read_of}

can_be_tried : (s : Scope) (words : List Word) (a : Action) (n : ℕ) (nouns : Nouns) → Reads s a words n nouns → can_try s words a ≡ true
can_be_tried s words a n nouns reads = read_of (Reads s a words) (nouns_said s a words) n nouns (nouns_given s a words) reads

tries : (actions : List Action) (s : Scope) (words : List Word) (n : ℕ) (a : Action) (nouns : Nouns) → slice_get actions n ≡ Some a
    → ((m : ℕ) (other : Action) → slice_get actions m ≡ Some other → GoesBefore m other n a → can_try s words other ≡ true → ⊥)
    → IsShortest (Reads s a words) 0 nouns → Tries actions s words (try_of n nouns)
tries actions s words n a nouns at first h =
    record { action = a; at = at; gives = given_of s a words nouns h; first = λ m other there before k others reads. first m other there before (can_be_tried s words other k others reads) }

tried_as : (actions : List Action) (s : Scope) (words : List Word) (n : ℕ) (a : Action) → slice_get actions n ≡ Some a
    → ((m : ℕ) (other : Action) → slice_get actions m ≡ Some other → GoesBefore m other n a → can_try s words other ≡ true → ⊥) → (found : Found Nouns) → is_read found ≡ true → IsGiven s a words found
    → IsFoundAs (Tries actions s words) try_is_over (one (try_of n) found)
tried_as actions s words n a at first (Read nouns) is h = (tries actions s words n a nouns at first h.0, h.1)
tried_as actions s words n a at first TooMany is h = (try_of n h.0, tries actions s words n a h.0 at first h.1, h.2)
tried_as actions s words n a at first Unread is h = absurd cc

by_best : (actions : List Action) (s : Scope) (words : List Word) (best : Best) → IsBestOfAll (can_try s words) actions best → IsFoundAs (Tries actions s words) try_is_over (tried_by s words best)
by_best actions s words None h = λ t tries. h t.action tries.action tries.at (can_be_tried s words tries.action tries.gives.n t.nouns tries.gives.reads)
by_best actions s words (Some best) h =
    tried_as actions s words best.0 best.1 h.at (λ m other at before can. h.first m other (slice_get_within actions m other at) at before can)
    (nouns_said s best.1 words) h.tries (nouns_given s best.1 words)

pub tries_found : (actions : List Action) (s : Scope) (words : List Word) (found : Found Try) → found ≡ tried_said actions s words → IsFoundAs (Tries actions s words) try_is_over found
unfolding tried_said
tries_found actions s words found e =
    subst (IsFoundAs (Tries actions s words) try_is_over) (sym e) (by_best actions s words (best_from (can_try s words) 0 None actions) (best_of_all (can_try s words) actions))
