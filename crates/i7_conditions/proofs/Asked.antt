-- What a clause with an `is` is found to ask is what it asks.
use Rattle.std.proofs.Common.{◌≡◌, ℕ, Bool, true, false, ◌||◌, List, [], refl, sym, ap, ◌∙◌, subst}
use Rattle.std.specs.Prelude.{Option, Some, None}
use Rattle.play_meaning.specs.Trees as tree
use Rattle.i7_conditions.specs.Asking.{asked_by, compared_by, denied_by, denied_twice, from_denied, from_numbers, from_object, from_twice, of_adjective, of_numbers, of_object, of_scene, of_value, plain_said, scene_by}
use Rattle.i7_conditions.specs.Adjectives.{quality_named}
use Rattle.i7_conditions.specs.Clauses.{AsksBy, Compared, Denied, DeniedTwice, OfAdjective, OfNumbers, OfObject, OfScene, OfValue, Plainly, asks_over, behind_not, behind_nots, compared, comparison_at, has_value, is_happening, scene_named}
use Rattle.i7_conditions.specs.Joining.{number_said}
use Rattle.i7_conditions.specs.Numbers.{CountsAs, IsNumberFound}
use Rattle.i7_conditions.specs.Objects.{Means}
use Rattle.i7_conditions.specs.Predicates.{Predicate, Says, SaysSo, is_deep, object_said, predicate_said, said_of, so_by}
use Rattle.i7_conditions.specs.Predicates as predicate
use Rattle.i7_conditions.specs.Readings.{FirstOf, IsFoundAs}
use Rattle.i7_conditions.specs.Scopes.{Scope}
use Rattle.i7_conditions.specs.Terms.{is_over}
use Rattle.i7_conditions.specs.Values as value
use Rattle.i7_conditions.specs.Values.{SaysValue, value_said}
use Rattle.i7_conditions.specs.Words.{Word}
use Rattle.i7_conditions.specs.declared.comparison.Comparison.{Comparison}
use Rattle.i7_conditions.specs.declared.comparison.Comparison.TheVariants.{AtLeast, AtMost, Greater, Less}
use Rattle.i7_conditions.specs.declared.found.Found.{Found}
use Rattle.i7_conditions.specs.declared.found.Found.TheVariants.{Read, TooMany, Unread}
use Rattle.i7_conditions.proofs.Counting.{counted, numbers_found}
use Rattle.i7_conditions.proofs.Listing.{Made, MadeOfTwo, one_found, or_found, two_found}
use Rattle.i7_conditions.proofs.Predicated.{object_found, predicate_found, so_found}
use Rattle.i7_conditions.proofs.Valued.{value_found}

number_as : (s : Scope) (words : List Word) (found : Found tree.Number) → IsNumberFound s words found → IsFoundAs (CountsAs s words) is_over found
number_as s words (Read m) h = h
number_as s words TooMany h = h
number_as s words Unread h = λ m counts. h m (counted s words m counts)

pub number_found : (s : Scope) (words : List Word) → IsFoundAs (CountsAs s words) is_over (number_said s words)
number_found s words = number_as s words (number_said s words) (numbers_found s words (number_said s words) refl)

-- ---- without a `not` of its own

or_none : (a : Bool) → a ≡ (a || false)
or_none true = refl
or_none false = refl

over_said : (o : tree.Object) (p : Predicate) → asks_over (said_of o p) ≡ (is_deep o || predicate.is_over p)
over_said o (predicate.So adjective) = or_none (is_deep o)
over_said o (predicate.One description) = refl
over_said o (predicate.Same other) = refl
over_said o (predicate.Held relation holder) = refl
over_said o (predicate.HeldByOne relation description) = refl

value_asked : (s : Scope) (subject behind : List Word) → IsFoundAs (OfValue s subject behind) asks_over (of_value s subject behind)
value_asked s subject behind = one_found has_value (SaysValue s subject behind) value.is_over asks_over (λ v. refl) (value_said s subject behind) (value_found s subject behind)

object_asked : (s : Scope) (subject behind : List Word) → IsFoundAs (OfObject s subject behind) asks_over (of_object s subject behind)
object_asked s subject behind =
    two_found said_of (Means s subject) (Says s behind) is_deep predicate.is_over asks_over over_said (object_said s subject) (predicate_said s behind) (object_found s subject) (predicate_found s behind)

numbers_asked : (s : Scope) (subject behind : List Word) → IsFoundAs (OfNumbers s subject behind) asks_over (of_numbers s subject behind)
numbers_asked s subject behind =
    two_found tree.Equals (CountsAs s subject) (CountsAs s behind) is_over is_over asks_over (λ m n. refl) (number_said s subject) (number_said s behind) (number_found s subject) (number_found s behind)

scene_asked : (s : Scope) (subject behind : List Word) (found : Option ℕ) (happens : Bool) → scene_named s subject ≡ found → is_happening behind ≡ happens → IsFoundAs (OfScene s subject behind) asks_over (scene_by found happens)
scene_asked s subject behind None happens e f = λ c asks. let same : None ≡ Some asks.0 = sym e ∙ asks.1 in absurd cc
scene_asked s subject behind (Some k) true e f = ((k, e, f, refl), refl)
scene_asked s subject behind (Some k) false e f = λ c asks. let same : false ≡ true = sym f ∙ asks.2 in absurd cc

pub plain_asked : (s : Scope) (subject behind : List Word) → IsFoundAs (Plainly s subject behind) asks_over (plain_said s subject behind)
unfolding plain_said
plain_asked s subject behind =
    or_found (OfValue s subject behind) (FirstOf (OfObject s subject behind) (FirstOf (OfNumbers s subject behind) (OfScene s subject behind))) asks_over (of_value s subject behind) (from_object s subject behind)
    (value_asked s subject behind)
    (or_found (OfObject s subject behind) (FirstOf (OfNumbers s subject behind) (OfScene s subject behind)) asks_over (of_object s subject behind) (from_numbers s subject behind) (object_asked s subject behind)
    (or_found (OfNumbers s subject behind) (OfScene s subject behind) asks_over (of_numbers s subject behind) (of_scene s subject behind) (numbers_asked s subject behind)
    (scene_asked s subject behind (scene_named s subject) (is_happening behind) refl refl)))

-- ---- `is not`, and comparisons

abbrev pub words_in : Option (List Word) → List Word
words_in None = []
words_in (Some words) = words

adjective_asked : (s : Scope) (subject words : List Word) → IsFoundAs (OfAdjective s subject words) asks_over (of_adjective s subject words)
adjective_asked s subject words =
    two_found said_of (Means s subject) (SaysSo s words) is_deep predicate.is_over asks_over over_said (object_said s subject) (so_by (quality_named s words)) (object_found s subject)
    (so_found s words (quality_named s words) refl)

twice_as : (s : Scope) (subject behind rest : List Word) (found : Found tree.Condition) → behind_nots behind ≡ Some rest → IsFoundAs (OfAdjective s subject rest) asks_over found → IsFoundAs (DeniedTwice s subject behind) asks_over found
twice_as s subject behind rest (Read c) at h = ((rest, at, h.0), h.1)
twice_as s subject behind rest TooMany at h = (h.0, (rest, at, h.1), h.2)
twice_as s subject behind rest Unread at h = λ c asks. h c (subst (λ (words : List Word). OfAdjective s subject words c) (ap words_in (sym asks.1 ∙ at)) asks.2)

twice_asked : (s : Scope) (subject behind : List Word) (found : Option (List Word)) → behind_nots behind ≡ found → IsFoundAs (DeniedTwice s subject behind) asks_over (denied_twice s subject found)
twice_asked s subject behind None at = λ c asks. let same : None ≡ Some asks.0 = sym at ∙ asks.1 in absurd cc
twice_asked s subject behind (Some rest) at = twice_as s subject behind rest (of_adjective s subject rest) at (adjective_asked s subject rest)

denied_as : (s : Scope) (subject behind rest : List Word) (found : Found tree.Condition) → behind_not behind ≡ Some rest → IsFoundAs (Made tree.Not (Plainly s subject rest)) asks_over found → IsFoundAs (Denied s subject behind) asks_over found
denied_as s subject behind rest (Read c) at h = ((rest, at, h.0), h.1)
denied_as s subject behind rest TooMany at h = (h.0, (rest, at, h.1), h.2)
denied_as s subject behind rest Unread at h = λ c asks. h c (subst (λ (words : List Word). Made tree.Not (Plainly s subject words) c) (ap words_in (sym asks.1 ∙ at)) asks.2)

denied_asked : (s : Scope) (subject behind : List Word) (found : Option (List Word)) → behind_not behind ≡ found → IsFoundAs (Denied s subject behind) asks_over (denied_by s subject found)
denied_asked s subject behind None at = λ c asks. let same : None ≡ Some asks.0 = sym at ∙ asks.1 in absurd cc
denied_asked s subject behind (Some rest) at =
    denied_as s subject behind rest (denied_by s subject (Some rest)) at (one_found tree.Not (Plainly s subject rest) asks_over asks_over (λ c. refl) (plain_said s subject rest) (plain_asked s subject rest))

abbrev Parts : Type 0
Parts = Comparison × List Word

abbrev parts_in : Option Parts → Parts
parts_in None = (Greater, [])
parts_in (Some parts) = parts

pub or_swapped : (a b : Bool) → (b || a) ≡ (a || b)
or_swapped true true = refl
or_swapped true false = refl
or_swapped false true = refl
or_swapped false false = refl

over_compared : (how : Comparison) (a b : tree.Number) → asks_over (compared how a b) ≡ (is_over a || is_over b)
over_compared Greater a b = or_swapped (is_over a) (is_over b)
over_compared Less a b = refl
over_compared AtLeast a b = or_swapped (is_over a) (is_over b)
over_compared AtMost a b = refl

compared_as : (s : Scope) (subject behind : List Word) (parts : Parts) (found : Found tree.Condition) → comparison_at behind ≡ Some parts
    → IsFoundAs (MadeOfTwo (compared parts.0) (CountsAs s subject) (CountsAs s parts.1)) asks_over found → IsFoundAs (Compared s subject behind) asks_over found
compared_as s subject behind parts (Read c) at h = ((parts, at, h.0), h.1)
compared_as s subject behind parts TooMany at h = (h.0, (parts, at, h.1), h.2)
compared_as s subject behind parts Unread at h = λ c asks.
    h c (subst (λ (q : Parts). MadeOfTwo (compared q.0) (CountsAs s subject) (CountsAs s q.1) c) (ap parts_in (sym asks.1 ∙ at)) asks.2)

compared_asked : (s : Scope) (subject behind : List Word) (found : Option Parts) → comparison_at behind ≡ found → IsFoundAs (Compared s subject behind) asks_over (compared_by s subject found)
compared_asked s subject behind None at = λ c asks. let same : None ≡ Some asks.0 = sym at ∙ asks.1 in absurd cc
compared_asked s subject behind (Some parts) at =
    compared_as s subject behind parts (compared_by s subject (Some parts)) at
    (two_found (compared parts.0) (CountsAs s subject) (CountsAs s parts.1) is_over is_over asks_over (over_compared parts.0) (number_said s subject) (number_said s parts.1) (number_found s subject) (number_found s parts.1))

pub asked_found : (s : Scope) (subject behind : List Word) → IsFoundAs (AsksBy s subject behind) asks_over (asked_by s subject behind)
unfolding asked_by
asked_found s subject behind =
    or_found (Plainly s subject behind) (FirstOf (Denied s subject behind) (FirstOf (DeniedTwice s subject behind) (Compared s subject behind))) asks_over (plain_said s subject behind) (from_denied s subject behind)
    (plain_asked s subject behind)
    (or_found (Denied s subject behind) (FirstOf (DeniedTwice s subject behind) (Compared s subject behind)) asks_over (denied_by s subject (behind_not behind)) (from_twice s subject behind)
    (denied_asked s subject behind (behind_not behind) refl)
    (or_found (DeniedTwice s subject behind) (Compared s subject behind) asks_over (denied_twice s subject (behind_nots behind)) (compared_by s subject (comparison_at behind))
    (twice_asked s subject behind (behind_nots behind) refl) (compared_asked s subject behind (comparison_at behind) refl)))
