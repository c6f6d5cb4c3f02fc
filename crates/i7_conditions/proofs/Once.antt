-- Words ask one condition at most.
use Rattle.std.proofs.Common.{◌≡◌, ℕ, List, [], ◌∷◌, take, sym, ap, ◌∙◌, subst}
use Rattle.std.specs.Prelude.{Option, Some, None}
use Rattle.std.specs.List.{slice_split}
use Rattle.world_meaning.specs.declared.place.Rel.{Rel}
use Rattle.play_meaning.specs.Meant.{quality_meant}
use Rattle.play_meaning.specs.Trees as tree
use Rattle.play_meaning.specs.Trees.{Condition}
use Rattle.play_meaning.specs.declared.tree.object.Quality.{Quality}
use Rattle.i7_conditions.specs.Adjectives.{quality_named}
use Rattle.i7_conditions.specs.Between.{IsParted}
use Rattle.i7_conditions.specs.Clauses.{Asks, AsksBy, AsksByVerb, AsksIn, Compared, Denied, DeniedTwice, Does, HasText, InTheDark, NotInTheDark, OfAdjective, OfNumbers, OfObject, OfScene, OfValue, Plainly, asked_of, behind_not, behind_nots, compared, comparison_at, has_value, scene_named, spelling, split_is}
use Rattle.i7_conditions.specs.Conditions.{AsksAll, IsCondition, Joins, JoinsBehind, is_and, is_or}
use Rattle.i7_conditions.specs.Describing.{Describes}
use Rattle.i7_conditions.specs.Numbers.{CountsAs}
use Rattle.i7_conditions.specs.Objects.{Means}
use Rattle.i7_conditions.specs.Predicates.{Held, HeldByOne, One, Predicate, Same, Says, SaysHeld, SaysHeldByOne, SaysOne, SaysSame, SaysSo, So, said_of}
use Rattle.i7_conditions.specs.Readings.{FirstOf}
use Rattle.i7_conditions.specs.Relations.{relation_at}
use Rattle.i7_conditions.specs.Scopes.{Scope}
use Rattle.i7_conditions.specs.Values.{SaysValue}
use Rattle.i7_conditions.specs.Words.{Word}
use Rattle.i7_conditions.specs.declared.comparison.Comparison.{Comparison}
use Rattle.i7_conditions.specs.declared.verb.Verb.{Verb}
use Rattle.i7_conditions.specs.declared.verb.Verb.TheVariants.{Carries, Encloses, Has, Wears}
use Rattle.i7_conditions.proofs.Counting.{counted_once}
use Rattle.i7_conditions.proofs.Described.{described_once}
use Rattle.i7_conditions.proofs.Done.{at_end}
use Rattle.i7_conditions.proofs.Listing.{IsOnce, Made, at_once, first_once, made_once, two_once}
use Rattle.i7_conditions.proofs.Parted.{parted_once}
use Rattle.i7_conditions.proofs.Readings.{meant_once}
use Rattle.i7_conditions.proofs.Valued.{value_once}

-- ---- clauses with an `is`

so_once : (s : Scope) (words : List Word) → IsOnce (SaysSo s words)
so_once s words = at_once (quality_named s words) (λ (q : Quality) (p : Predicate). p ≡ So (quality_meant q)) (λ q p r e f. e ∙ sym f)

says_once : (s : Scope) (words : List Word) → IsOnce (Says s words)
says_once s words =
    first_once (SaysSo s words) (FirstOf (SaysOne s words) (FirstOf (SaysSame s words) (FirstOf (SaysHeld s words) (SaysHeldByOne s words))))
    (so_once s words)
    (first_once (SaysOne s words) (FirstOf (SaysSame s words) (FirstOf (SaysHeld s words) (SaysHeldByOne s words)))
    (made_once One (Describes s words) (described_once s words))
    (first_once (SaysSame s words) (FirstOf (SaysHeld s words) (SaysHeldByOne s words)) (made_once Same (Means s words) (meant_once s words))
    (first_once (SaysHeld s words) (SaysHeldByOne s words)
    (at_once (relation_at words) (λ (parts : Rel × List Word). Made (Held parts.0) (Means s parts.1)) (λ parts. made_once (Held parts.0) (Means s parts.1) (meant_once s parts.1)))
    (at_once (relation_at words) (λ (parts : Rel × List Word). Made (HeldByOne parts.0) (Describes s parts.1))
    (λ parts. made_once (HeldByOne parts.0) (Describes s parts.1) (described_once s parts.1))))))

plainly_once : (s : Scope) (subject behind : List Word) → IsOnce (Plainly s subject behind)
plainly_once s subject behind =
    first_once (OfValue s subject behind) (FirstOf (OfObject s subject behind) (FirstOf (OfNumbers s subject behind) (OfScene s subject behind))) (made_once has_value (SaysValue s subject behind) (value_once s subject behind))
    (first_once (OfObject s subject behind) (FirstOf (OfNumbers s subject behind) (OfScene s subject behind)) (two_once said_of (Means s subject) (Says s behind) (meant_once s subject) (says_once s behind))
    (first_once (OfNumbers s subject behind) (OfScene s subject behind) (two_once tree.Equals (CountsAs s subject) (CountsAs s behind) (counted_once s subject) (counted_once s behind))
    (λ c d a b. at_once (scene_named s subject) (λ (k : ℕ) (c : Condition). c ≡ tree.Happens k) (λ k c d e f. e ∙ sym f) c d (a.0, a.1, a.3) (b.0, b.1, b.3))))

asked_once : (s : Scope) (subject behind : List Word) → IsOnce (AsksBy s subject behind)
asked_once s subject behind =
    first_once (Plainly s subject behind) (FirstOf (Denied s subject behind) (FirstOf (DeniedTwice s subject behind) (Compared s subject behind))) (plainly_once s subject behind)
    (first_once (Denied s subject behind) (FirstOf (DeniedTwice s subject behind) (Compared s subject behind))
    (at_once (behind_not behind) (λ (rest : List Word). Made tree.Not (Plainly s subject rest)) (λ rest. made_once tree.Not (Plainly s subject rest) (plainly_once s subject rest)))
    (first_once (DeniedTwice s subject behind) (Compared s subject behind)
    (at_once (behind_nots behind) (λ (rest : List Word). OfAdjective s subject rest) (λ rest. two_once said_of (Means s subject) (SaysSo s rest) (meant_once s subject) (so_once s rest)))
    (at_once (comparison_at behind) (λ (parts : Comparison × List Word) (c : Condition). (m : tree.Number) × (n : tree.Number) × CountsAs s subject m × CountsAs s parts.1 n × (c ≡ compared parts.0 m n))
    (λ parts. two_once (compared parts.0) (CountsAs s subject) (CountsAs s parts.1) (counted_once s subject) (counted_once s parts.1)))))

-- ---- clauses without one

has_text_once : (s : Scope) (words : List Word) → IsOnce (HasText s words)
has_text_once s words c d a b =
    let same : a.0 ≡ b.0 = at_end words a.0 a.2 ∙ sym (at_end words b.0 b.2) in
    a.4 ∙ ap tree.HasDescription (meant_once s (take a.0 words) a.1 b.1 a.3 (subst (λ (n : ℕ). Means s (take n words) b.1) (sym same) b.3)) ∙ sym b.4

does_once : (s : Scope) (verb : Verb) (words : List Word) → IsOnce (Does s verb words)
does_once s verb words = made_once (asked_of verb) (IsParted s (spelling verb) words) (parted_once s (spelling verb) words)

done_once : (s : Scope) (words : List Word) → IsOnce (AsksByVerb s words)
done_once s words =
    first_once (HasText s words) (FirstOf (Does s Carries words) (FirstOf (Does s Wears words) (FirstOf (Does s Has words) (Does s Encloses words)))) (has_text_once s words)
    (first_once (Does s Carries words) (FirstOf (Does s Wears words) (FirstOf (Does s Has words) (Does s Encloses words))) (does_once s Carries words)
    (first_once (Does s Wears words) (FirstOf (Does s Has words) (Does s Encloses words)) (does_once s Wears words)
    (first_once (Does s Has words) (Does s Encloses words) (does_once s Has words) (does_once s Encloses words))))

-- ---- clauses and conditions

in_once : (s : Scope) (words : List Word) (parts : Option (List Word × List Word)) → IsOnce (AsksIn s words parts)
in_once s words None = done_once s words
in_once s words (Some parts) = asked_once s parts.0 parts.1

clause_once : (s : Scope) (words : List Word) → IsOnce (Asks s words)
clause_once s words =
    first_once (InTheDark words) (FirstOf (NotInTheDark words) (AsksIn s words (split_is words))) (λ c d a b. a.1 ∙ sym b.1)
    (first_once (NotInTheDark words) (AsksIn s words (split_is words))
    (λ c d a b. a.3 ∙ sym b.3)
    (in_once s words (split_is words)))

behind_once : (join : Condition → Condition → Condition) (Means : List Word → Condition → Type 0) → ((part : List Word) → IsOnce (Means part)) → (parts : List (List Word)) (front other c d : Condition)
    → front ≡ other → JoinsBehind join Means front parts c → JoinsBehind join Means other parts d → c ≡ d
behind_once join Means once [] front other c d e a b = a ∙ e ∙ sym b
behind_once join Means once (part ∷ parts) front other c d e a b =
    behind_once join Means once parts (join front a.0) (join other b.0) c d (ap (λ (all : Condition). join all a.0) e ∙ ap (join other) (once part a.0 b.0 a.1 b.1)) a.2 b.2

joins_once : (join : Condition → Condition → Condition) (Means : List Word → Condition → Type 0) → ((part : List Word) → IsOnce (Means part)) → (parts : List (List Word)) → IsOnce (Joins join Means parts)
joins_once join Means once [] c d a b = absurd a
joins_once join Means once (part ∷ parts) c d a b = behind_once join Means once parts a.0 b.0 c d (once part a.0 b.0 a.1 b.1) a.2 b.2

pub condition_once : (s : Scope) (words : List Word) (c d : Condition) → IsCondition s words c → IsCondition s words d → c ≡ d
condition_once s words = joins_once tree.Or (AsksAll s) (λ part. joins_once tree.And (Asks s) (clause_once s) (slice_split is_and part)) (slice_split is_or words)
