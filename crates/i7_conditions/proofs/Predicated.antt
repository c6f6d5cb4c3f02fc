-- What words are found to say of an object is what they say.
use Rattle.std.proofs.Common.{◌≡◌, ◌≤◌, ◌<◌, ◌⊎◌, ◌||◌, List, [], refl, sym, ap, ◌∙◌, subst, arith}
use Rattle.std.specs.Prelude.{Option, Some, None}
use Rattle.world_meaning.specs.declared.place.Rel.{Rel}
use Rattle.world_meaning.specs.declared.place.Rel.TheVariants.{In}
use Rattle.play_meaning.specs.Trees as tree
use Rattle.play_meaning.specs.declared.tree.object.Quality.{Quality}
use Rattle.i7_conditions.specs.Adjectives.{quality_named}
use Rattle.i7_conditions.specs.Describing.{Describes, IsDescriptionFound, adjectives_in, froms_in}
use Rattle.i7_conditions.specs.Descriptions.{description_said}
use Rattle.i7_conditions.specs.Objects.{IsObjectFound, Means, froms}
use Rattle.i7_conditions.specs.Predicates.{Held, HeldByOne, One, Predicate, Same, Says, SaysHeld, SaysHeldByOne, SaysOne, SaysSame, SaysSo, from_held, from_one, from_same, held_by_one_said, held_said, is_deep, is_long, is_over, object_said, predicate_said, so_by}
use Rattle.i7_conditions.specs.Readings.{FirstOf, IsFoundAs, one}
use Rattle.i7_conditions.specs.Relations.{relation_at}
use Rattle.i7_conditions.specs.Scopes.{Scope}
use Rattle.i7_conditions.specs.Words.{Word}
use Rattle.i7_conditions.specs.declared.found.Found.{Found}
use Rattle.i7_conditions.specs.declared.found.Found.TheVariants.{Read, TooMany, Unread}
use Rattle.i7_conditions.proofs.Described.{descriptions_found}
use Rattle.i7_conditions.proofs.Listing.{Made, one_found, or_found}
use Rattle.i7_conditions.proofs.Readings.{objects_found}
use Rattle.i7_conditions.proofs.Alone.{over_either, past, within}

object_as : (s : Scope) (words : List Word) (found : Found tree.Object) → IsObjectFound s words found → IsFoundAs (Means s words) is_deep found
object_as s words (Read o) h = (h.0, within (froms o) 8 h.1)
object_as s words TooMany h = (h.0, h.1, past (froms h.0) 8 h.2)
object_as s words Unread h = h

pub object_found : (s : Scope) (words : List Word) → IsFoundAs (Means s words) is_deep (object_said s words)
object_found s words = object_as s words (object_said s words) (objects_found s words (object_said s words) refl)

description_as : (s : Scope) (words : List Word) (found : Found tree.Description) → IsDescriptionFound s words found → IsFoundAs (Describes s words) is_long found
description_as s words (Read d) h = (h.0, rw (within (adjectives_in d) 9 h.1) (within (froms_in d) 8 h.2))
description_as s words TooMany h = (h.0, h.1, over_either (adjectives_in h.0) (froms_in h.0) h.2)
description_as s words Unread h = h

pub description_found : (s : Scope) (words : List Word) → IsFoundAs (Describes s words) is_long (description_said s words)
description_found s words = description_as s words (description_said s words) (descriptions_found s words (description_said s words) refl)

-- ---- each form

pub so_found : (s : Scope) (words : List Word) (found : Option Quality) → quality_named s words ≡ found → IsFoundAs (SaysSo s words) is_over (so_by found)
so_found s words None e = λ p says. let same : None ≡ Some says.0 = sym e ∙ says.1 in absurd cc
so_found s words (Some a) e = ((a, e, refl), refl)

abbrev Behind : Type 0
Behind = Rel × List Word

abbrev behind_in : Option Behind → Behind
behind_in None = (In, [])
behind_in (Some parts) = parts

held_as : (s : Scope) (words : List Word) (parts : Behind) (found : Found Predicate) → relation_at words ≡ Some parts → IsFoundAs (Made (Held parts.0) (Means s parts.1)) is_over found → IsFoundAs (SaysHeld s words) is_over found
held_as s words parts (Read p) at h = ((parts, at, h.0), h.1)
held_as s words parts TooMany at h = (h.0, (parts, at, h.1), h.2)
held_as s words parts Unread at h = λ p says.
    h p (subst (λ (q : Behind). Made (Held q.0) (Means s q.1) p) (ap behind_in (sym says.1 ∙ at)) says.2)

held_found : (s : Scope) (words : List Word) (found : Option Behind) → relation_at words ≡ found → IsFoundAs (SaysHeld s words) is_over (held_said s found)
held_found s words None at = λ p says. let same : None ≡ Some says.0 = sym at ∙ says.1 in absurd cc
held_found s words (Some parts) at =
    held_as s words parts (held_said s (Some parts)) at (one_found (Held parts.0) (Means s parts.1) is_deep is_over (λ o. refl) (object_said s parts.1) (object_found s parts.1))

by_one_as : (s : Scope) (words : List Word) (parts : Behind) (found : Found Predicate) → relation_at words ≡ Some parts → IsFoundAs (Made (HeldByOne parts.0) (Describes s parts.1)) is_over found
    → IsFoundAs (SaysHeldByOne s words) is_over found
by_one_as s words parts (Read p) at h = ((parts, at, h.0), h.1)
by_one_as s words parts TooMany at h = (h.0, (parts, at, h.1), h.2)
by_one_as s words parts Unread at h = λ p says.
    h p (subst (λ (q : Behind). Made (HeldByOne q.0) (Describes s q.1) p) (ap behind_in (sym says.1 ∙ at)) says.2)

by_one_found : (s : Scope) (words : List Word) (found : Option Behind) → relation_at words ≡ found → IsFoundAs (SaysHeldByOne s words) is_over (held_by_one_said s found)
by_one_found s words None at = λ p says. let same : None ≡ Some says.0 = sym at ∙ says.1 in absurd cc
by_one_found s words (Some parts) at =
    by_one_as s words parts (held_by_one_said s (Some parts)) at
    (one_found (HeldByOne parts.0) (Describes s parts.1) is_long is_over (λ d. refl) (description_said s parts.1) (description_found s parts.1))

pub predicate_found : (s : Scope) (words : List Word) → IsFoundAs (Says s words) is_over (predicate_said s words)
unfolding predicate_said
predicate_found s words =
    or_found (SaysSo s words) (FirstOf (SaysOne s words) (FirstOf (SaysSame s words) (FirstOf (SaysHeld s words) (SaysHeldByOne s words)))) is_over (so_by (quality_named s words)) (from_one s words)
    (so_found s words (quality_named s words) refl)
    (or_found (SaysOne s words) (FirstOf (SaysSame s words) (FirstOf (SaysHeld s words) (SaysHeldByOne s words))) is_over (one One (description_said s words)) (from_same s words)
    (one_found One (Describes s words) is_long is_over (λ d. refl) (description_said s words) (description_found s words))
    (or_found (SaysSame s words) (FirstOf (SaysHeld s words) (SaysHeldByOne s words)) is_over (one Same (object_said s words)) (from_held s (relation_at words))
    (one_found Same (Means s words) is_deep is_over (λ o. refl) (object_said s words) (object_found s words))
    (or_found (SaysHeld s words) (SaysHeldByOne s words) is_over (held_said s (relation_at words)) (held_by_one_said s (relation_at words)) (held_found s words (relation_at words) refl) (by_one_found s words (relation_at words) refl))))
