-- What words are found to ask, their parts joined from the first on, is what they ask.
use Rattle.std.proofs.Common.{◌≡◌, ℕ, ◌+◌, Bool, ◌||◌, List, [], ◌∷◌, length, refl, sym, subst}
use Rattle.std.specs.Prelude.{Option, None, Some}
use Rattle.std.specs.List.{slice_split}
use Rattle.play_meaning.specs.Trees.{And, Condition, Or}
use Rattle.i7_conditions.specs.ClauseForms.{clause_said}
use Rattle.i7_conditions.specs.Clauses.{Asks, asks_over}
use Rattle.i7_conditions.specs.Conditions.{AsksAll, IsCondition, Joins, JoinsBehind, is_and, is_or}
use Rattle.i7_conditions.specs.Conjoining.{condition_said, conjunction_said, joined_behind, joined_parts}
use Rattle.i7_conditions.specs.Readings.{IsFoundAs, two}
use Rattle.i7_conditions.specs.Scopes.{Scope}
use Rattle.i7_conditions.specs.Words.{Word}
use Rattle.i7_conditions.specs.declared.found.Found.{Found}
use Rattle.i7_conditions.specs.declared.found.Found.TheVariants.{Read, TooMany, Unread}
use Rattle.i7_conditions.proofs.Listing.{MadeOfTwo, two_found}
use Rattle.i7_conditions.proofs.Questions.{clauses_found}

abbrev Join : Type 0
Join = Condition → Condition → Condition

-- one that stands in front, and all that is joined to it
abbrev From : Join → (List Word → Condition → Type 0) → (Condition → Type 0) → List (List Word) → Condition → Type 0
From join Means Front parts c = (front : Condition) × Front front × JoinsBehind join Means front parts c

alike : {A : Type 0} (First Second : A → Type 0) (over : A → Bool) → ((x : A) → First x → Second x) → ((x : A) → Second x → First x) → (found : Found A) → IsFoundAs First over found → IsFoundAs Second over found
alike First Second over there back (Read x) h = (there x h.0, h.1)
alike First Second over there back TooMany h = (h.0, there h.0 h.1, h.2)
alike First Second over there back Unread h = λ x second. h x (back x second)

-- each join asks beyond the limits where one of its two does
abbrev IsOverByParts : Join → Type 0
IsOverByParts join = (c d : Condition) → asks_over (join c d) ≡ (asks_over c || asks_over d)

behind_found : (join : Join) (Means : List Word → Condition → Type 0) (said : List Word → Found Condition) → IsOverByParts join → ((part : List Word) → IsFoundAs (Means part) asks_over (said part))
    → (parts : List (List Word)) (Front : Condition → Type 0) (front : Found Condition) → IsFoundAs Front asks_over front → IsFoundAs (From join Means Front parts) asks_over (joined_behind join said front parts)
behind_found join Means said over means [] Front front h =
    alike Front (From join Means Front []) asks_over (λ c is. (c, is, refl)) (λ c is. subst Front (sym is.2) is.1) front h
behind_found join Means said over means (part ∷ parts) Front front h =
    let two_are : IsFoundAs (MadeOfTwo join Front (Means part)) asks_over (two join front (said part)) = two_found join Front (Means part) asks_over asks_over asks_over over front (said part) h (means part) in
    alike (From join Means (MadeOfTwo join Front (Means part)) parts) (From join Means Front (part ∷ parts)) asks_over
    (λ c is. (is.1.0, is.1.2, (is.1.1, is.1.3, subst (λ (all : Condition). JoinsBehind join Means all parts c) is.1.4 is.2)))
    (λ c is. (join is.0 is.2.0, (is.0, is.2.0, is.1, is.2.1, refl), is.2.2))
    (joined_behind join said (two join front (said part)) parts) (behind_found join Means said over means parts (MadeOfTwo join Front (Means part)) (two join front (said part)) two_are)

parts_found : (join : Join) (Means : List Word → Condition → Type 0) (said : List Word → Found Condition) → IsOverByParts join → ((part : List Word) → IsFoundAs (Means part) asks_over (said part))
    → (parts : List (List Word)) → IsFoundAs (Joins join Means parts) asks_over (joined_parts join said parts)
parts_found join Means said over means [] = λ c is. is
parts_found join Means said over means (part ∷ parts) = behind_found join Means said over means parts (Means part) (said part) (means part)

all_found : (s : Scope) (words : List Word) → IsFoundAs (AsksAll s words) asks_over (conjunction_said s words)
unfolding conjunction_said
all_found s words = parts_found And (Asks s) (clause_said s) (λ c d. refl) (λ part. clauses_found s part (clause_said s part) refl) (slice_split is_and words)

pub conditions_found : (s : Scope) (words : List Word) (found : Found Condition) → found ≡ condition_said s words → IsFoundAs (IsCondition s words) asks_over found
unfolding condition_said
conditions_found s words found e =
    subst (IsFoundAs (IsCondition s words) asks_over) (sym e) (parts_found Or (AsksAll s) (conjunction_said s) (λ c d. refl) (all_found s) (slice_split is_or words))

-- what is left of words behind a joint
abbrev pub left : Option (List Word) → ℕ
left None = 0
left (Some words) = 1 + length words
