-- What phrases that change the world are found to do is what they do.
use Rattle.std.proofs.Common.{◌≡◌, ℕ, Bool, true, false, ◌||◌, List, refl, sym, ap, ◌∙◌, subst, inl, inr}
use Rattle.std.specs.Prelude.{Option, Some, None, codes}
use Rattle.std.proofs.lemmas.Bool.{cases_Bool}
use Rattle.world_meaning.specs.declared.place.Rel.{Rel}
use Rattle.world_meaning.specs.declared.place.Rel.TheVariants.{Carried, Worn}
use Rattle.i7_sentences.specs.declared.spoken.Spoken.{Spoken}
use Rattle.i7_sentences.specs.declared.spoken.Spoken.TheVariants as spoken
use Rattle.play_meaning.specs.Meant.{by_operator}
use Rattle.play_meaning.specs.Trees as tree
use Rattle.play_meaning.specs.declared.tree.number.Operator.{Operator}
use Rattle.play_meaning.specs.declared.tree.number.Operator.TheVariants.{Minus, Plus, Times}
use Rattle.i7_conditions.specs.Adjectives.{adjective_named, quality_named}
use Rattle.i7_conditions.specs.Between.{IsParted, is_one_deep, parted_said}
use Rattle.i7_conditions.specs.Clauses.{split_is}
use Rattle.i7_conditions.specs.Joining.{number_said}
use Rattle.i7_conditions.specs.Keys.{property_named, split_of, variable_named}
use Rattle.i7_conditions.specs.Numbers.{CountsAs}
use Rattle.i7_conditions.specs.Objects.{Means}
use Rattle.i7_conditions.specs.Predicates.{is_deep, object_said}
use Rattle.i7_conditions.specs.Readings.{FirstOf, IsFoundAs, one}
use Rattle.i7_conditions.specs.Relations.{relation_at}
use Rattle.i7_conditions.specs.Scopes.{Scope}
use Rattle.i7_conditions.specs.Terms.{is_over}
use Rattle.i7_conditions.specs.Values as value
use Rattle.i7_conditions.specs.Values.{SaysValue, value_said}
use Rattle.i7_conditions.specs.Words.{Word, without_article}
use Rattle.i7_conditions.specs.declared.found.Found.{Found}
use Rattle.i7_conditions.specs.declared.found.Found.TheVariants.{Read, TooMany, Unread}
use Rattle.i7_conditions.proofs.Asked.{number_found, or_swapped}
use Rattle.i7_conditions.proofs.Listing.{Made, MadeAt, MadeOfTwo, none_found, one_found, or_found, some_found, two_found}
use Rattle.i7_conditions.proofs.Parted.{parted_found}
use Rattle.i7_conditions.proofs.Predicated.{object_found}
use Rattle.i7_conditions.proofs.Valued.{value_found}
use Rattle.i7_phrases.specs.CellForms.{cell_said, property_by, property_said, variable_said}
use Rattle.i7_phrases.specs.Cells.{Cell, IsCell, IsProperty, IsVariable, PropertyOf, Variable, set}
use Rattle.i7_phrases.specs.ChangeForms.{added, adds_said, away_said, becomes_in, becomes_said, from_away, from_gives, from_put, from_set, from_value, gives_said, held_so, made_so, made_valued, moves_said, now_said, put_said, set_said, so_said, value_given, valued_said}
use Rattle.i7_phrases.specs.Changes.{Adds, Becomes, BecomesIn, Gives, GivesValue, MakesSo, MakesValued, Moves, Now, PutsIn, Sets, SetsValue, TakesAway, flag_of, given, given_so, is_nowhere, moved_so, value_of}
use Rattle.i7_phrases.specs.Limits.{phrase_is_over}
use Rattle.i7_phrases.specs.PhraseForms.{change_said}
use Rattle.i7_phrases.specs.Phrases.{Changes, is_change}
use Rattle.i7_phrases.specs.Told.{IsToldOf}

-- ---- what holds a number

abbrev pub cell_is_over : Cell → Bool
cell_is_over (Variable v) = false
cell_is_over (PropertyOf p o) = is_deep o

property_by_found : (s : Scope) (name object : List Word) (p : Option ℕ) → property_named s name ≡ p
    → IsFoundAs (MadeAt (property_named s name) (λ (p : ℕ). Made (PropertyOf p) (Means s object))) cell_is_over (property_by s p object)
property_by_found s name object None e = none_found (property_named s name) (λ (p : ℕ). Made (PropertyOf p) (Means s object)) cell_is_over e
property_by_found s name object (Some p) e =
    some_found (property_named s name) (λ (p : ℕ). Made (PropertyOf p) (Means s object)) cell_is_over p e (one (PropertyOf p) (object_said s object))
    (one_found (PropertyOf p) (Means s object) is_deep cell_is_over (λ o. refl) (object_said s object) (object_found s object))

abbrev Around : Type 0
Around = List Word × List Word

property_found : (s : Scope) (words : List Word) (parts : Option Around) → split_of words ≡ parts → IsFoundAs (IsProperty s words) cell_is_over (property_said s parts)
property_found s words None e =
    none_found (split_of words) (λ (parts : Around). MadeAt (property_named s parts.0) (λ (p : ℕ). Made (PropertyOf p) (Means s parts.1))) cell_is_over e
property_found s words (Some parts) e =
    some_found (split_of words) (λ (parts : Around). MadeAt (property_named s parts.0) (λ (p : ℕ). Made (PropertyOf p) (Means s parts.1))) cell_is_over parts e (property_said s (Some parts))
    (property_by_found s parts.0 parts.1 (property_named s parts.0) refl)

variable_found : (s : Scope) (words : List Word) (v : Option ℕ) → variable_named s words ≡ v → IsFoundAs (IsVariable s words) cell_is_over (variable_said v)
variable_found s words None e = none_found (variable_named s words) (λ (v : ℕ) (cell : Cell). cell ≡ Variable v) cell_is_over e
variable_found s words (Some v) e = ((v, e, refl), refl)

cell_found : (s : Scope) (words : List Word) → IsFoundAs (IsCell s words) cell_is_over (cell_said s words)
unfolding cell_said
cell_found s words =
    or_found (IsProperty s words) (IsVariable s words) cell_is_over (property_said s (split_of words)) (variable_said (variable_named s words)) (property_found s words (split_of words) refl)
    (variable_found s words (variable_named s words) refl)

-- ---- `now OBJECT is ..`

so_found : (s : Scope) (subject behind : List Word) (flag : Option (ℕ × Bool)) → flag_of (adjective_named s behind) ≡ flag → IsFoundAs (MakesSo s subject behind) phrase_is_over (so_said s subject flag)
so_found s subject behind None e = none_found (flag_of (adjective_named s behind)) (λ (flag : ℕ × Bool). Made (made_so flag) (Means s subject)) phrase_is_over e
so_found s subject behind (Some flag) e =
    some_found (flag_of (adjective_named s behind)) (λ (flag : ℕ × Bool). Made (made_so flag) (Means s subject)) phrase_is_over flag e (one (made_so flag) (object_said s subject))
    (one_found (made_so flag) (Means s subject) is_deep phrase_is_over (λ o. refl) (object_said s subject) (object_found s subject))

abbrev Place : Type 0
Place = Rel × List Word

put_found : (s : Scope) (subject behind : List Word) (place : Option Place) → relation_at behind ≡ place → IsFoundAs (PutsIn s subject behind) phrase_is_over (put_said s subject place)
put_found s subject behind None e = none_found (relation_at behind) (λ (place : Place). MadeOfTwo (held_so place.0) (Means s subject) (Means s place.1)) phrase_is_over e
put_found s subject behind (Some place) e =
    some_found (relation_at behind) (λ (place : Place). MadeOfTwo (held_so place.0) (Means s subject) (Means s place.1)) phrase_is_over place e (put_said s subject (Some place))
    (two_found (held_so place.0) (Means s subject) (Means s place.1) is_deep is_deep phrase_is_over (λ o h. refl) (object_said s subject) (object_said s place.1) (object_found s subject) (object_found s place.1))

away_if : (s : Scope) (subject behind : List Word) (found : Found tree.Phrase) → is_nowhere behind ≡ true → IsFoundAs (Made tree.NowNowhere (Means s subject)) phrase_is_over found → IsFoundAs (TakesAway s subject behind) phrase_is_over found
away_if s subject behind (Read p) is h = ((is, h.0), h.1)
away_if s subject behind TooMany is h = (h.0, (is, h.1), h.2)
away_if s subject behind Unread is h = λ p takes. h p takes.1

away_found : (s : Scope) (subject behind : List Word) → IsFoundAs (TakesAway s subject behind) phrase_is_over (away_said s subject behind)
away_found s subject behind =
    elim (cases_Bool (is_nowhere behind)) [
      | inl is ↦ rw is (away_if s subject behind (one tree.NowNowhere (object_said s subject)) is (one_found tree.NowNowhere (Means s subject) is_deep phrase_is_over (λ o. refl) (object_said s subject) (object_found s subject)))
      | inr isnt ↦ rw isnt (λ p takes. let is = takes.0 in absurd cc)
    ]

over_set : (cell : Cell) (n : tree.Number) → phrase_is_over (set cell n) ≡ (cell_is_over cell || is_over n)
over_set (Variable v) n = refl
over_set (PropertyOf p o) n = refl

set_found : (s : Scope) (subject behind : List Word) → IsFoundAs (Sets s subject behind) phrase_is_over (set_said s subject behind)
set_found s subject behind =
    two_found set (IsCell s subject) (CountsAs s behind) cell_is_over is_over phrase_is_over over_set (cell_said s subject) (number_said s behind) (cell_found s subject) (number_found s behind)

given_found : (s : Scope) (subject behind : List Word) → IsFoundAs (GivesValue s subject behind) phrase_is_over (value_given s subject behind)
given_found s subject behind = one_found given (SaysValue s subject behind) value.is_over phrase_is_over (λ v. refl) (value_said s subject behind) (value_found s subject behind)

abbrev KindAnd : Type 0
KindAnd = ℕ × ℕ

valued_found : (s : Scope) (subject behind : List Word) (found : Option KindAnd) → value_of (quality_named s (without_article behind)) ≡ found → IsFoundAs (MakesValued s subject behind) phrase_is_over (valued_said s subject found)
valued_found s subject behind None e = none_found (value_of (quality_named s (without_article behind))) (λ (value : KindAnd). Made (made_valued value) (Means s subject)) phrase_is_over e
valued_found s subject behind (Some value) e =
    some_found (value_of (quality_named s (without_article behind))) (λ (value : KindAnd). Made (made_valued value) (Means s subject)) phrase_is_over value e (valued_said s subject (Some value))
    (one_found (made_valued value) (Means s subject) is_deep phrase_is_over (λ o. refl) (object_said s subject) (object_found s subject))

values_found : (s : Scope) (subject behind : List Word) → IsFoundAs (SetsValue s subject behind) phrase_is_over (from_value s subject behind)
unfolding from_value
values_found s subject behind =
    or_found (GivesValue s subject behind) (MakesValued s subject behind) phrase_is_over (value_given s subject behind) (valued_said s subject (value_of (quality_named s (without_article behind)))) (given_found s subject behind)
    (valued_found s subject behind (value_of (quality_named s (without_article behind))) refl)

becomes_found : (s : Scope) (subject behind : List Word) → IsFoundAs (Becomes s subject behind) phrase_is_over (becomes_said s subject behind)
unfolding becomes_said
becomes_found s subject behind =
    or_found (MakesSo s subject behind) (FirstOf (PutsIn s subject behind) (FirstOf (TakesAway s subject behind) (FirstOf (Sets s subject behind) (SetsValue s subject behind)))) phrase_is_over
    (so_said s subject (flag_of (adjective_named s behind))) (from_put s subject behind) (so_found s subject behind (flag_of (adjective_named s behind)) refl)
    (or_found (PutsIn s subject behind) (FirstOf (TakesAway s subject behind) (FirstOf (Sets s subject behind) (SetsValue s subject behind))) phrase_is_over (put_said s subject (relation_at behind)) (from_away s subject behind)
    (put_found s subject behind (relation_at behind) refl)
    (or_found (TakesAway s subject behind) (FirstOf (Sets s subject behind) (SetsValue s subject behind)) phrase_is_over (away_said s subject behind) (from_set s subject behind) (away_found s subject behind)
    (or_found (Sets s subject behind) (SetsValue s subject behind) phrase_is_over (set_said s subject behind) (from_value s subject behind) (set_found s subject behind) (values_found s subject behind))))

-- ---- the others

gives_found : (relation : Rel) (verb : List ℕ) (s : Scope) (words : List Word) → IsFoundAs (Gives relation verb s words) phrase_is_over (gives_said relation verb s words)
gives_found relation verb s words =
    one_found (given_so relation) (IsParted s verb words) is_one_deep phrase_is_over (λ both. or_swapped (is_deep both.0) (is_deep both.1)) (parted_said s verb words) (parted_found s verb words)

becomes_in_found : (s : Scope) (parts : Option Around) → IsFoundAs (BecomesIn s parts) phrase_is_over (becomes_in s parts)
becomes_in_found s None = λ p becomes. becomes
becomes_in_found s (Some parts) = becomes_found s parts.0 parts.1

now_found : (s : Scope) (words : List Word) → IsFoundAs (Now s words) phrase_is_over (now_said s words)
unfolding now_said
now_found s words =
    or_found (BecomesIn s (split_is words)) (FirstOf (Gives Carried (codes "carries") s words) (Gives Worn (codes "wears") s words)) phrase_is_over
    (becomes_in s (split_is words)) (from_gives s words) (becomes_in_found s (split_is words))
    (or_found (Gives Carried (codes "carries") s words) (Gives Worn (codes "wears") s words) phrase_is_over (gives_said Carried (codes "carries") s words) (gives_said Worn (codes "wears") s words)
    (gives_found Carried (codes "carries") s words) (gives_found Worn (codes "wears") s words))

moves_found : (s : Scope) (words : List Word) → IsFoundAs (Moves s words) phrase_is_over (moves_said s words)
unfolding moves_said
moves_found s words = one_found moved_so (IsParted s (codes "to") words) is_one_deep phrase_is_over (λ both. refl) (parted_said s (codes "to") words) (parted_found s (codes "to") words)

or_twice : (a b : Bool) → (a || (a || b)) ≡ (a || b)
or_twice true b = refl
or_twice false b = refl

over_joined : (operator : Operator) (m n : tree.Number) → is_over (by_operator operator m n) ≡ (is_over m || is_over n)
over_joined Plus m n = refl
over_joined Minus m n = refl
over_joined Times m n = refl

over_added : (operator : Operator) (cell : Cell) (n : tree.Number) → phrase_is_over (added operator cell n) ≡ (cell_is_over cell || is_over n)
over_added operator (Variable v) n = over_joined operator (tree.Variable v) n
over_added operator (PropertyOf p o) n = ap (λ (b : Bool). is_deep o || b) (over_joined operator (tree.PropertyOf p o) n) ∙ or_twice (is_deep o) (is_over n)

pub adds_found : (operator : Operator) (s : Scope) (value amount : List Word) → IsFoundAs (Adds operator s value amount) phrase_is_over (adds_said operator s value amount)
unfolding adds_said
adds_found operator s value amount =
    two_found (added operator) (IsCell s value) (CountsAs s amount) cell_is_over is_over phrase_is_over (over_added operator) (cell_said s value) (number_said s amount) (cell_found s value) (number_found s amount)

-- ---- all of them

change_found : (s : Scope) (said : Spoken) → IsToldOf (is_change said) (Changes s said) phrase_is_over (change_said s said)
change_found s (spoken.Now words) = (refl, now_found s words)
change_found s (spoken.Move words) = (refl, moves_found s words)
change_found s (spoken.Increase value amount) = (refl, adds_found Plus s value amount)
change_found s (spoken.Decrease value amount) = (refl, adds_found Minus s value amount)
change_found s (spoken.Say text bytes) = refl
change_found s (spoken.Try silently action) = refl
change_found s (spoken.Follow book) = refl
change_found s spoken.RuleSucceeds = refl
change_found s spoken.RuleFails = refl
change_found s spoken.MakeNoDecision = refl
change_found s spoken.ContinueAction = refl
change_found s spoken.StopAction = refl
change_found s (spoken.EndStory text) = refl
change_found s (spoken.If condition) = refl
change_found s (spoken.OtherwiseIf condition) = refl
change_found s spoken.Otherwise = refl
change_found s (spoken.Repeat name through) = refl

pub changes_found : (s : Scope) (said : Spoken) (change : Option (Found tree.Phrase)) → change ≡ change_said s said → IsToldOf (is_change said) (Changes s said) phrase_is_over change
changes_found s said change e = subst (IsToldOf (is_change said) (Changes s said) phrase_is_over) (sym e) (change_found s said)
