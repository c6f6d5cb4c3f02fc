-- What a clause without an `is` is found to ask is what it asks.
use Rattle.std.proofs.Common.{◌≡◌, ℕ, ◌-◌, true, List, [], ◌∷◌, length, take, drop, refl, sym, ap, ◌∙◌, subst, arith, inl, inr}
use Rattle.std.proofs.lemmas.List.{length-drop}
use Rattle.std.proofs.lemmas.Bool.{cases_Bool}
use Rattle.play_meaning.specs.Trees as tree
use Rattle.i7_conditions.specs.Between.{Both, IsParted, is_one_deep, parted_said}
use Rattle.i7_conditions.specs.Clauses.{AsksByVerb, Does, HasText, asked_of, asks_over, is_a_description, spelling}
use Rattle.i7_conditions.specs.Objects.{Means}
use Rattle.i7_conditions.specs.Predicates.{is_deep, object_said}
use Rattle.i7_conditions.specs.Readings.{FirstOf, IsFoundAs, one}
use Rattle.i7_conditions.specs.Scopes.{Scope}
use Rattle.i7_conditions.specs.Verbs.{by_verb, from_carries, from_has, from_wears, text_said, verb_said}
use Rattle.i7_conditions.specs.Words.{Word}
use Rattle.i7_conditions.specs.declared.found.Found.{Found}
use Rattle.i7_conditions.specs.declared.found.Found.TheVariants.{Read, TooMany, Unread}
use Rattle.i7_conditions.specs.declared.verb.Verb.{Verb}
use Rattle.i7_conditions.specs.declared.verb.Verb.TheVariants.{Carries, Encloses, Has, Wears}
use Rattle.i7_conditions.proofs.Asked.{or_swapped}
use Rattle.i7_conditions.proofs.Listing.{Made, one_found, or_found}
use Rattle.i7_conditions.proofs.Parted.{parted_found}
use Rattle.i7_conditions.proofs.Predicated.{object_found}

-- ---- a verb

over_done : (verb : Verb) (both : Both) → asks_over (asked_of verb both) ≡ is_one_deep both
over_done Carries both = or_swapped (is_deep both.0) (is_deep both.1)
over_done Wears both = or_swapped (is_deep both.0) (is_deep both.1)
over_done Has both = refl
over_done Encloses both = refl

does_found : (s : Scope) (verb : Verb) (words : List Word) → IsFoundAs (Does s verb words) asks_over (verb_said s verb words)
does_found s verb words =
    one_found (asked_of verb) (IsParted s (spelling verb) words) is_one_deep asks_over (over_done verb) (parted_said s (spelling verb) words) (parted_found s (spelling verb) words)

-- ---- `has a description`

three_long : (words : List Word) → is_a_description words ≡ true → length words ≡ 3
three_long [] e = absurd cc
three_long (a ∷ []) e = absurd cc
three_long (a ∷ b ∷ []) e = absurd cc
three_long (a ∷ b ∷ c ∷ []) e = refl
three_long (a ∷ b ∷ c ∷ d ∷ words) e = absurd cc

pub at_end : (words : List Word) (n : ℕ) → is_a_description (drop n words) ≡ true → n ≡ length words - 3
at_end words n e = omega (arith, three_long (drop n words) e, length-drop n words)

text_as : (s : Scope) (words : List Word) (n : ℕ) → n ≡ length words - 3 → is_a_description (drop n words) ≡ true → (found : Found tree.Condition) → IsFoundAs (Made tree.HasDescription (Means s (take n words))) asks_over found
    → IsFoundAs (HasText s words) asks_over found
text_as s words n e is (Read c) h = let made = h.0 in ((n, made.0, is, made.1, made.2), h.1)
text_as s words n e is TooMany h = let made = h.1 in (h.0, (n, made.0, is, made.1, made.2), h.2)
text_as s words n e is Unread h = λ c asks.
    let same : asks.0 ≡ n = at_end words asks.0 asks.2 ∙ sym e in
    h c (asks.1, subst (λ (m : ℕ). Means s (take m words) asks.1) same asks.3, asks.4)

text_found : (s : Scope) (words : List Word) → IsFoundAs (HasText s words) asks_over (text_said s words)
text_found s words =
    elim (cases_Bool (is_a_description (drop (length words - 3) words))) [
      | inl is ↦ rw is (text_as s words (length words - 3) refl is (one tree.HasDescription (object_said s (take (length words - 3) words)))
          (one_found tree.HasDescription (Means s (take (length words - 3) words)) is_deep asks_over (λ o. refl) (object_said s (take (length words - 3) words)) (object_found s (take (length words - 3) words))))
      | inr isnt ↦ rw isnt (λ c asks. let is : is_a_description (drop (length words - 3) words) ≡ true = ap (λ (m : ℕ). is_a_description (drop m words)) (sym (at_end words asks.0 asks.2)) ∙ asks.2 in absurd cc)
    ]

pub done_found : (s : Scope) (words : List Word) → IsFoundAs (AsksByVerb s words) asks_over (by_verb s words)
unfolding by_verb
done_found s words =
    or_found (HasText s words) (FirstOf (Does s Carries words) (FirstOf (Does s Wears words) (FirstOf (Does s Has words) (Does s Encloses words)))) asks_over (text_said s words) (from_carries s words) (text_found s words)
    (or_found (Does s Carries words) (FirstOf (Does s Wears words) (FirstOf (Does s Has words) (Does s Encloses words))) asks_over (verb_said s Carries words) (from_wears s words) (does_found s Carries words)
    (or_found (Does s Wears words) (FirstOf (Does s Has words) (Does s Encloses words)) asks_over (verb_said s Wears words) (from_has s words) (does_found s Wears words)
    (or_found (Does s Has words) (Does s Encloses words) asks_over (verb_said s Has words) (verb_said s Encloses words) (does_found s Has words) (does_found s Encloses words))))
