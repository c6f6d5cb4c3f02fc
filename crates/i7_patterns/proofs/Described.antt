-- What is given of words that ask something of a noun is what they ask.
use Rattle.std.proofs.Common.{◌≡◌, true, false, List, refl, sym, ap, ◌∙◌, inl, inr}
use Rattle.std.specs.Prelude.{Option, Some, None}
use Rattle.std.specs.List.{list_all}
use Rattle.std.proofs.lemmas.Bool.{cases_Bool}
use Rattle.play_meaning.specs.Rules.{Aspect}
use Rattle.play_meaning.specs.Trees.{Object, The, Noun, SecondNoun, Location, Nothing, Turning, RoomFrom, DoorFrom}
use Rattle.i7_actions.specs.NounForms.{noun_said}
use Rattle.i7_actions.specs.Nouns.{IsNoun}
use Rattle.i7_actions.proofs.Found.{noun_found}
use Rattle.i7_conditions.specs.Cuts.{IsFrontFound}
use Rattle.i7_conditions.specs.Fronts.{front_said}
use Rattle.i7_conditions.specs.Predicates.{is_deep}
use Rattle.i7_conditions.specs.Readings.{IsFoundAs}
use Rattle.i7_conditions.specs.Scopes.{Scope}
use Rattle.i7_conditions.specs.Words.{Word, without_article}
use Rattle.i7_conditions.specs.declared.found.Found.{Found}
use Rattle.i7_conditions.specs.declared.found.Found.TheVariants.{Read, TooMany, Unread}
use Rattle.i7_conditions.specs.declared.front.Front.{Front}
use Rattle.i7_conditions.proofs.Cutting.{front_found}
use Rattle.i7_conditions.proofs.Described.{meant_is_cut, same_cut}
use Rattle.i7_conditions.proofs.Readings.{meant_once}
use Rattle.i7_patterns.specs.AspectForms.{exactly, kind_asked, noun_asked, nothing_asked, object_asked, one_asked}
use Rattle.i7_patterns.specs.Aspects.{AsksKind, AsksNothing, AsksNoun, AsksObject, AsksOne, is_own, is_something}
use Rattle.i7_patterns.proofs.Given.{IsGiven, or_given}

-- ---- objects

no_name : (s : Scope) (words : List Word) (o : Object) → IsNoun s words o → exactly o ≡ None → (x : Aspect) → AsksObject s words x → ⊥
no_name s words o noun none x asks =
    let same : o ≡ The asks.0 = meant_once s words o (The asks.0) noun.1 asks.1.1 in
    let both : None ≡ exactly (The asks.0) = sym none ∙ ap exactly same in
    absurd cc

read_as : (s : Scope) (words : List Word) (o : Object) → IsNoun s words o → IsGiven (AsksObject s words) (exactly o)
read_as s words (The o) noun = (o, noun, refl)
read_as s words Noun noun = no_name s words Noun noun refl
read_as s words SecondNoun noun = no_name s words SecondNoun noun refl
read_as s words Location noun = no_name s words Location noun refl
read_as s words Nothing noun = no_name s words Nothing noun refl
read_as s words (Turning k) noun = no_name s words (Turning k) noun refl
read_as s words (RoomFrom direction room) noun = no_name s words (RoomFrom direction room) noun refl
read_as s words (DoorFrom direction room) noun = no_name s words (DoorFrom direction room) noun refl

found_as : (s : Scope) (words : List Word) (found : Found Object) → IsFoundAs (IsNoun s words) is_deep found → IsGiven (AsksObject s words) (object_asked found)
found_as s words (Read o) h = read_as s words o h.0
found_as s words TooMany h = λ x asks.
    let same : h.0 ≡ The asks.0 = meant_once s words h.0 (The asks.0) h.1.1 asks.1.1 in
    let both : is_deep (The asks.0) ≡ true = ap is_deep (sym same) ∙ h.2 in
    absurd cc
found_as s words Unread h = λ x asks. h (The asks.0) asks.1

-- ---- descriptions

front_as : (s : Scope) (words : List Word) (front : Option Front) → IsFrontFound s (without_article words) front → IsGiven (AsksKind s words) (kind_asked front)
front_as s words None h = λ x asks. h (asks.adjectives, asks.kind, meant_is_cut s (without_article words) asks.adjectives asks.kind asks.meant)
front_as s words (Some front) h =
    elim (cases_Bool (list_all is_own front.adjectives)) [
      | inl all ↦ rw all (record { adjectives = front.adjectives; kind = front.kind; meant = h; own = all; asked = refl })
      | inr some ↦ rw some (λ x asks.
          let same = same_cut s (without_article words) front.adjectives asks.adjectives front.kind asks.kind h asks.meant in
          let is : list_all is_own front.adjectives ≡ true = ap (list_all is_own) same.0 ∙ asks.own in
          absurd cc)
    ]

kind_given : (s : Scope) (words : List Word) → IsGiven (AsksKind s words) (kind_asked (front_said s (without_article words)))
kind_given s words = front_as s words (front_said s (without_article words)) (front_found s (without_article words) (front_said s (without_article words)) refl)

-- ---- both

pub one_given : (s : Scope) (words : List Word) → IsGiven (AsksOne s words) (one_asked s words)
one_given s words =
    or_given (AsksObject s words) (AsksKind s words) (object_asked (noun_said s words)) (kind_asked (front_said s (without_article words)))
    (found_as s words (noun_said s words) (noun_found s words)) (kind_given s words)

nothing_given : (words : List Word) → IsGiven (AsksNothing words) (nothing_asked words)
nothing_given words =
    elim (cases_Bool (is_something words)) [
      | inl is ↦ rw is (is, refl)
      | inr isnt ↦ rw isnt (λ x asks. let both : false ≡ true = sym isnt ∙ asks.0 in absurd cc)
    ]

pub noun_given : (s : Scope) (words : List Word) → IsGiven (AsksNoun s words) (noun_asked s words)
noun_given s words = or_given (AsksNothing words) (AsksOne s words) (nothing_asked words) (one_asked s words) (nothing_given words) (one_given s words)
