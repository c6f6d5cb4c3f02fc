-- What is given of words that ask something of an action and of the place is what they ask.
use Rattle.std.proofs.Common.{◌≡◌, ℕ, zero, suc, ◌≤◌, true, false, List, [], ◌∷◌, length, take, drop, refl, sym, ap, ◌∙◌, subst, inl, inr}
use Rattle.std.specs.Prelude.{Option, Some, None, is_some}
use Rattle.std.specs.List.{position_or_len}
use Rattle.std.proofs.lemmas.Bool.{cases_Bool}
use Rattle.world_meaning.specs.Spelling.{is_spelled}
use Rattle.play_meaning.specs.Rules.{Anything, Aspect}
use Rattle.i7_actions.specs.Parts.{behind, first_part, is_at_end, is_it}
use Rattle.i7_actions.specs.declared.action.Action.{Action}
use Rattle.i7_actions.specs.declared.action.NounCount.{NounCount}
use Rattle.i7_actions.specs.declared.action.NounCount.TheVariants.{Zero, One, Two}
use Rattle.i7_conditions.specs.Scopes.{Scope}
use Rattle.i7_conditions.specs.Words.{Word}
use Rattle.i7_conditions.proofs.Listing.{MadeOfTwo}
use Rattle.i7_patterns.specs.ActionForms.{aspects_asked, aspects_at, begins, in_place, nouns_asked, place_asked, with_both}
use Rattle.i7_patterns.specs.Actions.{Aspects, AsksAt, AsksBy, AsksNouns, AsksPlace, Nouns, is_in}
use Rattle.i7_patterns.specs.AspectForms.{one_asked}
use Rattle.i7_patterns.specs.Aspects.{AsksOne}
use Rattle.i7_patterns.specs.Lowest.{IsLowest}
use Rattle.i7_patterns.proofs.Described.{one_given}
use Rattle.i7_patterns.proofs.Given.{IsGiven, IsSearched, both_given, given_as, given_lowest, searched}
use Rattle.i7_patterns.proofs.Nouned.{nouns_given}

-- ---- the place

not_in : (s : Scope) (word : Word) (words : List Word) (x : Aspect) → is_in word ≡ false → AsksPlace s (word ∷ words) x → ⊥
not_in s word words x isnt asks = let both : false ≡ true = sym isnt ∙ asks.0 in absurd cc

in_given : (s : Scope) (word : Word) (words : List Word) → is_in word ≡ true → IsGiven (AsksPlace s (word ∷ words)) (one_asked s words)
in_given s word words is = given_as (AsksOne s words) (AsksPlace s (word ∷ words)) (λ x asks. (is, asks)) (λ x asks. asks.1) (one_asked s words) (one_given s words)

pub place_given : (s : Scope) (words : List Word) → IsGiven (AsksPlace s words) (place_asked s words)
place_given s [] = refl
place_given s (word ∷ words) =
    elim (cases_Bool (is_in word)) [
      | inl is ↦ rw is (in_given s word words is)
      | inr isnt ↦ rw isnt (λ x asks. not_in s word words x isnt asks)
    ]

-- ---- both, where the action is the first n words

abbrev Both : Scope → Action → List Word → List Word → Aspects → Type 0
Both s a front rest = MadeOfTwo in_place (AsksPlace s rest) (IsLowest (AsksNouns s a front))

at_of : (s : Scope) (a : Action) (words rest : List Word) (n : ℕ) → n ≤ length words → drop n words ≡ rest → (x : Aspects) → Both s a (take n words) rest x → AsksAt s a words n x
at_of s a words rest n le e x made =
    subst (AsksAt s a words n) (sym made.4) (record { within = le; nouns = made.3; place = subst (λ (rest : List Word). AsksPlace s rest made.0) (sym e) made.2 })

both_of : (s : Scope) (a : Action) (words rest : List Word) (n : ℕ) → drop n words ≡ rest → (x : Aspects) → AsksAt s a words n x → Both s a (take n words) rest x
both_of s a words rest n e x asks = (x.place, x.nouns, subst (λ (rest : List Word). AsksPlace s rest x.place) e asks.place, asks.nouns, refl)

with_place : (s : Scope) (a : Action) (words rest : List Word) (n : ℕ) → n ≤ length words → drop n words ≡ rest → (place : Option Aspect) → IsGiven (AsksPlace s rest) place
    → IsGiven (AsksAt s a words n) (with_both in_place place (nouns_asked s a (take n words)))
with_place s a words rest n le e place h =
    given_as (Both s a (take n words) rest) (AsksAt s a words n) (at_of s a words rest n le e) (both_of s a words rest n e) (with_both in_place place (nouns_asked s a (take n words)))
    (both_given in_place (AsksPlace s rest) (IsLowest (AsksNouns s a (take n words))) place (nouns_asked s a (take n words)) h
    (given_lowest (AsksNouns s a (take n words)) (nouns_asked s a (take n words)) (nouns_given s a (take n words))))

at_given : (s : Scope) (a : Action) (words : List Word) (n : ℕ) (rest : List Word) → n ≤ length words → drop n words ≡ rest → IsGiven (AsksAt s a words n) (aspects_at s a words n rest)
at_given s a words n [] le e = with_place s a words [] n le e (Some Anything) refl
at_given s a words n (word ∷ rest) le e =
    elim (cases_Bool (is_in word)) [
      | inl is ↦ rw is (with_place s a words (word ∷ rest) n le e (one_asked s rest) (in_given s word rest is))
      | inr isnt ↦ rw isnt (λ x asks. not_in s word rest x.place isnt (subst (λ (rest : List Word). AsksPlace s rest x.place) e asks.place))
    ]

-- ---- words that an action reads begin with the first part of its name

begins_more : (part words : List Word) (n : ℕ) → begins part (take n words) ≡ true → begins part words ≡ true
begins_more [] words n e = refl
begins_more (wanted ∷ part) words zero e = absurd cc
begins_more (wanted ∷ part) [] (suc n) e = absurd cc
begins_more (wanted ∷ part) (word ∷ words) (suc n) e =
    elim (cases_Bool (is_spelled word wanted)) [
      | inl is ↦ let rest : begins part (take n words) ≡ true = rw is at e in rw is (begins_more part words n rest)
      | inr isnt ↦ let none : false ≡ true = rw isnt at e in absurd cc
    ]

begins_less : (part words : List Word) (n : ℕ) → begins part words ≡ true → begins (take n part) words ≡ true
begins_less part words zero e = refl
begins_less [] words (suc n) e = refl
begins_less (wanted ∷ part) [] (suc n) e = absurd cc
begins_less (wanted ∷ part) (word ∷ words) (suc n) e =
    elim (cases_Bool (is_spelled word wanted)) [
      | inl is ↦ let rest : begins part words ≡ true = rw is at e in rw is (begins_less part words n rest)
      | inr isnt ↦ let none : false ≡ true = rw isnt at e in absurd cc
    ]

begins_so : (part words rest : List Word) → behind part words ≡ Some rest → begins part words ≡ true
begins_so part words rest e = ap is_some e

ends_some : (rest : Option (List Word)) → is_at_end rest ≡ true → is_some rest ≡ true
ends_some None e = absurd cc
ends_some (Some rest) e = refl

begins_by : (s : Scope) (count : NounCount) (name words : List Word) (n : ℕ) (nouns : Nouns) → AsksBy s count name words n nouns → begins (first_part name) words ≡ true
begins_by s Zero name words n nouns asks = begins_less name words (position_or_len is_it name) (ends_some (behind name words) asks.0)
begins_by s One name words n nouns asks = begins_so (first_part name) words asks.0 asks.1
begins_by s Two name words n nouns asks = begins_so (first_part name) words asks.0 asks.1

never_begins : (s : Scope) (a : Action) (words : List Word) → begins (first_part a.name) words ≡ false → (n : ℕ) (x : Aspects) → AsksAt s a words n x → ⊥
never_begins s a words isnt n x asks =
    let front = begins_by s a.nouns a.name (take n words) asks.nouns.n x.nouns asks.nouns.stands in
    let is = begins_more (first_part a.name) words n front in
    absurd cc

pub aspects_given : (s : Scope) (a : Action) (words : List Word) → IsSearched (AsksAt s a words) (aspects_asked s a words)
unfolding aspects_asked
aspects_given s a words =
    elim (cases_Bool (begins (first_part a.name) words)) [
      | inl is ↦ rw is (searched (AsksAt s a words) (aspects_at s a words) words (at_given s a words) (λ n x asks. asks.within))
      | inr isnt ↦ rw isnt (never_begins s a words isnt)
    ]
