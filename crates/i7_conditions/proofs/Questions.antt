-- What a clause is found to ask is what it asks.
use Rattle.std.proofs.Common.{◌≡◌, true, List, refl, sym, ap, ◌∙◌, subst, inl, inr}
use Rattle.std.specs.Prelude.{Option, Some, None}
use Rattle.std.proofs.lemmas.Bool.{cases_Bool}
use Rattle.play_meaning.specs.Trees as tree
use Rattle.i7_conditions.specs.ClauseForms.{asked_in, clause_said, dark_said, from_not_dark, not_dark}
use Rattle.i7_conditions.specs.Clauses.{Asks, AsksIn, InTheDark, NotInTheDark, asks_over, behind_not, is_darkness, split_is}
use Rattle.i7_conditions.specs.Readings.{FirstOf, IsFoundAs}
use Rattle.i7_conditions.specs.Scopes.{Scope}
use Rattle.i7_conditions.specs.Words.{Word}
use Rattle.i7_conditions.specs.declared.found.Found.{Found}
use Rattle.i7_conditions.proofs.Asked.{asked_found, words_in}
use Rattle.i7_conditions.proofs.Done.{done_found}
use Rattle.i7_conditions.proofs.Listing.{or_found}

dark_found : (words : List Word) → IsFoundAs (InTheDark words) asks_over (dark_said words)
dark_found words =
    elim (cases_Bool (is_darkness words)) [
      | inl is ↦ rw is ((is, refl), refl)
      | inr isnt ↦ rw isnt (λ c asks. let is = asks.0 in absurd cc)
    ]

not_dark_found : (words : List Word) (found : Option (List Word)) → behind_not words ≡ found → IsFoundAs (NotInTheDark words) asks_over (not_dark found)
not_dark_found words None at = λ c asks. let same : None ≡ Some asks.0 = sym at ∙ asks.1 in absurd cc
not_dark_found words (Some rest) at =
    elim (cases_Bool (is_darkness rest)) [
      | inl is ↦ rw is ((rest, at, is, refl), refl)
      | inr isnt ↦ rw isnt (λ c asks. let is : is_darkness rest ≡ true = ap is_darkness (ap words_in (sym at ∙ asks.1)) ∙ asks.2 in absurd cc)
    ]

in_found : (s : Scope) (words : List Word) (parts : Option (List Word × List Word)) → IsFoundAs (AsksIn s words parts) asks_over (asked_in s words parts)
in_found s words None = done_found s words
in_found s words (Some parts) = asked_found s parts.0 parts.1

pub clauses_found : (s : Scope) (words : List Word) (found : Found tree.Condition) → found ≡ clause_said s words → IsFoundAs (Asks s words) asks_over found
unfolding clause_said
clauses_found s words found e =
    subst (IsFoundAs (Asks s words) asks_over) (sym e)
    (or_found (InTheDark words) (FirstOf (NotInTheDark words) (AsksIn s words (split_is words))) asks_over (dark_said words) (from_not_dark s words) (dark_found words)
    (or_found (NotInTheDark words) (AsksIn s words (split_is words)) asks_over (not_dark (behind_not words)) (asked_in s words (split_is words)) (not_dark_found words (behind_not words) refl) (in_found s words (split_is words))))
