-- What a substitution is found to say is what it says.
use Rattle.std.proofs.Common.{◌≡◌, ℕ, List, refl, sym, subst}
use Rattle.std.specs.Prelude.{Option, None, Some, codes}
use Rattle.i7_conditions.specs.Describing.{Describes}
use Rattle.i7_conditions.specs.Descriptions.{description_said}
use Rattle.i7_conditions.specs.Joining.{number_said}
use Rattle.i7_conditions.specs.Numbers.{CountsAs}
use Rattle.i7_conditions.specs.Objects.{Means}
use Rattle.i7_conditions.specs.Predicates.{is_deep, is_long, object_said}
use Rattle.i7_conditions.specs.Readings.{FirstOf, IsFoundAs}
use Rattle.i7_conditions.specs.Scopes.{Scope}
use Rattle.i7_conditions.specs.Terms.{is_over}
use Rattle.i7_conditions.specs.Values.{kind_and_object}
use Rattle.i7_conditions.specs.Words.{Word}
use Rattle.i7_conditions.specs.declared.found.Found.{Found}
use Rattle.i7_conditions.proofs.Asked.{number_found}
use Rattle.i7_conditions.proofs.Listing.{IsOnce, Made, at_once, first_once, made_once, none_found, one_found, or_found, some_found}
use Rattle.i7_conditions.proofs.Predicated.{description_found, object_found}
use Rattle.i7_phrases.specs.SubstitutionForms.{description_by, figure_said, from_description, from_listing, from_name, listing_said, name_said, substitution_said, value_name_by}
use Rattle.i7_phrases.specs.Substitutions.{DescriptionOf, Figure, IsDescription, IsFigure, IsListing, IsName, IsValueName, Listing, Name, Piece, Substitutes, Telling, ValueName, behind_of, listing_in, piece_is_over, telling_in}

abbrev Named : Scope → Telling → Piece → Type 0
Named s t = Made (Name t.0) (Means s t.1)

abbrev Listed : Scope → Telling → Piece → Type 0
Listed s t = Made (Listing t.0) (Describes s t.1)

abbrev Described : Scope → List Word → Piece → Type 0
Described s words = Made DescriptionOf (Means s words)

abbrev KindAnd : Type 0
KindAnd = ℕ × List Word

abbrev Valued : Scope → KindAnd → Piece → Type 0
Valued s parts = Made (ValueName parts.0) (Means s parts.1)

name_found : (s : Scope) (words : List Word) (found : Option Telling) → telling_in words ≡ found → IsFoundAs (IsName s words) piece_is_over (name_said s found)
name_found s words None e = none_found (telling_in words) (Named s) piece_is_over e
name_found s words (Some t) e =
    some_found (telling_in words) (Named s) piece_is_over t e (name_said s (Some t)) (one_found (Name t.0) (Means s t.1) is_deep piece_is_over (λ o. refl) (object_said s t.1) (object_found s t.1))

listing_found : (s : Scope) (words : List Word) (found : Option Telling) → listing_in words ≡ found → IsFoundAs (IsListing s words) piece_is_over (listing_said s found)
listing_found s words None e = none_found (listing_in words) (Listed s) piece_is_over e
listing_found s words (Some t) e =
    some_found (listing_in words) (Listed s) piece_is_over t e (listing_said s (Some t))
    (one_found (Listing t.0) (Describes s t.1) is_long piece_is_over (λ d. refl) (description_said s t.1) (description_found s t.1))

description_is_found : (s : Scope) (words : List Word) (found : Option (List Word)) → behind_of (codes "description") words ≡ found → IsFoundAs (IsDescription s words) piece_is_over (description_by s found)
description_is_found s words None e = none_found (behind_of (codes "description") words) (Described s) piece_is_over e
description_is_found s words (Some rest) e =
    some_found (behind_of (codes "description") words) (Described s) piece_is_over rest e (description_by s (Some rest))
    (one_found DescriptionOf (Means s rest) is_deep piece_is_over (λ o. refl) (object_said s rest) (object_found s rest))

value_name_found : (s : Scope) (words : List Word) (found : Option KindAnd) → kind_and_object s words ≡ found → IsFoundAs (IsValueName s words) piece_is_over (value_name_by s found)
value_name_found s words None e = none_found (kind_and_object s words) (Valued s) piece_is_over e
value_name_found s words (Some parts) e =
    some_found (kind_and_object s words) (Valued s) piece_is_over parts e (value_name_by s (Some parts))
    (one_found (ValueName parts.0) (Means s parts.1) is_deep piece_is_over (λ o. refl) (object_said s parts.1) (object_found s parts.1))

pub substitutions_found : (s : Scope) (words : List Word) (found : Found Piece) → found ≡ substitution_said s words → IsFoundAs (Substitutes s words) piece_is_over found
unfolding substitution_said Substitutes
substitutions_found s words found e =
    subst (IsFoundAs (Substitutes s words) piece_is_over) (sym e)
    (or_found (IsFigure s words) (FirstOf (IsName s words) (FirstOf (IsListing s words) (FirstOf (IsDescription s words) (IsValueName s words)))) piece_is_over (figure_said s words) (from_name s words)
    (one_found Figure (CountsAs s words) is_over piece_is_over (λ n. refl) (number_said s words) (number_found s words))
    (or_found (IsName s words) (FirstOf (IsListing s words) (FirstOf (IsDescription s words) (IsValueName s words))) piece_is_over (name_said s (telling_in words)) (from_listing s words) (name_found s words (telling_in words) refl)
    (or_found (IsListing s words) (FirstOf (IsDescription s words) (IsValueName s words)) piece_is_over (listing_said s (listing_in words)) (from_description s words) (listing_found s words (listing_in words) refl)
    (or_found (IsDescription s words) (IsValueName s words) piece_is_over (description_by s (behind_of (codes "description") words)) (value_name_by s (kind_and_object s words))
    (description_is_found s words (behind_of (codes "description") words) refl) (value_name_found s words (kind_and_object s words) refl)))))

-- ---- one reading

pub substituted_once : (s : Scope) → ((words : List Word) → IsOnce (CountsAs s words)) → ((words : List Word) → IsOnce (Means s words)) → ((words : List Word) → IsOnce (Describes s words)) → (words : List Word)
    → IsOnce (Substitutes s words)
unfolding Substitutes
substituted_once s numbers objects descriptions words =
    first_once (IsFigure s words) (FirstOf (IsName s words) (FirstOf (IsListing s words) (FirstOf (IsDescription s words) (IsValueName s words)))) (made_once Figure (CountsAs s words) (numbers words))
    (first_once (IsName s words) (FirstOf (IsListing s words) (FirstOf (IsDescription s words) (IsValueName s words)))
    (at_once (telling_in words) (Named s) (λ (t : Telling). made_once (Name t.0) (Means s t.1) (objects t.1)))
    (first_once (IsListing s words) (FirstOf (IsDescription s words) (IsValueName s words))
    (at_once (listing_in words) (Listed s) (λ (t : Telling). made_once (Listing t.0) (Describes s t.1) (descriptions t.1)))
    (first_once (IsDescription s words) (IsValueName s words)
    (at_once (behind_of (codes "description") words) (Described s) (λ (rest : List Word). made_once DescriptionOf (Means s rest) (objects rest)))
    (at_once (kind_and_object s words) (Valued s) (λ (parts : KindAnd). made_once (ValueName parts.0) (Means s parts.1) (objects parts.1))))))
