-- What the names of a source stand for is there.
use Rattle.std.proofs.Common.{◌≡◌, ℕ, ◌-◌, ◌==◌, ◌<◌, ◌&&◌, length, Bool, true, false, List, [], ◌∷◌, refl, subst, inl, inr}
use Rattle.std.specs.Prelude.{Option, None, Some, bytes_eq, codes, fold, if◌then◌else◌, nat_le, nat_lt, option_map, position}
use Rattle.std.specs.Option.{option_or}
use Rattle.std.proofs.lemmas.Bool.{and_parts, cases_Bool, ltb-true}
use Rattle.std.proofs.lemmas.List.Quantifiers.{position-Some}
use Rattle.world_meaning.specs.Spelling.{lowered}
use Rattle.i7_sentences.specs.declared.sentence.Sentence.{Sentence}
use Rattle.i7_conditions.specs.Meanings.{given}
use Rattle.i7_conditions.specs.There.{AreNamesThere, ArePluralsThere, Counts, IsThere}
use Rattle.i7_conditions.specs.declared.meaning.Meaning.{Meaning}
use Rattle.i7_conditions.specs.declared.meaning.Meaning.TheVariants as meaning
use Rattle.i7_claims.specs.Claims.{claims_of}
use Rattle.i7_sentences.specs.Plurals.{plural_of}
use Rattle.i7_claims.specs.Standings.{built_in_namings}
use Rattle.i7_claims.specs.declared.claim.Claim.{Claim}
use Rattle.i7_claims.specs.declared.claim.Fact.{Fact}
use Rattle.i7_claims.specs.declared.claim.Fact.TheVariants.{Stands}
use Rattle.i7_claims.specs.declared.claim.Naming.{Naming}
use Rattle.i7_claims.specs.declared.claim.Standing.{Standing}
use Rattle.i7_claims.specs.declared.claim.Standing.TheVariants as stands
use Rattle.play_meaning.specs.declared.tree.object.Side.TheVariants.{First, Second}
use Rattle.i7_names.specs.Known.{Known, nothing_known, with_name, with_plural}
use Rattle.i7_names.specs.Meant.{meaning_as, named_in, quality_on, value_at, value_count, value_kind_at, with_claim, with_fact, with_naming}
use Rattle.i7_names.specs.Numbering.{Numbering, numbering_of}
use Rattle.i7_names.specs.Numbers.{at_most, object_number, small_number}
use Rattle.i7_names.specs.PluralNames.{with_irregular, with_plurals, with_regular}
use Rattle.i7_names.specs.SourceNames.{known_by, known_in, names_in}
use Rattle.i7_names.specs.There.{counts_by, counts_in}

-- ---- what is so of what is given, if something is

abbrev Holds : {A : Type 0} → (A → Type 0) → Option A → Type 0
Holds {A} So found = (x : A) → found ≡ Some x → So x

of_none : {A : Type 0} (So : A → Type 0) → Holds So None
of_none So x e = absurd cc

of_or : {A : Type 0} (So : A → Type 0) (one other : Option A) → Holds So one → Holds So other → Holds So (option_or one other)
of_or So None other h k = k
of_or So (Some x) other h k = h

of_map : {A B : Type 0} (So : B → Type 0) (make : A → B) (found : Option A) → Holds (λ x. So (make x)) found → Holds So (option_map make found)
of_map So make None h y e = absurd cc
of_map So make (Some x) h y e = let same : make x ≡ y = cc in subst So same (h x refl)

-- ---- numbers

within_most : (So : ℕ → Type 0) (most : ℕ) (place : Option ℕ) → Holds So place → Holds So (at_most most place)
within_most So most None h = of_none So
within_most So most (Some n) h = by_test (nat_le n most)
  where
    by_test : (few : Bool) → Holds So (if few then Some n else None)
    by_test true = h
    by_test false = of_none So

abbrev IsBelow : ℕ → ℕ → Type 0
IsBelow count n = n < count

placed : (names : List (List ℕ)) (name : List ℕ) → Holds (IsBelow (length names)) (position (bytes_eq name) names)
placed names name n e = (position-Some (bytes_eq name) names n [] e).0

small_there : (names : List (List ℕ)) (name : List ℕ) → Holds (IsBelow (length names)) (small_number names name)
small_there names name = within_most (IsBelow (length names)) 255 (position (bytes_eq name) names) (placed names name)

object_there : (names : List (List ℕ)) (name : List ℕ) → Holds (IsBelow (length names)) (object_number names name)
object_there names name = within_most (IsBelow (length names)) 65535 (position (bytes_eq name) names) (placed names name)

-- ---- names

module _ (n : Numbering) where
  abbrev z : Counts
  z = counts_by n

  value_kind_there : (kind : Option ℕ) → Holds (IsThere z) (value_kind_at n kind)
  value_kind_there None = of_none (IsThere z)
  value_kind_there (Some q) =
      elim (cases_Bool (nat_lt 0 (value_count n q))) [
        | inl is ↦ rw is (λ x e. let same : meaning.ValueKind q ≡ x = cc in subst (IsThere z) same (ltb-true 0 (value_count n q) is))
        | inr isnt ↦ rw isnt (of_none (IsThere z))
      ]

  value_there : (place : ℕ) (kind : Option ℕ) → Holds (IsThere z) (value_at n place kind)
  value_there place None = of_none (IsThere z)
  value_there place (Some q) =
      elim (cases_Bool (nat_lt place (value_count n q) && nat_le place 255)) [
        | inl is ↦
            let within = (and_parts (nat_lt place (value_count n q)) (nat_le place 255) is).0 in
            rw is (λ x e. let same : meaning.Value q place ≡ x = cc in subst (IsThere z) same (ltb-true place (value_count n q) within))
        | inr isnt ↦ rw isnt (of_none (IsThere z))
      ]

  meant_there : (name : List ℕ) (standing : Standing) → Holds (IsThere z) (meaning_as n name standing)
  meant_there name stands.Reserved = of_none (IsThere z)
  meant_there name stands.Kind = of_map (IsThere z) meaning.Kind (small_number n.kinds name) (small_there n.kinds name)
  meant_there name (stands.First second) = of_map (IsThere z) (quality_on First) (small_number n.qualities name) (small_there n.qualities name)
  meant_there name (stands.Second first) = of_map (IsThere z) (quality_on Second) (small_number n.qualities first) (small_there n.qualities first)
  meant_there name stands.Number = of_map (IsThere z) meaning.Number (small_number n.numbers name) (small_there n.numbers name)
  meant_there name stands.Variable = of_map (IsThere z) meaning.Variable (small_number n.variables name) (small_there n.variables name)
  meant_there name (stands.Scene recurs) = of_map (IsThere z) meaning.Scene (small_number n.scenes name) (small_there n.scenes name)
  meant_there name stands.ValueKind = value_kind_there (small_number n.value_kinds name)
  meant_there name (stands.Value value) = value_there value.place (small_number n.value_kinds value.kind)
  meant_there name stands.Object = of_map (IsThere z) meaning.Object (object_number n.objects name) (object_there n.objects name)

  given_there : {X : Type 0} (So : X → Type 0) (key : List ℕ) (value : X) (name : List ℕ) → So value → Holds So (given key value name)
  given_there {X} So key value name so = by_test (bytes_eq name key)
    where
      by_test : (is : Bool) → Holds So (if is then Some value else None)
      by_test true = λ x e. let same : value ≡ x = cc in subst So same so
      by_test false = of_none So

  record IsKnown (known : Known) : Type 0 where
    names : AreNamesThere z known.meanings
    plural_kinds : ArePluralsThere z known.plurals

  name_added : (known : Known) (name : List ℕ) (m : Option Meaning) → Holds (IsThere z) m → IsKnown known → IsKnown (with_name known name m)
  name_added known name None h is = is
  name_added known name (Some m) h is = record {
    names = λ key. of_or (IsThere z) (known.meanings key) (given (lowered name) m key) (is.names key) (given_there (IsThere z) (lowered name) m key (h m refl));
    plural_kinds = is.plural_kinds;
  }

  plural_added : (known : Known) (plural : List ℕ) (kind : Option ℕ) → Holds (IsBelow z.kinds) kind → IsKnown known → IsKnown (with_plural known plural kind)
  plural_added known plural None h is = is
  plural_added known plural (Some kind) h is = record {
    names = is.names;
    plural_kinds = λ key. of_or (IsBelow z.kinds) (known.plurals key) (given (lowered plural) kind key) (is.plural_kinds key) (given_there (IsBelow z.kinds) (lowered plural) kind key (h kind refl));
  }

  naming_added : (known : Known) (x : Naming) → IsKnown known → IsKnown (with_naming n known x)
  naming_added known x is = name_added known x.name (meaning_as n x.name x.standing) (meant_there x.name x.standing) is

  namings_added : (xs : List Naming) (known : Known) → IsKnown known → IsKnown (fold (with_naming n) known xs)
  namings_added [] known is = is
  namings_added (x ∷ xs) known is = namings_added xs (with_naming n known x) (naming_added known x is)

  fact_added : (known : Known) (fact : Fact) → IsKnown known → IsKnown (with_fact n known fact)
  fact_added known (Stands x) is = naming_added known x is
  fact_added known _ is = is

  claims_added : (claims : List Claim) (known : Known) → IsKnown known → IsKnown (fold (with_claim n) known claims)
  claims_added [] known is = is
  claims_added (c ∷ claims) known is = claims_added claims (with_claim n known c) (fact_added known c.fact is)

  nothing_is : IsKnown nothing_known
  nothing_is = record { names = λ key. of_none (IsThere z); plural_kinds = λ key. of_none (IsBelow z.kinds) }

  named_is : (claims : List Claim) → IsKnown (named_in n claims)
  unfolding named_in
  named_is claims = claims_added claims (fold (with_naming n) nothing_known built_in_namings) (namings_added built_in_namings nothing_known nothing_is)

  -- ---- plurals

  regular_added : (more : ℕ) (known : Known) (kind : List ℕ) → IsKnown known → IsKnown (with_regular more n.kinds known kind)
  regular_added more known kind is = by_test ((length (plural_of kind) - length kind) == more)
    where
      by_test : (has : Bool) → IsKnown (if has then with_plural known (plural_of kind) (small_number n.kinds kind) else known)
      by_test true = plural_added known (plural_of kind) (small_number n.kinds kind) (small_there n.kinds kind) is
      by_test false = is

  regulars_added : (more : ℕ) (kinds : List (List ℕ)) (known : Known) → IsKnown known → IsKnown (fold (with_regular more n.kinds) known kinds)
  regulars_added more [] known is = is
  regulars_added more (kind ∷ kinds) known is = regulars_added more kinds (with_regular more n.kinds known kind) (regular_added more known kind is)

  irregular_added : (known : Known) → IsKnown known → IsKnown (with_irregular n.kinds known)
  irregular_added known is =
      plural_added _ (codes "people") (small_number n.kinds (codes "person")) (small_there n.kinds (codes "person"))
      (plural_added _ (codes "women") (small_number n.kinds (codes "woman")) (small_there n.kinds (codes "woman"))
      (plural_added known (codes "men") (small_number n.kinds (codes "man")) (small_there n.kinds (codes "man")) is))

  plurals_added : (known : Known) → IsKnown known → IsKnown (with_plurals n.kinds known)
  unfolding with_plurals
  plurals_added known is = regulars_added 2 n.kinds _ (regulars_added 1 n.kinds (with_irregular n.kinds known) (irregular_added known is))

  known_is : (claims : List Claim) → IsKnown (known_in n claims)
  known_is claims = plurals_added (named_in n claims) (named_is claims)

source_is : (sentences : List Sentence) → IsKnown (numbering_of sentences) (names_in sentences)
unfolding known_by
source_is sentences = known_is (numbering_of sentences) (claims_of sentences)

pub names_there : (sentences : List Sentence) → AreNamesThere (counts_in sentences) (names_in sentences).meanings
names_there sentences = (source_is sentences).names

pub plurals_there : (sentences : List Sentence) → ArePluralsThere (counts_in sentences) (names_in sentences).plurals
plurals_there sentences = (source_is sentences).plural_kinds
