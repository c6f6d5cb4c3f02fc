-- The names of a source in which none stands for two things stand for what is claimed of them.
use Rattle.std.proofs.Common.{◌≡◌, ℕ, ◌-◌, ◌==◌, length, Bool, true, false, ◌&&◌, List, [], ◌∷◌, ◌++◌, refl, sym, ap, ◌∙◌, subst}
use Rattle.std.specs.Prelude.{Option, None, Some, bytes_eq, codes, fold, if◌then◌else◌}
use Rattle.std.proofs.lemmas.Slice.Eq.{bytes_eq-Decides}
use Rattle.std.proofs.lemmas.Bool.{and_parts}
use Rattle.world_meaning.specs.Directions.{direction_name}
use Rattle.world_meaning.specs.Spelling.{lowered}
use Rattle.i7_sentences.specs.declared.sentence.Sentence.{Sentence}
use Rattle.i7_conditions.specs.Meanings.{Meanings}
use Rattle.i7_claims.specs.Claims.{claims_of}
use Rattle.i7_claims.specs.NameScans.{built_in_standings, name_twice, no_standings, with_naming}
use Rattle.i7_sentences.specs.Plurals.{plural_of}
use Rattle.i7_claims.specs.Standings.{built_in_namings, namings_in, namings_of}
use Rattle.i7_claims.specs.Statements.{named_by}
use Rattle.i7_claims.specs.declared.claim.Claim.{Claim}
use Rattle.i7_claims.specs.declared.claim.Fact.{Fact}
use Rattle.i7_claims.specs.declared.claim.Fact.TheVariants.{Stands}
use Rattle.i7_claims.specs.declared.claim.Naming.{Naming}
use Rattle.i7_claims.proofs.NameScans.{fold_append, fold_naming}
use Rattle.i7_names.specs.Claimed.{AreAsClaimed, claimed_in}
use Rattle.i7_names.specs.Known.{Known, nothing_known, with_plural}
use Rattle.i7_names.specs.Meant.{named_in, with_claim, with_fact}
use Rattle.i7_names.specs.Meant as meant
use Rattle.i7_names.specs.Numbering.{Numbering, numbering_by, numbering_of}
use Rattle.i7_names.specs.Numbers.{small_number}
use Rattle.i7_names.specs.PluralNames.{with_irregular, with_plurals, with_regular}
use Rattle.i7_names.specs.SourceNames.{known_by, names_in}
use Rattle.i7_names.proofs.SmallNames.{AreSmall, small_append, source_names_small}
use Rattle.i7_names.proofs.Standings.{Agrees, all_agree, claims_fit, each_tells, fits, fits_append, meaning_of, unsaid}

-- ---- before any sentence

are_small : List Naming → Bool
are_small [] = true
are_small (x ∷ xs) = bytes_eq (lowered x.name) x.name && are_small xs

small_by_test : (xs : List Naming) → are_small xs ≡ true → AreSmall xs
unfolding are_small
small_by_test [] h = tt
small_by_test (x ∷ xs) h =
    let parts = and_parts (bytes_eq (lowered x.name) x.name) (are_small xs) h in
    ((bytes_eq-Decides (lowered x.name) x.name).0 parts.0, small_by_test xs parts.1)

built_in_small : AreSmall built_in_namings
unfolding are_small built_in_namings direction_name
built_in_small = small_by_test built_in_namings refl

built_in_fit : fits no_standings built_in_namings ≡ true
unfolding fits built_in_namings direction_name
built_in_fit = refl

-- ---- names and plurals

fact_named : (n : Numbering) (f : Fact) (known : Known) → fold (meant.with_naming n) known (namings_in f) ≡ with_fact n known f
fact_named n (Stands x) known = refl
fact_named n _ known = refl

claims_named : (n : Numbering) (claims : List Claim) (known : Known) → fold (with_claim n) known claims ≡ fold (meant.with_naming n) known (namings_of claims)
claims_named n [] known = refl
claims_named n (c ∷ cs) known =
    claims_named n cs (with_claim n known c)
    ∙ sym (fold_append (meant.with_naming n) known (namings_in c.fact) (namings_of cs) ∙ ap (λ (k : Known). fold (meant.with_naming n) k (namings_of cs)) (fact_named n c.fact known))

all_named : (n : Numbering) (claims : List Claim) → named_in n claims ≡ fold (meant.with_naming n) nothing_known (built_in_namings ++ namings_of claims)
unfolding named_in
all_named n claims =
    claims_named n claims (fold (meant.with_naming n) nothing_known built_in_namings)
    ∙ sym (fold_append (meant.with_naming n) nothing_known built_in_namings (namings_of claims))

plural_apart : (known : Known) (plural : List ℕ) (kind : Option ℕ) → (with_plural known plural kind).meanings ≡ known.meanings
plural_apart known plural None = refl
plural_apart known plural (Some kind) = refl

plural_apart_if : (b : Bool) (known : Known) (plural : List ℕ) (kind : Option ℕ) → (if b then with_plural known plural kind else known).meanings ≡ known.meanings
plural_apart_if true known plural kind = plural_apart known plural kind
plural_apart_if false known plural kind = refl

regular_apart : (more : ℕ) (kinds names : List (List ℕ)) (known : Known) → (fold (with_regular more kinds) known names).meanings ≡ known.meanings
regular_apart more kinds [] known = refl
regular_apart more kinds (kind ∷ names) known =
    regular_apart more kinds names (with_regular more kinds known kind)
    ∙ plural_apart_if ((length (plural_of kind) - length kind) == more) known (plural_of kind) (small_number kinds kind)

irregular_apart : (kinds : List (List ℕ)) (known : Known) → (with_irregular kinds known).meanings ≡ known.meanings
irregular_apart kinds known =
    let men = with_plural known (codes "men") (small_number kinds (codes "man")) in
    let women = with_plural men (codes "women") (small_number kinds (codes "woman")) in
    plural_apart women (codes "people") (small_number kinds (codes "person"))
    ∙ plural_apart men (codes "women") (small_number kinds (codes "woman"))
    ∙ plural_apart known (codes "men") (small_number kinds (codes "man"))

plurals_apart : (kinds : List (List ℕ)) (known : Known) → (with_plurals kinds known).meanings ≡ known.meanings
unfolding with_plurals
plurals_apart kinds known =
    regular_apart 2 kinds kinds (fold (with_regular 1 kinds) (with_irregular kinds known) kinds)
    ∙ regular_apart 1 kinds kinds (with_irregular kinds known)
    ∙ irregular_apart kinds known

-- ---- a source

source_fits : (claims : List Claim) → name_twice claims ≡ None → fits no_standings (built_in_namings ++ namings_of claims) ≡ true
unfolding built_in_standings
source_fits claims h = fits_append built_in_namings (namings_of claims) no_standings built_in_fit (claims_fit claims (fold with_naming no_standings built_in_namings) h)

as_claimed : (n : Numbering) (namings : List Naming) → AreSmall namings → fits no_standings namings ≡ true → AreAsClaimed n namings (fold (meant.with_naming n) nothing_known namings).meanings
as_claimed n namings small fit =
    let agree : Agrees n (fold with_naming no_standings namings) (fold (meant.with_naming n) nothing_known namings) = all_agree n namings no_standings nothing_known (λ name. refl) small fit in
    record {
      claimed = λ x among. agree x.name ∙ each_tells n namings no_standings fit x among;
      unclaimed = λ name h. agree name ∙ ap (meaning_of n name) (fold_naming namings no_standings name ∙ unsaid namings name h);
    }

by_claims : (objects : List (List ℕ)) (claims : List Claim) → AreSmall (namings_of claims) → name_twice claims ≡ None → AreAsClaimed (numbering_by objects claims) (built_in_namings ++ namings_of claims) (known_by objects claims).meanings
unfolding known_by
by_claims objects claims small h =
    let kept = plurals_apart (numbering_by objects claims).kinds (named_in (numbering_by objects claims) claims) ∙ ap (λ (known : Known). known.meanings) (all_named (numbering_by objects claims) claims) in
    subst (λ (meanings : Meanings). AreAsClaimed (numbering_by objects claims) (built_in_namings ++ namings_of claims) meanings) (sym kept)
    (as_claimed (numbering_by objects claims) (built_in_namings ++ namings_of claims) (small_append built_in_namings (namings_of claims) built_in_small small) (source_fits claims h))

pub source_is_as_claimed : (sentences : List Sentence) → name_twice (claims_of sentences) ≡ None → AreAsClaimed (numbering_of sentences) (claimed_in sentences) (names_in sentences).meanings
source_is_as_claimed sentences h = by_claims (named_by sentences).keys (claims_of sentences) (source_names_small sentences) h
