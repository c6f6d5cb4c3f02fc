-- Where no kind of value is listed twice, all that sentences declare is looked at.
use Rattle.std.proofs.Common.{◌≡◌, ℕ, ◌+◌, Bool, false, List, [], ◌∷◌, ◌++◌, map, refl, sym, ap, ◌∙◌, subst, inl, inr}
use Rattle.std.specs.Prelude.{None, Some, flat_map, if◌then◌else◌}
use Rattle.object_words.specs.Mentions.{mention}
use Rattle.i7_sentences.specs.declared.name.Name.{Name}
use Rattle.i7_sentences.specs.declared.sentence.Assertion.{Assertion}
use Rattle.i7_sentences.specs.declared.sentence.Assertion.TheVariants as asserts
use Rattle.i7_sentences.specs.declared.sentence.Sentence.{Sentence}
use Rattle.i7_claims.specs.Claims.{claimed, claims_in, claims_of, declares_from, declares_in, declares_said, is_listed, known_by, values_from, with_listed}
use Rattle.i7_claims.specs.NameScans.{Standings, list_twice, shows_list, with_list, with_list_of}
use Rattle.i7_claims.specs.Scans.{lowest}
use Rattle.i7_claims.specs.Statements.{key_of}
use Rattle.i7_claims.specs.declared.claim.Claim.{Claim}
use Rattle.i7_claims.specs.declared.claim.Fact.{Fact}
use Rattle.i7_claims.specs.declared.claim.Fact.TheVariants.{Values}
use Rattle.i7_claims.proofs.Lowest.{none_shown}
use Rattle.i7_kinds.proofs.KindsDeclared.{DeclaresOrNot, EachFact, IsPlain, declares_or_not}

-- ---- claims that list no values

abbrev IsNoList : Fact → Type 0
IsNoList (Values listing) = ⊥
IsNoList _ = Unit {0}

abbrev NoneListed : List (List ℕ) → List Claim → Type 0
NoneListed kinds claims = lowest shows_list with_list_of kinds claims None ≡ None

no_list_more : (kinds : List (List ℕ)) (f : Fact) → IsNoList f → with_list kinds f ≡ kinds
no_list_more kinds (Values listing) is = absurd is
no_list_more kinds _ is = refl

past_claims : (some rest : List Claim) (kinds : List (List ℕ)) → EachFact IsNoList some → NoneListed kinds (some ++ rest) → NoneListed kinds rest
past_claims [] rest kinds each none = none
past_claims (c ∷ some) rest kinds each none =
    let t = none_shown shows_list with_list_of kinds c (some ++ rest) none in
    past_claims some rest kinds each.1 (subst (λ (known : List (List ℕ)). NoneListed known (some ++ rest)) (no_list_more kinds c.fact each.0) t.1)

plain_fact : (f : Fact) → IsPlain f → IsNoList f
plain_fact (Values listing) is = is
plain_fact _ is = tt

plain_claims : (claims : List Claim) → EachFact IsPlain claims → EachFact IsNoList claims
plain_claims [] each = tt
plain_claims (c ∷ claims) each = (plain_fact c.fact each.0, plain_claims claims each.1)

names_of_values : (kind : List ℕ) (line place : ℕ) (values : List Name) → EachFact IsNoList (values_from kind line place values)
names_of_values kind line place [] = tt
names_of_values kind line place (value ∷ values) = (tt, names_of_values kind line (1 + place) values)

-- ---- what a sentence declares

-- it lists no kind of value again, and none is listed again behind it
abbrev IsFirst : List (List ℕ) → Assertion → List Claim → Type 0
IsFirst kinds said rest = (is_listed kinds said ≡ false) × NoneListed (with_listed kinds said) rest

declared_first : (kinds : List (List ℕ)) (said : Assertion) (line : ℕ) (rest : List Claim) → NoneListed kinds (declares_said said line ++ rest) → IsFirst kinds said rest
declared_first kinds (asserts.Values kind values) line rest none =
    let names = values_from (key_of kind.text) line 0 values in
    let list : Claim = claimed (Values (record { kind = key_of kind.text; values = map (λ (value : Name). value.text) values })) line in
    let t = none_shown shows_list with_list_of kinds list (names ++ rest) none in
    (t.0, past_claims names rest (mention kinds (key_of kind.text)) (names_of_values (key_of kind.text) line 0 values) t.1)
declared_first kinds (asserts.Rulebook name) line rest none = (refl, past_claims (declares_said (asserts.Rulebook name) line) rest kinds (tt, tt) none)
declared_first kinds (asserts.Scene name recurs) line rest none = (refl, past_claims (declares_said (asserts.Scene name recurs) line) rest kinds (tt, tt) none)
declared_first kinds (asserts.KindOfKind kind parent) line rest none = (refl, past_claims (declares_said (asserts.KindOfKind kind parent) line) rest kinds (tt, (tt, tt)) none)
declared_first kinds (asserts.EitherOr kind first None) line rest none = (refl, past_claims (declares_said (asserts.EitherOr kind first None) line) rest kinds (tt, (tt, tt)) none)
declared_first kinds (asserts.EitherOr kind first (Some second)) line rest none =
    (refl, past_claims (declares_said (asserts.EitherOr kind first (Some second)) line) rest kinds (tt, (tt, (tt, tt))) none)
declared_first kinds (asserts.NumberProperty kind property) line rest none = (refl, past_claims (declares_said (asserts.NumberProperty kind property) line) rest kinds (tt, (tt, tt)) none)
declared_first kinds (asserts.Variable name) line rest none = (refl, past_claims (declares_said (asserts.Variable name) line) rest kinds (tt, tt) none)
declared_first kinds (asserts.ValueKind name) line rest none = (refl, past_claims (declares_said (asserts.ValueKind name) line) rest kinds (tt, tt) none)
declared_first kinds (asserts.HasValue kind property) line rest none = (refl, past_claims (declares_said (asserts.HasValue kind property) line) rest kinds (tt, tt) none)
declared_first kinds _ line rest none = (refl, none)

said_first : (known : Standings) (sentence : Sentence) (rest : List Claim) (kinds : List (List ℕ)) → DeclaresOrNot known sentence.said sentence.line
    → NoneListed kinds (claims_in known sentence ++ rest) → IsFirst kinds sentence.said rest
said_first known sentence rest kinds (inl plain) none =
    let later = past_claims (claims_in known sentence) rest kinds (plain_claims (claims_in known sentence) plain.1) none in
    declared_first kinds sentence.said sentence.line rest (subst (λ (front : List Claim). NoneListed kinds (front ++ rest)) (sym plain.0) later)
said_first known sentence rest kinds (inr same) none =
    declared_first kinds sentence.said sentence.line rest (subst (λ (front : List Claim). NoneListed kinds (front ++ rest)) same none)

all_first : (known : Standings) (sentences : List Sentence) (kinds : List (List ℕ)) → NoneListed kinds (flat_map (claims_in known) sentences)
    → declares_from kinds sentences ≡ flat_map declares_in sentences
all_first known [] kinds none = refl
all_first known (sentence ∷ sentences) kinds none =
    let t = said_first known sentence (flat_map (claims_in known) sentences) kinds (declares_or_not known sentence.said sentence.line) none in
    let later = all_first known sentences (with_listed kinds sentence.said) t.1 in
    ap (λ (is : Bool). (if is then [] else declares_in sentence) ++ declares_from (with_listed kinds sentence.said) sentences) t.0
    ∙ ap (λ (more : List Claim). declares_in sentence ++ more) later

pub declares_once : (sentences : List Sentence) → list_twice (claims_of sentences) ≡ None → declares_from [] sentences ≡ flat_map declares_in sentences
declares_once sentences none = all_first (known_by sentences) sentences [] none
