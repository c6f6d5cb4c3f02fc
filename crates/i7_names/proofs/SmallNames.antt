-- The names that a source claims anything of are in small letters.
use Rattle.std.proofs.Common.{◌≡◌, ℕ, ◌+◌, Bool, true, false, List, [], ◌∷◌, ◌++◌, refl, ap, ◌∙◌, map}
use Rattle.std.specs.Prelude.{ℤ, Option, Some, None, codes, flat_map, if◌then◌else◌}
use Rattle.std.specs.Char.{to_ascii_lowercase}
use Rattle.std.proofs.lemmas.Str.Ascii.{lowercase-lowercase}
use Rattle.world_meaning.specs.Spelling.{is_spelled, lowered}
use Rattle.world_meaning.specs.declared.place.Rel.{Rel}
use Rattle.world_meaning.specs.declared.place.Rel.TheVariants.{In, On, Carried, Worn, Part}
use Rattle.i7_sentences.specs.declared.name.Name.{Name}
use Rattle.i7_sentences.specs.declared.sentence.Assertion.{Assertion}
use Rattle.i7_sentences.specs.declared.sentence.Assertion.TheVariants as assertion
use Rattle.i7_sentences.specs.declared.sentence.Being.{Being}
use Rattle.i7_sentences.specs.declared.sentence.Holder.{Holder}
use Rattle.i7_sentences.specs.declared.sentence.Sentence.{Sentence}
use Rattle.i7_claims.specs.Beings.{names_said}
use Rattle.i7_claims.specs.Claims.{choice_said, claimed, claims_in, claims_of, claims_said, demands, demands_said, either_or, has, has_all, has_choice, has_quality, holder_demands, kind_said, known_by, named, number_claim, placed, placings_said, qualities_said, start_claim, usual, usual_claims, usual_kind, usual_number, usual_quality, usually_choice, values_from, what_claims, worn_claims}
use Rattle.i7_claims.specs.NameScans.{Standings}
use Rattle.i7_claims.specs.Standings.{is_number_name, is_variable_name, namings_in, namings_of}
use Rattle.i7_claims.specs.Statements.{key_of}
use Rattle.i7_claims.specs.Wording.{usual_said, what_said}
use Rattle.i7_claims.specs.declared.claim.Claim.{Claim}
use Rattle.i7_claims.specs.declared.claim.Fact.{Fact}
use Rattle.i7_claims.specs.declared.claim.Fact.TheVariants.{Stands, Starts, Unread}
use Rattle.i7_claims.specs.declared.claim.Naming.{Naming}
use Rattle.i7_claims.specs.declared.claim.Standing.{Standing}
use Rattle.i7_claims.specs.declared.claim.Standing.TheVariants as stands
use Rattle.i7_claims.specs.declared.claim.Value.{Value}
use Rattle.i7_claims.specs.declared.claim.Value.TheVariants.{Amount}
use Rattle.i7_claims.specs.declared.wording.What.{What}

lowered_again : (text : List ℕ) → lowered (lowered text) ≡ lowered text
lowered_again [] = refl
lowered_again (b ∷ bytes) =
    ap (λ (c : ℕ). c ∷ lowered (lowered bytes)) (lowercase-lowercase b) ∙ ap (λ (more : List ℕ). to_ascii_lowercase b ∷ more) (lowered_again bytes)

key_by_test : (b : Bool) (name : List ℕ) → lowered (if b then codes "yourself" else lowered name) ≡ (if b then codes "yourself" else lowered name)
key_by_test true name = refl
key_by_test false name = lowered_again name

key_small : (name : List ℕ) → lowered (key_of name) ≡ key_of name
key_small name = key_by_test (is_spelled name (codes "player")) name

-- ---- claims

abbrev pub IsSmallFact : Fact → Type 0
IsSmallFact (Stands x) = lowered x.name ≡ x.name
IsSmallFact _ = Unit {0}

abbrev pub AreSmallClaims : List Claim → Type 0
AreSmallClaims [] = Unit {0}
AreSmallClaims (c ∷ cs) = IsSmallFact c.fact × AreSmallClaims cs

joined : (xs ys : List Claim) → AreSmallClaims xs → AreSmallClaims ys → AreSmallClaims (xs ++ ys)
joined [] ys h k = k
joined (x ∷ xs) ys h k = (h.0, joined xs ys h.1 k)

each : {X : Type 0} (f : X → Claim) → ((x : X) → IsSmallFact (f x).fact) → (xs : List X) → AreSmallClaims (map f xs)
each f h [] = tt
each f h (x ∷ xs) = (h x, each f h xs)

each_all : {X : Type 0} (f : X → List Claim) → ((x : X) → AreSmallClaims (f x)) → (xs : List X) → AreSmallClaims (flat_map f xs)
each_all f h [] = tt
each_all f h (x ∷ xs) = joined (f x) (flat_map f xs) (h x) (each_all f h xs)

named_all : (standing : Standing) (line : ℕ) (names : List Name) → AreSmallClaims (map (named standing line) names)
named_all standing line names = each (named standing line) (λ name. key_small name.text) names

demanded : (kind : Option (List ℕ)) (subjects : List Name) (line : ℕ) → AreSmallClaims (demands_said kind subjects line)
demanded None subjects line = tt
demanded (Some kind) subjects line = each (demands kind line) (λ name. tt) subjects

what_small : (what : Option What) (words : List ℕ) (subjects : List Name) (line : ℕ) → AreSmallClaims (what_claims what words subjects line)
what_small what words subjects line =
    joined (demands_said (kind_said what words) subjects line) (flat_map (has_all (qualities_said what) line) subjects) (demanded (kind_said what words) subjects line)
    (each_all (has_all (qualities_said what) line) (λ name. each (has_quality line name) (λ quality. tt) (qualities_said what)) subjects)

worn_small : (relation : Rel) (line : ℕ) (name : Name) → AreSmallClaims (worn_claims relation line name)
worn_small In line name = tt
worn_small On line name = tt
worn_small Carried line name = tt
worn_small Worn line name = (tt, tt)
worn_small Part line name = tt

holder_small : (relation : Rel) (name : Name) (line : ℕ) → AreSmallClaims (holder_demands relation name line)
holder_small In name line = tt
holder_small On name line = (tt, tt)
holder_small Carried name line = (tt, tt)
holder_small Worn name line = (tt, tt)
holder_small Part name line = (tt, tt)

placings_small : (place : Option Holder) (subjects : List Name) (line : ℕ) → AreSmallClaims (placings_said place subjects line)
placings_small None subjects line = tt
placings_small (Some holder) subjects line =
    joined (holder_demands holder.relation holder.name line) (flat_map (placed holder line) subjects) (holder_small holder.relation holder.name line)
    (each_all (placed holder line) (λ name. (tt, (tt, worn_small holder.relation line name))) subjects)

being_small : (being : Being) (what : Option What) (line : ℕ) → AreSmallClaims (map (named stands.Object line) (names_said being) ++ what_claims what being.what being.subjects line ++ placings_said being.place being.subjects line)
being_small being what line =
    joined (map (named stands.Object line) (names_said being) ++ what_claims what being.what being.subjects line) (placings_said being.place being.subjects line)
    (joined (map (named stands.Object line) (names_said being)) (what_claims what being.what being.subjects line) (named_all stands.Object line (names_said being)) (what_small what being.what being.subjects line))
    (placings_small being.place being.subjects line)

usual_small : (kind : List ℕ) (what : Option What) (words : List ℕ) (line : ℕ) → AreSmallClaims (usual_claims kind what words line)
usual_small kind None words line = (tt, tt)
usual_small kind (Some what) words line = each (usual_quality kind line) (λ quality. tt) what.qualities

-- one of two claims
either_small : (b : Bool) (x y : Claim) → IsSmallFact x.fact → IsSmallFact y.fact → IsSmallFact (if b then x else y).fact
either_small true x y h k = h
either_small false x y h k = k

number_small : (known : Standings) (property object : Name) (number : ℤ) (line : ℕ) → IsSmallFact (number_claim known property object number line).fact
number_small known property object number line =
    either_small (is_number_name (known (key_of property.text))) (has line object (key_of property.text) (Amount number)) (claimed (Unread (key_of property.text)) line) tt tt

usual_number_small : (known : Standings) (property kind : Name) (number : ℤ) (line : ℕ) → IsSmallFact (usual_number known property kind number line).fact
usual_number_small known property kind number line =
    either_small (is_number_name (known (key_of property.text))) (usual (usual_kind known kind) line (key_of property.text) (Amount number)) (claimed (Unread (key_of property.text)) line) tt tt

start_small : (known : Standings) (variable : Name) (number : ℤ) (line : ℕ) → IsSmallFact (start_claim known variable number line).fact
start_small known variable number line =
    either_small (is_variable_name (known (key_of variable.text))) (claimed (Starts (record { variable = key_of variable.text; number = number })) line) (claimed (Unread (key_of variable.text)) line) tt tt

either_or_small : (kind first : Name) (second : Option Name) (line : ℕ) → AreSmallClaims (either_or kind first second line)
either_or_small kind first None line = (key_small first.text, (tt, tt))
either_or_small kind first (Some second) line = (key_small first.text, (key_small second.text, (tt, tt)))

values_small : (kind : List ℕ) (line place : ℕ) (values : List Name) → AreSmallClaims (values_from kind line place values)
values_small kind line place [] = tt
values_small kind line place (value ∷ values) = (key_small value.text, values_small kind line (1 + place) values)

choice_small : (property object value : Name) (line : ℕ) (choice : Option Value) → IsSmallFact (has_choice property object value line choice).fact
choice_small property object value line None = tt
choice_small property object value line (Some choice) = tt

usual_choice_small : (kind : List ℕ) (property value : Name) (line : ℕ) (choice : Option Value) → IsSmallFact (usually_choice kind property value line choice).fact
usual_choice_small kind property value line None = tt
usual_choice_small kind property value line (Some choice) = tt

said_small : (known : Standings) (said : Assertion) (line : ℕ) → AreSmallClaims (claims_said known said line)
said_small known (assertion.Way way) line = (key_small way.subject.text, (tt, (key_small way.room.text, (tt, tt))))
said_small known (assertion.Door door first second) line =
    (key_small door.text, (tt, (tt, (key_small first.room.text, (tt, (key_small second.room.text, (tt, tt)))))))
said_small known (assertion.DescriptionOf object text) line = (key_small object.text, tt)
said_small known (assertion.Are being) line = being_small being (what_said known being.what) line
said_small known (assertion.Holds holder relation things) line =
    joined (map (named stands.Object line) (holder ∷ things)) (placings_said (Some (record { relation = relation; name = holder })) things line)
    (named_all stands.Object line (holder ∷ things)) (placings_small (Some (record { relation = relation; name = holder })) things line)
said_small known (assertion.Usually kind adjectives) line = usual_small (usual_kind known kind) (usual_said known adjectives) adjectives line
said_small known (assertion.NumberOf property object number) line = (key_small object.text, (number_small known property object number line, tt))
said_small known (assertion.UsuallyNumber property kind number) line = (usual_number_small known property kind number line, tt)
said_small known (assertion.VariableIs variable number) line = (start_small known variable number line, tt)
said_small known (assertion.Rulebook name) line = (tt, tt)
said_small known (assertion.Scene name is_recurring) line = (key_small name.text, tt)
said_small known (assertion.KindOfKind kind parent) line = (key_small kind.text, (tt, tt))
said_small known (assertion.EitherOr kind first second) line = either_or_small kind first second line
said_small known (assertion.NumberProperty kind property) line = (key_small property.text, (tt, tt))
said_small known (assertion.Variable name) line = (key_small name.text, tt)
said_small known (assertion.ValueKind name) line = (key_small name.text, tt)
said_small known (assertion.Values kind values) line = (tt, values_small (key_of kind.text) line 0 values)
said_small known (assertion.HasValue kind property) line = (tt, tt)
said_small known (assertion.ValueOf property object value) line = (key_small object.text, (choice_small property object value line (choice_said known property value), tt))
said_small known (assertion.UsuallyValue property kind value) line = (usual_choice_small (usual_kind known kind) property value line (choice_said known property value), tt)
said_small known _ line = tt

claims_small : (sentences : List Sentence) → AreSmallClaims (claims_of sentences)
claims_small sentences = each_all (claims_in (known_by sentences)) (λ sentence. said_small (known_by sentences) sentence.said sentence.line) sentences

-- ---- names

abbrev pub AreSmall : List Naming → Type 0
AreSmall [] = Unit {0}
AreSmall (x ∷ xs) = (lowered x.name ≡ x.name) × AreSmall xs

pub small_append : (xs ys : List Naming) → AreSmall xs → AreSmall ys → AreSmall (xs ++ ys)
small_append [] ys h k = k
small_append (x ∷ xs) ys h k = (h.0, small_append xs ys h.1 k)

fact_small : (f : Fact) → IsSmallFact f → AreSmall (namings_in f)
fact_small (Stands x) h = (h, tt)
fact_small _ h = tt

namings_small : (claims : List Claim) → AreSmallClaims claims → AreSmall (namings_of claims)
namings_small [] h = tt
namings_small (c ∷ cs) h = small_append (namings_in c.fact) (namings_of cs) (fact_small c.fact h.0) (namings_small cs h.1)

pub source_names_small : (sentences : List Sentence) → AreSmall (namings_of (claims_of sentences))
source_names_small sentences = namings_small (claims_of sentences) (claims_small sentences)
