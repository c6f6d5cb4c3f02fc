-- The numbers of claims are in range where those of the sentences are.
use Rattle.std.proofs.Common.{◌≡◌, ℕ, ◌+◌, true, false, List, [], ◌∷◌, ◌++◌, map, Option, inl, inr}
use Rattle.std.specs.Prelude.{Some, None, bytes_eq, codes, flat_map}
use Rattle.std.proofs.lemmas.Bool.{cases_Bool}
use Rattle.world_meaning.specs.Declarations.{is_number}
use Rattle.world_meaning.specs.Spelling.{lowered}
use Rattle.world_meaning.specs.declared.place.Rel.{Rel}
use Rattle.world_meaning.specs.declared.place.Rel.TheVariants.{In, On, Carried, Worn, Part}
use Rattle.i7_sentences.specs.declared.name.Name.{Name}
use Rattle.i7_sentences.specs.declared.sentence.Assertion.{Assertion}
use Rattle.i7_sentences.specs.declared.sentence.Assertion.TheVariants as assertion
use Rattle.i7_sentences.specs.declared.sentence.Being.{Being}
use Rattle.i7_sentences.specs.declared.sentence.Holder.{Holder}
use Rattle.i7_sentences.specs.declared.sentence.Sentence.{Sentence}
use Rattle.i7_claims.specs.Beings.{names_said}
use Rattle.i7_claims.specs.Claims.{being_claims, claims_in, claims_of, choice_in, choice_said, claims_said, declares_said, demands, demands_said, either_or, has_all, has_choice, holder_demands, kind_said, known_by, named, numbers_said, placed, placings_said, qualities_said, usual_claims, usual_kind, usual_quality, usually_choice, values_from, what_claims, worn_claims}
use Rattle.i7_claims.specs.NameScans.{Standings}
use Rattle.i7_claims.specs.Standings.{is_number_name, is_variable_name}
use Rattle.i7_claims.specs.Statements.{key_of}
use Rattle.i7_claims.specs.Wording.{usual_said, what_said}
use Rattle.i7_claims.specs.declared.claim.Claim.{Claim}
use Rattle.i7_claims.specs.declared.claim.Fact.{Fact}
use Rattle.i7_claims.specs.declared.claim.Fact.TheVariants.{Has, Starts, Usually}
use Rattle.i7_claims.specs.declared.claim.Quality.{Quality}
use Rattle.i7_claims.specs.declared.claim.Standing.{Standing}
use Rattle.i7_claims.specs.declared.claim.Standing.TheVariants as stands
use Rattle.i7_claims.specs.declared.claim.Value.{Value}
use Rattle.i7_claims.specs.declared.wording.What.{What}
pub use Rattle.i7_claims.proofs.RangedWords.{AreRangedQualities, IsRangedValue, IsRangedWhat, cut_ranged}

-- the number of a sentence is in range
abbrev pub IsRangedSaid : Assertion → Type 0
IsRangedSaid (assertion.NumberOf property object number) = is_number number ≡ true
IsRangedSaid (assertion.UsuallyNumber property kind number) = is_number number ≡ true
IsRangedSaid (assertion.VariableIs variable number) = is_number number ≡ true
IsRangedSaid _ = Unit {0}

abbrev pub AreRangedSentences : List Sentence → Type 0
AreRangedSentences [] = Unit {0}
AreRangedSentences (sentence ∷ sentences) = IsRangedSaid sentence.said × AreRangedSentences sentences

abbrev pub IsRangedFact : Fact → Type 0
IsRangedFact (Has h) = IsRangedValue h.value
IsRangedFact (Usually u) = IsRangedValue u.value
IsRangedFact (Starts v) = is_number v.number ≡ true
IsRangedFact _ = Unit {0}

abbrev IsRangedChoice : Option Value → Type 0
IsRangedChoice None = Unit {0}
IsRangedChoice (Some value) = IsRangedValue value

abbrev pub AreRanged : List Claim → Type 0
AreRanged [] = Unit {0}
AreRanged (c ∷ claims) = IsRangedFact c.fact × AreRanged claims

-- ---- of claims

appended : (xs ys : List Claim) → AreRanged xs → AreRanged ys → AreRanged (xs ++ ys)
appended [] ys h k = k
appended (x ∷ xs) ys h k = (h.0, appended xs ys h.1 k)

mapped : {X : Type 0} (f : X → Claim) → ((x : X) → IsRangedFact (f x).fact) → (xs : List X) → AreRanged (map f xs)
mapped f h [] = tt
mapped f h (x ∷ xs) = (h x, mapped f h xs)

flat : {X : Type 0} (f : X → List Claim) → ((x : X) → AreRanged (f x)) → (xs : List X) → AreRanged (flat_map f xs)
flat f h [] = tt
flat f h (x ∷ xs) = appended (f x) (flat_map f xs) (h x) (flat f h xs)

demands_ranged : (kind : Option (List ℕ)) (subjects : List Name) (line : ℕ) → AreRanged (demands_said kind subjects line)
demands_ranged None subjects line = tt
demands_ranged (Some kind) subjects line = mapped (demands kind line) (λ name. tt) subjects

qualities_ranged : (what : Option What) → IsRangedWhat what → AreRangedQualities (qualities_said what)
qualities_ranged None h = tt
qualities_ranged (Some what) h = h

all_had : (line : ℕ) (name : Name) (qualities : List Quality) → AreRangedQualities qualities → AreRanged (has_all qualities line name)
all_had line name [] h = tt
all_had line name (quality ∷ qualities) h = (h.0, all_had line name qualities h.1)

what_ranged : (what : Option What) (words : List ℕ) (subjects : List Name) (line : ℕ) → IsRangedWhat what → AreRanged (what_claims what words subjects line)
what_ranged what words subjects line h =
    appended (demands_said (kind_said what words) subjects line) _ (demands_ranged (kind_said what words) subjects line)
    (flat (has_all (qualities_said what) line) (λ name. all_had line name (qualities_said what) (qualities_ranged what h)) subjects)

placed_ranged : (holder : Holder) (relation : Rel) (line : ℕ) (name : Name) → AreRanged (worn_claims relation line name)
placed_ranged holder In line name = tt
placed_ranged holder On line name = tt
placed_ranged holder Carried line name = tt
placed_ranged holder Worn line name = (tt, tt)
placed_ranged holder Part line name = tt

holder_ranged : (relation : Rel) (name : Name) (line : ℕ) → AreRanged (holder_demands relation name line)
holder_ranged In name line = tt
holder_ranged On name line = (tt, tt)
holder_ranged Carried name line = (tt, tt)
holder_ranged Worn name line = (tt, tt)
holder_ranged Part name line = (tt, tt)

placings_ranged : (place : Option Holder) (subjects : List Name) (line : ℕ) → AreRanged (placings_said place subjects line)
placings_ranged None subjects line = tt
placings_ranged (Some holder) subjects line =
    appended (holder_demands holder.relation holder.name line) _ (holder_ranged holder.relation holder.name line)
    (flat (placed holder line) (λ name. (tt, (tt, placed_ranged holder holder.relation line name))) subjects)

being_ranged : (known : Standings) (being : Being) (line : ℕ) → AreRanged (being_claims known being line)
being_ranged known being line =
    let names = map (named stands.Object line) (names_said being) in
    let what = what_claims (what_said known being.what) being.what being.subjects line in
    appended (names ++ what) (placings_said being.place being.subjects line)
    (appended names what (mapped (named stands.Object line) (λ name. tt) (names_said being)) (what_ranged (what_said known being.what) being.what being.subjects line (cut_ranged known false (lowered being.what))))
    (placings_ranged being.place being.subjects line)

all_usual : (kind : List ℕ) (line : ℕ) (qualities : List Quality) → AreRangedQualities qualities → AreRanged (map (usual_quality kind line) qualities)
all_usual kind line [] h = tt
all_usual kind line (quality ∷ qualities) h = (h.0, all_usual kind line qualities h.1)

usual_ranged : (kind : List ℕ) (what : Option What) (words : List ℕ) (line : ℕ) → IsRangedWhat what → AreRanged (usual_claims kind what words line)
usual_ranged kind None words line h = (tt, tt)
usual_ranged kind (Some what) words line h = all_usual kind line what.qualities h

either_ranged : (kind first : Name) (second : Option Name) (line : ℕ) → AreRanged (either_or kind first second line)
either_ranged kind first None line = (tt, (tt, tt))
either_ranged kind first (Some second) line = (tt, (tt, (tt, tt)))

values_ranged : (kind : List ℕ) (line place : ℕ) (values : List Name) → AreRanged (values_from kind line place values)
values_ranged kind line place [] = tt
values_ranged kind line place (value ∷ values) = (tt, values_ranged kind line (1 + place) values)

choice_ranged : (standing : Option Standing) (kind : List ℕ) → IsRangedChoice (choice_in standing kind)
choice_ranged None kind = tt
choice_ranged (Some (stands.Value value)) kind =
    elim (cases_Bool (bytes_eq value.kind kind)) [
      | inl is ↦ rw is tt
      | inr isnt ↦ rw isnt tt
    ]
choice_ranged (Some _) kind = tt

had_ranged : (property object value : Name) (line : ℕ) (choice : Option Value) → IsRangedChoice choice → IsRangedFact (has_choice property object value line choice).fact
had_ranged property object value line None h = tt
had_ranged property object value line (Some choice) h = h

usually_ranged : (kind : List ℕ) (property value : Name) (line : ℕ) (choice : Option Value) → IsRangedChoice choice → IsRangedFact (usually_choice kind property value line choice).fact
usually_ranged kind property value line None h = tt
usually_ranged kind property value line (Some choice) h = h

declares_ranged : (said : Assertion) (line : ℕ) → AreRanged (declares_said said line)
declares_ranged (assertion.Rulebook name) line = (tt, tt)
declares_ranged (assertion.Scene name is_recurring) line = (tt, tt)
declares_ranged (assertion.KindOfKind kind parent) line = (tt, (tt, tt))
declares_ranged (assertion.EitherOr kind first second) line = either_ranged kind first second line
declares_ranged (assertion.NumberProperty kind property) line = (tt, (tt, tt))
declares_ranged (assertion.Variable name) line = (tt, tt)
declares_ranged (assertion.ValueKind name) line = (tt, tt)
declares_ranged (assertion.Values kind values) line = (tt, values_ranged (key_of kind.text) line 0 values)
declares_ranged (assertion.HasValue kind property) line = (tt, tt)
declares_ranged _ line = tt

numbers_ranged : (known : Standings) (said : Assertion) (line : ℕ) → IsRangedSaid said → AreRanged (numbers_said known said line)
numbers_ranged known (assertion.NumberOf property object number) line h =
    elim (cases_Bool (is_number_name (known (key_of property.text)))) [
      | inl is ↦ rw is (tt, (h, tt))
      | inr isnt ↦ rw isnt (tt, (tt, tt))
    ]
numbers_ranged known (assertion.UsuallyNumber property kind number) line h =
    elim (cases_Bool (is_number_name (known (key_of property.text)))) [
      | inl is ↦ rw is (h, tt)
      | inr isnt ↦ rw isnt (tt, tt)
    ]
numbers_ranged known (assertion.VariableIs variable number) line h =
    elim (cases_Bool (is_variable_name (known (key_of variable.text)))) [
      | inl is ↦ rw is (h, tt)
      | inr isnt ↦ rw isnt (tt, tt)
    ]
numbers_ranged known (assertion.Rulebook name) line h = declares_ranged (assertion.Rulebook name) line
numbers_ranged known (assertion.Scene name is_recurring) line h = declares_ranged (assertion.Scene name is_recurring) line
numbers_ranged known (assertion.KindOfKind kind parent) line h = declares_ranged (assertion.KindOfKind kind parent) line
numbers_ranged known (assertion.EitherOr kind first second) line h = either_ranged kind first second line
numbers_ranged known (assertion.NumberProperty kind property) line h = declares_ranged (assertion.NumberProperty kind property) line
numbers_ranged known (assertion.Variable name) line h = declares_ranged (assertion.Variable name) line
numbers_ranged known (assertion.ValueKind name) line h = declares_ranged (assertion.ValueKind name) line
numbers_ranged known (assertion.Values kind values) line h = declares_ranged (assertion.Values kind values) line
numbers_ranged known (assertion.HasValue kind property) line h = declares_ranged (assertion.HasValue kind property) line
numbers_ranged known (assertion.ValueOf property object value) line h =
    (tt, (had_ranged property object value line (choice_said known property value) (choice_ranged (known (key_of value.text)) (key_of property.text)), tt))
numbers_ranged known (assertion.UsuallyValue property kind value) line h =
    (usually_ranged (usual_kind known kind) property value line (choice_said known property value) (choice_ranged (known (key_of value.text)) (key_of property.text)), tt)
numbers_ranged known _ line h = tt

claims_ranged : (known : Standings) (said : Assertion) (line : ℕ) → IsRangedSaid said → AreRanged (claims_said known said line)
claims_ranged known (assertion.Way way) line h = (tt, (tt, (tt, (tt, tt))))
claims_ranged known (assertion.Door door first second) line h = (tt, (tt, (tt, (tt, (tt, (tt, (tt, tt)))))))
claims_ranged known (assertion.DescriptionOf object text) line h = (tt, tt)
claims_ranged known (assertion.Are being) line h = being_ranged known being line
claims_ranged known (assertion.Holds holder relation things) line h =
    appended (map (named stands.Object line) (holder ∷ things)) _ (mapped (named stands.Object line) (λ name. tt) (holder ∷ things))
    (placings_ranged (Some (record { relation = relation; name = holder })) things line)
claims_ranged known (assertion.Usually kind adjectives) line h =
    usual_ranged (usual_kind known kind) (usual_said known adjectives) adjectives line (cut_ranged known true (codes "and " ++ lowered adjectives))
claims_ranged known (assertion.NumberOf property object number) line h = numbers_ranged known (assertion.NumberOf property object number) line h
claims_ranged known (assertion.UsuallyNumber property kind number) line h = numbers_ranged known (assertion.UsuallyNumber property kind number) line h
claims_ranged known (assertion.VariableIs variable number) line h = numbers_ranged known (assertion.VariableIs variable number) line h
claims_ranged known (assertion.EitherOr kind first second) line h = either_ranged kind first second line
claims_ranged known (assertion.Rulebook name) line h = (tt, tt)
claims_ranged known (assertion.Scene name is_recurring) line h = (tt, tt)
claims_ranged known (assertion.KindOfKind kind parent) line h = (tt, (tt, tt))
claims_ranged known (assertion.NumberProperty kind property) line h = (tt, (tt, tt))
claims_ranged known (assertion.Variable name) line h = (tt, tt)
claims_ranged known (assertion.ValueKind name) line h = (tt, tt)
claims_ranged known (assertion.Values kind values) line h = declares_ranged (assertion.Values kind values) line
claims_ranged known (assertion.HasValue kind property) line h = (tt, tt)
claims_ranged known (assertion.ValueOf property object value) line h = numbers_ranged known (assertion.ValueOf property object value) line h
claims_ranged known (assertion.UsuallyValue property kind value) line h = numbers_ranged known (assertion.UsuallyValue property kind value) line h
claims_ranged known _ line h = tt

sentences_ranged : (known : Standings) (sentences : List Sentence) → AreRangedSentences sentences → AreRanged (flat_map (claims_in known) sentences)
sentences_ranged known [] h = tt
sentences_ranged known (sentence ∷ sentences) h =
    appended (claims_in known sentence) (flat_map (claims_in known) sentences) (claims_ranged known sentence.said sentence.line h.0) (sentences_ranged known sentences h.1)

pub source_ranged : (sentences : List Sentence) → AreRangedSentences sentences → AreRanged (claims_of sentences)
source_ranged sentences h = sentences_ranged (known_by sentences) sentences h
