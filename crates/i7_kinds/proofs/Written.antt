-- The description of an object stands in one of the sentences.
use Rattle.std.proofs.Common.{◌≡◌, ℕ, ◌+◌, zero, suc, Bool, true, false, ◌==◌, List, [], ◌∷◌, ◌++◌, refl, ap, ◌∙◌, Ok, ⊎_elim, inl, inr}
use Rattle.std.specs.Prelude.{Option, None, Some, find, map, option_map, slice_get, ◌⊎◌, if◌then◌else◌}
use Rattle.world_meaning.specs.Tale.{description_in, description_of as told_description}
use Rattle.world_meaning.specs.declared.declared.Declared.{Declared}
use Rattle.world_meaning.specs.declared.fault.Fault.{Fault}
use Rattle.world_meaning.specs.declared.needs.Needs.{Needs}
use Rattle.world_meaning.specs.declared.place.Rel.{Rel}
use Rattle.world_meaning.specs.declared.place.Rel.TheVariants.{In, On, Carried, Worn, Part}
use Rattle.world_meaning.specs.declared.tale.Tale.{Tale}
use Rattle.i7_sentences.specs.declared.name.Name.{Name}
use Rattle.i7_sentences.specs.declared.sentence.Assertion.{Assertion}
use Rattle.i7_sentences.specs.declared.sentence.Assertion.TheVariants as asserts
use Rattle.i7_sentences.specs.declared.sentence.Sentence.{Sentence}
use Rattle.i7_claims.specs.Claims.{claims_of}
use Rattle.i7_claims.specs.Statements.{Named, named_by, numbered_holding, numbered_in, numbered_subject, statement_in}
use Rattle.i7_claims.specs.declared.statements.Numbered.{Numbered}
use Rattle.i7_claims.specs.declared.statements.Numbered.TheVariants as numbered
use Rattle.i7_kinds.specs.Actions.{actions_said, told_with, with_actions}
use Rattle.i7_kinds.specs.Demands.{described_after, description_of, is_room, subject_of, told_in}
use Rattle.i7_kinds.specs.KindClaims.{kind_names, parents_of}
use Rattle.i7_kinds.specs.Knowns.{knowns_of}
use Rattle.i7_kinds.specs.Tales.{Made, object_as, objects_of, or_refused, scope_with}
use Rattle.i7_kinds.specs.Written.{DescribesWith, DescriptionsAreWritten, IsWritten}
use Rattle.i7_kinds.specs.declared.descriptions.Description.{Description}
use Rattle.i7_kinds.specs.declared.entries.Entry.{Entry}
use Rattle.i7_kinds.specs.declared.knowns.Known.{Known}

-- ---- a statement with a text

abbrev text_in : Numbered → Option (List ℕ)
text_in numbered.Aside = None
text_in (numbered.Description text) = Some text
text_in (numbered.Describes o text) = Some text
text_in (numbered.Being o) = None
text_in (numbered.Way way) = None
text_in (numbered.Door door) = None

none_of_subject : (named : Named) (names : List Name) (text : List ℕ) → text_in (numbered_subject named names) ≡ Some text → ⊥
none_of_subject named [] text e = cc
none_of_subject named (name ∷ []) text e = cc
none_of_subject named (name ∷ other ∷ names) text e = cc

none_of_holding : (named : Named) (relation : Rel) (holder : Name) (names : List Name) (text : List ℕ) → text_in (numbered_holding named relation holder names) ≡ Some text → ⊥
none_of_holding named In holder names text e = none_of_subject named names text e
none_of_holding named On holder names text e = none_of_subject named names text e
none_of_holding named Carried holder names text e = cc
none_of_holding named Worn holder names text e = cc
none_of_holding named Part holder names text e = none_of_subject named names text e

of_assertion : (named : Named) (said : Assertion) (text : List ℕ) → text_in (numbered_in named said) ≡ Some text → DescribesWith text said
of_assertion named asserts.Aside text e = cc
of_assertion named (asserts.Description t) text e = cc
of_assertion named (asserts.Rulebook name) text e = cc
of_assertion named (asserts.Scene name is_recurring) text e = cc
of_assertion named (asserts.KindOfKind kind parent) text e = cc
of_assertion named (asserts.EitherOr kind first second) text e = cc
of_assertion named (asserts.NumberProperty kind property) text e = cc
of_assertion named (asserts.Usually kind adjectives) text e = cc
of_assertion named (asserts.UsuallyNumber property kind number) text e = cc
of_assertion named (asserts.Variable name) text e = cc
of_assertion named (asserts.DescriptionOf object t) text e = cc
of_assertion named (asserts.NumberOf property object number) text e = cc
of_assertion named (asserts.Way way) text e = cc
of_assertion named (asserts.Door door first second) text e = cc
of_assertion named (asserts.Holds holder relation things) text e = none_of_holding named relation holder things text e
of_assertion named (asserts.VariableIs variable number) text e = cc
of_assertion named (asserts.ValueKind name) text e = cc
of_assertion named (asserts.Values kind values) text e = cc
of_assertion named (asserts.HasValue kind property) text e = cc
of_assertion named (asserts.UsuallyValue property kind value) text e = cc
of_assertion named (asserts.ValueOf property object value) text e = cc
of_assertion named (asserts.Are being) text e = none_of_subject named being.subjects text e
of_assertion named (asserts.Rule rule) text e = cc
of_assertion named (asserts.SceneChange change) text e = cc
of_assertion named (asserts.Understand understanding) text e = cc
of_assertion named (asserts.Listing listing) text e = cc
of_assertion named (asserts.Action declaration) text e = cc

-- ---- what a statement describes

one_or_rest : (v : Bool) (one : Description) (rest : Option Description) (text : List ℕ) → option_map (λ d. d.text) (if v then Some one else rest) ≡ Some text
    → (Some one.text ≡ Some text) ⊎ (option_map (λ d. d.text) rest ≡ Some text)
one_or_rest true one rest text e = inl e
one_or_rest false one rest text e = inr e

alone_or_rest : (v : Bool) (one : Description) (rest : List Description) (o : ℕ) (text : List ℕ) → description_of ((if v then one ∷ [] else []) ++ rest) o ≡ Some text
    → (Some one.text ≡ Some text) ⊎ (description_of rest o ≡ Some text)
alone_or_rest true one rest o text e = one_or_rest (one.object == o) one (find (λ d. d.object == o) rest) text e
alone_or_rest false one rest o text e = inr e

told_or_rest : (parents : List (Option ℕ)) (knowns : List Known) (before : Option ℕ) (said : Numbered) (line : ℕ) (rest : List Description) (o : ℕ) (text : List ℕ)
    → description_of (told_in parents knowns before said line ++ rest) o ≡ Some text → (text_in said ≡ Some text) ⊎ (description_of rest o ≡ Some text)
told_or_rest parents knowns before numbered.Aside line rest o text e = inr e
told_or_rest parents knowns None (numbered.Description t) line rest o text e = inr e
told_or_rest parents knowns (Some room) (numbered.Description t) line rest o text e =
    alone_or_rest (is_room parents knowns room) (record { object = room; text = t; line = line }) rest o text e
told_or_rest parents knowns before (numbered.Describes object t) line rest o text e =
    alone_or_rest true (record { object = object; text = t; line = line }) rest o text e
told_or_rest parents knowns before (numbered.Being object) line rest o text e = inr e
told_or_rest parents knowns before (numbered.Way way) line rest o text e = inr e
told_or_rest parents knowns before (numbered.Door door) line rest o text e = inr e

-- ---- the sentences

behind : (sentence : Sentence) (sentences : List Sentence) (text : List ℕ) → IsWritten sentences text → IsWritten (sentence ∷ sentences) text
behind sentence sentences text is = record {
  before = sentence ∷ is.before;
  sentence = is.sentence;
  rest = is.rest;
  parts = ap (λ t. sentence ∷ t) is.parts;
  describes = is.describes;
}

in_sentences : (parents : List (Option ℕ)) (knowns : List Known) (named : Named) (sentences : List Sentence) (before : Option ℕ) (o : ℕ) (text : List ℕ)
    → description_of (described_after parents knowns before (map (statement_in named) sentences)) o ≡ Some text → IsWritten sentences text
in_sentences parents knowns named [] before o text e = cc
in_sentences parents knowns named (sentence ∷ sentences) before o text e =
    ⊎_elim
    (λ here. record { before = []; sentence = sentence; rest = sentences; parts = refl; describes = of_assertion named sentence.said text here })
    (λ later. behind sentence sentences text (in_sentences parents knowns named sentences (subject_of (numbered_in named sentence.said)) o text later))
    (told_or_rest parents knowns before (numbered_in named sentence.said) sentence.line (described_after parents knowns (subject_of (numbered_in named sentence.said)) (map (statement_in named) sentences)) o text e)

-- ---- the objects

object_described : (m : Made) (entries : List Entry) (from o : ℕ) (text : List ℕ) → description_in (slice_get (objects_of m from entries) o) ≡ Some text
    → (n : ℕ) × (description_of m.descriptions n ≡ Some text)
unfolding object_as
object_described m [] from o text e = cc
object_described m (entry ∷ entries) from zero text e = (from, e)
object_described m (entry ∷ entries) from (suc o) text e = object_described m entries (from + 1) o text e

tale_described : (m : Made) (declared : Declared) (entries : List Entry) (actions : List Needs) (refusal : Option Fault) (tale : Tale) (o : ℕ) (text : List ℕ)
    → with_actions actions (or_refused refusal (record { declared = declared; objects = objects_of m 0 entries })) ≡ Ok tale → told_description tale o ≡ Some text
    → (n : ℕ) × (description_of m.descriptions n ≡ Some text)
tale_described m declared entries actions None tale o text means described =
    let same : told_with actions (record { declared = declared; objects = objects_of m 0 entries }) ≡ tale = cc in
    object_described m entries 0 o text (ap (λ t. told_description t o) same ∙ described)
tale_described m declared entries actions (Some fault) tale o text means described = cc

pub written : DescriptionsAreWritten
written sentences tale o text means described =
    let claims = claims_of sentences in
    let scope = scope_with (kind_names claims) (parents_of (kind_names claims) claims) claims (named_by sentences).keys in
    let found = tale_described _ _ _ (actions_said sentences) _ tale o text means described in
    in_sentences scope.parents (knowns_of scope claims) (named_by sentences) sentences None found.0 text found.1
