-- The objects of a tale have the names by which rules and texts number them.
use Rattle.std.proofs.Common.{◌≡◌, ◌∙◌, refl, sym, ap, ℕ, ◌+◌, Bool, true, false, List, [], ◌∷◌, ◌++◌, map, append_assoc, append-nil, if◌then◌else◌}
use Rattle.std.specs.Prelude.{Ok, codes, fold}
use Rattle.std.proofs.lemmas.List.{map-append}
use Rattle.world_meaning.specs.Directions.{all_directions, direction_name}
use Rattle.world_meaning.specs.declared.direction.Direction.{Direction}
use Rattle.world_meaning.specs.declared.direction.Direction.TheVariants.{North, Northeast, Northwest, South, Southeast, Southwest, East, West, Up, Down, Inside, Outside}
use Rattle.world_meaning.specs.declared.tale.Object.{Object}
use Rattle.world_meaning.specs.declared.tale.Tale.{Tale}
use Rattle.i7_claims.specs.Claims.{claims_of}
use Rattle.i7_claims.specs.Statements.{NameAt, Named, built_in_keys, has_key, key_of, named_by, names_at, stated_by, with_name, with_names_of}
use Rattle.i7_kinds.specs.Actions.{actions_said}
use Rattle.i7_kinds.specs.KindClaims.{declared_by}
use Rattle.i7_kinds.specs.Knowns.{knowns_of}
use Rattle.i7_kinds.specs.Tales.{Made, author_entry, direction_entry, entries_of, made_of, object_as, objects_of, or_refused, refusal_of, scope_of, tale_said}
use Rattle.i7_kinds.specs.declared.entries.Entry.{Entry}
use Rattle.i7_sentences.specs.declared.sentence.Sentence.{Sentence}
use Rattle.story_file.proofs.Acted.{acted}
use Rattle.story_file.proofs.Held.{meant_none}

abbrev object_key : Object → List ℕ
object_key object = key_of object.name

abbrev entry_key : Entry → List ℕ
entry_key entry = key_of entry.name

abbrev mention_key : NameAt → List ℕ
mention_key at = key_of at.name.text

-- ---- from the mentions to the objects

objects_keyed : (m : Made) (o : ℕ) (entries : List Entry) → map object_key (objects_of m o entries) ≡ map entry_key entries
unfolding object_as
objects_keyed m o [] = refl
objects_keyed m o (entry ∷ entries) = ap (λ keys. key_of entry.name ∷ keys) (objects_keyed m (o + 1) entries)

authors_keyed : (mentions : List NameAt) → map entry_key (map author_entry mentions) ≡ map mention_key mentions
authors_keyed [] = refl
authors_keyed (at ∷ mentions) = ap (λ keys. key_of at.name.text ∷ keys) (authors_keyed mentions)

-- a direction's name is its key
direction_keyed : (d : Direction) → key_of (direction_name d) ≡ direction_name d
unfolding direction_name
direction_keyed North = refl
direction_keyed Northeast = refl
direction_keyed Northwest = refl
direction_keyed South = refl
direction_keyed Southeast = refl
direction_keyed Southwest = refl
direction_keyed East = refl
direction_keyed West = refl
direction_keyed Up = refl
direction_keyed Down = refl
direction_keyed Inside = refl
direction_keyed Outside = refl

directions_keyed : (ds : List Direction) → map entry_key (map direction_entry ds) ≡ map direction_name ds
directions_keyed [] = refl
directions_keyed (d ∷ ds) = λ i. direction_keyed d i ∷ directions_keyed ds i

entries_keyed : (mentions : List NameAt) → map entry_key (entries_of mentions) ≡ built_in_keys ++ map mention_key mentions
unfolding entries_of
entries_keyed mentions =
    ap (λ keys. codes "yourself" ∷ keys) (map-append entry_key (map direction_entry all_directions) (map author_entry mentions)
    ∙ ap (λ keys. keys ++ map entry_key (map author_entry mentions)) (directions_keyed all_directions) ∙ ap (λ keys. map direction_name all_directions ++ keys) (authors_keyed mentions))

-- ---- the keys are those of the mentions, behind the built-in ones

abbrev AreKeyed : Named → Type 0
AreKeyed named = named.keys ≡ built_in_keys ++ map mention_key named.mentions

one_keyed : (named : Named) (at : NameAt) → AreKeyed named → AreKeyed (with_name named at)
one_keyed named at keyed = by (has_key named.keys (mention_key at))
  where
    more : named.keys ++ mention_key at ∷ [] ≡ built_in_keys ++ map mention_key (named.mentions ++ at ∷ [])
    more =
        ap (λ keys. keys ++ mention_key at ∷ []) keyed ∙ append_assoc built_in_keys (map mention_key named.mentions) (mention_key at ∷ [])
        ∙ ap (λ keys. built_in_keys ++ keys) (sym (map-append mention_key named.mentions (at ∷ [])))

    by : (b : Bool) → AreKeyed (if b then named else record { keys = named.keys ++ mention_key at ∷ []; mentions = named.mentions ++ at ∷ [] })
    by true = keyed
    by false = more

names_keyed : (named : Named) (names : List NameAt) → AreKeyed named → AreKeyed (fold with_name named names)
names_keyed named [] keyed = keyed
names_keyed named (at ∷ names) keyed = names_keyed (with_name named at) names (one_keyed named at keyed)

sentences_keyed : (named : Named) (sentences : List Sentence) → AreKeyed named → AreKeyed (fold with_names_of named sentences)
sentences_keyed named [] keyed = keyed
sentences_keyed named (sentence ∷ sentences) keyed = sentences_keyed (with_names_of named sentence) sentences (names_keyed named (names_at sentence) keyed)

pub objects_by_name : (sentences : List Sentence) (tale : Tale) → tale_said sentences ≡ Ok tale → map object_key tale.objects ≡ (named_by sentences).keys
objects_by_name sentences tale meant =
    let claims = claims_of sentences in
    let named = named_by sentences in
    let s = scope_of claims named.keys in
    let knowns = knowns_of s claims in
    let statements = stated_by sentences in
    let made = made_of s knowns claims statements in
    let whole : Tale = record { declared = declared_by claims; objects = objects_of made 0 (entries_of named.mentions) } in
    let told = acted (actions_said sentences) (or_refused (refusal_of s knowns claims statements named.mentions) whole) tale meant in
    let is = meant_none (refusal_of s knowns claims statements named.mentions) whole told.before told.said_is in
    let keyed = sentences_keyed (record { keys = built_in_keys; mentions = [] }) sentences (sym (append-nil built_in_keys)) in
    ap (λ (t : Tale). map object_key t.objects) (sym told.tale_is) ∙ ap (λ (t : Tale). map object_key t.objects) (sym is.1)
    ∙ objects_keyed made 0 (entries_of named.mentions) ∙ entries_keyed named.mentions ∙ sym keyed
