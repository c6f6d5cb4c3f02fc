-- A story file holds the tale that sentences mean.
use Rattle.std.proofs.Common.{◌≡◌, ℕ, ◌+◌, ◌-◌, ◌<◌, ◌≤◌, Bool, true, false, not, ◌&&◌, ltb, leb, eqb, List, [], ◌∷◌, ◌++◌, length, map, Option, Some, None, Ok, refl, sym, ap, subst, ◌∙◌, arith, inl, inr}
use Rattle.std.specs.Prelude.{find, is_none, slice_get}
use Rattle.std.specs.List.{list_all}
use Rattle.std.specs.Option.{option_map}
use Rattle.std.proofs.lemmas.Bool.{ltb-false, lt-ltb, le-leb, ne_eqb, cases_Bool, and_from, and_parts, or_parts, not-true}
use Rattle.std.proofs.lemmas.List.{length-map}
use Rattle.std.proofs.lemmas.Option.{slice_get_past}
use Rattle.world_meaning.specs.Chains.{IsTree}
use Rattle.world_meaning.specs.Declarations.{is_below as is_kind_below, is_rooted, is_well_declared}
use Rattle.world_meaning.specs.Directions.{all_directions, direction_name, short_word}
use Rattle.world_meaning.specs.Placing.{Kinds, can_be_held, can_hold, keeps_player}
use Rattle.world_meaning.specs.Sight.{is_in}
use Rattle.world_meaning.specs.Sorts.{is_at, kinds_told, sorts_of, under_each}
use Rattle.world_meaning.specs.Standing.{are_well_placed, place_at}
use Rattle.world_meaning.specs.WellMade.{IsWellMade, begin_rightly, has_right_exits, kinds_of as kinds_in, places_of as places_in, stands_in_room}
use Rattle.world_meaning.specs.declared.declared.Declared.{Declared}
use Rattle.world_meaning.specs.declared.fault.Fault.{Fault}
use Rattle.world_meaning.specs.declared.place.Place.{Place}
use Rattle.world_meaning.specs.declared.tale.Tale.{Tale}
use Rattle.i7_sentences.specs.declared.sentence.Sentence.{Sentence}
use Rattle.command_grammar.specs.Synonyms.{words_said}
use Rattle.object_words.specs.Words.{more_words, words_for}
use Rattle.i7_claims.specs.Claims.{claims_of}
use Rattle.i7_kinds.specs.Demands.{descriptions_of, description_of, line_at, line_of_description, wrong_kind}
use Rattle.i7_kinds.specs.KindClaims.{declared_by, givens_by, is_recurring_by, kind_cycle, kind_names, kind_too_many, parents_of, scenes_of, starts_of}
use Rattle.i7_kinds.specs.Knowns.{kinds_known, kinds_of, known_at, knowns_of, off_path}
use Rattle.i7_kinds.specs.Places.{Places, holder_cycle, places_by, put}
use Rattle.i7_claims.specs.Scans.{earlier}
use Rattle.i7_claims.specs.Sorts.{built_in_either_ors, list_too_long, name_too_many, names_as, too_many_as}
use Rattle.i7_claims.specs.Statements.{NameAt, named_by, stated_by}
use Rattle.i7_kinds.specs.Suits.{first_room, unsuited, with_player}
use Rattle.i7_kinds.specs.ValueKinds.{AreFewValues}
use Rattle.i7_kinds.specs.Values.{Values, values_by}
use Rattle.i7_kinds.specs.declared.values.Bearer.TheVariants as bearer
use Rattle.i7_kinds.specs.LongNames.{longer_name}
use Rattle.i7_kinds.specs.Actions.{actions_said}
use Rattle.i7_kinds.specs.Tales.{Made, author_entry, entries_of, faults_of, has_long_name, has_long_text, is_too_long, long_in, long_of, long_said, made_of, name_too_long, no_room, object_as, object_of, objects_of, or_refused, refusal_of, scope_of, tale_said, text_too_long}
use Rattle.i7_claims.specs.declared.claim.Claim.{Claim}
use Rattle.i7_kinds.specs.declared.descriptions.Description.{Description as Described}
use Rattle.i7_kinds.specs.declared.entries.Entry.{Entry}
use Rattle.i7_kinds.specs.declared.knowns.Known.{Known}
use Rattle.i7_claims.specs.declared.sorts.Sort.TheVariants as sort
use Rattle.i7_claims.specs.declared.statements.NumberedSentence.{NumberedSentence}
use Rattle.i7_kinds.proofs.Bounds.{NoFaults, counted-source, earlier_none, frame_parts, unmapped}
use Rattle.i7_kinds.proofs.DescriptionsSaid.{entries_counted}
use Rattle.i7_kinds.proofs.Fines.{AreFine, base, kind_few, knowns_counted}
use Rattle.i7_kinds.proofs.Granting.{either_ors_behind}
use Rattle.i7_kinds.proofs.KindScans.{either_ors_few, names_few, numbers_few, parents_few, value_kinds_few, variables_few}
use Rattle.i7_kinds.proofs.ObjectsNamed.{kind_known}
use Rattle.i7_kinds.proofs.Valueless.{HaveValues, kinds_few, kinds_have}
use Rattle.i7_kinds.proofs.Placed.{AreSuited, IsSuited, places_counted, places_suited, places_tree, put_length}
use Rattle.i7_claims.proofs.Ranged.{AreRanged, AreRangedSentences, source_ranged}
use Rattle.i7_kinds.proofs.Ranged.{AreRangedValues, said_ranged, starts_in_range}
use Rattle.i7_kinds.proofs.Readiness.{fine_of}
use Rattle.i7_kinds.proofs.Rooted.{authors_behind, authors_rooted}
use Rattle.story_file.proofs.Acted.{IsKept, acted, kept_with}
use Rattle.story_file.proofs.MadeDeclarations.{Behind, behind_of, declared_held, declared_is, declared_with, flags_with, kinds_many, kinds_with, numbers_with, starts_counted, suited_held, values_with}
use Rattle.story_file.proofs.MadeObjects.{all_lead, all_placed, begins_held, kinds_counted, kinds_held, objects_kinds, objects_places, same_kinds, told}
use Rattle.story_file.proofs.MadePlaces.{all_suited, all_whole, direction_is, direction_nowhere, place_in_room, player_person, tree_with_player}
use Rattle.story_format.specs.Holding.{has_few_words, has_short_texts, is_short, is_short_or_none}
use Rattle.story_format.specs.Making.{worded, worded_from}
use Rattle.story_file.proofs.LeadRooms.{lead_to_rooms}

-- ---- names and texts are short

none_found : {A : Type 0} (p : A → Bool) (xs : List A) → find p xs ≡ None → list_all (λ x. not (p x)) xs ≡ true
none_found p [] h = refl
none_found p (x ∷ xs) h =
    elim (cases_Bool (p x)) [
      | inl is ↦ let z : Some x ≡ None = rw is at h in absurd cc
      | inr isnt ↦ let later : find p xs ≡ None = rw isnt at h in and_from (not (p x)) (list_all (λ x. not (p x)) xs) (ap not isnt) (none_found p xs later)
    ]

found_passes : {A : Type 0} (p q : A → Bool) (xs : List A) (x : A) → list_all q xs ≡ true → find p xs ≡ Some x → q x ≡ true
found_passes p q [] x h e = absurd cc
found_passes p q (y ∷ ys) x h e =
    let t = and_parts (q y) (list_all q ys) h in
    elim (cases_Bool (p y)) [
      | inl is ↦ let same : Some y ≡ Some x = rw is at e in let this : y ≡ x = cc in subst (λ z. q z ≡ true) this t.0
      | inr isnt ↦ let later : find p ys ≡ Some x = rw isnt at e in found_passes p q ys x t.1 later
    ]

short_if : (text : List ℕ) → ltb 65535 (length text) ≡ false → is_short text ≡ true
short_if text h = lt-ltb _ _ (omega (arith, ltb-false _ _ h))

text_short : (p : Described → Bool) (ds : List Described) (found : Option Described) → list_all (λ d. not (has_long_text d)) ds ≡ true → find p ds ≡ found → is_short_or_none (option_map (λ d. d.text) found) ≡ true
text_short p ds None h e = refl
text_short p ds (Some d) h e = short_if d.text (not-true (has_long_text d) (found_passes p (λ d. not (has_long_text d)) ds d h e))

description_short : (ds : List Described) (o : ℕ) → list_all (λ d. not (has_long_text d)) ds ≡ true → is_short_or_none (description_of ds o) ≡ true
description_short ds o h = text_short (λ d. eqb d.object o) ds (find (λ d. eqb d.object o) ds) h refl

abbrev has_short_name : NameAt → Bool
has_short_name at = not (has_long_name at)

name_short : (name : List ℕ) → is_too_long name ≡ false → is_short name ≡ true
name_short name h = short_if name (or_parts (ltb 65535 (length name)) (ltb 32 (length (words_for 13 name))) h).0

abbrev has_short_entry : Entry → Bool
has_short_entry entry = is_short entry.name

authors_short : (mentions : List NameAt) → list_all has_short_name mentions ≡ true → list_all has_short_entry (map author_entry mentions) ≡ true
authors_short [] h = refl
authors_short (at ∷ mentions) h =
    let t = and_parts (has_short_name at) (list_all has_short_name mentions) h in
    and_from (is_short at.name.text) (list_all has_short_entry (map author_entry mentions)) (name_short at.name.text (not-true (has_long_name at) t.0)) (authors_short mentions t.1)

entries_short : (mentions : List NameAt) → list_all has_short_name mentions ≡ true → list_all has_short_entry (entries_of mentions) ≡ true
unfolding entries_of direction_name
entries_short mentions h = authors_short mentions h

objects_short : (m : Made) (o : ℕ) (entries : List Entry) → list_all has_short_entry entries ≡ true → list_all (λ d. not (has_long_text d)) m.descriptions ≡ true → list_all has_short_texts (objects_of m o entries) ≡ true
unfolding object_as
objects_short m o [] h k = refl
objects_short m o (entry ∷ entries) h k =
    let t = and_parts (has_short_entry entry) (list_all has_short_entry entries) h in
    and_from (has_short_texts (object_of m o entry)) (list_all has_short_texts (objects_of m (o + 1) entries)) (and_from (is_short entry.name) (is_short_or_none (description_of m.descriptions o)) t.0 (description_short m.descriptions o k)) (objects_short m (o + 1) entries t.1 k)

texts_held : (m : Made) (mentions : List NameAt) → list_all has_short_name mentions ≡ true → list_all (λ d. not (has_long_text d)) m.descriptions ≡ true → list_all has_short_texts (objects_of m 0 (entries_of mentions)) ≡ true
texts_held m mentions h k = objects_short m 0 (entries_of mentions) (entries_short mentions h) k

-- ---- words are few

-- a room has no words but its name's
no_more : (o : ℕ) → 13 ≤ o → more_words o ≡ more_words 13
unfolding more_words
no_more o le =
    let isnt : eqb o 0 ≡ false = ne_eqb o 0 (λ k. omega (arith, k, le)) in
    let past : slice_get all_directions (o - 1) ≡ None = slice_get_past all_directions (o - 1) (omega (arith, le)) in
    rw (isnt, past) refl

same_words : (o : ℕ) (name : List ℕ) → 13 ≤ o → words_for o name ≡ words_for 13 name
unfolding words_for
same_words o name le = rw (no_more o le) refl

few_if : (n : ℕ) → ltb 32 n ≡ false → leb n 32 ≡ true
few_if n h = le-leb _ _ (ltb-false _ _ h)

authors_few : (m : Made) (o : ℕ) (mentions : List NameAt) → 13 ≤ o → list_all has_short_name mentions ≡ true → list_all has_few_words (worded_from [] o (objects_of m o (map author_entry mentions))) ≡ true
unfolding object_as words_said
authors_few m o [] le h = refl
authors_few m o (at ∷ mentions) le h =
    let t = and_parts (has_short_name at) (list_all has_short_name mentions) h in
    let few : leb (length (words_for 13 at.name.text)) 32 ≡ true = few_if (length (words_for 13 at.name.text)) (or_parts (ltb 65535 (length at.name.text)) (ltb 32 (length (words_for 13 at.name.text))) (not-true (has_long_name at) t.0)).1 in
    and_from (leb (length (words_for o at.name.text)) 32) (list_all has_few_words (worded_from [] (o + 1) (objects_of m (o + 1) (map author_entry mentions)))) (ap (λ (ws : List (List ℕ)). leb (length ws) 32) (same_words o at.name.text le) ∙ few)
    (authors_few m (o + 1) mentions (omega (arith, le)) t.1)

words_held : (m : Made) (mentions : List NameAt) → list_all has_short_name mentions ≡ true → list_all has_few_words (worded [] (objects_of m 0 (entries_of mentions))) ≡ true
unfolding entries_of object_as words_for words_said more_words direction_name short_word
words_held m mentions h = authors_few m 13 mentions (omega arith) h

-- ---- all of it

pub meant_none : (refusal : Option Fault) (t tale : Tale) → or_refused refusal t ≡ Ok tale → (refusal ≡ None) × (t ≡ tale)
meant_none None t tale h = (refl, cc)
meant_none (Some fault) t tale h = absurd cc

limit_parts : (claims : List Claim) (descriptions : List Described) (mentions : List NameAt) → long_in claims descriptions mentions ≡ None → (list_all has_short_name mentions ≡ true) × (list_all (λ d. not (has_long_text d)) descriptions ≡ true)
unfolding long_in
limit_parts claims descriptions mentions none =
    let others = earlier (text_too_long descriptions) (longer_name 65535 claims) in
    let names = earlier_none (name_too_long mentions) others none in
    let texts = earlier_none (text_too_long descriptions) (longer_name 65535 claims) names.1 in
    (none_found has_long_name mentions (unmapped line_at (find has_long_name mentions) names.0), none_found has_long_text descriptions (unmapped line_of_description (find has_long_text descriptions) texts.0))

sorts_fine : (claims : List Claim) → name_too_many claims ≡ None → (too_many_as sort.EitherOr claims ≡ None) × (too_many_as sort.Number claims ≡ None) × (too_many_as sort.Variable claims ≡ None)
sorts_fine claims none =
    let a = earlier_none (too_many_as sort.EitherOr claims) _ none in
    let b = earlier_none (too_many_as sort.Number claims) _ a.1 in
    (a.0, b.0, (earlier_none (too_many_as sort.Variable claims) _ b.1).0)

pub few_by : (claims : List Claim) → name_too_many claims ≡ None → (length (names_as sort.Rulebook claims) ≤ 100) × (length (names_as sort.Scene claims) ≤ 50)
few_by claims none =
    let a = earlier_none (too_many_as sort.EitherOr claims) _ none in
    let b = earlier_none (too_many_as sort.Number claims) _ a.1 in
    let c = earlier_none (too_many_as sort.Variable claims) _ b.1 in
    let d = earlier_none (too_many_as sort.Rulebook claims) _ c.1 in
    let e = earlier_none (too_many_as sort.Scene claims) _ d.1 in
    (names_few sort.Rulebook claims [] (omega arith) d.0, names_few sort.Scene claims [] (omega arith) e.0)

-- nor kinds of value, nor values of one
few_kinds_of_value : (claims : List Claim) → name_too_many claims ≡ None → (length (names_as sort.ValueKind claims) ≤ 100) × (list_too_long claims ≡ None)
few_kinds_of_value claims none =
    let a = earlier_none (too_many_as sort.EitherOr claims) _ none in
    let b = earlier_none (too_many_as sort.Number claims) _ a.1 in
    let c = earlier_none (too_many_as sort.Variable claims) _ b.1 in
    let d = earlier_none (too_many_as sort.Rulebook claims) _ c.1 in
    let e = earlier_none (too_many_as sort.Scene claims) _ d.1 in
    let f = earlier_none (too_many_as sort.ValueKind claims) (list_too_long claims) e.1 in
    (value_kinds_few claims f.0, f.1)

-- what is known of a source without a refusal, its objects' places without the player's
record Whole (parents : List (Option ℕ)) (knowns : List Known) (places : Places) (room : ℕ) (statements : List NumberedSentence) (count : ℕ) : Type 0 where
  fine : AreFine parents (length parents) knowns
  counted : length knowns ≡ 13 + count
  many : length places ≡ 13 + count
  few : 13 + count ≤ 1000
  suited : AreSuited (kinds_known parents knowns) places
  tree : IsTree (place_at places)
  first : first_room parents knowns ≡ Some room
  ways : wrong_kind parents knowns statements ≡ None

abbrev made_with : Declared → List (Option ℕ) → List Known → Places → Values → Values → List Described → List NumberedSentence → Made
made_with declared parents knowns places values usuals descriptions statements = record { parents = parents; kinds = kinds_of knowns; places = places; flags = declared.flags; numbers = declared.numbers; value_kinds = declared.values; values = values; usuals = usuals; descriptions = descriptions; statements = statements }

stands : (kinds : Kinds) (rooms : List Bool) (place : Option Place) → ((o : ℕ) → kinds.is_room o ≡ is_at rooms o) → IsSuited kinds 0 place → is_none place ≡ false → stands_in_room rooms place ≡ true
stands kinds rooms None told h k = absurd cc
stands kinds rooms (Some place) told h k =
    let t = and_parts (can_be_held kinds 0 && can_hold kinds place.relation place.holder) (keeps_player kinds 0 place) h in
    let u = and_parts (is_in place.relation) (kinds.is_room place.holder) t.1 in
    and_from (is_in place.relation) (is_at rooms place.holder) u.0 (sym (told place.holder) ∙ u.1)

put_there : (places : Places) (place : Place) → 1 ≤ length places → is_none (place_at (put places 0 place) 0) ≡ false
put_there [] place le = absurd (omega (arith, le))
put_there (None ∷ places) place le = refl
put_there (Some p ∷ places) place le = refl

-- with what is declared behind the built-in kinds and properties
objects_made : (b : Behind) (knowns : List Known) (places : Places) (room : ℕ) (values usuals : Values) (descriptions : List Described) (statements : List NumberedSentence) (mentions : List NameAt) → is_well_declared (declared_with b) ≡ true → HaveValues (values_with b) → AreRangedValues values → AreRangedValues usuals → Whole (kinds_with b) knowns places room statements (length mentions)
    → IsWellMade (record { declared = declared_with b; objects = objects_of (made_with (declared_with b) (kinds_with b) knowns (put places 0 (place_in_room room)) values usuals descriptions statements) 0 (entries_of mentions) })
unfolding sorts_of
objects_made b knowns places room values usuals descriptions statements mentions declared some_values ranged usually w =
    let S = kinds_with b in
    let placed = put places 0 (place_in_room room) in
    let m = made_with (declared_with b) S knowns placed values usuals descriptions statements in
    let entries = entries_of mentions in
    let n = length S in
    let whole = all_whole S n knowns w.fine in
    let kinds_same : kinds_in (objects_of m 0 entries) ≡ kinds_of knowns = objects_kinds m entries (omega (arith, kinds_counted knowns, w.counted, entries_counted mentions)) in
    let places_same : places_in (objects_of m 0 entries) ≡ placed = objects_places m entries (omega (arith, put_length places 0 (place_in_room room), w.many, entries_counted mentions)) in
    let suited = all_suited b.kinds n knowns (length mentions) w.counted w.fine places w.suited room w.first in
    let player = stands (kinds_known S knowns) (under_each S (kinds_of knowns) 1) (place_at placed 0) (λ o. sym (told S knowns 1 o)) (suited 0) (put_there places (place_in_room room) (omega (arith, w.many))) in
    let begins = begins_held m (under_each S (kinds_of knowns) 1) mentions w.few (player_person b.kinds n knowns (length mentions) w.counted w.fine) player
    (λ o le ge. (direction_is b.kinds n knowns (length mentions) w.counted w.fine o le ge, direction_nowhere b.kinds n knowns (length mentions) w.counted w.fine places w.suited room w.first o le ge)) in
    let below = kinds_held n (kinds_of knowns) (λ o. subst (λ (k : ℕ). k < n) (sym (kind_known knowns o)) (kind_few S n (base o) (known_at knowns o).demanded (known_at knowns o).holds (kinds_many b) (w.fine o))) in
    let where_allowed = subst (λ (kinds : Kinds). are_well_placed kinds 0 placed ≡ true) (same_kinds S knowns) (all_placed (kinds_known S knowns) placed suited) in
    record {
      declared = declared;
      begins = subst (λ (ks : List ℕ). begin_rightly S (sorts_of S ks).rooms (objects_of m 0 entries) ≡ true) (sym kinds_same) begins;
      kinds = subst (λ (ks : List ℕ). list_all (is_kind_below n) ks ≡ true) (sym kinds_same) below;
      suited = suited_held b m 0 entries (record { parents = refl; flags = refl; numbers = refl; value_kinds = refl; some_values = some_values; values = ranged; usuals = usually });
      placed = subst (λ (ks : List ℕ). are_well_placed (kinds_told (sorts_of S ks)) 0 (places_in (objects_of m 0 entries)) ≡ true) (sym kinds_same) (subst (λ (ps : Places). are_well_placed (kinds_told (sorts_of S (kinds_of knowns))) 0 ps ≡ true) (sym places_same) where_allowed);
      tree = subst (λ (ps : Places). IsTree (place_at ps)) (sym places_same) (tree_with_player b.kinds n knowns (length mentions) w.counted w.fine places w.suited room w.first (omega (arith, w.many)) w.tree);
      exits = subst (λ (ks : List ℕ). list_all (has_right_exits S (sorts_of S ks)) (objects_of m 0 entries) ≡ true) (sym kinds_same) (all_lead m (sorts_of S (kinds_of knowns)) 0 entries (lead_to_rooms S knowns whole statements w.ways));
    }

some_room : (found : Option ℕ) → no_room found ≡ None → (room : ℕ) × (found ≡ Some room)
some_room None h = absurd cc
some_room (Some room) h = (room, refl)

whole_of : (claims : List Claim) (keys : List (List ℕ)) (statements : List NumberedSentence) (mentions : List NameAt) (room : ℕ) → length keys ≡ 13 + length mentions
    → NoFaults (faults_of (scope_of claims keys) (knowns_of (scope_of claims keys) claims) claims statements) mentions (first_room (parents_of (kind_names claims) claims) (knowns_of (scope_of claims keys) claims))
    → first_room (parents_of (kind_names claims) claims) (knowns_of (scope_of claims keys) claims) ≡ Some room
    → Whole (parents_of (kind_names claims) claims) (knowns_of (scope_of claims keys) claims) (places_by keys claims) room statements (length mentions)
whole_of claims keys statements mentions room counted none first =
    let s = scope_of claims keys in
    let knowns = knowns_of s claims in
    let off = earlier_none (off_path s claims) (earlier (unsuited s knowns claims) (wrong_kind s.parents knowns statements)) none.wrong in
    let wrong = earlier_none (unsuited s knowns claims) (wrong_kind s.parents knowns statements) off.1 in
    let cycles = earlier_none (kind_cycle (kind_names claims) claims) (holder_cycle keys claims) none.cycle in
    let fine = fine_of claims keys none.unknown off.0 in
    record {
      fine = fine;
      counted = knowns_counted s claims (length mentions) counted;
      many = places_counted keys claims None ∙ counted;
      few = none.few;
      suited = places_suited s knowns (all_whole s.parents (length s.parents) knowns fine) claims wrong.0;
      tree = places_tree keys claims cycles.1;
      first = first;
      ways = wrong.1;
    }

abbrev tale_with : Declared → List (Option ℕ) → List Known → Places → Values → Values → List Described → List NumberedSentence → List NameAt → Tale
tale_with declared parents knowns places values usuals descriptions statements mentions = record { declared = declared; objects = objects_of (made_with declared parents knowns places values usuals descriptions statements) 0 (entries_of mentions) }

objects_held : (claims : List Claim) (keys : List (List ℕ)) (statements : List NumberedSentence) (mentions : List NameAt) → length keys ≡ 13 + length mentions → AreRanged claims
    → refusal_of (scope_of claims keys) (knowns_of (scope_of claims keys) claims) claims statements mentions ≡ None → long_of (scope_of claims keys) claims statements mentions ≡ None
    → IsKept (record { declared = declared_by claims; objects = objects_of (made_of (scope_of claims keys) (knowns_of (scope_of claims keys) claims) claims statements) 0 (entries_of mentions) })
objects_held claims keys statements mentions counted ranged none short =
    let s = scope_of claims keys in
    let knowns = knowns_of s claims in
    let descriptions = descriptions_of s.parents knowns statements in
    let faults = faults_of s knowns claims statements in
    let found = first_room s.parents knowns in
    let fine = frame_parts faults mentions found none in
    let room = some_room found fine.roomy in
    let w = whole_of claims keys statements mentions room.0 counted fine room.1 in
    let many = earlier_none (kind_too_many claims) (name_too_many claims) fine.too_many in
    let cycles = earlier_none (kind_cycle (kind_names claims) claims) (holder_cycle keys claims) fine.cycle in
    let limits = limit_parts claims descriptions mentions short in
    let sorts = sorts_fine claims many.1 in
    let behind = behind_of claims in
    let kinds = authors_behind claims in
    let few : length (kinds_with behind) ≤ 100 = subst (λ (p : List (Option ℕ)). length p ≤ 100) kinds (parents_few claims many.0) in
    let few_properties : length (built_in_either_ors ++ behind.properties) ≤ 100 = subst (λ (p : List (List ℕ)). length p ≤ 100) (either_ors_behind claims).1 (either_ors_few claims sorts.0) in
    let roots : list_all (is_rooted (kinds_with behind)) behind.kinds ≡ true = subst (λ (p : List (Option ℕ)). list_all (is_rooted p) behind.kinds ≡ true) kinds (authors_rooted claims fine.unknown cycles.0) in
    let few_starts : length (starts_of claims (names_as sort.Variable claims)) ≤ 100 = omega (arith, variables_few claims sorts.2, starts_counted claims (names_as sort.Variable claims)) in
    let others = few_by claims many.1 in
    let few_scenes : length (scenes_of claims (names_as sort.Scene claims)) ≤ 50 = omega (arith, others.1, length-map (names_as sort.Scene claims) (is_recurring_by claims)) in
    let values_of = few_kinds_of_value claims many.1 in
    let first = length (flags_with behind) + length (numbers_with behind) in
    let few_values : AreFewValues (values_with behind) = kinds_few (kinds_with behind) (givens_by claims) first claims (names_as sort.ValueKind claims) values_of.1 in
    let some_values : HaveValues (values_with behind) = kinds_have (kinds_with behind) (givens_by claims) first claims fine.listed in
    let declared = declared_held behind few few_properties (numbers_few claims sorts.1) few_starts few_scenes others.0 (starts_in_range claims (names_as sort.Variable claims) ranged) roots
    values_of.0 few_values some_values in
    let whole = subst (λ (p : List (Option ℕ)). Whole p knowns (places_by keys claims) room.0 statements (length mentions)) kinds w in
    let placed = put (places_by keys claims) 0 (place_in_room room.0) in
    let values = values_by bearer.Objects s claims in
    let usuals = values_by bearer.Kinds s claims in
    let m = made_with (declared_with behind) (kinds_with behind) knowns placed values usuals descriptions statements in
    let held : IsKept (tale_with (declared_with behind) (kinds_with behind) knowns placed values usuals descriptions statements mentions) = record { held = record { made = objects_made behind knowns (places_by keys claims) room.0 values usuals descriptions statements mentions declared some_values (said_ranged bearer.Objects s claims ranged) (said_ranged bearer.Kinds s claims ranged) whole; texts = texts_held m mentions limits.0 limits.1 }; words = words_held m mentions limits.0 } in
    let declares : declared_with behind ≡ declared_by claims = declared_is claims in
    let where_placed : placed ≡ with_player (places_by keys claims) found = sym (ap (with_player (places_by keys claims)) room.1) in
    subst IsKept (λ i. tale_with (declares i) (sym kinds i) knowns (where_placed i) values usuals descriptions statements mentions) held

-- a story file holds the tale that sentences mean, and no object has more than 32 words by its name
pub tale_kept : (sentences : List Sentence) (tale : Tale) → AreRangedSentences sentences → tale_said sentences ≡ Ok tale → long_said sentences ≡ None → IsKept tale
tale_kept sentences tale ranged meant short =
    let claims = claims_of sentences in
    let keys = (named_by sentences).keys in
    let s = scope_of claims keys in
    let knowns = knowns_of s claims in
    let statements = stated_by sentences in
    let mentions = (named_by sentences).mentions in
    let whole : Tale = record { declared = declared_by claims; objects = objects_of (made_of s knowns claims statements) 0 (entries_of mentions) } in
    let told = acted (actions_said sentences) (or_refused (refusal_of s knowns claims statements mentions) whole) tale meant in
    let t = meant_none (refusal_of s knowns claims statements mentions) whole told.before told.said_is in
    let held = objects_held claims keys statements mentions (counted-source sentences) (source_ranged sentences ranged) t.0 short in
    subst IsKept told.tale_is (kept_with (actions_said sentences) told.before (subst IsKept t.1 held))
