-- The tables of a tale have room in their bytes.
use Rattle.std.proofs.Common.{◌≡◌, ℕ, zero, suc, ◌+◌, ◌*◌, ◌<◌, ◌≤◌, Bool, true, ◌&&◌, ltb, eqb, List, [], ◌∷◌, ◌++◌, length, map, Option, Some, None, refl, sym, ap, ◌∙◌, arith, inl, inr}
use Rattle.std.specs.List.{list_all, flat_map}
use Rattle.std.proofs.lemmas.Bool.{lt-ltb, leb-true, cases_Bool, and_from, and_parts}
use Rattle.std.proofs.lemmas.List.{length-append}
use Rattle.std.proofs.lemmas.List.Folds.{list_all-append}
use Rattle.world_meaning.specs.declared.article.Article.{Article}
use Rattle.world_meaning.specs.declared.article.Article.TheVariants as articles
use Rattle.world_meaning.specs.declared.place.Rel.{Rel}
use Rattle.world_meaning.specs.declared.place.Rel.TheVariants as relations
use Rattle.world_meaning.specs.declared.place.Place.{Place}
use Rattle.world_meaning.specs.declared.exits.Exits.{Exits}
use Rattle.world_meaning.specs.declared.exits.Way.{Way}
use Rattle.world_meaning.specs.Declarations.{is_below, suits_kind}
use Rattle.world_meaning.specs.Kinds.{is_under}
use Rattle.world_meaning.specs.Placing.{can_be_held, can_hold}
use Rattle.world_meaning.specs.Sorts.{is_at, kinds_told, sorts_of, under_each}
use Rattle.world_meaning.specs.Standing.{are_well_placed, is_at_or_none, is_well_placed, lead_rightly, leads}
use Rattle.world_meaning.specs.WellMade.{IsWellMade, has_right_exits, kinds_of, places_of}
use Rattle.world_meaning.specs.declared.declared.Declared.{Declared}
use Rattle.world_meaning.specs.declared.tale.Object.{Object}
use Rattle.object_words.specs.Mentions.{number_in}
use Rattle.code_table.specs.Origins.{Origin}
use Rattle.command_grammar.specs.Synonyms.{words_said}
use Rattle.command_grammar.specs.declared.synonym.Synonym.{Synonym}
use Rattle.object_words.specs.Words.{words_for}
use Rattle.play_meaning.specs.Grammar.{Line}
use Rattle.play_meaning.specs.StandardActions.{standard_needs}
use Rattle.play_meaning.specs.Rules.{Rule}
use Rattle.play_meaning.specs.Scripts.{Scene}
use Rattle.object_words.proofs.StringLemmas.{length_mapped}
use Rattle.story_format.specs.Formats.{fits_optional}
use Rattle.story_format.specs.declared.rule_tables.Book.{Book}
use Rattle.story_format.specs.Layout.{entry_layout, way_layout, exits_layout, first_layout, tables_layout, version_of}
use Rattle.story_format.specs.Making.{Worded, worded, worded_from, code_bytes, code_count, described_in, numbers_of, entry_strings, strings_behind, strings_of, article_number, place_relation, place_holder, code_number, entry_of, entries_of, line_entry, line_strings, texts_named, ways_of, tables_with, values_of}
use Rattle.world_meaning.specs.Relations.{relation_number}
use Rattle.story_format.specs.Holding.{is_line_of, is_of, named_by, has_few_words, has_short_texts, is_short, is_short_or_none}
use Rattle.story_format.proofs.ActionLemmas.{sixteen}
use Rattle.story_format.proofs.StoryLemmas.{all_both, all_mapped, all_weaker, few_begin, three}
use Rattle.story_format.proofs.Known.{all_named_small, named_small}
use Rattle.story_format.proofs.MadeValues.{values_fit}
use Rattle.story_format.proofs.AboutRules.{small_names}
use Rattle.story_format.proofs.DeclaredLemmas.{all_own_fit, are_bytes, byte_if, declared_parts, few_kinds, fits_own, is_word, world_fits}
use Rattle.story_format.proofs.GrammarLemmas.{lines_fit}
use Rattle.story_format.proofs.WordFacts.{all_mentioned, is_good, words_good}
use Rattle.story_format.proofs.EntryLemmas.{objects_back, objects_in, rooms_lead}
use Rattle.story_format.proofs.RuleLemmas.{AreRightBooks, rule_tables_fit}
use Rattle.story_format.proofs.TableLemmas.{entries_counted}
use Rattle.object_words.proofs.MentionLemmas.{mentioned_few}

-- ---- how many strings there are

named_few : (ws : List Worded) → list_all has_few_words ws ≡ true → length (flat_map entry_strings ws) ≤ 33 * length ws
unfolding entry_strings
named_few [] h = omega arith
named_few (w ∷ ws) h =
    let t = and_parts (has_few_words w) (list_all has_few_words ws) h in
    let le : length w.words ≤ 32 = leb-true _ _ t.0 in
    let later = named_few ws t.1 in
    omega (arith, le, later, length-append w.words (flat_map entry_strings ws))

-- no more than are named and said
pub few_strings : (ws : List Worded) (lines : List Line) (behind : List (List ℕ)) → list_all has_few_words ws ≡ true
    → length (strings_of (texts_named ws lines) behind) ≤ 33 * length ws + (length (flat_map line_strings lines) + length behind)
unfolding strings_of texts_named
few_strings ws lines behind h =
    let all = mentioned_few (texts_named ws lines ++ behind) [] in
    omega (arith, all, named_few ws h, length-append (texts_named ws lines) behind, length-append (flat_map entry_strings ws) (flat_map line_strings lines))

-- ---- each string is short

words_short : (ws : List (List ℕ)) → list_all is_good ws ≡ true → list_all is_short ws ≡ true
words_short ws h = all_weaker is_good is_short (λ word k. (and_parts _ (is_short word) k).1) ws h

abbrev good_words : Worded → Bool
good_words w = list_all is_good w.words

-- where no object has a synonym
pub all_good_words : (o : ℕ) (objects : List Object) → list_all has_short_texts objects ≡ true → list_all good_words (worded_from [] o objects) ≡ true
unfolding words_said
all_good_words o [] h = refl
all_good_words o (object ∷ objects) h =
    let t = and_parts (has_short_texts object) (list_all has_short_texts objects) h in
    let u = and_parts (is_short object.name) (is_short_or_none object.description) t.0 in
    and_from (list_all is_good (words_for o object.name)) (list_all good_words (worded_from [] (o + 1) objects)) (words_good o object.name u.0) (all_good_words (o + 1) objects t.1)

names_short : (ws : List Worded) → list_all has_short_texts (objects_in ws) ≡ true → list_all good_words ws ≡ true → list_all is_short (flat_map entry_strings ws) ≡ true
unfolding entry_strings
names_short [] h k = refl
names_short (w ∷ ws) h k =
    let t = and_parts (has_short_texts w.object) (list_all has_short_texts (objects_in ws)) h in
    let u = and_parts (is_short w.object.name) (is_short_or_none w.object.description) t.0 in
    let v = and_parts (good_words w) (list_all good_words ws) k in
    and_from (is_short w.object.name) (list_all is_short (w.words ++ flat_map entry_strings ws)) u.0
    (list_all-append is_short w.words (flat_map entry_strings ws) ∙ and_from (list_all is_short w.words) (list_all is_short (flat_map entry_strings ws)) (words_short w.words v.0) (names_short ws t.1 v.1))

pub strings_short : (ws : List Worded) (lines : List Line) (behind : List (List ℕ)) → list_all has_short_texts (objects_in ws) ≡ true → list_all good_words ws ≡ true → list_all is_short (flat_map line_strings lines) ≡ true → list_all is_short behind ≡ true
    → list_all is_short (strings_of (texts_named ws lines) behind) ≡ true
unfolding strings_of texts_named
strings_short ws lines behind h k lines_short short =
    let entries = flat_map entry_strings ws in
    let words = flat_map line_strings lines in
    let named = list_all-append is_short entries words ∙ and_from (list_all is_short entries) (list_all is_short words) (names_short ws h k) lines_short in
    all_mentioned is_short (texts_named ws lines ++ behind) [] refl
    (list_all-append is_short (texts_named ws lines) behind ∙ and_from (list_all is_short (texts_named ws lines)) (list_all is_short behind) named short)

-- ---- each entry has room

article_fits : (a : Article) → ltb (article_number a) 256 ≡ true
article_fits articles.None = refl
article_fits articles.A = refl
article_fits articles.An = refl
article_fits articles.Some = refl

code_fits : (next : ℕ) (d : Option (List ℕ)) → ltb (code_number next d) 65536 ≡ true
code_fits next None = refl
code_fits next (Some text) = lt-ltb _ _ (omega arith)

held_by : (r : Rel) → ltb (relation_number r) 256 ≡ true
held_by relations.In = refl
held_by relations.On = refl
held_by relations.Carried = refl
held_by relations.Worn = refl
held_by relations.Part = refl

relation_fits : (p : Option Place) → ltb (place_relation p) 256 ≡ true
relation_fits None = refl
relation_fits (Some place) = held_by place.relation

-- a kind, and a place, that have room
abbrev pub fits_object : Object → Bool
fits_object object = ltb object.kind 256 && ltb (place_holder object.place) 65536

told_below : (parents : List (Option ℕ)) (kinds : List ℕ) (other o : ℕ) → is_at (under_each parents kinds other) o ≡ true → o < length kinds
told_below parents [] other o h = absurd cc
told_below parents (kind ∷ kinds) other zero h = omega arith
told_below parents (kind ∷ kinds) other (suc o) h = omega (arith, told_below parents kinds other o h)

-- what holds something is an object
holder_below : (parents : List (Option ℕ)) (kinds : List ℕ) (relation : Rel) (holder : ℕ) → can_hold (kinds_told (sorts_of parents kinds)) relation holder ≡ true → holder < length kinds
unfolding sorts_of
holder_below parents kinds relations.In holder h =
    elim (cases_Bool (is_at (under_each parents kinds 1) holder)) [
      | inl is ↦ told_below parents kinds 1 holder is
      | inr isnt ↦ let box : is_at (under_each parents kinds 4) holder ≡ true = rw isnt at h in told_below parents kinds 4 holder box
    ]
holder_below parents kinds relations.On holder h = told_below parents kinds 5 holder h
holder_below parents kinds relations.Carried holder h = told_below parents kinds 6 holder h
holder_below parents kinds relations.Worn holder h = told_below parents kinds 6 holder h
holder_below parents kinds relations.Part holder h = told_below parents kinds 0 holder h

place_fits : (parents : List (Option ℕ)) (kinds : List ℕ) (o : ℕ) (p : Option Place) → length kinds ≤ 1000 → is_well_placed (kinds_told (sorts_of parents kinds)) o p ≡ true → ltb (place_holder p) 65536 ≡ true
place_fits parents kinds o None le h = refl
place_fits parents kinds o (Some place) le h =
    let all = kinds_told (sorts_of parents kinds) in
    let t = and_parts (can_be_held all o) (can_hold all place.relation place.holder) h in
    lt-ltb _ _ (omega (arith, le, holder_below parents kinds place.relation place.holder t.1))

places_fit : (parents : List (Option ℕ)) (kinds : List ℕ) (o : ℕ) (places : List (Option Place)) → length kinds ≤ 1000 → are_well_placed (kinds_told (sorts_of parents kinds)) o places ≡ true → list_all (λ p. ltb (place_holder p) 65536) places ≡ true
unfolding are_well_placed
places_fit parents kinds o [] le h = refl
places_fit parents kinds o (p ∷ places) le h =
    let all = kinds_told (sorts_of parents kinds) in
    let t = and_parts (is_well_placed all o p) (are_well_placed all (o + 1) places) h in
    and_from (ltb (place_holder p) 65536) (list_all (λ q. ltb (place_holder q) 65536) places) (place_fits parents kinds o p le t.0) (places_fit parents kinds (o + 1) places le t.1)

objects_fit : (d : Declared) (objects : List Object) → IsWellMade (record { declared = d; objects = objects }) → list_all fits_object objects ≡ true
objects_fit d objects made =
    let kinds = kinds_of objects in
    let declared = few_kinds d.kinds (declared_parts d made.declared).kinds in
    let few : length kinds ≤ 1000 = omega (arith, few_begin d.kinds (sorts_of d.kinds kinds).rooms objects made.begins, length_mapped (λ (o : Object). o.kind) objects) in
    let small = all_mapped (λ kind. ltb kind 256) (λ (o : Object). o.kind) objects (all_weaker (is_below (length d.kinds)) (λ kind. ltb kind 256) (byte_if (length d.kinds) declared) kinds made.kinds) in
    let held = all_mapped (λ p. ltb (place_holder p) 65536) (λ (o : Object). o.place) objects (places_fit d.kinds kinds 0 (places_of objects) few made.placed) in
    all_both (λ (o : Object). ltb o.kind 256) (λ (o : Object). ltb (place_holder o.place) 65536) objects small held

entry_fits : (strings : List (List ℕ)) (next : ℕ) (w : Worded) → has_few_words w ≡ true → fits_object w.object ≡ true → fits_own w.object ≡ true → entry_layout.format.fits (entry_of strings next w) ≡ true
unfolding entry_layout entry_of
entry_fits strings next w few h k =
    let t = and_parts (ltb w.object.kind 256) (ltb (place_holder w.object.place) 65536) h in
    let v = three (are_bytes w.object.properties) (ltb (length (numbers_of w.object.numbers)) 256) (list_all is_word (numbers_of w.object.numbers)) k in
    let u = and_parts (ltb (length w.object.properties) 256) (list_all (λ n. ltb n 256) w.object.properties) v.0 in
    let le : length w.words ≤ 32 = leb-true _ _ few in
    let count : ltb (length (map (number_in strings) w.words)) 256 ≡ true = lt-ltb _ _ (omega (arith, le, length_mapped (number_in strings) w.words)) in
    rw (t.0, named_small strings w.object.name, article_fits w.object.article, code_fits next w.object.description, count, all_named_small strings w.words, relation_fits w.object.place, t.1, u.0, u.1, v.1) v.2

entries_fit : (strings : List (List ℕ)) (next : ℕ) (ws : List Worded) → list_all has_few_words ws ≡ true → list_all fits_object (objects_in ws) ≡ true → list_all fits_own (objects_in ws) ≡ true → list_all entry_layout.format.fits (entries_of strings next ws) ≡ true
unfolding entries_of
entries_fit strings next [] few h k = refl
entries_fit strings next (w ∷ ws) few h k =
    let t = and_parts (has_few_words w) (list_all has_few_words ws) few in
    let u = and_parts (fits_object w.object) (list_all fits_object (objects_in ws)) h in
    let v = and_parts (fits_own w.object) (list_all fits_own (objects_in ws)) k in
    and_from (entry_layout.format.fits (entry_of strings next w)) (list_all entry_layout.format.fits (entries_of strings (next + code_count w.object.description) ws)) (entry_fits strings next w t.0 u.0 v.0) (entries_fit strings (next + code_count w.object.description) ws t.1 u.1 v.1)

-- ---- each way has room

beyond_fits : (parents : List (Option ℕ)) (kinds : List ℕ) (other : ℕ) (o : Option ℕ) → length kinds ≤ 1000 → is_at_or_none (under_each parents kinds other) o ≡ true → fits_optional 65535 o ≡ true
beyond_fits parents kinds other None le h = refl
beyond_fits parents kinds other (Some o) le h = lt-ltb _ _ (omega (arith, told_below parents kinds other o h, le))

way_fits : (parents : List (Option ℕ)) (kinds : List ℕ) → length kinds ≤ 1000 → (w : Way) → leads (sorts_of parents kinds) w ≡ true → way_layout.format.fits w ≡ true
unfolding way_layout sorts_of
way_fits parents kinds le w h =
    let t = and_parts (is_at_or_none (under_each parents kinds 1) w.room) (is_at_or_none (under_each parents kinds 3) w.door) h in
    and_from (fits_optional 65535 w.room) (fits_optional 65535 w.door) (beyond_fits parents kinds 1 w.room le t.0) (beyond_fits parents kinds 3 w.door le t.1)

exits_fit : (parents : List (Option ℕ)) (kinds : List ℕ) → length kinds ≤ 1000 → (e : Exits) → lead_rightly (sorts_of parents kinds) e ≡ true → exits_layout.format.fits e ≡ true
unfolding exits_layout lead_rightly
exits_fit parents kinds le e h =
    let t = and_parts (eqb (length e.ways) 12) (list_all (leads (sorts_of parents kinds)) e.ways) h in
    and_from (eqb (length e.ways) 12) (list_all way_layout.format.fits e.ways) t.0 (all_weaker (leads (sorts_of parents kinds)) way_layout.format.fits (way_fits parents kinds le) e.ways t.1)

ways_few : (parents : List (Option ℕ)) (ws : List Worded) → length (flat_map (ways_of parents) ws) ≤ length ws
ways_few parents [] = omega arith
ways_few parents (w ∷ ws) =
    elim (cases_Bool (is_under parents w.object.kind 1)) [
      | inl is ↦ rw is (omega (arith, ways_few parents ws))
      | inr isnt ↦ rw isnt (omega (arith, ways_few parents ws))
    ]

-- ---- all of it

pub tables_fit : (d : Declared) (books : List Book) (synonyms : List Synonym) (objects : List Object) (lines : List Line) (rules : List Rule) (scenes : List Scene) (said : List Origin)
    → length scenes ≡ length d.scenes → IsWellMade (record { declared = d; objects = objects }) → list_all has_few_words (worded synonyms objects) ≡ true
    → length lines ≤ 65535 → list_all (is_line_of (standard_needs ++ d.actions)) lines ≡ true
    → length d.actions ≤ 184 → length rules ≤ 1939 → AreRightBooks d books (61 + length rules) → list_all (is_of (named_by d (length objects))) rules ≡ true
    → length (strings_of (texts_named (worded synonyms objects) lines) (strings_behind d said)) < 65535 → list_all is_short (strings_of (texts_named (worded synonyms objects) lines) (strings_behind d said)) ≡ true
    → length (code_bytes (strings_of (texts_named (worded synonyms objects) lines) (strings_behind d said)) said) < 65536 → list_all is_short (code_bytes (strings_of (texts_named (worded synonyms objects) lines) (strings_behind d said)) said) ≡ true
    → (tables_layout (version_of (tables_with d books (worded synonyms objects) lines rules scenes said))).format.fits (tables_with d books (worded synonyms objects) lines rules scenes said) ≡ true
unfolding tables_layout first_layout tables_with values_of
tables_fit d books synonyms objects lines rules scenes said same made few_words few_lines lines_of few_actions few_rules known_books named few strings_fit few_codes codes_short =
    let ws = worded synonyms objects in
    let strings = strings_of (texts_named ws lines) (strings_behind d said) in
    let line_entries = map (line_entry strings) lines in
    let back : objects_in ws ≡ objects = objects_back synonyms 0 objects in
    let count : length ws ≡ length objects = sym (length_mapped (λ (w : Worded). w.object) ws) ∙ ap length back in
    let sorts = sorts_of d.kinds (kinds_of objects) in
    let few_objects = few_begin d.kinds sorts.rooms objects made.begins in
    let few_of_kinds : length (kinds_of objects) ≤ 1000 = omega (arith, few_objects, length_mapped (λ (o : Object). o.kind) objects) in
    let le : length ws ≤ 1000 = omega (arith, few_objects, count) in
    let string_count : ltb (length strings) 65536 ≡ true = lt-ltb _ _ (omega (arith, few)) in
    let entry_count : ltb (length (entries_of strings 0 ws)) 65536 ≡ true = lt-ltb _ _ (omega (arith, le, entries_counted strings 0 ws)) in
    let entries = entries_fit strings 0 ws few_words (ap (list_all fits_object) back ∙ objects_fit d objects made) (ap (list_all fits_own) back ∙ all_own_fit d made.declared objects made.suited) in
    let way_count : ltb (length (flat_map (ways_of d.kinds) ws)) 65536 ≡ true = lt-ltb _ _ (omega (arith, le, ways_few d.kinds ws)) in
    let exits = all_weaker (lead_rightly sorts) exits_layout.format.fits (exits_fit d.kinds (kinds_of objects) few_of_kinds) (flat_map (ways_of d.kinds) ws) (rooms_lead d.kinds sorts ws (ap (list_all (has_right_exits d.kinds sorts)) back ∙ made.exits)) in
    let code_few : ltb (length (code_bytes strings said)) 65536 ≡ true = lt-ltb _ _ few_codes in
    let declared = declared_parts d made.declared in
    let needs = standard_needs ++ d.actions in
    let few_needs : length needs ≤ 256 = omega (arith, few_actions, sixteen, length-append standard_needs d.actions) in
    let line_count : ltb (length line_entries) 65536 ≡ true = lt-ltb _ _ (omega (arith, few_lines, length_mapped (line_entry strings) lines)) in
    let rules_so = rule_tables_fit d line_entries books (named_by d (length objects)) rules scenes (described_in ws) same declared.scenes declared.rulebooks few_rules known_books few_actions line_count (lines_fit strings needs lines few_needs lines_of) (small_names d (length objects) few_objects few_actions made.declared) named in
    rw (string_count, strings_fit, world_fits d made.declared, entry_count, entries, way_count, exits, rules_so, code_few, codes_short) (values_fit d strings ws declared.kinds declared.values le (ap (list_all (suits_kind d)) back ∙ made.suited))
