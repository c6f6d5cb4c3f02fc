-- The tables of a tale say of each object what the tale says.
use Rattle.std.proofs.Common.{◌≡◌, ℕ, zero, suc, ◌+◌, ◌-◌, ◌<◌, ◌≤◌, append_assoc, ◌==◌, Bool, true, false, cond, eqb, List, [], ◌∷◌, ◌++◌, length, map, take, drop, Option, Some, None, refl, sym, subst, ap, ◌∙◌, arith, inl, inr, if◌then◌else◌}
use Rattle.std.specs.Prelude.{min, slice_get, is_none, is_some}
use Rattle.std.specs.List.{AllByRecursion, AllZip, list_all, flat_map}
use Rattle.std.proofs.lemmas.Bool.{ne_eqb, cases_Bool, and_parts}
use Rattle.std.proofs.lemmas.List.{length-append, length-map}
use Rattle.std.proofs.lemmas.List.Folds.{list_all-append}
use Rattle.std.specs.Option.{option_map}
use Rattle.std.proofs.lemmas.Option.{get_or_from_slice_get, slice_get-map, same_Some}
use Rattle.world_meaning.proofs.Options.{get_within, get_front, none_is}
use Rattle.world_meaning.specs.Tale.{description_in as told_description, name_in as told_name, holder_in as told_holder, place_in as told_place, room_beyond, way_in as told_way}
use Rattle.world_meaning.specs.Kinds.{is_under}
use Rattle.world_meaning.specs.WellMade.{are_closed, begin_rightly, has_right_exits, is_closed, sorts_in, stands_in_room}
use Rattle.world_meaning.specs.declared.sorts.Sorts.{Sorts}
use Rattle.world_meaning.specs.declared.exits.Exits.{Exits}
use Rattle.world_meaning.specs.declared.exits.Way.{Way}
use Rattle.world_meaning.specs.declared.place.Place.{Place}
use Rattle.world_meaning.specs.declared.tale.Object.{Object}
use Rattle.world_meaning.specs.declared.tale.Tale.{Tale}
use Rattle.world_meaning.specs.declared.declared.Declared.{Declared}
use Rattle.world_meaning.specs.declared.declared.ValueKind.{ValueKind}
use Rattle.object_words.specs.Mentions.{number_in}
use Rattle.command_grammar.specs.Synonyms.{words_in as told_words, words_said}
use Rattle.command_grammar.specs.declared.synonym.Synonym.{Synonym}
use Rattle.object_words.proofs.StringLemmas.{length_mapped}
use Rattle.play_meaning.specs.Codes.{Codes}
use Rattle.play_meaning.specs.Grammar.{Line}
use Rattle.play_meaning.specs.Grounds.{said_by_code}
use Rattle.play_meaning.specs.Scripts.{says, undescribed}
use Rattle.play_meaning.specs.Settings.{Setting}
use Rattle.play_meaning.specs.Trees.{Text}
use Rattle.play_meaning.specs.Worlds.{World}
use Rattle.play_meaning.specs.Order.{book_of}
use Rattle.play_meaning.specs.StandardActions.{standard_needs}
use Rattle.play_meaning.specs.StandardRules.{standard_rules}
use Rattle.play_meaning.specs.Tales.{names_in_kind, setting_of}
use Rattle.play_meaning.specs.declared.action.ActionNow.{ActionNow}
use Rattle.play_meaning.specs.declared.operand.Counts.{Counts}
use Rattle.code_table.specs.Emitted.{AllFit, codes_of_origins}
use Rattle.code_table.specs.Origins.{Describes, Origin, strings_of_origin}
use Rattle.code_table.proofs.Said.{text_said}
use Rattle.story_format.specs.Carrying.{AsksFor, Carries, CarriesRule, CarriesScene}
use Rattle.story_format.specs.Codes.{codes_told}
use Rattle.story_format.specs.Contents.{Contents, origins_said}
use Rattle.story_format.specs.Facts.{description_code_in, description_code_of, exits_at, holder_in, is_room_in, lines_of, name_in, rooms_before, rules_listed, text_at, way_in, words_in}
use Rattle.story_format.specs.InPlay.{names_in, value_names}
use Rattle.story_format.proofs.AboutRules.{IsSmall, small_names}
use Rattle.story_format.proofs.ActionLemmas.{actions_ask}
use Rattle.story_format.specs.Holding.{counts_in, named_in, AreHeld, IsHeld}
use Rattle.story_format.specs.RuleMaking.{codes_of_rules, rule_entries, rules_of, standard_entries}
use Rattle.story_format.specs.Making.{Worded, code_count, code_number, codes_in, described_in, entries_of, entry_of, entry_strings, place_holder, story_lines, story_rules, names_of_values, strings_behind, strings_of, strings_said, tables_of, tables_with, text_in, text_of, texts_named, ways_of, worded, worded_at, worded_from, value_entry, values_of, world_of}
use Rattle.story_format.specs.Placed.{is_room_entry}
use Rattle.story_format.proofs.StoryLemmas.{all_at, few_begin, get_dropped, parts, player_parts}
use Rattle.story_format.proofs.GrammarLemmas.{lines_back, lines_known}
use Rattle.story_format.proofs.Known.{found_by_number, is_known, names_known, said_known}
use Rattle.story_format.proofs.OrderLemmas.{at_most_one}
use Rattle.story_format.proofs.RuleLemmas.{codes_counted_of, origins_in}
use Rattle.story_format.proofs.SceneLemmas.{origins_in_scenes}
use Rattle.story_format.proofs.OwnBooks.{all_within, books_listed}
use Rattle.story_format.proofs.ListedRules.{zip_listed}
use Rattle.story_format.proofs.RulesCarried.{all_standard_carried, carried_so, rules_carried, scenes_carried}
use Rattle.story_format.proofs.StandardRuleRows.{zip_append}
use Rattle.story_format.proofs.SoundLemmas.{bytes_enough, bytes_few, bytes_told, origins_counted}
use Rattle.story_format.proofs.EntryLemmas.{counted_more, counted_same, entry_room, objects_back, objects_in}
use Rattle.story_format.proofs.TableWords.{all_known, knows}
use Rattle.story_format.proofs.TableLemmas.{entries_counted, entry_strings_known}
use Rattle.story_format.proofs.Stories.{described_back, few_objects}

-- ---- names

text_back : (strings : List (List ℕ)) (text : List ℕ) → is_known strings text ≡ true → length strings < 65535 → text_at strings (number_in strings text) ≡ text
text_back strings text known few = get_or_from_slice_get strings (number_in strings text) text [] (found_by_number strings text known few).1

names_carried : (strings : List (List ℕ)) (ws : List Worded) (next o : ℕ) → list_all (knows strings) ws ≡ true → length strings < 65535 → name_in strings (slice_get (entries_of strings next ws) o) ≡ told_name (slice_get (objects_in ws) o)
unfolding entries_of entry_of entry_strings
names_carried strings [] next o h few = refl
names_carried strings (w ∷ ws) next zero h few =
    let t = and_parts (knows strings w) (list_all (knows strings) ws) h in
    text_back strings w.object.name (and_parts (is_known strings w.object.name) (list_all (is_known strings) w.words) t.0).0 few
names_carried strings (w ∷ ws) next (suc o) h few = names_carried strings ws (next + code_count w.object.description) o (and_parts (knows strings w) (list_all (knows strings) ws) h).1 few

-- ---- words

words_back : (strings texts : List (List ℕ)) → list_all (is_known strings) texts ≡ true → length strings < 65535 → map (text_at strings) (map (number_in strings) texts) ≡ texts
words_back strings [] h few = refl
words_back strings (text ∷ texts) h few =
    let t = and_parts (is_known strings text) (list_all (is_known strings) texts) h in
    λ i. text_back strings text t.0 few i ∷ words_back strings texts t.1 few i

words_carried : (strings : List (List ℕ)) (synonyms : List Synonym) (objects : List Object) (from next o : ℕ) → list_all (knows strings) (worded_from synonyms from objects) ≡ true → length strings < 65535
    → words_in strings (slice_get (entries_of strings next (worded_from synonyms from objects)) o) ≡ told_words synonyms (from + o) (slice_get objects o)
unfolding entries_of entry_of entry_strings
words_carried strings synonyms [] from next o h few = refl
words_carried strings synonyms (object ∷ objects) from next zero h few =
    let t = and_parts (knows strings (worded_at synonyms from object)) (list_all (knows strings) (worded_from synonyms (from + 1) objects)) h in
    let known = (and_parts (is_known strings object.name) (list_all (is_known strings) (words_said synonyms from object.name)) t.0).1 in
    let here : from ≡ from + 0 = omega arith in
    words_back strings (words_said synonyms from object.name) known few ∙ ap (λ n. words_said synonyms n object.name) here
words_carried strings synonyms (object ∷ objects) from next (suc o) h few =
    let t = and_parts (knows strings (worded_at synonyms from object)) (list_all (knows strings) (worded_from synonyms (from + 1) objects)) h in
    let there : (from + 1) + o ≡ from + suc o = omega arith in
    words_carried strings synonyms objects (from + 1) (next + code_count object.description) o t.1 few ∙ ap (λ n. told_words synonyms n (slice_get objects o)) there

none_before : (o : ℕ) → 0 + o ≡ o
none_before o = omega arith

words_known : (ws : List Worded) (lines : List Line) (behind : List (List ℕ)) → list_all (knows (strings_of (texts_named ws lines) behind)) ws ≡ true
words_known ws lines behind = all_known (strings_of (texts_named ws lines) behind) ws (entry_strings_known ws lines behind)

-- ---- the names of values

names_found : (strings : List (List ℕ)) (values : List ValueKind) (q : ℕ) → list_all (is_known strings) (names_of_values values) ≡ true → length strings < 65535
    → names_in strings (slice_get (map (value_entry strings) values) q) ≡ names_in_kind (slice_get values q)
names_found strings [] q h few = refl
names_found strings (v ∷ values) zero h few = words_back strings v.names (and_parts (list_all (is_known strings) v.names) (list_all (is_known strings) (names_of_values values)) (sym (list_all-append (is_known strings) v.names (names_of_values values)) ∙ h)).0 few
names_found strings (v ∷ values) (suc q) h few =
    let known = is_known strings in
    names_found strings values q (and_parts (list_all known v.names) (list_all known (names_of_values values)) (sym (list_all-append known v.names (names_of_values values)) ∙ h)).1 few

-- ---- descriptions

-- the code of this number, if one describes
abbrev code_told : ℕ → Option ℕ
code_told n = if n == 65535 then None else Some n

-- neither is described, or the number of the code is the text's
abbrev Told : List Text → Option ℕ → Option Text → Type 0
Told all None None = Unit {0}
Told all None (Some text) = ⊥
Told all (Some n) None = ⊥
Told all (Some n) (Some text) = slice_get all n ≡ Some text

entry_told : (all : List Text) (next more : ℕ) (d : Option (List ℕ)) → next < 65535 → length all ≡ next + (code_count d + more) → Told all (code_told (code_number next d)) (if is_some d then slice_get (drop next all) 0 else None)
entry_told all next more None lt many = tt
entry_told all next more (Some bytes) lt many =
    let number : min next 65535 ≡ next = omega (arith, lt) in
    let told : eqb next 65535 ≡ false = ne_eqb _ _ (λ k. omega (arith, k, lt)) in
    let there = get_within all next (omega (arith, many)) in
    let here : slice_get (drop next all) 0 ≡ Some there.0 = get_dropped next 0 next all (omega arith) ∙ there.1 in
    rw (number, told, here) there.1

none_dropped : {A : Type 0} (n : ℕ) → ◌≡◌ {A = List A} (drop n []) []
none_dropped zero = refl
none_dropped (suc n) = refl

dropped : {A : Type 0} (n k : ℕ) (xs : List A) → drop k (drop n xs) ≡ drop (n + k) xs
dropped zero k xs = let same : k ≡ 0 + k = omega arith in ap (λ m. drop m xs) same
dropped (suc n) k [] = none_dropped k ∙ sym (none_dropped (suc n + k))
dropped (suc n) k (x ∷ xs) = let same : suc (n + k) ≡ suc n + k = omega arith in dropped n k xs ∙ ap (λ m. drop m (x ∷ xs)) same

descriptions_told : (strings : List (List ℕ)) (all : List Text) (ws : List Worded) (next o : ℕ) → next + length ws < 65535 → length all ≡ next + codes_in (objects_in ws)
    → Told all (description_code_in (slice_get (entries_of strings next ws) o)) (text_in (objects_in ws) (drop next all) o)
unfolding entries_of entry_of
descriptions_told strings all [] next o lt many = tt
descriptions_told strings all (w ∷ ws) next zero lt many = entry_told all next (codes_in (objects_in ws)) w.object.description (omega (arith, lt)) many
descriptions_told strings all (w ∷ ws) next (suc o) lt many =
    let count = code_count w.object.description in
    let bound = at_most_one w.object.description in
    subst (λ rest. Told all (description_code_in (slice_get (entries_of strings (next + count) ws) o)) (text_in (objects_in ws) rest o)) (sym (dropped next count all))
    (descriptions_told strings all ws (next + count) o (omega (arith, lt, bound)) (omega (arith, many)))

one_described : (next : ℕ) (d : Option (List ℕ)) → next < 65535 → is_some (code_told (code_number next d)) ≡ is_some d
one_described next None lt = refl
one_described next (Some bytes) lt =
    let number : min next 65535 ≡ next = omega (arith, lt) in
    let told : eqb next 65535 ≡ false = ne_eqb _ _ (λ k. omega (arith, k, lt)) in
    rw (number, told) refl

all_described : (strings : List (List ℕ)) (ws : List Worded) (next o : ℕ) → next + length ws < 65535 → is_some (description_code_in (slice_get (entries_of strings next ws) o)) ≡ is_some (told_description (slice_get (objects_in ws) o))
unfolding entries_of entry_of
all_described strings [] next o lt = refl
all_described strings (w ∷ ws) next zero lt = one_described next w.object.description (omega (arith, lt))
all_described strings (w ∷ ws) next (suc o) lt = let bound = at_most_one w.object.description in all_described strings ws (next + code_count w.object.description) o (omega (arith, lt, bound))

-- the strings that an origin says
origin_known : (strings : List (List ℕ)) (origins : List Origin) (n : ℕ) (origin : Origin) → list_all (is_known strings) (strings_said origins) ≡ true → slice_get origins n ≡ Some origin
    → list_all (is_known strings) (strings_of_origin origin) ≡ true
origin_known strings [] n origin h at = absurd cc
origin_known strings (one ∷ origins) n origin h at =
    let known = is_known strings in
    let t = and_parts (list_all known (strings_of_origin one)) (list_all known (strings_said origins)) (sym (list_all-append known (strings_of_origin one) (strings_said origins)) ∙ h) in
    by n at t.0 (λ m later. origin_known strings origins m origin t.1 later)
  where
    by : (n : ℕ) → slice_get (one ∷ origins) n ≡ Some origin → list_all (is_known strings) (strings_of_origin one) ≡ true
        → ((m : ℕ) → slice_get origins m ≡ Some origin → list_all (is_known strings) (strings_of_origin origin) ≡ true) → list_all (is_known strings) (strings_of_origin origin) ≡ true
    by zero at own later = let same : one ≡ origin = cc in subst (λ x. list_all (is_known strings) (strings_of_origin x) ≡ true) same own
    by (suc m) at own later = later m at

strings_stand : (strings xs : List (List ℕ)) → list_all (is_known strings) xs ≡ true → length strings < 65535 → AllByRecursion (λ bytes. text_at strings (number_in strings bytes) ≡ bytes) xs
strings_stand strings [] h few = tt
strings_stand strings (x ∷ xs) h few = let t = and_parts (is_known strings x) (list_all (is_known strings) xs) h in (text_back strings x t.0 few, strings_stand strings xs t.1 few)

origins_stand : (named : List (List ℕ)) (d : Declared) (origins : List Origin) → length (strings_of named (strings_behind d origins)) < 65535 → (n : ℕ) (origin : Origin) → slice_get origins n ≡ Some origin
    → AllByRecursion (λ bytes. text_at (strings_of named (strings_behind d origins)) (number_in (strings_of named (strings_behind d origins)) bytes) ≡ bytes) (strings_of_origin origin)
origins_stand named d origins few n origin at =
    let strings = strings_of named (strings_behind d origins) in
    strings_stand strings (strings_of_origin origin) (origin_known strings origins n origin (said_known named d origins) at) few

described_at : (texts : List Text) (behind : List Origin) (n : ℕ) (text : Text) → slice_get texts n ≡ Some text → slice_get (map Describes texts ++ behind) n ≡ Some (Describes text)
described_at texts behind n text at = get_front (map Describes texts) behind n (Describes text) (slice_get-map Describes texts n ∙ ap (option_map Describes) at)

module _ (z : Counts) (c : Codes) (string : List ℕ → ℕ) (said : Contents) (fit : AllFit z string (origins_said said)) (codes : c.codes ≡ codes_of_origins string (origins_said said))
    (strings : (n : ℕ) (origin : Origin) → slice_get (origins_said said) n ≡ Some origin → AllByRecursion (λ bytes. text_at c.strings (string bytes) ≡ bytes) (strings_of_origin origin)) where
  described_so : (s : Setting) (now : ActionNow) (w : World) (n : Option ℕ) (text : Option Text) → Told said.texts n text → said_by_code c s now w n ≡ says (undescribed s) now w text
  described_so s now w None None told = refl
  described_so s now w None (Some text) told = absurd told
  described_so s now w (Some n) None told = absurd told
  described_so s now w (Some n) (Some text) told =
      let at = described_at said.texts (origins_in said.rules ++ origins_in_scenes said.scenes) n text told in
      text_said string z c (origins_said said) n text (undescribed s) now w fit codes at (strings n (Describes text) at)

-- ---- ways

closed_beyond : (ws : List Way) (i : ℕ) → list_all is_closed ws ≡ true → room_beyond (slice_get ws i) ≡ None
closed_beyond [] i h = refl
closed_beyond (w ∷ ws) zero h = let t = and_parts (is_closed w) (list_all is_closed ws) h in none_is w.room (and_parts (is_none w.room) (is_none w.door) t.0).0
closed_beyond (w ∷ ws) (suc i) h = closed_beyond ws i (and_parts (is_closed w) (list_all is_closed ws) h).1

closed_way : (object : Object) (direction : ℕ) → are_closed object.exits ≡ true → told_way (Some object) direction ≡ None
closed_way object direction h = closed_beyond object.exits.ways (direction - 1) h

abbrev is_room_of : List (Option ℕ) → Option Worded → Bool
is_room_of parents None = false
is_room_of parents (Some w) = is_under parents w.object.kind 1

room_same : (parents : List (Option ℕ)) (strings : List (List ℕ)) (ws : List Worded) (next o : ℕ) → is_room_in parents (slice_get (entries_of strings next ws) o) ≡ is_room_of parents (slice_get ws o)
unfolding entries_of
room_same parents strings [] next o = refl
room_same parents strings (w ∷ ws) next zero = entry_room parents strings next w
room_same parents strings (w ∷ ws) next (suc o) = room_same parents strings ws (next + code_count w.object.description) o

-- a room's ways stand behind those of the rooms before it
ways_there : (parents : List (Option ℕ)) (strings : List (List ℕ)) (ws : List Worded) (next o : ℕ) (w : Worded) → slice_get ws o ≡ Some w → is_under parents w.object.kind 1 ≡ true
    → slice_get (flat_map (ways_of parents) ws) (rooms_before parents (entries_of strings next ws) o) ≡ Some w.object.exits
unfolding entries_of
ways_there parents strings [] next o w e room = absurd cc
ways_there parents strings (x ∷ ws) next zero w e room =
    let same : x ≡ w = same_Some x w e in
    let here : is_under parents x.object.kind 1 ≡ true = ap (λ (y : Worded). is_under parents y.object.kind 1) same ∙ room in
    rw here (ap (λ (y : Worded). Some y.object.exits) same)
ways_there parents strings (x ∷ ws) next (suc o) w e room =
    let after = next + code_count x.object.description in
    let later = ways_there parents strings ws after o w e room in
    elim (cases_Bool (is_under parents x.object.kind 1)) [
      | inl is ↦ rw (is, counted_more (is_room_entry parents) (entry_of strings next x) (take o (entries_of strings after ws)) (entry_room parents strings next x ∙ is)) later
      | inr isnt ↦ rw (isnt, counted_same (is_room_entry parents) (entry_of strings next x) (take o (entries_of strings after ws)) (entry_room parents strings next x ∙ isnt)) later
    ]

-- the ways that stand for an object: a room has its own, and nothing else has any
abbrev pub room_exits : List (Option ℕ) → Option Worded → Option Exits
room_exits parents None = None
room_exits parents (Some w) = cond (is_under parents w.object.kind 1) (Some w.object.exits) None

pub exits_found : (parents : List (Option ℕ)) (strings : List (List ℕ)) (ws : List Worded) (o : ℕ) (found : Option Worded) → slice_get ws o ≡ found → exits_at parents (entries_of strings 0 ws) (flat_map (ways_of parents) ws) o ≡ room_exits parents found
exits_found parents strings ws o None e = rw (room_same parents strings ws 0 o ∙ ap (is_room_of parents) e) refl
exits_found parents strings ws o (Some w) e =
    let room : is_room_in parents (slice_get (entries_of strings 0 ws) o) ≡ is_under parents w.object.kind 1 = room_same parents strings ws 0 o ∙ ap (is_room_of parents) e in
    elim (cases_Bool (is_under parents w.object.kind 1)) [
      | inl is ↦ rw (room, is, ways_there parents strings ws 0 o w e is) refl
      | inr isnt ↦ rw (room, isnt) refl
    ]

pub object_found : (ws : List Worded) (o : ℕ) (found : Option Worded) → slice_get ws o ≡ found → slice_get (objects_in ws) o ≡ option_map (λ w. w.object) found
object_found ws o found e = slice_get-map (λ (w : Worded). w.object) ws o ∙ ap (λ (found : Option Worded). option_map (λ w. w.object) found) e

ways_found : (parents : List (Option ℕ)) (sorts : Sorts) (strings : List (List ℕ)) (ws : List Worded) (o direction : ℕ) (found : Option Worded) → slice_get ws o ≡ found → list_all (has_right_exits parents sorts) (objects_in ws) ≡ true
    → way_in (exits_at parents (entries_of strings 0 ws) (flat_map (ways_of parents) ws) o) direction ≡ told_way (slice_get (objects_in ws) o) direction
unfolding has_right_exits
ways_found parents sorts strings ws o direction None e h = rw (exits_found parents strings ws o None e, object_found ws o None e) refl
ways_found parents sorts strings ws o direction (Some w) e h =
    let object : slice_get (objects_in ws) o ≡ Some w.object = object_found ws o (Some w) e in
    let right : has_right_exits parents sorts w.object ≡ true = all_at (has_right_exits parents sorts) (objects_in ws) o w.object h object in
    elim (cases_Bool (is_under parents w.object.kind 1)) [
      | inl is ↦ rw (exits_found parents strings ws o (Some w) e, is, object) refl
      | inr isnt ↦ let closed : are_closed w.object.exits ≡ true = rw isnt at right in rw (exits_found parents strings ws o (Some w) e, isnt, object) (sym (closed_way w.object direction closed))
    ]

-- ---- the start

place_carried : (rooms : List Bool) (p : Option Place) → stands_in_room rooms p ≡ true → place_holder p ≡ told_holder p
place_carried rooms None h = absurd cc
place_carried rooms (Some place) h = refl

start_carried : (parents : List (Option ℕ)) (rooms : List Bool) (strings : List (List ℕ)) (ws : List Worded) → begin_rightly parents rooms (objects_in ws) ≡ true → holder_in (slice_get (entries_of strings 0 ws) 0) ≡ told_place (slice_get (objects_in ws) 0)
unfolding entries_of entry_of begin_rightly
start_carried parents rooms strings [] h = absurd cc
start_carried parents rooms strings (player ∷ others) h =
    let p = parts parents rooms player.object (objects_in others) h in
    place_carried rooms player.object.place (player_parts parents rooms player.object p.player).3

-- ---- all of it

module _ (t : Tale) (c : Contents) (held : IsHeld t) (are : AreHeld t c) where
  abbrev told : Codes
  told = codes_told (tables_of t c)

  abbrev ws : List Worded
  ws = worded c.synonyms t.objects

  abbrev lines : List Line
  lines = story_lines c.lines

  abbrev named : List (List ℕ)
  named = texts_named ws lines

  abbrev origins : List Origin
  origins = origins_said c

  abbrev behind : List (List ℕ)
  behind = strings_behind t.declared origins

  code_says : (o : ℕ) (s : Setting) (now : ActionNow) (w : World) → said_by_code told s now w (description_code_of (tables_of t c) o) ≡ says (undescribed s) now w (text_of t c.texts o)
  unfolding tables_with
  code_says o s now w =
      let strings = strings_of named behind in
      let back : objects_in ws ≡ t.objects = objects_back c.synonyms 0 t.objects in
      let le = few_objects c.synonyms t held in
      let many : length c.texts ≡ 0 + codes_in (objects_in ws) = omega (arith, are.are_of.many, ap codes_in back) in
      described_so (counts_in t c) (codes_told (tables_of t c)) (number_in strings) c are.fit (bytes_told strings origins are.said) (origins_stand named t.declared origins are.few) s now w
      (description_code_of (tables_of t c) o) (text_of t c.texts o)
      (subst (λ objects. Told c.texts (description_code_in (slice_get (entries_of strings 0 ws) o)) (text_in objects c.texts o)) back (descriptions_told strings c.texts ws 0 o (omega (arith, le)) many))

  small : IsSmall (named_in t)
  small = small_names t.declared (length t.objects) (few_begin t.declared.kinds (sorts_in t).rooms t.objects held.made.begins) are.are_of.few_actions held.made.declared

  first_code : described_in ws ≡ length (map Describes c.texts)
  first_code = described_back c.synonyms t ∙ sym are.are_of.many ∙ sym (length-map c.texts Describes)

  -- how many codes there are
  room : described_in ws + (length (origins_in c.rules) + length (origins_in_scenes c.scenes)) ≤ 65535
  room =
      let strings = strings_of named behind in
      omega (arith, first_code, length-map c.texts Describes, origins_counted c.texts c.rules c.scenes, bytes_enough strings origins, bytes_few strings origins are.said)

  author_so : AllZip (CarriesRule told) (rule_entries (described_in ws) c.rules) c.rules
  unfolding tables_with rules_of
  author_so =
      let strings = strings_of named behind in
      rules_carried (counts_in t c) (codes_told (tables_of t c)) (number_in strings) origins are.fit (bytes_told strings origins are.said) (origins_stand named t.declared origins are.few)
      (named_in t) small c.rules (map Describes c.texts) (origins_in_scenes c.scenes) (described_in ws) are.are_of.named first_code refl (omega (arith, room))

  rules_so : AllZip (CarriesRule told) (tables_of t c).rules.rules (story_rules c.listings c.rules)
  unfolding tables_with rules_of
  rules_so =
      let codes = codes_told (tables_of t c) in
      let author = rule_entries (described_in ws) c.rules in
      zip_listed (CarriesRule codes) (carried_so codes) c.listings 0 (standard_entries ++ author) (standard_rules ++ c.rules)
      (zip_append (CarriesRule codes) standard_entries standard_rules author c.rules (all_standard_carried codes (named_in t) small (omega arith) (omega arith)) author_so)

  scenes_so : AllZip (CarriesScene told) (tables_of t c).rules.scenes c.scenes
  unfolding tables_with rules_of
  scenes_so =
      let strings = strings_of named behind in
      let front = map Describes c.texts ++ origins_in c.rules in
      let next : described_in ws + codes_of_rules c.rules ≡ length front = omega (arith, first_code, codes_counted_of c.rules, length-append (map Describes c.texts) (origins_in c.rules)) in
      let parts : origins ≡ front ++ origins_in_scenes c.scenes = sym (append_assoc (map Describes c.texts) (origins_in c.rules) (origins_in_scenes c.scenes)) in
      scenes_carried (counts_in t c) (codes_told (tables_of t c)) (number_in strings) origins are.fit (bytes_told strings origins are.said)
      c.scenes front (described_in ws + codes_of_rules c.rules) next parts (omega (arith, room, codes_counted_of c.rules))

  books_so : (book : ℕ) → rules_listed (tables_of t c) book ≡ book_of (setting_of t) (story_rules c.listings c.rules) book
  unfolding tables_with rules_of
  books_so book = books_listed t c.listings c.rules (all_within (named_in t) c.listings c.rules (omega arith) are.are_of.named) book

  actions_so : AllZip AsksFor (tables_of t c).rules.actions (standard_needs ++ t.declared.actions)
  unfolding tables_with rules_of
  actions_so = actions_ask t.declared.actions

  lines_so : lines_of (tables_of t c) ≡ lines
  unfolding tables_with rules_of
  lines_so = lines_back (strings_of named behind) are.few lines (lines_known ws lines behind)

  value_names_so : (q : ℕ) → value_names (tables_of t c) q ≡ names_in_kind (slice_get t.declared.values q)
  unfolding tables_with values_of
  value_names_so q = names_found (strings_of named behind) t.declared.values q (names_known named t.declared origins) are.few

  pub tale_carried : Carries (tables_of t c) t c
  unfolding tables_with world_of
  tale_carried =
      let strings = strings_of named behind in
      let back : objects_in ws ≡ t.objects = objects_back c.synonyms 0 t.objects in
      let le = few_objects c.synonyms t held in
      let parents = t.declared.kinds in
      let sorts = sorts_in t in
      let exits : list_all (has_right_exits parents sorts) (objects_in ws) ≡ true = ap (list_all (has_right_exits parents sorts)) back ∙ held.made.exits in
      let known = words_known ws lines behind in
      record {
        count = entries_counted strings 0 ws ∙ sym (length_mapped (λ (w : Worded). w.object) ws) ∙ ap length back;
        names = λ o. names_carried strings ws 0 o known are.few ∙ ap (λ (objects : List Object). told_name (slice_get objects o)) back;
        words = λ o. words_carried strings c.synonyms t.objects 0 0 o known are.few ∙ ap (λ n. told_words c.synonyms n (slice_get t.objects o)) (none_before o);
        described = λ o. all_described strings ws 0 o (omega (arith, le)) ∙ ap (λ (objects : List Object). is_some (told_description (slice_get objects o))) back;
        descriptions = code_says;
        ways = λ o direction. ways_found parents sorts strings ws o direction (slice_get ws o) refl exits ∙ ap (λ (objects : List Object). told_way (slice_get objects o) direction) back;
        start = start_carried parents sorts.rooms strings ws (ap (begin_rightly parents sorts.rooms) back ∙ held.made.begins) ∙ ap (λ (objects : List Object). told_place (slice_get objects 0)) back;
        actions = actions_so;
        rules_are = rules_so;
        books = books_so;
        scenes_are = scenes_so;
        lines_are = lines_so;
        value_names_are = value_names_so;
      }
