-- The tables of a tale are right.
use Rattle.std.proofs.Common.{◌≡◌, ℕ, zero, suc, ◌+◌, ◌<◌, ◌≤◌, Bool, true, ltb, leb, eqb, List, [], ◌∷◌, ◌++◌, length, map, take, drop, Option, Some, None, refl, sym, ap, ◌∙◌, arith}
use Rattle.std.specs.Prelude.{min, is_none, codes, count_by}
use Rattle.std.specs.List.{list_any, list_all, flat_map}
use Rattle.std.specs.Str.{bytes_eq}
use Rattle.std.proofs.lemmas.Bool.{lt-ltb, eq-eqb, le-leb, and_from, and_parts}
use Rattle.std.proofs.lemmas.List.{map-append, take-map}
use Rattle.std.proofs.lemmas.Slice.Eq.{bytes_eq-Decides}
use Rattle.world_meaning.specs.declared.article.Article.{Article}
use Rattle.world_meaning.specs.declared.article.Article.TheVariants as articles
use Rattle.world_meaning.specs.declared.place.Rel.{Rel}
use Rattle.world_meaning.specs.declared.place.Rel.TheVariants as relations
use Rattle.world_meaning.specs.declared.place.Place.{Place}
use Rattle.world_meaning.specs.declared.direction.Direction.{Direction}
use Rattle.world_meaning.specs.Directions.{all_directions, direction_name}
use Rattle.world_meaning.proofs.Ends.{walks_decide}
use Rattle.world_meaning.specs.Declarations.{is_below}
use Rattle.world_meaning.specs.Declarations.{suits_kind as object_suits}
use Rattle.world_meaning.specs.Sight.{is_in}
use Rattle.world_meaning.specs.Sorts.{is_at, sorts_of}
use Rattle.world_meaning.specs.Standing.{have_ends, lead_rightly}
use Rattle.world_meaning.specs.WellMade.{IsWellMade, are_directions, begin_rightly, has_no_article, has_right_exits, is_direction, is_player, kinds_of, places_of, stands_in_room}
use Rattle.world_meaning.specs.declared.declared.Declared.{Declared}
use Rattle.world_meaning.specs.declared.tale.Object.{Object}
use Rattle.object_words.specs.Mentions.{number_in}
use Rattle.code_table.specs.Origins.{Origin}
use Rattle.play_meaning.specs.Grammar.{Line}
use Rattle.play_meaning.specs.Rules.{Rule}
use Rattle.play_meaning.specs.Scripts.{Scene}
use Rattle.play_meaning.specs.StandardActions.{standard_needs}
use Rattle.command_grammar.specs.declared.synonym.Synonym.{Synonym}
use Rattle.object_words.proofs.StringLemmas.{length_mapped}
use Rattle.story_format.specs.declared.rule_tables.Book.{Book}
use Rattle.story_format.specs.declared.tables.Entry.{Entry}
use Rattle.story_format.specs.declared.tables.Tables.{Tables}
use Rattle.story_format.specs.Making.{Worded, worded, code_bytes, code_count, described_in, entry_strings, strings_behind, strings_of, article_number, place_relation, place_holder, entry_of, entries_of, line_entry, line_strings, texts_named, ways_of, tables_with, values_of, world_of}
use Rattle.world_meaning.specs.Relations.{relation_number}
use Rattle.story_format.specs.Counts.{counts_of}
use Rattle.story_format.specs.RuleChecks.{are_right_rules}
use Rattle.story_format.specs.ValueChecks.{are_right_values}
use Rattle.story_format.specs.RuleMaking.{book_count, codes_of_rules, rules_of, scene_entries}
use Rattle.story_format.specs.Holding.{has_first_noun, is_line_of, is_of, named_by, has_few_words}
use Rattle.story_format.specs.Placed.{is_room_entry, kinds_in, places_in}
use Rattle.story_format.specs.Checks.{are_named_in_order, strings_in_tables, codes_named, heads_named, is_named, is_small, is_player_entry, is_direction_entry, are_direction_entries, are_in_place, are_right_objects, are_right_ways, is_right_frame, stand_rightly, are_first_right, are_right}
use Rattle.story_format.proofs.StoryLemmas.{all_weaker, few_begin, parts, player_parts, direction_parts}
use Rattle.story_format.proofs.EntryLemmas.{kinds_back, objects_back, objects_in, places_back, rooms_counted, rooms_lead}
use Rattle.story_format.proofs.Known.{is_known, names_known as known_names, any_left, fold_finds}
use Rattle.story_format.proofs.MadeValues.{values_right}
use Rattle.story_format.proofs.OrderLemmas.{in_turn_in_order, numbers_named, strings_distinct, strings_in_order}
use Rattle.story_format.proofs.RuleLemmas.{AreRightBooks, codes_in_made, heads_by, heads_in_turn, origins_in, rule_tables_right}
use Rattle.story_format.proofs.SceneLemmas.{length_scenes, origins_in_scenes}
use Rattle.story_format.proofs.DeclaredLemmas.{all_suit, declared_parts, few_grants, few_kinds, world_right}
use Rattle.story_format.proofs.AboutRules.{named_of}
use Rattle.story_format.proofs.ActionLemmas.{length_actions}
use Rattle.story_format.proofs.GrammarLemmas.{lines_known, lines_named, lines_right}
use Rattle.story_format.proofs.TableWords.{all_known, all_once, all_small_words, all_words, knows, named_is, plain_from, small_entries}

-- ---- the entries are in place

pub entries_taken : (strings : List (List ℕ)) (n next : ℕ) (ws : List Worded) → take n (entries_of strings next ws) ≡ entries_of strings next (take n ws)
unfolding entries_of
entries_taken strings zero next ws = refl
entries_taken strings (suc n) next [] = refl
entries_taken strings (suc n) next (w ∷ ws) = ap (λ (es : List Entry). entry_of strings next w ∷ es) (entries_taken strings n (next + code_count w.object.description) ws)

pub entries_dropped : (strings : List (List ℕ)) (n next : ℕ) (ws : List Worded) → (later : ℕ) × (drop n (entries_of strings next ws) ≡ entries_of strings later (drop n ws))
unfolding entries_of
entries_dropped strings zero next ws = (next, refl)
entries_dropped strings (suc n) next [] = (next, refl)
entries_dropped strings (suc n) next (w ∷ ws) = entries_dropped strings n (next + code_count w.object.description) ws

pub entries_counted : (strings : List (List ℕ)) (next : ℕ) (ws : List Worded) → length (entries_of strings next ws) ≡ length ws
unfolding entries_of
entries_counted strings next [] = refl
entries_counted strings next (w ∷ ws) = ap suc (entries_counted strings (next + code_count w.object.description) ws)

no_article : (a : Article) → has_no_article a ≡ true → article_number a ≡ 0
no_article articles.None h = refl
no_article articles.A h = absurd cc
no_article articles.An h = absurd cc
no_article articles.Some h = absurd cc

nowhere : (p : Option Place) → is_none p ≡ true → (place_relation p ≡ 255) × (place_holder p ≡ 65535)
nowhere None h = (refl, refl)
nowhere (Some place) h = absurd cc

in_is_0 : (r : Rel) → is_in r ≡ true → relation_number r ≡ 0
in_is_0 relations.In h = refl
in_is_0 relations.On h = absurd cc
in_is_0 relations.Carried h = absurd cc
in_is_0 relations.Worn h = absurd cc
in_is_0 relations.Part h = absurd cc

in_room : (rooms : List Bool) (p : Option Place) → stands_in_room rooms p ≡ true → (place_relation p ≡ 0) × (is_at rooms (place_holder p) ≡ true)
in_room rooms None h = absurd cc
in_room rooms (Some place) h = let t = and_parts (is_in place.relation) (is_at rooms place.holder) h in (in_is_0 place.relation t.0, t.1)

known_as : (strings : List (List ℕ)) (name text : List ℕ) → bytes_eq name text ≡ true → is_known strings name ≡ true → length strings < 65535 → is_named strings (number_in strings name) text ≡ true
known_as strings name text e known few = ap (is_named strings (number_in strings name)) (sym ((bytes_eq-Decides name text).0 e)) ∙ named_is strings name known few

player_entry : (strings : List (List ℕ)) (parents : List (Option ℕ)) (rooms : List Bool) (next : ℕ) (w : Worded) → is_player parents rooms w.object ≡ true → is_known strings w.object.name ≡ true → length strings < 65535 → is_player_entry strings parents rooms (entry_of strings next w) ≡ true
unfolding is_player_entry entry_of
player_entry strings parents rooms next w h known few =
    let p = player_parts parents rooms w.object h in
    let place = in_room rooms w.object.place p.3 in
    rw (p.0, known_as strings w.object.name (codes "yourself") p.1 known few, no_article w.object.article p.2, place.0) place.1

direction_entry : (strings : List (List ℕ)) (parents : List (Option ℕ)) (next : ℕ) (d : Direction) (w : Worded) → is_direction parents d w.object ≡ true → is_known strings w.object.name ≡ true → length strings < 65535 → is_direction_entry strings parents d (entry_of strings next w) ≡ true
unfolding is_direction_entry entry_of
direction_entry strings parents next d w h known few =
    let p = direction_parts parents d w.object h in
    let place = nowhere w.object.place p.3 in
    rw (p.0, known_as strings w.object.name (direction_name d) p.1 known few, no_article w.object.article p.2, place.0, place.1) refl

abbrev pub knows_name : List (List ℕ) → Worded → Bool
knows_name strings w = is_known strings w.object.name

direction_entries : (strings : List (List ℕ)) (parents : List (Option ℕ)) (next : ℕ) (ds : List Direction) (ws : List Worded) → are_directions parents ds (objects_in ws) ≡ true → list_all (knows_name strings) ws ≡ true → length strings < 65535
    → are_direction_entries strings parents ds (entries_of strings next ws) ≡ true
unfolding are_direction_entries are_directions entries_of
direction_entries strings parents next [] [] h k few = refl
direction_entries strings parents next [] (w ∷ ws) h k few = absurd cc
direction_entries strings parents next (d ∷ ds) [] h k few = absurd cc
direction_entries strings parents next (d ∷ ds) (w ∷ ws) h k few =
    let t = and_parts (is_direction parents d w.object) (are_directions parents ds (objects_in ws)) h in
    let u = and_parts (knows_name strings w) (list_all (knows_name strings) ws) k in
    and_from (is_direction_entry strings parents d (entry_of strings next w)) (are_direction_entries strings parents ds (entries_of strings (next + code_count w.object.description) ws)) (direction_entry strings parents next d w t.0 u.0 few)
    (direction_entries strings parents (next + code_count w.object.description) ds ws t.1 u.1 few)

pub all_taken : {A : Type 0} (p : A → Bool) (n : ℕ) (xs : List A) → list_all p xs ≡ true → list_all p (take n xs) ≡ true
all_taken p zero xs h = refl
all_taken p (suc n) [] h = refl
all_taken p (suc n) (x ∷ xs) h = let t = and_parts (p x) (list_all p xs) h in and_from (p x) (list_all p (take n xs)) t.0 (all_taken p n xs t.1)

entries_in_place : (strings : List (List ℕ)) (parents : List (Option ℕ)) (rooms : List Bool) (ws : List Worded) → begin_rightly parents rooms (objects_in ws) ≡ true → list_all (knows_name strings) ws ≡ true → length strings < 65535
    → are_in_place strings parents rooms (entries_of strings 0 ws) ≡ true
unfolding are_in_place entries_of begin_rightly
entries_in_place strings parents rooms [] h k few = absurd cc
entries_in_place strings parents rooms (player ∷ others) h k few =
    let p = parts parents rooms player.object (objects_in others) h in
    let same : length (objects_in others) ≡ length others = length_mapped (λ (w : Worded). w.object) others in
    let u = and_parts (knows_name strings player) (list_all (knows_name strings) others) k in
    let next = 0 + code_count player.object.description in
    let many_others : leb 12 (length others) ≡ true = le-leb _ _ (omega (arith, p.many, same)) in
    let directions : are_directions parents all_directions (objects_in (take 12 others)) ≡ true = ap (are_directions parents all_directions) (sym (take-map (λ (w : Worded). w.object) 12 others)) ∙ p.directions in
    rw (
      entries_counted strings next others,
      many_others,
      player_entry strings parents rooms 0 player p.player u.0 few,
      entries_taken strings 12 next others,
    ) (direction_entries strings parents next all_directions (take 12 others) directions (all_taken (knows_name strings) 12 others u.1) few)

-- ---- all of it

names_known : (strings : List (List ℕ)) (ws : List Worded) → list_all (knows strings) ws ≡ true → list_all (knows_name strings) ws ≡ true
unfolding entry_strings
names_known strings ws h = all_weaker (knows strings) (knows_name strings) (λ w k. (and_parts (is_known strings w.object.name) (list_all (is_known strings) w.words) k).0) ws h

pub entry_strings_known : (ws : List Worded) (lines : List Line) (behind : List (List ℕ)) (text : List ℕ) → list_any (bytes_eq text) (flat_map entry_strings ws) ≡ true → is_known (strings_of (texts_named ws lines) behind) text ≡ true
unfolding strings_of texts_named
entry_strings_known ws lines behind text k =
    let entries = flat_map entry_strings ws in
    fold_finds (texts_named ws lines ++ behind) [] text (any_left (bytes_eq text) (texts_named ws lines) behind (any_left (bytes_eq text) entries (flat_map line_strings lines) k))

-- what holds of a well made tale's objects holds of its entries
kinds_of_world : (d : Declared) → (world_of d).kinds ≡ d.kinds
unfolding world_of
kinds_of_world d = refl

-- ---- how many there are

module _ (d : Declared) (books : List Book) (ws : List Worded) (lines : List Line) (rules : List Rule) (scenes : List Scene) (said : List Origin) where
  abbrev strings : List (List ℕ)
  strings = strings_of (texts_named ws lines) (strings_behind d said)

  abbrev tables : Tables
  tables = tables_with d books ws lines rules scenes said

  books_counted : length books ≡ book_count d → length d.scenes ≤ 50 → d.rulebooks ≤ 100 → (counts_of tables).books ≡ book_count d
  unfolding counts_of tables_with rules_of
  books_counted count few few_own = omega (arith, count, few, few_own)

  actions_counted : length d.actions ≤ 184 → (counts_of tables).actions ≡ 16 + length d.actions
  unfolding counts_of tables_with rules_of
  actions_counted few = omega (arith, length_actions d.actions, few)

  strings_counted : length strings < 65535 → (counts_of tables).strings ≡ length strings
  unfolding counts_of tables_with
  strings_counted few = omega (arith, few)

  names_counted : (objects : ℕ) → length scenes ≡ length d.scenes → length books ≡ book_count d → length ws ≡ objects → objects ≤ 1000 → length d.kinds ≤ 100 → length d.flags ≤ 100 → length d.scenes ≤ 50 → d.rulebooks ≤ 100 → length d.actions ≤ 184
      → named_of (counts_of tables) ≡ named_by d objects
  unfolding counts_of tables_with rules_of world_of
  names_counted objects same many count few_objects few_of_kinds few_of_flags few_scenes few_own few_actions =
      let of_objects : min (length (entries_of strings 0 ws)) 65535 ≡ objects = omega (arith, entries_counted strings 0 ws, count, few_objects) in
      let of_kinds : min (length d.kinds) 65535 ≡ length d.kinds = omega (arith, few_of_kinds) in
      let of_flags : min (length d.flags) 65535 ≡ length d.flags = omega (arith, few_of_flags) in
      let of_scenes : min (length (scene_entries (described_in ws + codes_of_rules rules) scenes)) 65535 ≡ length d.scenes = omega (arith, length_scenes scenes (described_in ws + codes_of_rules rules), same, few_scenes) in
      let of_books : min (length books) 65535 ≡ book_count d = omega (arith, many, few_scenes, few_own) in
      λ i. record { books = of_books i; objects = of_objects i; kinds = of_kinds i; flags = of_flags i; scenes = of_scenes i; actions = actions_counted few_actions i }

  codes_counted : length (code_bytes strings said) < 65536 → (counts_of tables).codes ≡ length (code_bytes strings said)
  unfolding counts_of tables_with
  codes_counted few = omega (arith, few)

  heads_told : are_named_in_order 0 (heads_by strings ws rules scenes) ≡ true → are_named_in_order 0 (heads_named tables) ≡ true
  unfolding tables_with rules_of
  heads_told h =
      ap (λ codes. are_named_in_order 0 (codes_named (entries_of strings 0 ws) ++ codes)) (codes_in_made d (map (line_entry strings) lines) books rules scenes (described_in ws)) ∙ h

  -- the strings that tables 6 and 9 name are those that are named, by number
  pub texts_told : length strings < 65535 → strings_in_tables tables ≡ map (number_in strings) (texts_named ws lines)
  unfolding tables_with rules_of strings_in_tables texts_named
  texts_told few =
      (λ i. numbers_named strings 0 ws i ++ lines_named strings lines (lines_known ws lines (strings_behind d said)) few i) ∙ sym (map-append (number_in strings) (flat_map entry_strings ws) (flat_map line_strings lines))

pub tables_right : (d : Declared) (books : List Book) (synonyms : List Synonym) (objects : List Object) (lines : List Line) (rules : List Rule) (scenes : List Scene) (said : List Origin)
    → length scenes ≡ length d.scenes → IsWellMade (record { declared = d; objects = objects }) → list_all (λ synonym. is_small synonym.word) synonyms ≡ true → list_all has_few_words (worded synonyms objects) ≡ true
    → length lines ≤ 65535 → list_all (is_line_of (standard_needs ++ d.actions)) lines ≡ true
    → length d.actions ≤ 184 → list_all has_first_noun d.actions ≡ true → length rules ≤ 1939 → AreRightBooks d books (61 + length rules) → list_all (is_of (named_by d (length objects))) rules ≡ true
    → length (strings_of (texts_named (worded synonyms objects) lines) (strings_behind d said)) < 65535 → length (code_bytes (strings_of (texts_named (worded synonyms objects) lines) (strings_behind d said)) said) < 65536
    → described_in (worded synonyms objects) + (length (origins_in rules) + length (origins_in_scenes scenes)) ≤ length (code_bytes (strings_of (texts_named (worded synonyms objects) lines) (strings_behind d said)) said)
    → are_right (tables_with d books (worded synonyms objects) lines rules scenes said) ≡ true
unfolding are_right are_first_right is_right_frame are_right_objects stand_rightly are_right_ways are_right_values tables_with values_of are_named_in_order strings_in_tables
tables_right d books synonyms objects lines rules scenes said same made small_synonyms few_words few_lines lines_of few_actions nouns few_rules known_books named few few_codes enough =
    let ws = worded synonyms objects in
    let strings = strings_of (texts_named ws lines) (strings_behind d said) in
    let entries = map (line_entry strings) lines in
    let back : objects_in ws ≡ objects = objects_back synonyms 0 objects in
    let count : length ws ≡ length objects = sym (length_mapped (λ (w : Worded). w.object) ws) ∙ ap length back in
    let parents = d.kinds in
    let sorts = sorts_of parents (kinds_of objects) in
    let few_objects = few_begin parents sorts.rooms objects made.begins in
    let z = counts_of (tables_with d books ws lines rules scenes said) in
    let declared = declared_parts d made.declared in
    let all_codes = codes_counted d books ws lines rules scenes said few_codes in
    let built_in : 8 ≤ z.books = omega (arith, books_counted d books ws lines rules scenes said known_books.count_is declared.scenes declared.rulebooks) in
    let lines_so = lines_right z strings d.actions lines (strings_counted d books ws lines rules scenes said few) few few_lines (lines_known ws lines (strings_behind d said)) lines_of in
    let rules_so : are_right_rules z (rules_of d entries books (described_in ws) rules scenes) ≡ true =
    rule_tables_right d entries books z rules scenes (described_in ws) same declared.scenes declared.rulebooks few_rules known_books few_actions nouns lines_so (omega (arith, actions_counted d books ws lines rules scenes said few_actions)) built_in (ap (λ n. list_all (is_of n) rules) (names_counted d books ws lines rules scenes said (length objects) same known_books.count_is count few_objects (few_kinds d.kinds declared.kinds) (few_grants (length d.kinds) d.flags declared.flags) declared.scenes declared.rulebooks few_actions) ∙ named) (omega (arith, enough, all_codes)) (omega (arith, few_codes, all_codes)) in
    let order : are_named_in_order 0 (heads_named (tables_with d books ws lines rules scenes said)) ≡ true =
    heads_told d books ws lines rules scenes said (in_turn_in_order (heads_by strings ws rules scenes) 0 (heads_in_turn strings ws rules scenes (omega (arith, few_objects, count)) (omega (arith, enough, few_codes)))) in
    let texts : are_named_in_order 0 (strings_in_tables (tables_with d books ws lines rules scenes said)) ≡ true =
    ap (are_named_in_order 0) (texts_told d books ws lines rules scenes said few) ∙ strings_in_order (texts_named ws lines) (strings_behind d said) few in
    let entry_count : leb (length (entries_of strings 0 ws)) 1000 ≡ true = le-leb _ _ (omega (arith, few_objects, count, entries_counted strings 0 ws)) in
    let few_strings : ltb (length strings) 65535 ≡ true = lt-ltb _ _ few in
    let known = all_known strings ws (entry_strings_known ws lines (strings_behind d said)) in
    let kinds : kinds_in (entries_of strings 0 ws) ≡ kinds_of objects = kinds_back strings 0 ws ∙ ap kinds_of back in
    let places : places_in (entries_of strings 0 ws) ≡ places_of objects = places_back strings 0 ws ∙ ap places_of back in
    let plain = plain_from strings ws 0 (length parents) (length (code_bytes strings said)) (omega (arith, enough)) (omega (arith, few_objects, count)) (all_once strings synonyms objects 0 known few_words few) (ap (λ (os : List Object). list_all (is_below (length parents)) (kinds_of os)) back ∙ made.kinds) in
    let in_place = entries_in_place strings parents sorts.rooms ws (ap (begin_rightly parents sorts.rooms) back ∙ made.begins) (names_known strings ws known) few in
    let words = all_words strings synonyms objects 0 0 known few in
    let small = small_entries strings ws 0 known (all_small_words synonyms 0 objects small_synonyms) few in
    let counted : eqb (length (flat_map (ways_of parents) ws)) (count_by (is_room_entry parents) (entries_of strings 0 ws)) ≡ true = eq-eqb _ _ (rooms_counted parents strings ws 0) in
    let lead : list_all (lead_rightly sorts) (flat_map (ways_of parents) ws) ≡ true = rooms_lead parents sorts ws (ap (list_all (has_right_exits parents sorts)) back ∙ made.exits) in
    let suit = all_suit d strings synonyms objects 0 0 made.suited in
    let values = values_right d strings ws declared.values (known_names (texts_named ws lines) d said) few (ap (list_all (object_suits d)) back ∙ made.suited) in
    let ends : have_ends (places_of objects) ≡ true = (walks_decide (places_of objects)).1 made.tree in
    rw (
      world_right d made.declared,
      rules_so,
      entry_count,
      few_strings,
      strings_distinct (texts_named ws lines) (strings_behind d said),
      suit,
      kinds_of_world d,
      kinds,
      places,
      plain,
      in_place,
      words,
      small,
      texts,
      order,
      made.placed,
      ends,
      counted,
      lead,
    ) values
