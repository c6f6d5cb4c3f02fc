-- The tables' entries are plain, and their words known, in small letters and each there once.
use Rattle.std.proofs.Common.{◌≡◌, ℕ, ◌+◌, ◌<◌, ◌≤◌, Bool, true, false, not, ◌&&◌, ◌||◌, ltb, leb, eqb, List, [], ◌∷◌, ◌++◌, length, map, Option, Some, None, refl, sym, ap, ◌∙◌, arith, inl, inr}
use Rattle.std.specs.Prelude.{min, slice_get}
use Rattle.std.specs.List.{list_any, list_all, flat_map}
use Rattle.std.specs.Str.{bytes_eq}
use Rattle.std.specs.Option.{option_map}
use Rattle.std.proofs.lemmas.Bool.{lt-ltb, ne_eqb, or_right, cases_Bool, and_from, and_parts, not-true}
use Rattle.std.proofs.lemmas.Option.{slice_get-map, get_or_from_slice_get, same_Some}
use Rattle.std.proofs.lemmas.Slice.Eq.{bytes_eq-Decides}
use Rattle.world_meaning.specs.declared.article.Article.{Article}
use Rattle.world_meaning.specs.declared.article.Article.TheVariants as articles
use Rattle.world_meaning.specs.Declarations.{is_among, is_below}
use Rattle.world_meaning.specs.WellMade.{kinds_of}
use Rattle.world_meaning.specs.declared.tale.Object.{Object}
use Rattle.object_words.specs.Mentions.{number_in}
use Rattle.object_words.specs.Words.{words_for}
use Rattle.command_grammar.specs.Synonyms.{words_said}
use Rattle.command_grammar.specs.declared.synonym.Synonym.{Synonym}
use Rattle.object_words.proofs.StringLemmas.{length_mapped}
use Rattle.story_format.specs.declared.row.Sizes.{Sizes}
use Rattle.story_format.specs.Making.{Worded, worded_at, worded_from, code_count, codes_in, entry_strings, article_number, code_number, entry_of, entries_of}
use Rattle.story_format.specs.Holding.{has_few_words}
use Rattle.story_format.specs.Sizes.{are_different, is_right_entry}
use Rattle.story_format.specs.Checks.{is_named, begin_with, has_words, have_words, is_small, is_small_at, has_small_words}
use Rattle.story_format.proofs.EntryLemmas.{objects_in, place_there}
use Rattle.story_format.proofs.Known.{text_is_itself, found_by_number, is_known, texts_known, any_left, any_right}
use Rattle.story_format.proofs.OrderLemmas.{at_most_one}
use Rattle.story_format.proofs.WordFacts.{differ, said_differ, said_front, said_small}

-- ---- each entry is plain

article_small : (a : Article) → leb (article_number a) 3 ≡ true
article_small articles.None = refl
article_small articles.A = refl
article_small articles.An = refl
article_small articles.Some = refl

code_there : (next count : ℕ) (d : Option (List ℕ)) → next + code_count d ≤ count → next < 65535 → ((eqb (code_number next d) 65535) || ltb (code_number next d) count) ≡ true
code_there next count None le lt = refl
code_there next count (Some text) le lt =
    let number : min next 65535 ≡ next = omega (arith, le, lt) in
    let there : ltb next count ≡ true = lt-ltb _ _ (omega (arith, le)) in
    rw number (or_right (eqb next 65535) (ltb next count) there)

plain_entry : (strings : List (List ℕ)) (next n count : ℕ) (w : Worded) → next + code_count w.object.description ≤ count → next < 65535 → has_few_words w ≡ true → are_different (map (number_in strings) w.words) ≡ true → is_below n w.object.kind ≡ true
    → is_right_entry (record { kinds = n; codes = count }) (entry_of strings next w) ≡ true
unfolding is_right_entry entry_of
plain_entry strings next n count w le lt few once kind =
    rw (kind, article_small w.object.article, code_there next count w.object.description le lt, length_mapped (number_in strings) w.words, few, once) (place_there w.object.place)

abbrev pub words_once : List (List ℕ) → Worded → Bool
words_once strings w = has_few_words w && are_different (map (number_in strings) w.words)

pub plain_from : (strings : List (List ℕ)) (ws : List Worded) (next n count : ℕ) → next + codes_in (objects_in ws) ≤ count → next + length ws < 65535 → list_all (words_once strings) ws ≡ true → list_all (is_below n) (kinds_of (objects_in ws)) ≡ true
    → list_all (is_right_entry (record { kinds = n; codes = count })) (entries_of strings next ws) ≡ true
unfolding entries_of
plain_from strings [] next n count le lt h kinds = refl
plain_from strings (w ∷ ws) next n count le lt h kinds =
    let bound = at_most_one w.object.description in
    let sizes : Sizes = record { kinds = n; codes = count } in
    let t = and_parts (words_once strings w) (list_all (words_once strings) ws) h in
    let u = and_parts (has_few_words w) (are_different (map (number_in strings) w.words)) t.0 in
    let v = and_parts (is_below n w.object.kind) (list_all (is_below n) (kinds_of (objects_in ws))) kinds in
    and_from (is_right_entry sizes (entry_of strings next w)) (list_all (is_right_entry sizes) (entries_of strings (next + code_count w.object.description) ws))
    (plain_entry strings next n count w (omega (arith, le)) (omega (arith, lt)) u.0 u.1 v.0) (plain_from strings ws (next + code_count w.object.description) n count (omega (arith, le)) (omega (arith, lt, bound)) t.1 v.1)

-- ---- words

pub named_is : (strings : List (List ℕ)) (x : List ℕ) → is_known strings x ≡ true → length strings < 65535 → is_named strings (number_in strings x) x ≡ true
unfolding is_named
named_is strings x h few = rw ((found_by_number strings x h few).1) (text_is_itself x)

all_named : (strings texts more : List (List ℕ)) → list_all (is_known strings) (texts ++ more) ≡ true → length strings < 65535 → begin_with strings (map (number_in strings) (texts ++ more)) texts ≡ true
unfolding begin_with
all_named strings [] more h few = refl
all_named strings (x ∷ texts) more h few =
    let t = and_parts (is_known strings x) (list_all (is_known strings) (texts ++ more)) h in
    and_from (is_named strings (number_in strings x) x) (begin_with strings (map (number_in strings) (texts ++ more)) texts) (named_is strings x t.0 few) (all_named strings texts more t.1 few)

-- what an entry names is known
abbrev pub knows : List (List ℕ) → Worded → Bool
knows strings w = list_all (is_known strings) (entry_strings w)

pub all_known : (strings : List (List ℕ)) (ws : List Worded) → ((text : List ℕ) → list_any (bytes_eq text) (flat_map entry_strings ws) ≡ true → is_known strings text ≡ true) → list_all (knows strings) ws ≡ true
all_known strings [] f = refl
all_known strings (w ∷ ws) f =
    let known = texts_known strings (entry_strings w) (λ text k. f text (any_left (bytes_eq text) (entry_strings w) (flat_map entry_strings ws) k)) in
    and_from (knows strings w) (list_all (knows strings) ws) known (all_known strings ws (λ text k. f text (any_right (bytes_eq text) (entry_strings w) (flat_map entry_strings ws) k)))

words_of_entry : (strings : List (List ℕ)) (synonyms : List Synonym) (o next : ℕ) (object : Object) → knows strings (worded_at synonyms o object) ≡ true → length strings < 65535 → has_words strings o (entry_of strings next (worded_at synonyms o object)) ≡ true
unfolding has_words entry_of entry_strings
words_of_entry strings synonyms o next object h few =
    let more = said_front synonyms o object.name in
    let t = and_parts (is_known strings object.name) (list_all (is_known strings) (words_said synonyms o object.name)) h in
    let known = ap (list_all (is_known strings)) (sym more.1) ∙ t.1 in
    let front : begin_with strings (map (number_in strings) (words_for o object.name ++ more.0)) (words_for o object.name) ≡ true = all_named strings (words_for o object.name) more.0 known few in
    rw (found_by_number strings object.name t.0 few).1 (ap (λ words. begin_with strings (map (number_in strings) words) (words_for o object.name)) more.1 ∙ front)

pub all_words : (strings : List (List ℕ)) (synonyms : List Synonym) (objects : List Object) (o next : ℕ) → list_all (knows strings) (worded_from synonyms o objects) ≡ true → length strings < 65535 → have_words strings o (entries_of strings next (worded_from synonyms o objects)) ≡ true
unfolding entries_of have_words
all_words strings synonyms [] o next h few = refl
all_words strings synonyms (object ∷ objects) o next h few =
    let w = worded_at synonyms o object in
    let t = and_parts (knows strings w) (list_all (knows strings) (worded_from synonyms (o + 1) objects)) h in
    and_from (has_words strings o (entry_of strings next w)) (have_words strings (o + 1) (entries_of strings (next + code_count w.object.description) (worded_from synonyms (o + 1) objects))) (words_of_entry strings synonyms o next object t.0 few)
    (all_words strings synonyms objects (o + 1) (next + code_count w.object.description) t.1 few)

-- ---- words in small letters

small_named : (strings : List (List ℕ)) (x : List ℕ) → is_known strings x ≡ true → length strings < 65535 → is_small x ≡ true → is_small_at (map is_small strings) (number_in strings x) ≡ true
small_named strings x h few small =
    let there : slice_get (map is_small strings) (number_in strings x) ≡ Some (is_small x) = slice_get-map is_small strings (number_in strings x) ∙ ap (λ (o : Option (List ℕ)). option_map is_small o) (found_by_number strings x h few).1 in
    get_or_from_slice_get (map is_small strings) (number_in strings x) (is_small x) false there ∙ small

all_small_named : (strings texts : List (List ℕ)) → list_all (is_known strings) texts ≡ true → length strings < 65535 → list_all is_small texts ≡ true → list_all (is_small_at (map is_small strings)) (map (number_in strings) texts) ≡ true
all_small_named strings [] h few good = refl
all_small_named strings (x ∷ texts) h few good =
    let t = and_parts (is_known strings x) (list_all (is_known strings) texts) h in
    let u = and_parts (is_small x) (list_all is_small texts) good in
    and_from (is_small_at (map is_small strings) (number_in strings x)) (list_all (is_small_at (map is_small strings)) (map (number_in strings) texts)) (small_named strings x t.0 few u.0)
    (all_small_named strings texts t.1 few u.1)

abbrev pub small_words : Worded → Bool
small_words w = list_all is_small w.words

pub all_small_words : (synonyms : List Synonym) (o : ℕ) (objects : List Object) → list_all (λ synonym. is_small synonym.word) synonyms ≡ true → list_all small_words (worded_from synonyms o objects) ≡ true
all_small_words synonyms o [] h = refl
all_small_words synonyms o (object ∷ objects) h =
    and_from (list_all is_small (words_said synonyms o object.name)) (list_all small_words (worded_from synonyms (o + 1) objects)) (said_small synonyms o object.name h) (all_small_words synonyms (o + 1) objects h)

pub small_entries : (strings : List (List ℕ)) (ws : List Worded) (next : ℕ) → list_all (knows strings) ws ≡ true → list_all small_words ws ≡ true → length strings < 65535 → list_all (has_small_words (map is_small strings)) (entries_of strings next ws) ≡ true
unfolding entries_of entry_of entry_strings
small_entries strings [] next h good few = refl
small_entries strings (w ∷ ws) next h good few =
    let small = map is_small strings in
    let t = and_parts (knows strings w) (list_all (knows strings) ws) h in
    let k = and_parts (is_known strings w.object.name) (list_all (is_known strings) w.words) t.0 in
    let u = and_parts (small_words w) (list_all small_words ws) good in
    and_from (has_small_words small (entry_of strings next w)) (list_all (has_small_words small) (entries_of strings (next + code_count w.object.description) ws)) (all_small_named strings w.words k.1 few u.0)
    (small_entries strings ws (next + code_count w.object.description) t.1 u.1 few)

-- ---- each word once

same_number : (strings : List (List ℕ)) (x y : List ℕ) → is_known strings x ≡ true → is_known strings y ≡ true → length strings < 65535 → number_in strings x ≡ number_in strings y → x ≡ y
same_number strings x y h k few e = same_Some x y (sym (found_by_number strings x h few).1 ∙ ap (slice_get strings) e ∙ (found_by_number strings y k few).1)

not_among : (strings : List (List ℕ)) (x : List ℕ) (xs : List (List ℕ)) → is_known strings x ≡ true → list_all (is_known strings) xs ≡ true → length strings < 65535 → list_any (bytes_eq x) xs ≡ false → is_among (number_in strings x) (map (number_in strings) xs) ≡ false
not_among strings x [] h k few e = refl
not_among strings x (y ∷ xs) h k few e =
    let t = and_parts (is_known strings y) (list_all (is_known strings) xs) k in
    elim (cases_Bool (bytes_eq x y)) [
      | inl is ↦ let z : true ≡ false = rw is at e in absurd cc
      | inr isnt ↦
          let later : list_any (bytes_eq x) xs ≡ false = rw isnt at e in
          let apart : eqb (number_in strings x) (number_in strings y) ≡ false = ne_eqb _ _ (λ same. let z : false ≡ true = sym isnt ∙ (bytes_eq-Decides x y).1 (same_number strings x y h t.0 few same) in absurd cc) in
          rw apart (not_among strings x xs h t.1 few later)
    ]

numbers_differ : (strings xs : List (List ℕ)) → list_all (is_known strings) xs ≡ true → length strings < 65535 → differ xs ≡ true → are_different (map (number_in strings) xs) ≡ true
unfolding are_different
numbers_differ strings [] h few e = refl
numbers_differ strings (x ∷ xs) h few e =
    let t = and_parts (is_known strings x) (list_all (is_known strings) xs) h in
    let u = and_parts (not (list_any (bytes_eq x) xs)) (differ xs) e in
    and_from (not (is_among (number_in strings x) (map (number_in strings) xs))) (are_different (map (number_in strings) xs)) (ap not (not_among strings x xs t.0 t.1 few (not-true (list_any (bytes_eq x) xs) u.0))) (numbers_differ strings xs t.1 few u.1)

pub all_once : (strings : List (List ℕ)) (synonyms : List Synonym) (objects : List Object) (o : ℕ) → list_all (knows strings) (worded_from synonyms o objects) ≡ true → list_all has_few_words (worded_from synonyms o objects) ≡ true → length strings < 65535 → list_all (words_once strings) (worded_from synonyms o objects) ≡ true
unfolding entry_strings
all_once strings synonyms [] o h k few = refl
all_once strings synonyms (object ∷ objects) o h k few =
    let w = worded_at synonyms o object in
    let t = and_parts (knows strings w) (list_all (knows strings) (worded_from synonyms (o + 1) objects)) h in
    let n = and_parts (is_known strings object.name) (list_all (is_known strings) w.words) t.0 in
    let u = and_parts (has_few_words w) (list_all has_few_words (worded_from synonyms (o + 1) objects)) k in
    and_from (words_once strings w) (list_all (words_once strings) (worded_from synonyms (o + 1) objects)) (and_from (has_few_words w) (are_different (map (number_in strings) w.words)) u.0 (numbers_differ strings w.words n.1 few (said_differ synonyms o object.name)))
    (all_once strings synonyms objects (o + 1) t.1 u.1 few)
