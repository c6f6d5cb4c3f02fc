-- A story file says descriptions that say bytes alone, where there is no rule and nothing begins or ends a scene.
use Rattle.std.proofs.Common.{◌≡◌, ◌∙◌, ap, sym, refl, subst, Bool, ◌++◌, ℕ, suc, ◌+◌, ◌*◌, ◌<◌, ◌≤◌, leb, true, List, [], ◌∷◌, length, arith}
use Rattle.std.specs.Prelude.{map}
use Rattle.std.specs.List.{AllByRecursion, flat_map, list_all}
use Rattle.std.proofs.lemmas.Bool.{leb-true, lt-ltb, and_from, and_parts}
use Rattle.std.proofs.lemmas.List.Folds.{list_all-append}
use Rattle.std.proofs.lemmas.List.{length-append, length-map}
use Rattle.world_meaning.specs.Declarations.{is_right_value_kind}
use Rattle.world_meaning.specs.declared.declared.ValueKind.{ValueKind}
use Rattle.world_meaning.specs.declared.tale.Tale.{Tale}
use Rattle.object_words.specs.Mentions.{number_in}
use Rattle.play_meaning.specs.StandardGrammar.{standard_lines}
use Rattle.play_meaning.specs.StandardRules.{plain}
use Rattle.play_meaning.specs.TranslatedScripts.{emitted_in_turn}
use Rattle.play_meaning.specs.Translation.{Emitted, seq, text_part}
use Rattle.play_meaning.specs.declared.operand.Counts.{Counts}
use Rattle.code_table.specs.Emitted.{AllFit, CanBeSaid}
use Rattle.code_table.specs.Origins.{Describes, Origin, origins_of, origins_of_scene, part_of}
use Rattle.story_code.specs.Emitting.{can_say_all}
use Rattle.story_format.specs.Codes.{counts_of, small}
use Rattle.story_format.specs.Contents.{origins_said}
use Rattle.story_format.specs.Holding.{IsHeld, PlainTextsAreHeld, counts_in, has_short_texts, idle_scene, is_short, plain_contents}
use Rattle.story_format.specs.Making.{codes_in, names_of_values, strings_behind, strings_of, strings_said, tables_with, texts_named, worded}
use Rattle.story_format.proofs.DeclaredLemmas.{declared_parts}
use Rattle.story_format.proofs.MadeValues.{value_parts}
use Rattle.story_format.proofs.EntryLemmas.{objects_back, objects_in}
use Rattle.story_format.proofs.Fits.{all_good_words, few_strings, strings_short}
use Rattle.story_format.proofs.GrammarLemmas.{standard_short, standard_words, within}
use Rattle.story_format.proofs.Known.{is_known, number_small, said_known}
use Rattle.story_format.proofs.OrderLemmas.{codes_few}
use Rattle.story_format.proofs.Stories.{few_objects}

-- ---- texts that say bytes

abbrev Plain : List (List ℕ) → List Origin
Plain xs = origins_of (map plain xs) [] []

strings_plain : (xs : List (List ℕ)) → strings_said (Plain xs) ≡ xs
strings_plain [] = refl
strings_plain (x ∷ xs) = ap (λ l. x ∷ l) (strings_plain xs)

module _ (string : List ℕ → ℕ) where
  fit_plain : (z : Counts) (xs : List (List ℕ)) → AllByRecursion (λ x. string x < z.strings) xs → AllFit z string (Plain xs)
  fit_plain z [] there = tt
  fit_plain z (x ∷ xs) there = (λ own codes. (there.0, tt), fit_plain z xs there.1)

  abbrev Emitted_from : ℕ → List (List ℕ) → List Emitted
  Emitted_from first xs = emitted_in_turn first (map (part_of string) (Plain xs))

  said_plain : (first : ℕ) (xs : List (List ℕ)) → ((x : List ℕ) → string x < 65536) → AllByRecursion (λ e. can_say_all e ≡ true) (Emitted_from first xs)
  unfolding can_say_all seq text_part
  said_plain first [] small = tt
  said_plain first (x ∷ xs) small = (rw (lt-ltb (string x) 65536 (small x)) refl, said_plain (first + 0) xs small)

  none_tested : (first : ℕ) (xs : List (List ℕ)) → flat_map (λ e. e.tests) (Emitted_from first xs) ≡ []
  unfolding seq text_part
  none_tested first [] = refl
  none_tested first (x ∷ xs) = none_tested (first + 0) xs

  one_code : (first : ℕ) (xs : List (List ℕ)) → length (map (λ e. e.code) (Emitted_from first xs)) ≡ length xs
  unfolding seq text_part
  one_code first [] = refl
  one_code first (x ∷ xs) = ap suc (one_code (first + 0) xs)

  can_be_said : (xs : List (List ℕ)) → ((x : List ℕ) → string x < 65536) → length xs ≤ 1000 → CanBeSaid string (Plain xs)
  can_be_said xs small few =
      let first = length (Plain xs) in
      record {
        each = said_plain first xs small;
        few = omega (arith, few, one_code first xs, ap length (none_tested first xs), length-append (map (λ e. e.code) (Emitted_from first xs)) (flat_map (λ e. e.tests) (Emitted_from first xs)));
      }

-- ---- scenes that nothing begins or ends

none_asked : (scenes : List Bool) → flat_map origins_of_scene (map idle_scene scenes) ≡ []
none_asked [] = refl
none_asked (recurs ∷ scenes) = none_asked scenes

idle_recur : (scenes : List Bool) → map (λ scene. scene.recurs) (map idle_scene scenes) ≡ scenes
idle_recur [] = refl
idle_recur (recurs ∷ scenes) = ap (λ more. recurs ∷ more) (idle_recur scenes)

-- ---- numbers

named_small : (strings : List (List ℕ)) (x : List ℕ) → number_in strings x < 65536
unfolding number_in
named_small strings x = number_small _

all_within : (strings xs : List (List ℕ)) (count : ℕ) → count ≡ length strings → list_all (is_known strings) xs ≡ true → length strings < 65535 → AllByRecursion (λ x. number_in strings x < count) xs
all_within strings [] count is known few = tt
all_within strings (x ∷ xs) count is known few =
    let t = and_parts (is_known strings x) (list_all (is_known strings) xs) known in
    (omega (arith, within strings x t.0 few, is), all_within strings xs count is t.1 few)

-- ---- names of values

names_few : (kinds : ℕ) (values : List ValueKind) → list_all (is_right_value_kind kinds) values ≡ true → length (names_of_values values) ≤ 100 * length values
names_few kinds [] h = omega arith
names_few kinds (q ∷ values) h =
    let t = and_parts (is_right_value_kind kinds q) (list_all (is_right_value_kind kinds) values) h in
    let le : length q.names ≤ 100 = leb-true _ _ (value_parts kinds q t.0).2 in
    omega (arith, le, names_few kinds values t.1, length-append q.names (names_of_values values))

few_names : (t : Tale) → IsHeld t → length (names_of_values t.declared.values) ≤ 10000
few_names t held =
    let d = t.declared in
    let p = and_parts (leb (length d.values) 100) (list_all (is_right_value_kind (length d.kinds)) d.values) (declared_parts d held.made.declared).values in
    omega (arith, leb-true _ _ p.0, names_few (length d.kinds) d.values p.1)

-- ---- all of it

pub plain_held : PlainTextsAreHeld
unfolding tables_with counts_of
plain_held t xs held few_words few_actions nouns names many short =
    let ws = worded [] t.objects in
    let named = texts_named ws standard_lines in
    let texts = map plain xs in
    let none : origins_said (plain_contents t xs) ≡ Plain xs = ap (λ asked. map Describes texts ++ asked) (none_asked t.declared.scenes) in
    let origins = origins_said (plain_contents t xs) in
    let said : strings_said origins ≡ xs = ap strings_said none ∙ strings_plain xs in
    let behind = strings_behind t.declared origins in
    let values = names_of_values t.declared.values in
    let strings = strings_of named behind in
    let le = few_objects [] t held in
    let back : codes_in (objects_in ws) ≡ codes_in t.objects = ap codes_in (objects_back [] 0 t.objects) in
    let few_codes = codes_few ws in
    let few_bytes : length xs ≤ 1000 = omega (arith, many, back, few_codes, le) in
    let few : length strings < 65535 = omega (arith, few_strings ws standard_lines behind few_words, standard_words, ap length said, length-append (strings_said origins) values, few_names t held, few_bytes, le) in
    let known : list_all (is_known strings) xs ≡ true = ap (list_all (is_known strings)) (sym said) ∙ said_known named t.declared origins in
    record {
      are_of = record { many = length-map xs plain ∙ many; few = omega arith; named = refl; scenes = idle_recur t.declared.scenes; few_actions = few_actions; first_nouns = nouns; few_lines = omega arith; lines = refl; small = refl; few_words = few_words };
      short = strings_short ws standard_lines behind (ap (list_all has_short_texts) (objects_back [] 0 t.objects) ∙ held.texts) (all_good_words 0 t.objects held.texts) standard_short
          (list_all-append is_short (strings_said origins) values ∙ and_from (list_all is_short (strings_said origins)) (list_all is_short values) (ap (list_all is_short) said ∙ short) names);
      few = few;
      fit = subst (λ os. AllFit (counts_in t (plain_contents t xs)) (number_in strings) os) (sym none) (fit_plain (number_in strings) (counts_in t (plain_contents t xs)) xs (all_within strings xs (small (length strings)) (omega (arith, few)) known few));
      said = subst (CanBeSaid (number_in strings)) (sym none) (can_be_said (number_in strings) xs (named_small strings) few_bytes);
    }
