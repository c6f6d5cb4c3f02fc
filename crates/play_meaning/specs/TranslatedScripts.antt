-- The codes of a tale: those of descriptions by object, of conditions and bodies by rule, of beginnings and ends by
-- scene; behind these the tests that they name. Strings stand as they are said, one as often as it is; a story file numbers
-- them anew.
use Rattle.std.specs.Prelude.{ℕ, ◌+◌, max, nat_lt, Bool, List, [], ◌∷◌, ◌++◌, length, map, fold, Option, None, Some, if◌then◌else◌}
use Rattle.std.specs.List.{flat_map, position_or_len, range_with_len}
use Rattle.std.specs.Option.{option_map}
use Rattle.std.specs.Str.{bytes_eq}
use Rattle.play_meaning.specs.CodedStories.{Coded, CodedRule, CodedScene, CodedStory, RuleBody, Standard}
use Rattle.play_meaning.specs.Codes.{Codes}
use Rattle.play_meaning.specs.Instructions.{Answer, Done, Instruction}
use Rattle.play_meaning.specs.Order.{book_of}
use Rattle.play_meaning.specs.Rules.{Rule}
use Rattle.play_meaning.specs.Scripts.{Scene, Script}
use Rattle.play_meaning.specs.Settings.{objects_of}
use Rattle.play_meaning.specs.Translation.{Emitted, Part, body_part, condition_part, one, seq, strings_of_body, strings_of_text, text_part}
use Rattle.play_meaning.specs.Trees.{Condition, Text}

abbrev pub in_list : {A : Type 0} → Option A → List A
in_list None = []
in_list (Some a) = a ∷ []

-- ---- the codes that a tale's descriptions, rules and scenes are, in order

abbrev pub description_part : (List ℕ → ℕ) → Text → Part
description_part string text = seq (text_part string 0 text) (one Done)

abbrev pub test_part : Condition → Part
test_part condition = seq (condition_part 0 condition) (one Answer)

-- the standard rules stand in front
abbrev pub is_standard : ℕ → Bool
is_standard number = nat_lt number 61

abbrev pub parts_of_rule : (List ℕ → ℕ) → ℕ → Rule → List Part
parts_of_rule string number rule =
    map test_part (in_list rule.condition) ++ (if is_standard number then [] else seq (body_part string 0 rule.body) (one Done) ∷ [])

abbrev pub parts_of_rules : (List ℕ → ℕ) → ℕ → List Rule → List Part
parts_of_rules string number [] = []
parts_of_rules string number (rule ∷ rules) = parts_of_rule string number rule ++ parts_of_rules string (number + 1) rules

abbrev pub parts_of_scene : Scene → List Part
parts_of_scene scene = map test_part (in_list scene.begins ++ in_list scene.ends)

abbrev pub texts_of : Script → List ℕ → List Text
texts_of script objects = flat_map (λ o. in_list (script.descriptions o)) objects

abbrev pub parts_of : (List ℕ → ℕ) → Script → List Part
parts_of string script =
    map (description_part string) (texts_of script (objects_of script.setting))
    ++ parts_of_rules string 0 script.rules ++ flat_map parts_of_scene script.scenes

-- ---- their numbers

abbrev pub number_if : Option Condition → ℕ → Option ℕ
number_if None n = None
number_if (Some condition) n = Some n

abbrev pub body_by : ℕ → ℕ → RuleBody
body_by number n = if is_standard number then Standard (number + 1) else Coded n

-- rules one behind the other, the first of this number, its first code of that one
abbrev pub coded_rules : ℕ → ℕ → List Rule → List CodedRule
coded_rules number n [] = []
coded_rules number n (rule ∷ rules) =
    record {
      book = rule.book;
      action = rule.action;
      noun = rule.noun;
      second = rule.second;
      place = rule.place;
      scene = rule.scene;
      condition = number_if rule.condition n;
      body = body_by number (n + length (in_list rule.condition));
    }
    ∷ coded_rules (number + 1) (n + length (parts_of_rule (λ string. 0) number rule)) rules

abbrev pub coded_scenes : ℕ → List Scene → List CodedScene
coded_scenes n [] = []
coded_scenes n (scene ∷ scenes) =
    record { recurs = scene.recurs; begins = number_if scene.begins n; ends = number_if scene.ends (n + length (in_list scene.begins)) }
    ∷ coded_scenes (n + length (parts_of_scene scene)) scenes

-- ---- strings and books

abbrev pub strings_of_rules : ℕ → List Rule → List (List ℕ)
strings_of_rules number [] = []
strings_of_rules number (rule ∷ rules) = (if is_standard number then [] else strings_of_body rule.body) ++ strings_of_rules (number + 1) rules

abbrev pub strings_of_script : Script → List (List ℕ)
strings_of_script script = flat_map strings_of_text (texts_of script (objects_of script.setting)) ++ strings_of_rules 0 script.rules

-- one behind the highest number of a rule's book
abbrev pub count_of_books : List Rule → ℕ
count_of_books rules = fold (λ n rule. max n (rule.book + 1)) 8 rules

-- ---- the story

-- parts of codes one behind the other, the first test having this number
abbrev pub emitted_in_turn : ℕ → List Part → List Emitted
emitted_in_turn test [] = []
emitted_in_turn test (part ∷ parts) = let emitted = part test 0 in emitted ∷ emitted_in_turn (test + length emitted.tests) parts

abbrev pub codes_emitted : List Emitted → List (List Instruction)
codes_emitted all = map (λ emitted. emitted.code) all ++ flat_map (λ emitted. emitted.tests) all

unfoldable pub codes_of_script : Script → Codes
codes_of_script script =
    let parts = parts_of (λ string. position_or_len (bytes_eq string) (strings_of_script script)) script in
    record { strings = strings_of_script script; codes = codes_emitted (emitted_in_turn (length parts) parts) }

unfoldable pub coded : Script → CodedStory
coded script =
    let described = texts_of script (objects_of script.setting) in
    record {
      setting = script.setting;
      start = script.start;
      needs = script.needs;
      descriptions = λ o. option_map (λ text. length (texts_of script (range_with_len 0 o))) (script.descriptions o);
      codes = codes_of_script script;
      rules = coded_rules 0 (length described) script.rules;
      books = map (book_of script.setting script.rules) (range_with_len 0 (count_of_books script.rules));
      scenes = coded_scenes (length described + length (parts_of_rules (λ string. 0) 0 script.rules)) script.scenes;
      reads = script.reads;
    }
