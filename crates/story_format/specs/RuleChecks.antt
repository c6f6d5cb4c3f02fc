-- What tables 8 to 12 of a story say, where there are so many of what they name.
use Rattle.std.specs.Prelude.{ℕ, ◌+◌, Bool, true, false, not, ◌&&◌, ◌||◌, ◌==◌, nat_le, nat_lt, List, [], ◌∷◌, ◌++◌, Option, None, Some, count_by, filter, length, slice_get, if◌then◌else◌}
use Rattle.std.specs.List.{flat_map, list_all}
use Rattle.play_meaning.specs.declared.operand.Counts.{Counts}
use Rattle.play_meaning.specs.declared.operand.Use.{Use}
use Rattle.play_meaning.specs.declared.operand.Use.TheVariants.{Body, Test}
use Rattle.story_format.specs.RuleMaking.{action_entries, first_own_book}
use Rattle.story_format.specs.declared.rule_entry.Aspect.{Aspect}
use Rattle.story_format.specs.declared.rule_entry.Aspect.TheVariants as aspects
use Rattle.story_format.specs.declared.rule_entry.PropertySide.{PropertySide}
use Rattle.story_format.specs.declared.rule_entry.RuleBody.{RuleBody}
use Rattle.story_format.specs.declared.rule_entry.RuleBody.TheVariants as bodies
use Rattle.story_format.specs.declared.rule_entry.RuleEntry.{RuleEntry}
use Rattle.story_format.specs.declared.rule_tables.ActionEntry.{ActionEntry}
use Rattle.story_format.specs.declared.rule_tables.Book.{Book}
use Rattle.story_format.specs.declared.rule_tables.LineEntry.{LineEntry}
use Rattle.story_format.specs.declared.rule_tables.RuleTables.{RuleTables}
use Rattle.story_format.specs.declared.rule_tables.SceneEntry.{SceneEntry}

-- ---- table 8: the sixteen actions, and behind them the author's

abbrev pub is_same_action : ActionEntry → ActionEntry → Bool
is_same_action a b = (a.nouns == b.nouns) && (a.noun == b.noun) && (a.second == b.second) && (a.marks == b.marks)

-- the first are these
unfoldable pub begin_with_actions : List ActionEntry → List ActionEntry → Bool
begin_with_actions actions [] = true
begin_with_actions [] (b ∷ others) = false
begin_with_actions (a ∷ actions) (b ∷ others) = is_same_action a b && begin_with_actions actions others

-- of a noun that the action has, or of one that it hasn't
abbrev pub is_right_need : Bool → ℕ → Bool
is_right_need has need = if has then nat_le need 2 else (need == 255)

-- two nouns at most, and no mark but those for light and out of world
unfoldable pub is_right_action : ActionEntry → Bool
is_right_action a = nat_le a.nouns 2 && is_right_need (nat_le 1 a.nouns) a.noun && is_right_need (nat_le 2 a.nouns) a.second && nat_le a.marks 3

-- 200 at most
unfoldable pub are_right_actions : List ActionEntry → Bool
are_right_actions actions = nat_le (length actions) 200 && begin_with_actions actions (action_entries []) && list_all is_right_action actions

-- ---- table 9: the grammar

-- a slot for a thing, or for a direction
abbrev pub is_slot_number : ℕ → Bool
is_slot_number n = (n == 65534) || (n == 65535)

-- or one of so many strings
abbrev pub is_right_token : ℕ → ℕ → Bool
is_right_token strings n = is_slot_number n || nat_lt n strings

-- the action is there, and has so many nouns
abbrev pub has_nouns : ℕ → Option ActionEntry → Bool
has_nouns count None = false
has_nouns count (Some a) = a.nouns == count

-- 32 tokens at most, and as many slots among them as the action has nouns
unfoldable pub is_right_line : Counts → List ActionEntry → LineEntry → Bool
is_right_line z actions e =
    has_nouns (count_by is_slot_number e.tokens) (slice_get actions e.action) && nat_le (length e.tokens) 32 && list_all (is_right_token z.strings) e.tokens

abbrev pub are_right_lines : Counts → List ActionEntry → List LineEntry → Bool
are_right_lines z actions lines = nat_le (length lines) 65535 && list_all (is_right_line z actions) lines

-- the numbers of strings that a line names
abbrev pub strings_in_line : LineEntry → List ℕ
strings_in_line e = filter (λ n. not (is_slot_number n)) e.tokens

-- ---- table 10: rules

-- one of so many, or none
abbrev pub is_number_or_none : ℕ → ℕ → ℕ → Bool
is_number_or_none none count n = (n == none) || nat_lt n count

abbrev pub is_right_side : ℕ → PropertySide → Bool
is_right_side flags side = nat_lt side.property flags && nat_le side.side 3

-- no more than nine properties of a kind
unfoldable pub is_right_aspect : Counts → Aspect → Bool
is_right_aspect z aspects.Anything = true
is_right_aspect z (aspects.Object o) = nat_lt o z.objects
is_right_aspect z (aspects.Kind k) = nat_lt k.kind z.kinds && (nat_le (length k.properties) 9 && list_all (is_right_side z.flags) k.properties)
is_right_aspect z (aspects.Unknown tag) = false

-- a code, or one of the sixty-one standard rules, from 1
unfoldable pub is_right_body : ℕ → RuleBody → Bool
is_right_body count (bodies.Code code) = nat_lt code count
is_right_body count (bodies.Standard rule) = nat_le 1 rule && nat_le rule 61
is_right_body count (bodies.Unknown tag) = false

unfoldable pub is_right_rule : Counts → RuleEntry → Bool
is_right_rule z r =
    nat_lt r.book z.books && is_number_or_none 255 z.actions r.action && is_right_aspect z r.noun && is_right_aspect z r.second && is_right_aspect z r.place
    && is_number_or_none 255 z.scenes r.scene && is_number_or_none 65535 z.codes r.condition && is_right_body z.codes r.body

-- ---- the codes that rules name: of each the test of its condition, if it has one, and its body, if that is a code

-- the number of a code, if it is one
abbrev pub code_if : ℕ → List ℕ
code_if n = if n == 65535 then [] else n ∷ []

-- what it is for, if it is a condition's
abbrev pub test_if : ℕ → List Use
test_if n = if n == 65535 then [] else Test 0 ∷ []

abbrev pub code_of_body : RuleBody → List ℕ
code_of_body (bodies.Code code) = code ∷ []
code_of_body _ = []

abbrev pub codes_in_rule : RuleEntry → List ℕ
codes_in_rule r = code_if r.condition ++ code_of_body r.body

abbrev pub codes_in_rules : List RuleEntry → List ℕ
codes_in_rules rules = flat_map codes_in_rule rules

abbrev pub use_in_body : RuleBody → List Use
use_in_body (bodies.Code code) = Body ∷ []
use_in_body _ = []

-- what they are for
abbrev pub uses_in_rule : RuleEntry → List Use
uses_in_rule r = test_if r.condition ++ use_in_body r.body

abbrev pub uses_in_rules : List RuleEntry → List Use
uses_in_rules rules = flat_map uses_in_rule rules

-- ---- table 11: books

-- where there are so many rules
abbrev pub lists_what_is_there : ℕ → Book → Bool
lists_what_is_there rules book = list_all (λ rule. nat_lt rule rules) book.rules

-- the author's own are 100 at most
unfoldable pub are_right_books : ℕ → ℕ → List Book → Bool
are_right_books scenes rules books =
    nat_le (first_own_book scenes) (length books) && nat_le (length books) (first_own_book scenes + 100) && list_all (lists_what_is_there rules) books

-- ---- table 12: scenes

unfoldable pub is_right_scene : Counts → SceneEntry → Bool
is_right_scene z scene = nat_le scene.recurring 1 && is_number_or_none 65535 z.codes scene.begins && is_number_or_none 65535 z.codes scene.ends

-- 50 at most
abbrev pub are_right_scenes : Counts → List SceneEntry → Bool
are_right_scenes z scenes = nat_le (length scenes) 50 && list_all (is_right_scene z) scenes

-- the codes that a scene names: the test by which it begins, if there is one, and that by which it ends
abbrev pub codes_in_scene : SceneEntry → List ℕ
codes_in_scene scene = code_if scene.begins ++ code_if scene.ends

abbrev pub codes_in_scenes : List SceneEntry → List ℕ
codes_in_scenes scenes = flat_map codes_in_scene scenes

-- what they are for
abbrev pub uses_in_scene : SceneEntry → List Use
uses_in_scene scene = test_if scene.begins ++ test_if scene.ends

abbrev pub uses_in_scenes : List SceneEntry → List Use
uses_in_scenes scenes = flat_map uses_in_scene scenes

-- ---- all of it

-- the codes that rules name, and then those that scenes name
abbrev pub codes_in_tables : RuleTables → List ℕ
codes_in_tables r = codes_in_rules r.rules ++ codes_in_scenes r.scenes

abbrev pub uses_in_tables : RuleTables → List Use
uses_in_tables r = uses_in_rules r.rules ++ uses_in_scenes r.scenes

-- tables 8 to 12 are those of a story: 2,000 rules at most; whether a book's rules are its own is asked apart
unfoldable pub are_right_rules : Counts → RuleTables → Bool
are_right_rules z r =
    are_right_scenes z r.scenes && are_right_books (length r.scenes) (length r.rules) r.books && are_right_actions r.actions && are_right_lines z r.actions r.grammar
    && (nat_le (length r.rules) 2000 && list_all (is_right_rule z) r.rules)
