-- The rule tables of a tale: the sixteen actions and behind them the author's, the lines of its grammar, the rules that every story has
-- and behind them its own, with what they are about and the numbers of their codes, its books, and its scenes, with the numbers of
-- theirs.
use Rattle.std.specs.Prelude.{ℕ, ◌+◌, ◌*◌, Bool, List, [], ◌∷◌, ◌++◌, length, map, min, Option, None, Some, if◌then◌else◌}
use Rattle.world_meaning.specs.declared.declared.Declared.{Declared}
use Rattle.play_meaning.specs.Rules.{Anything, Aspect, Exactly, OfKind, Rule}
use Rattle.play_meaning.specs.Scripts.{Scene}
use Rattle.play_meaning.specs.StandardActions.{standard_needs}
use Rattle.play_meaning.specs.StandardRules.{standard_rules}
use Rattle.play_meaning.specs.Trees as tree
use Rattle.play_meaning.specs.Trees.{Condition}
use Rattle.world_meaning.specs.declared.needs.Needs.{Needs}
use Rattle.world_meaning.specs.declared.needs.Slot.{Slot}
use Rattle.world_meaning.specs.declared.needs.Slot.TheVariants.{Absent, Visible, Touched, Carried}
use Rattle.story_format.specs.declared.rule_entry.Aspect.{Aspect as Asked}
use Rattle.story_format.specs.declared.rule_entry.Aspect.TheVariants as aspects
use Rattle.story_format.specs.declared.rule_entry.PropertySide.{PropertySide}
use Rattle.story_format.specs.declared.rule_entry.RuleBody.{RuleBody}
use Rattle.story_format.specs.declared.rule_entry.RuleBody.TheVariants as bodies
use Rattle.story_format.specs.declared.rule_entry.RuleEntry.{RuleEntry}
use Rattle.story_format.specs.declared.rule_tables.ActionEntry.{ActionEntry}
use Rattle.story_format.specs.declared.rule_tables.Book.{Book}
use Rattle.story_format.specs.declared.rule_tables.LineEntry.{LineEntry}
use Rattle.story_format.specs.declared.rule_tables.RuleTables.{RuleTables}
use Rattle.story_format.specs.declared.rule_tables.SceneEntry.{SceneEntry}

-- ---- actions, by what they need

abbrev pub need_number : Slot → ℕ
need_number Absent = 255
need_number Visible = 0
need_number Touched = 1
need_number Carried = 2

abbrev pub noun_count : Slot → ℕ
noun_count Absent = 0
noun_count _ = 1

abbrev pub mark_if : ℕ → Bool → ℕ
mark_if mark is = if is then mark else 0

abbrev pub action_entry : Needs → ActionEntry
action_entry needs = record {
  nouns = noun_count needs.noun + noun_count needs.second;
  noun = need_number needs.noun;
  second = need_number needs.second;
  marks = mark_if 1 needs.light + mark_if 2 needs.out_of_world;
}

-- table 8: the sixteen, and behind them the author's
unfoldable pub action_entries : List Needs → List ActionEntry
action_entries actions = map action_entry (standard_needs ++ actions)

-- ---- rules

-- how many codes a condition has, its tests aside
abbrev pub condition_count : Option Condition → ℕ
condition_count None = 0
condition_count (Some condition) = 1

-- a rule's condition, if it has one, and its body
abbrev pub rule_count : Rule → ℕ
rule_count rule = condition_count rule.condition + 1

abbrev pub condition_number : ℕ → Option Condition → ℕ
condition_number next None = 65535
condition_number next (Some condition) = min next 65535

-- the number of an action or of a scene, if one is asked for
abbrev pub number_or_none : Option ℕ → ℕ
number_or_none None = 255
number_or_none (Some n) = n

-- which name of a property is asked, and whether it is denied; 4 where a story file can't say it
abbrev pub side_of : tree.Adjective → PropertySide
side_of (tree.Quality p tree.First) = record { property = p; side = 1 }
side_of (tree.Quality p tree.Second) = record { property = p; side = 0 }
side_of (tree.NotSo (tree.Quality p tree.First)) = record { property = p; side = 3 }
side_of (tree.NotSo (tree.Quality p tree.Second)) = record { property = p; side = 2 }
side_of _ = record { property = 0; side = 4 }

abbrev pub aspect_entry : Aspect → Asked
aspect_entry Anything = aspects.Anything
aspect_entry (Exactly o) = aspects.Object o
aspect_entry (OfKind kind adjectives) = aspects.Kind (record { kind = kind; properties = map side_of adjectives })

-- what the rule is about, with the code of its condition and its body
abbrev pub entry_with : Rule → ℕ → RuleBody → RuleEntry
entry_with rule condition body = record {
  book = rule.book;
  action = number_or_none rule.action;
  noun = aspect_entry rule.noun;
  second = aspect_entry rule.second;
  place = aspect_entry rule.place;
  scene = number_or_none rule.scene;
  condition = condition;
  body = body;
}

-- the next code is that of its condition, if it has one
abbrev pub rule_entry : ℕ → Rule → RuleEntry
rule_entry next rule = entry_with rule (condition_number next rule.condition) (bodies.Code (min (next + condition_count rule.condition) 65535))

-- an entry for each rule; each condition and each body has the next code
unfoldable pub rule_entries : ℕ → List Rule → List RuleEntry
rule_entries next [] = []
rule_entries next (rule ∷ rules) = rule_entry next rule ∷ rule_entries (next + rule_count rule) rules

-- the entry of the standard rule of this number, which names no code
abbrev pub standard_entry : ℕ → Rule → RuleEntry
standard_entry number rule = entry_with rule 65535 (bodies.Standard number)

-- the first of them having this number
abbrev pub standard_from : ℕ → List Rule → List RuleEntry
standard_from number [] = []
standard_from number (rule ∷ rules) = standard_entry number rule ∷ standard_from (number + 1) rules

-- those of the sixty-one
unfoldable pub standard_entries : List RuleEntry
standard_entries = standard_from 1 standard_rules

-- table 10: the sixty-one, and behind them the author's, whose first code has this number
abbrev pub all_entries : ℕ → List Rule → List RuleEntry
all_entries next rules = standard_entries ++ rule_entries next rules

-- ---- books and scenes

-- eight are built in, and two are each scene's
abbrev pub first_own_book : ℕ → ℕ
first_own_book scenes = 8 + 2 * scenes

abbrev pub book_count : Declared → ℕ
book_count d = first_own_book (length d.scenes) + d.rulebooks

-- how many codes rules have
abbrev pub codes_of_rules : List Rule → ℕ
codes_of_rules [] = 0
codes_of_rules (rule ∷ rules) = rule_count rule + codes_of_rules rules

-- how many codes a scene has
abbrev pub scene_count : Scene → ℕ
scene_count scene = condition_count scene.begins + condition_count scene.ends

-- the next code is that of the condition on which it begins, if there is one
abbrev pub scene_entry : ℕ → Scene → SceneEntry
scene_entry next scene = record {
  recurring = mark_if 1 scene.recurs;
  begins = condition_number next scene.begins;
  ends = condition_number (next + condition_count scene.begins) scene.ends;
}

-- an entry for each scene; each condition has the next code
unfoldable pub scene_entries : ℕ → List Scene → List SceneEntry
scene_entries next [] = []
scene_entries next (scene ∷ scenes) = scene_entry next scene ∷ scene_entries (next + scene_count scene) scenes

-- tables 8 to 12 of what a source declares, of the entries of its lines, of its books, of its rules, the first code of these having this number, and of its scenes,
-- whose codes stand behind them
unfoldable pub rules_of : Declared → List LineEntry → List Book → ℕ → List Rule → List Scene → RuleTables
rules_of d lines books next rules scenes = record {
  actions = action_entries d.actions;
  grammar = lines;
  rules = all_entries next rules;
  books = books;
  scenes = scene_entries (next + codes_of_rules rules) scenes;
}
