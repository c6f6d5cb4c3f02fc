-- How many codes stand in front of the tests, counted; and numbers behind them.
use Rattle.std.proofs.Common.{◌≡◌, refl, ℕ, ◌+◌, ◌<◌, ◌≤◌, nat_lt, Bool, true, false, if◌then◌else◌, List, length, Some, None}
use Rattle.std.specs.List.{flat_map}
use Rattle.std.specs.Prelude.{map}
use Rattle.std.proofs.lemmas.Bool.{ltb-false, ltb-true}
use Rattle.play_meaning.specs.Patterns.{rule_meant}
use Rattle.play_meaning.specs.ScenesMeant.{scene_meant}
use Rattle.play_meaning.specs.declared.tree.rule.MeantRule.{MeantRule}
use Rattle.play_meaning.specs.declared.tree.scene.MeantScene.{MeantScene}
use Rattle.code_table.specs.Coding.{number_behind}
use Rattle.code_table.specs.Origins.{origins_of_rule, origins_of_scene}

-- ---- a number of two bytes

number_by : (heads tests n : ℕ) (b : Bool) → nat_lt (heads + tests) 65536 ≡ b → (if b then Some (heads + tests) else None) ≡ Some n → (n ≡ heads + tests) × (heads + tests < 65536)
number_by heads tests n true less is = let same : n ≡ heads + tests = cc in (same, ltb-true (heads + tests) 65536 less)
number_by heads tests n false less is = absurd cc

pub number_is : (heads tests n : ℕ) → number_behind heads tests ≡ Some n → (n ≡ heads + tests) × (heads + tests < 65536)
number_is heads tests n is = number_by heads tests n (nat_lt (heads + tests) 65536) refl is

no_number_by : (heads tests : ℕ) (b : Bool) → nat_lt (heads + tests) 65536 ≡ b → (if b then Some (heads + tests) else None) ≡ None → 65536 ≤ heads + tests
no_number_by heads tests true less is = absurd cc
no_number_by heads tests false less is = ltb-false (heads + tests) 65536 less

pub no_number : (heads tests : ℕ) → number_behind heads tests ≡ None → 65536 ≤ heads + tests
no_number heads tests is = no_number_by heads tests (nat_lt (heads + tests) 65536) refl is

-- ---- those of rules and scenes

-- how many codes rules have in front of the tests
abbrev pub heads_of_rules : List MeantRule → ℕ
heads_of_rules rules = length (flat_map origins_of_rule (map rule_meant rules))

-- and scenes
abbrev pub heads_of_scenes : List MeantScene → ℕ
heads_of_scenes scenes = length (flat_map origins_of_scene (map scene_meant scenes))
