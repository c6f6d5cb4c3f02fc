-- When a rule of a story's tables applies, and what a story's test answers.
use Rattle.std.specs.Prelude.{ℕ, Bool, true, false, [], Ok, if◌then◌else◌}
use Rattle.play_meaning.specs.Attempts.{Attempt}
use Rattle.play_meaning.specs.CodedStories.{CodedRule, answer_or, head_of}
use Rattle.play_meaning.specs.Codes.{test_of}
use Rattle.play_meaning.specs.Rules.{is_about}
use Rattle.play_meaning.specs.Scripts.{undescribed}
use Rattle.play_meaning.specs.Worlds.{World}
use Rattle.play_meaning.specs.declared.action.ActionNow.{ActionNow}
use Rattle.story_format.specs.Codes.{codes_told}
use Rattle.story_format.specs.declared.tables.Tables.{Tables}
use Rattle.world_store.specs.StorySettings.{setting_of}

-- its condition is looked at last
abbrev pub rule_applies : Tables → CodedRule → ActionNow → World → Attempt Bool
rule_applies t rule now w = if is_about (setting_of t) w now (head_of rule) then answer_or true (codes_told t) (setting_of t) now w rule.condition else Ok false

-- what the test of this number answers, with no object of a loop
abbrev pub test_answer : Tables → ActionNow → ℕ → World → Attempt Bool
test_answer t now n w = test_of (codes_told t) (undescribed (setting_of t)) now n [] w
