-- What a story's tables say of each rule is right, and its first actions are those that every story has.
use Rattle.std.proofs.Common.{◌≡◌, ◌≤◌, ℕ, true, ◌&&◌, leb, ltb, length, Some}
use Rattle.std.specs.Prelude.{slice_get}
use Rattle.std.specs.List.{list_all}
use Rattle.std.proofs.lemmas.Bool.{and_parts, leb-true}
use Rattle.play_meaning.specs.declared.operand.Counts.{Counts}
use Rattle.story_format.specs.Checks.{are_right, is_right_frame}
use Rattle.story_format.specs.Counts.{counts_of}
use Rattle.story_format.specs.RuleChecks.{are_right_actions, are_right_books, are_right_lines, are_right_rules, are_right_scenes, is_number_or_none, is_right_aspect, is_right_body, is_right_line, is_right_rule, is_right_scene}
use Rattle.story_format.specs.Spells.{IsStory}
use Rattle.story_format.specs.WorldChecks.{is_right_world}
use Rattle.story_format.specs.declared.rule_entry.RuleEntry.{RuleEntry}
use Rattle.story_format.specs.declared.tables.Tables.{Tables}
use Rattle.story_format.proofs.StoryLemmas.{all_at, four, last_of_five}
use Rattle.story_format.proofs.ValueLemmas.{checked_parts}

rules_right : (t : Tables) → are_right t ≡ true → are_right_rules (counts_of t) t.rules ≡ true
unfolding is_right_frame
rules_right t right =
    let frame = (checked_parts t right).0 in
    (four (is_right_world t.world) (are_right_rules (counts_of t) t.rules) (leb (length t.objects) 1000) (ltb (length t.strings) 65535) frame).1

record Parts (t : Tables) : Type 0 where
  scenes : length t.rules.scenes ≤ 50
  lines : length t.rules.grammar ≤ 65535
  actions : are_right_actions t.rules.actions ≡ true
  rules : list_all (is_right_rule (counts_of t)) t.rules.rules ≡ true

parts : (t : Tables) → are_right_rules (counts_of t) t.rules ≡ true → Parts t
unfolding are_right_rules
parts t right =
    let r = t.rules in
    let p =
    last_of_five (are_right_scenes (counts_of t) r.scenes) (are_right_books (length r.scenes) (length r.rules) r.books) (are_right_actions r.actions) (are_right_lines (counts_of t) r.actions r.grammar)
    (leb (length r.rules) 2000 && list_all (is_right_rule (counts_of t)) r.rules) right in
    record { scenes = leb-true _ _ (and_parts (leb (length r.scenes) 50) (list_all (is_right_scene (counts_of t)) r.scenes) p.0).0; lines = leb-true _ _ (and_parts (leb (length r.grammar) 65535) (list_all (is_right_line (counts_of t) r.actions) r.grammar) p.3).0; actions = p.2; rules = (and_parts (leb (length r.rules) 2000) (list_all (is_right_rule (counts_of t)) r.rules) p.4).1 }

parts_of : (t : Tables) → IsStory t → Parts t
parts_of t story = parts t (rules_right t story.right)

pub rule_right : (t : Tables) → IsStory t → (n : ℕ) (rule : RuleEntry) → slice_get t.rules.rules n ≡ Some rule → is_right_rule (counts_of t) rule ≡ true
rule_right t story n rule there = all_at (is_right_rule (counts_of t)) t.rules.rules n rule (parts_of t story).rules there

body_of_right : (z : Counts) (r : RuleEntry) → is_right_rule z r ≡ true → is_right_body z.codes r.body ≡ true
unfolding is_right_rule
body_of_right z r right =
    (and_parts (ltb r.book z.books && is_number_or_none 255 z.actions r.action && is_right_aspect z r.noun && is_right_aspect z r.second && is_right_aspect z r.place
    && is_number_or_none 255 z.scenes r.scene && is_number_or_none 65535 z.codes r.condition) (is_right_body z.codes r.body) right).1

pub body_right : (t : Tables) → IsStory t → (n : ℕ) (rule : RuleEntry) → slice_get t.rules.rules n ≡ Some rule → is_right_body (counts_of t).codes rule.body ≡ true
body_right t story n rule there = body_of_right (counts_of t) rule (rule_right t story n rule there)

pub few_scenes : (t : Tables) → IsStory t → length t.rules.scenes ≤ 50
few_scenes t story = (parts_of t story).scenes

pub few_lines : (t : Tables) → IsStory t → length t.rules.grammar ≤ 65535
few_lines t story = (parts_of t story).lines
