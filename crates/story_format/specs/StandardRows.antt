-- The rules that every story has, told by their rulebooks and actions, as far as table 10 and the order look at them.
use Rattle.std.specs.Prelude.{ℕ, ◌+◌, List, [], ◌∷◌}
use Rattle.play_meaning.specs.Rules.{Rule}
use Rattle.play_meaning.specs.StandardRules.{rule}
use Rattle.play_meaning.specs.Trees.{End}
use Rattle.story_format.specs.RuleMaking.{standard_entry}
use Rattle.story_format.specs.declared.rule_entry.RuleEntry.{RuleEntry}

-- a rule of a book and an action, whatever it does
abbrev pub row_rule : ℕ × ℕ → Rule
row_rule row = rule row.0 row.1 End

-- the first of them having this number
abbrev pub row_entries : ℕ → List (ℕ × ℕ) → List RuleEntry
row_entries number [] = []
row_entries number (row ∷ rows) = standard_entry number (row_rule row) ∷ row_entries (number + 1) rows
