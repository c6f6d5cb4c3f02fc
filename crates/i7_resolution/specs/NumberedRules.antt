-- All rules of a story by number, as sentences name them: those that every story has, and behind them the author's.
use Rattle.std.specs.Prelude.{◌≡◌, ℕ, ◌-◌, Bool, false, List, ◌++◌, map, bytes_eq, position, slice_get, Option, None, Some}
use Rattle.play_meaning.specs.Rules.{Rule}
use Rattle.play_meaning.specs.StandardRules.{standard_rules}
use Rattle.i7_conditions.specs.Words.{Word, key_of}
use Rattle.i7_rules.specs.Heads.{IsBook}
use Rattle.i7_rules.specs.Knowns.{Known}
use Rattle.i7_rules.specs.RuleList.{RuleAt, name_of, standard_names}

-- the names of all, where the author's are these; not each of those has one
abbrev pub all_names : List RuleAt → List (Option (List ℕ))
all_names rules = map Some standard_names ++ map name_of rules

abbrev pub is_named : List ℕ → Option (List ℕ) → Bool
is_named key None = false
is_named key (Some name) = bytes_eq name key

-- the first that words name
abbrev pub rule_named : List (Option (List ℕ)) → List Word → Option ℕ
rule_named names words = position (is_named (key_of words)) names

abbrev pub HasBookSo : Known → Option Rule → Option RuleAt → ℕ → Type 0
HasBookSo k (Some standard) own book = book ≡ standard.book
HasBookSo k None (Some own) book = IsBook k own.rule.book book
HasBookSo k None None book = ⊥

-- the rulebook of the rule of this number
abbrev pub HasBook : Known → List RuleAt → ℕ → ℕ → Type 0
HasBook k rules rule = HasBookSo k (slice_get standard_rules rule) (slice_get rules (rule - 61))
