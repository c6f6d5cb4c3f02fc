-- The rules among a source's sentences, in order, with their names.
use Rattle.std.specs.Prelude.{ℕ, List, [], ◌∷◌, Option, Some, None, flat_map, map, option_map}
use Rattle.i7_sentences.specs.declared.rule.Rule.{Rule}
use Rattle.i7_sentences.specs.declared.sentence.Assertion.{Assertion}
use Rattle.i7_sentences.specs.declared.sentence.Assertion.TheVariants as asserts
use Rattle.i7_sentences.specs.declared.sentence.Sentence.{Sentence}
use Rattle.i7_conditions.specs.Words.{key_of}
use Rattle.i7_rules.specs.declared.rule_list.RuleAt.{RuleAt as Lent}
use Rattle.i7_rules.specs.declared.standard_names.TheConstants.{STANDARD_NAMES}

-- a rule, and the line of the sentence that says it
pub record RuleAt : Type 0 where
  pub line : ℕ
  pub rule : Rule

abbrev pub rules_asserted : ℕ → Assertion → List RuleAt
rules_asserted line (asserts.Rule rule) = record { line = line; rule = rule } ∷ []
rules_asserted line _ = []

abbrev pub rules_said : Sentence → List RuleAt
rules_said sentence = rules_asserted sentence.line sentence.said

-- the rules that sentences say, in order
abbrev pub rules_in : List Sentence → List RuleAt
rules_in sentences = flat_map rules_said sentences

-- a rule, and those before it, the last first
pub record Placed : Type 0 where
  pub rule : RuleAt
  pub before : List RuleAt

-- each of these rules, the last first, with those before it
abbrev pub placed : List RuleAt → List Placed
placed [] = []
placed (rule ∷ before) = record { rule = rule; before = before } ∷ placed before

-- ---- names

-- a rule's name, if it has one: its words in small letters, parted by one space
abbrev pub name_of : RuleAt → Option (List ℕ)
name_of r = option_map key_of r.rule.name

unfoldable pub standard_names : List (List ℕ)
standard_names = map (λ name. name.now) STANDARD_NAMES

abbrev pub and_name : Option (List ℕ) → List (List ℕ) → List (List ℕ)
and_name None names = names
and_name (Some name) names = name ∷ names

-- the names that these rules, the last first, and the standard rules have
abbrev pub names_of : List RuleAt → List (List ℕ)
names_of [] = standard_names
names_of (rule ∷ before) = and_name (name_of rule) (names_of before)

-- ---- as they are lent

abbrev pub rule_lent : Lent → RuleAt
rule_lent r = record { line = r.line; rule = r.rule.now }

abbrev pub rules_lent : List Lent → List RuleAt
rules_lent rules = map rule_lent rules
