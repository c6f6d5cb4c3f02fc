-- What is told of the rules of a source, however that is kept.
use Rattle.std.specs.Prelude.{ℕ, List, Option, map}
use Rattle.world_meaning.specs.declared.fault.Fault.{Fault}
use Rattle.play_meaning.specs.Meant.{body_meant}
use Rattle.play_meaning.specs.Trees.{Body}
use Rattle.i7_rules.specs.Heads.{Head, heading}
use Rattle.i7_rules.specs.declared.source_rules.RulesFound.{RulesFound}
use Rattle.i7_rules.specs.declared.source_rules.RulesFound.TheVariants as whole
use Rattle.i7_rules.specs.declared.source_rules.SourceRule.{SourceRule}

pub record RuleMeant : Type 0 where
  pub line : ℕ
  pub name : Option (List ℕ)
  pub head : Head
  pub body : Body

abbrev pub rule_meant : SourceRule → RuleMeant
rule_meant told = record { line = told.line; name = told.name; head = heading told.rule.head; body = body_meant told.rule.body.items }

pub data RulesMeant : Type 0 where
  All : List RuleMeant → RulesMeant
  Refused : Fault → RulesMeant

abbrev pub rules_meant : RulesFound → RulesMeant
rules_meant (whole.Says told) = All (map rule_meant told.items)
rules_meant (whole.Refused fault) = Refused fault
