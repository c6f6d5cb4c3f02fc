use Rattle.std.proofs.Common.{refl}
use Rattle.std.specs.Prelude.{None}
use Rattle.i7_rules.specs.RuleList.{rule_lent, rules_lent}
use Rattle.i7_rules.proofs.Looked.{goes_on, starts}
use Rattle.i7_rules.proofs.Named.{IsNamedTo, named_further, none_named}
use Rattle.i7_rules.proofs.rule_names.name_twice.Goals as goal

pub loop-rest-init : goal.loop-rest-init
loop-rest-init c = starts (IsNamedTo c.in_ok-names.names None) (rules_lent c.args.rules.now) (none_named c.in_ok-names.names None c.in_ok-names.ensures refl)

pub loop-rest-preserved : goal.loop-rest-preserved
loop-rest-preserved c =
    goes_on rule_lent (IsNamedTo c.loop-rest.names c.loop-rest.low) (IsNamedTo c.twice_at.new.names c.lower_of-low.result) (rules_lent c.args.rules.now) c.loop-rest.rest.now c.rule-item.result c.in-len1-up.len_at_least
    c.rule-item.is c.loop-rest.invariant
    (named_further c.loop-rest.names c.twice_at.new.names c.loop-rest.low c.in_ok-twice_at.field-0 c.lower_of-low.result (rule_lent c.rule-item.result) c.in_ok-twice_at.ensures.names c.in_ok-twice_at.ensures.told c.lower_of-low.ensures)
