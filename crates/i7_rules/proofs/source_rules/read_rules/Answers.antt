use Rattle.std.proofs.Common.{◌∷◌, subst, sym}
use Rattle.i7_rules.specs.Knowns.{known_of}
use Rattle.i7_rules.specs.RuleList.{rule_lent, rules_lent}
use Rattle.i7_rules.specs.RuleScans.{IsSoFar, state_of}
use Rattle.i7_rules.proofs.Looked.{goes_on}
use Rattle.i7_rules.proofs.ReadRules.{rule_further, starts_reading}
use Rattle.i7_rules.proofs.source_rules.read_rules.Goals as goal

pub loop-rest-init : goal.loop-rest-init
loop-rest-init c = starts_reading (known_of c.args.known.now) (rules_lent c.args.rules.now) c.new.result.items c.new.ensures.items

pub loop-rest-preserved : goal.loop-rest-preserved
loop-rest-preserved c =
    let k = known_of c.args.known.now in
    let r = rule_lent c.rule-item.result in
    goes_on rule_lent (λ before. IsSoFar k before (state_of c.loop-rest.so_far)) (λ before. IsSoFar k before (state_of c.in_ok-so_far.so_far)) (rules_lent c.args.rules.now) c.loop-rest.rest.now c.rule-item.result
    c.in-len1-up.len_at_least c.rule-item.is c.loop-rest.invariant
    (λ before so. subst (IsSoFar k (r ∷ before)) (sym c.in_ok-so_far.ensures)
    (rule_further c.one_rule_is_told.ensures k r before c.in_ok-found.found (state_of c.loop-rest.so_far) c.in_ok-found.ensures so))
