use Rattle.i7_rules.specs.Knowns.{known_of}
use Rattle.i7_rules.proofs.Headed.{rule_found}
use Rattle.i7_rules.proofs.rule.rule_of.Goals as goal

pub returns : goal.returns
returns c =
    rule_found (known_of c.args.known.now) c.args.line c.args.rule.now c.as_slice.result.now c.in_ok-head.head c.in_ok-body.body c.joined.result c.as_slice.ensures c.in_ok-head.ensures c.in_ok-body.ensures c.joined.ensures
