use Rattle.std.proofs.Common.{subst}
use Rattle.rule_index.specs.Buckets.{rule_admits}
use Rattle.rule_index.specs.Walks.{IsFirstFrom, NoneIsLeft}
use Rattle.story_format.specs.Facts.{rules_listed}
use Rattle.story_format.specs.declared.tables.Tables.{Tables}
use Rattle.action_stages.proofs.PassedOver.{next_is, none_is}
use Rattle.action_stages.proofs.passing.next_rule.Goals as goal

pub returns-in-None-clause-next : goal.returns-in-None-clause-next
returns-in-None-clause-next c =
    let now = c.args.now.now in
    let here = c.here.result in
    none_is c.args.world.now.tables c.args.book now c.args.world.now.world c.here.result c.rules_passed_over_are_false.ensures c.here.ensures c.args.from
    (subst (λ (t : Tables). NoneIsLeft (rule_admits t now.action now.noun here) (rules_listed t c.args.book) c.args.from) c.requires c.in-None.ensures.first)

pub returns-in-Some-clause-next : goal.returns-in-Some-clause-next
returns-in-Some-clause-next c =
    let now = c.args.now.now in
    let here = c.here.result in
    next_is c.args.world.now.tables c.args.book now c.args.world.now.world c.here.result c.rules_passed_over_are_false.ensures c.here.ensures c.args.from c.in-Some.place
    c.in-Some.rule
    (subst (λ (t : Tables). IsFirstFrom (rule_admits t now.action now.noun here) (rules_listed t c.args.book) c.args.from c.in-Some.place c.in-Some.rule) c.requires c.in-Some.ensures.first)
