use Rattle.std.proofs.Common.{map}
use Rattle.object_words.specs.Mentions.{number_in}
use Rattle.play_meaning.specs.Patterns.{rule_meant}
use Rattle.code_table.specs.Origins.{origins_of_rule}
use Rattle.code_table.proofs.Stopped.{grows_on, loop_stops}
use Rattle.code_table.proofs.coding.add_rules.Goals as goal

pub returns-in-Err-clause-none : goal.returns-in-Err-clause-none
returns-in-Err-clause-none c =
    loop_stops origins_of_rule c.args.counts.now (number_in c.args.strings.now) c.args.heads (map rule_meant c.args.rules.now) c.args.out.now.codes.items c.args.out.now.tests.items rule_meant c.loop-rest.out.codes.items c.loop-rest.out.tests.items
    c.loop-rest.rest.now c.rule-item.result c.in-Err.fault c.in-len1-up.len_at_least c.rule-item.is c.in-Err.ensures.none c.loop-rest.invariant

pub loop-rest-preserved : goal.loop-rest-preserved
loop-rest-preserved c =
    grows_on origins_of_rule c.args.counts.now (number_in c.args.strings.now) c.args.heads (map rule_meant c.args.rules.now) c.args.out.now.codes.items c.args.out.now.tests.items rule_meant c.loop-rest.out.codes.items c.loop-rest.out.tests.items
    c.add_rule.new.out.codes.items c.add_rule.new.out.tests.items c.loop-rest.rest.now c.rule-item.result c.in-len1-up.len_at_least c.rule-item.is c.in-Ok.ensures.coded c.loop-rest.invariant
