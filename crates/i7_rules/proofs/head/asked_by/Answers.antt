use Rattle.i7_conditions.specs.Conjoining.{found_condition}
use Rattle.i7_rules.specs.Knowns.{known_of}
use Rattle.i7_rules.specs.Heads.{found_asked}
use Rattle.i7_rules.proofs.Headed.{condition_asked}
use Rattle.i7_rules.proofs.head.asked_by.Goals as goal

pub returns : goal.returns
returns c = condition_asked (known_of c.args.known.now) c.args.words.now (found_condition c.in_ok-condition.condition) (found_asked c.asked_so.result) c.asked_so.ensures c.in_ok-condition.ensures
