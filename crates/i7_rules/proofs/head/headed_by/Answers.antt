use Rattle.i7_patterns.specs.PatternForms.{asked_pattern}
use Rattle.i7_rules.specs.Heads.{asked_head, found_asked}
use Rattle.i7_rules.specs.Knowns.{known_of}
use Rattle.i7_rules.proofs.Headed.{head_found}
use Rattle.i7_rules.proofs.head.headed_by.Goals as goal

pub returns : goal.returns
returns c =
    head_found (known_of c.args.known.now) c.args.rule.now c.args.book (asked_pattern c.in_ok-about.about) (found_asked c.in_ok-condition.condition) (asked_head c.headed.result) c.in_ok-about.ensures
    c.in_ok-condition.ensures c.headed.ensures
