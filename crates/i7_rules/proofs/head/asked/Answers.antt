use Rattle.std.proofs.lemmas.Result.{IfOk-weaker}
use Rattle.i7_conditions.specs.Readings.{IsFoundAs}
use Rattle.i7_rules.specs.Knowns.{known_of}
use Rattle.i7_rules.specs.Heads.{AsksSo, IsAsked, found_asked, is_asked_over}
use Rattle.i7_rules.proofs.Headed.{asked_at, not_asked}
use Rattle.i7_rules.proofs.head.asked.Goals as goal

pub returns-in-None : goal.returns-in-None
returns-in-None c = not_asked (known_of c.args.known.now) c.args.rule.now.condition c.in-None.is

pub returns-in-Some : goal.returns-in-Some
returns-in-Some c =
    IfOk-weaker c.asked_by.result (λ found. IsFoundAs (AsksSo (known_of c.args.known.now) c.as_slice.result.now) is_asked_over (found_asked found))
    (λ found. IsFoundAs (IsAsked (known_of c.args.known.now) c.args.rule.now.condition) is_asked_over (found_asked found))
    (λ found h. asked_at (known_of c.args.known.now) c.in-Some.words c.as_slice.result.now c.args.rule.now.condition (found_asked found) c.in-Some.is c.as_slice.ensures h) c.asked_by.ensures
