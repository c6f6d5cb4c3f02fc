use Rattle.std.proofs.lemmas.Result.{IfOk-weaker}
use Rattle.i7_conditions.specs.Readings.{IsFoundAs}
use Rattle.i7_conditions.specs.Scopes.{scope_of}
use Rattle.i7_rules.specs.Knowns.{known_of}
use Rattle.i7_rules.specs.Lines.{IsDone, States, found_stated, is_over}
use Rattle.i7_rules.proofs.Stated.{block_at, doing_at}
use Rattle.i7_rules.proofs.step.step_in.Goals as goal

pub returns-in-Some : goal.returns-in-Some
returns-in-Some c = block_at (known_of c.args.known.now) (scope_of c.args.scope.now) c.args.phrase.now c.in_ok-block.field-0 c.in-Some.block c.in_ok-block.ensures c.in-Some.is

pub returns-in-None : goal.returns-in-None
returns-in-None c =
    IfOk-weaker c.done_step.result (λ found. IsDone (known_of c.args.known.now) (scope_of c.args.scope.now) c.args.phrase.now (found_stated found))
    (λ found. IsFoundAs (States (known_of c.args.known.now) (scope_of c.args.scope.now) c.args.phrase.now) is_over (found_stated found))
    (λ found h. doing_at (known_of c.args.known.now) (scope_of c.args.scope.now) c.args.phrase.now c.in_ok-block.field-0 (found_stated found) c.in_ok-block.ensures c.in-None.is h) c.done_step.ensures
