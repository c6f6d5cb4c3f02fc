use Rattle.std.proofs.Common.{◌≡◌}
use Rattle.std.proofs.lemmas.Result.{IfOk-weaker}
use Rattle.i7_conditions.specs.Readings.{IsFoundAs}
use Rattle.i7_conditions.specs.Scopes.{scope_of}
use Rattle.i7_phrases.specs.ChangeForms.{found_simple}
use Rattle.i7_phrases.specs.Limits.{phrase_is_over}
use Rattle.i7_phrases.specs.Phrases.{ending_of}
use Rattle.i7_rules.specs.Doings.{ChangesOrEnds, found_if}
use Rattle.i7_rules.proofs.Told.{change_at, ending_at}
use Rattle.i7_rules.proofs.doing.other_of.Goals as goal

pub returns-in-Some : goal.returns-in-Some
returns-in-Some c = change_at (scope_of c.args.scope.now) c.args.said.now c.in_ok-change.field-0 c.in-Some.change c.in_ok-change.ensures c.in-Some.is

pub returns-in-None : goal.returns-in-None
returns-in-None c =
    IfOk-weaker c.ending_found.result (λ found. found_simple found ≡ found_if (ending_of c.args.said.now))
    (λ found. IsFoundAs (ChangesOrEnds (scope_of c.args.scope.now) c.args.said.now) phrase_is_over (found_simple found))
    (λ found e. ending_at (scope_of c.args.scope.now) c.args.said.now c.in_ok-change.field-0 found c.in_ok-change.ensures c.in-None.is e) c.ending_found.ensures
