use Rattle.i7_actions.specs.TryingForms.{found_try}
use Rattle.i7_conditions.specs.Scopes.{scope_of}
use Rattle.i7_phrases.specs.ChangeForms.{found_simple}
use Rattle.i7_rules.specs.Knowns.{known_of}
use Rattle.i7_rules.proofs.Told.{try_told}
use Rattle.i7_rules.proofs.doing.try_of.Goals as goal

pub returns : goal.returns
returns c =
    try_told (known_of c.args.known.now) (scope_of c.args.scope.now) c.args.is_silent c.args.words.now (found_try c.in_ok-tried.tried) (found_simple c.tried_so.result) c.tried_so.ensures
    c.in_ok-tried.ensures
