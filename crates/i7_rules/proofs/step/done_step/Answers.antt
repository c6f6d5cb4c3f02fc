use Rattle.i7_conditions.specs.Scopes.{scope_of}
use Rattle.i7_phrases.specs.ChangeForms.{found_simple}
use Rattle.i7_rules.specs.Knowns.{known_of}
use Rattle.i7_rules.specs.Lines.{found_stated}
use Rattle.i7_rules.proofs.Stated.{done_at}
use Rattle.i7_rules.proofs.step.done_step.Goals as goal

pub returns : goal.returns
returns c =
    done_at (known_of c.args.known.now) (scope_of c.args.scope.now) c.args.phrase.now (found_simple c.in_ok-found.found) (found_stated c.done_by.result) c.done_by.ensures c.in_ok-found.ensures
