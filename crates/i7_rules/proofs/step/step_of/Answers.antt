use Rattle.i7_rules.specs.Knowns.{known_of}
use Rattle.i7_rules.specs.Lines.{found_stated}
use Rattle.i7_rules.proofs.Stated.{step_at}
use Rattle.i7_rules.proofs.step.step_of.Goals as goal

pub returns : goal.returns
returns c =
    step_at (known_of c.args.known.now) c.args.names.now c.nearest.result.now c.args.phrase.now c.is_beyond.result (found_stated c.in_ok-found.found) (found_stated c.limited.result) c.nearest.ensures.names c.is_beyond.ensures
    c.limited.ensures c.in_ok-found.ensures
