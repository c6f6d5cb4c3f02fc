-- Truths that are joined to nothing more.
use Rattle.std.proofs.Math.Bool.{and-true}

pub ruleset truth_steps = (and-true)
