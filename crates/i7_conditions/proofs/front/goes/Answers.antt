use Rattle.std.proofs.Common.{ℕ, List, ap, ◌∙◌, take, arith}
use Rattle.i7_conditions.specs.Fronts.{goes}
use Rattle.i7_conditions.specs.Scopes.{scope_of}
use Rattle.i7_conditions.specs.Words.{Word}
use Rattle.i7_conditions.proofs.front.goes.Goals as goal

pub loop-rest-init : goal.loop-rest-init
loop-rest-init c =
    let front = c.split_at.ensures.front ∙ ap (λ (n : ℕ). take n c.args.words.now) c.min.ensures in
    record {
      same = ap (λ (window : List Word). goes (scope_of c.args.scope.now) c.args.words.now c.args.column.now 1 window) front;
      within = omega arith;
    }
