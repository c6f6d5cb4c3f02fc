use Rattle.std.proofs.Common.{ap, sym, ◌∙◌}
use Rattle.i7_phrases.specs.Around.{around_of, left}
use Rattle.i7_phrases.proofs.Open.{left_further, left_no_further}
use Rattle.i7_phrases.proofs.around.Around.leave.Goals as goal

pub loop-self-preserved : goal.loop-self-preserved
loop-self-preserved c = ap (left c.args.depth) c.shut.ensures ∙ left_further c.args.depth (around_of c.loop-self.self) (sym c.is_left.ensures ∙ c.loop-self-test.true) ∙ c.loop-self.invariant

pub returns : goal.returns
returns c = sym (left_no_further c.args.depth (around_of c.loop-self.self) (sym c.is_left.ensures ∙ c.loop-self-test.false)) ∙ c.loop-self.invariant
