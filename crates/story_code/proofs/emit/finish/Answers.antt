use Rattle.std.proofs.Common.{sym}
use Rattle.story_code.proofs.Spelt.{said_whole, unsaid}
use Rattle.story_code.proofs.emit.finish.Goals as goal

pub returns-in_default-clause-too_long : goal.returns-in_default-clause-too_long
returns-in_default-clause-too_long c = λ first part is told. unsaid first part c.args.out.now is (sym c.in_default.ensures.kept)

pub returns-in-Ok-clause-codes : goal.returns-in-Ok-clause-codes
returns-in-Ok-clause-codes c = λ first part is. said_whole first part c.args.out.now _ _ is (sym c.in-Some.ensures.kept) c.in-Some.ensures.said c.in-Ok.ensures
