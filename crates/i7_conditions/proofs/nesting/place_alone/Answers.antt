use Rattle.std.proofs.lemmas.Result.{IfOk-weaker}
use Rattle.i7_conditions.proofs.Leveled.{alone_placed}
use Rattle.i7_conditions.proofs.nesting.place_alone.Goals as goal

pub returns : goal.returns
returns c = IfOk-weaker c.put_back.result _ _ (λ kept is. alone_placed c.args.line.depth c.args.line.step c.args.levels.now.items c.pop.new.self.items c.in-Some.level _ _ c.in-Some.ensures.items c.requires.deepest c.in_ok-found.ensures is) c.put_back.ensures
