use Rattle.std.proofs.Common.{arith}
use Rattle.std.proofs.lemmas.Result.{IfOk-weaker}
use Rattle.i7_conditions.proofs.Leveled.{behind_placed, deep_placed}
use Rattle.i7_conditions.proofs.nesting.place_behind.Goals as goal

pub returns-then-len-line : goal.returns-then-len-line
returns-then-len-line c = deep_placed c.args.line.depth c.args.line.step c.args.levels.now.items c.args.inner (omega (arith, c.if-len-line.true, c.len.ensures, c.args.levels.now.ok))

pub returns : goal.returns
returns c =
    IfOk-weaker c.put_back.result _ _
    (λ kept is. behind_placed c.args.line.depth c.args.line.step c.args.levels.now.items c.pop.new.self.items c.in-Some.level c.args.inner _ _ c.in-Some.ensures.items
    (omega (arith, c.if-len-line.false, c.len.ensures, c.args.levels.now.ok, c.requires.deep)) c.in_ok-found.ensures is)
    c.put_back.ensures
