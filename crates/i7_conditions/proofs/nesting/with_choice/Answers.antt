use Rattle.i7_conditions.proofs.Leveled.{choice_level}
use Rattle.i7_conditions.proofs.nesting.with_choice.Goals as goal

pub returns : goal.returns
returns c =
    choice_level (record { condition = c.args.condition; phrases = c.args.inner }) c.reverse.new.self c.new.result c.args.level.others c.new-2.result c.args.level.phrases.items c.push.new.self.items c.args.level.branches.items
    c.reverse.ensures.items c.in_ok-push.ensures.items c.new.ensures.items c.new-2.ensures.items
