use Rattle.story_format.specs.Formats.{skip_many}
use Rattle.story_format.proofs.Loops.{skips_on, skip_ends, skip_done}
use Rattle.story_format.proofs.table.skip_many.Goals as goal

pub returns-in_default : goal.returns-in_default
returns-in_default g c =
    let h = rw c.in_default.is at c.skip.ensures in
    skip_ends g.F.Field.format.skip c.args.count c.loop.counter c.loop.rest.now (skip_many g.F.Field.format.skip c.args.count c.args.bytes.now) c.loop-test.true h c.loop.invariant

pub loop-preserved : goal.loop-preserved
loop-preserved g c =
    let h = rw c.in-Some.is at c.skip.ensures in
    skips_on g.F.Field.format.skip c.args.count c.loop.counter c.loop.rest.now c.in-Some.after.now (skip_many g.F.Field.format.skip c.args.count c.args.bytes.now) c.loop-test.true h c.loop.invariant

pub returns : goal.returns
returns g c = skip_done g.F.Field.format.skip c.args.count c.loop.counter c.loop.rest.now (skip_many g.F.Field.format.skip c.args.count c.args.bytes.now) c.loop-test.false c.loop.invariant
