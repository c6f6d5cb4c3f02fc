use Rattle.story_format.specs.Formats.{get_many}
use Rattle.story_format.proofs.Loops.{goes_on, ends, is_done}
use Rattle.story_format.proofs.table.read_many.Goals as goal

pub returns-in_default : goal.returns-in_default
returns-in_default g c =
    let h = rw c.in_default.is at c.in_ok-value.ensures in
    ends g.F.Field.format.get c.loop.all.items c.args.count c.loop.counter c.loop.rest.now (get_many g.F.Field.format.get c.args.count c.args.bytes.now) c.loop-test.true h c.loop.invariant

pub loop-preserved : goal.loop-preserved
loop-preserved g c =
    let h = rw c.in-Some.is at c.in_ok-value.ensures in
    rw c.in_ok-push.ensures.items (goes_on g.F.Field.format.get c.loop.all.items c.args.count c.loop.counter c.loop.rest.now c.in-Some.value c.in-Some.after.now (get_many g.F.Field.format.get c.args.count c.args.bytes.now) c.loop-test.true h c.loop.invariant)

pub returns : goal.returns
returns g c = is_done g.F.Field.format.get c.loop.all.items c.args.count c.loop.counter c.loop.rest.now (get_many g.F.Field.format.get c.args.count c.args.bytes.now) c.loop-test.false c.loop.invariant
