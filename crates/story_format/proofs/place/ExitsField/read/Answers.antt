use Rattle.story_format.specs.Layout.{way_layout}
use Rattle.story_format.proofs.Loops.{many_length}
use Rattle.story_format.proofs.place.ExitsField.read.Goals as goal

pub copy_from_slice-requires : goal.copy_from_slice-requires
copy_from_slice-requires c =
    let h = rw c.in-Some.is at c.in_ok-all.ensures in
    rw c.as_slice.ensures.value (many_length way_layout.format.get 12 c.args.bytes.now (c.in-Some.all.items, c.in-Some.rest.now) h)
