use Rattle.std.proofs.Common.{refl}
use Rattle.std.specs.Prelude.{None}
use Rattle.i7_rules.proofs.Looked.{goes_on, starts}
use Rattle.i7_rules.specs.Knowns.{known_of}
use Rattle.i7_resolution.specs.SceneChangeList.{change_lent, changes_lent}
use Rattle.i7_resolution.proofs.EdgesSeen.{IsSeenTo, none_seen, seen_further}
use Rattle.i7_resolution.proofs.scene_twice.change_twice.Goals as goal

pub loop-rest-init : goal.loop-rest-init
loop-rest-init c =
    let k = known_of c.args.known.now in
    starts (IsSeenTo k c.new-seen.result.items None) (changes_lent c.args.changes.now) (none_seen k c.new-seen.result.items None c.new-seen.ensures.items refl)

pub loop-rest-preserved : goal.loop-rest-preserved
loop-rest-preserved c =
    let k = known_of c.args.known.now in
    goes_on change_lent (IsSeenTo k c.loop-rest.seen.items c.loop-rest.low) (IsSeenTo k c.twice_at.new.seen.items c.lower_of-low.result) (changes_lent c.args.changes.now) c.loop-rest.rest.now c.change-item.result
    c.in-len1-up.len_at_least c.change-item.is c.loop-rest.invariant
    (seen_further k c.loop-rest.seen.items c.twice_at.new.seen.items c.loop-rest.low c.in_ok-twice_at.field-0 c.lower_of-low.result c.in_ok-edge.edge (change_lent c.change-item.result) c.in_ok-edge.ensures
    c.in_ok-twice_at.ensures.seen c.in_ok-twice_at.ensures.told c.lower_of-low.ensures)
