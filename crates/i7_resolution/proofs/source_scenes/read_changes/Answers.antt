use Rattle.std.proofs.Common.{◌∷◌, subst, sym}
use Rattle.i7_rules.proofs.Looked.{goes_on}
use Rattle.i7_rules.specs.Knowns.{known_of}
use Rattle.i7_resolution.specs.SceneChangeList.{change_lent, changes_lent}
use Rattle.i7_resolution.specs.SceneScans.{IsSoFar, state_of}
use Rattle.i7_resolution.proofs.ReadScenes.{change_further, starts_reading}
use Rattle.i7_resolution.proofs.source_scenes.read_changes.Goals as goal

pub loop-rest-init : goal.loop-rest-init
loop-rest-init c = starts_reading (known_of c.args.known.now) c.args.recurring.now (changes_lent c.args.changes.now) c.in_ok-untold.field-0.items c.in_ok-untold.ensures

pub loop-rest-preserved : goal.loop-rest-preserved
loop-rest-preserved c =
    let k = known_of c.args.known.now in
    let recurring = c.args.recurring.now in
    let change = change_lent c.change-item.result in
    goes_on change_lent (λ before. IsSoFar k recurring before (state_of c.loop-rest.so_far)) (λ before. IsSoFar k recurring before (state_of c.with_found-so_far.result)) (changes_lent c.args.changes.now)
    c.loop-rest.rest.now c.change-item.result c.in-len1-up.len_at_least c.change-item.is c.loop-rest.invariant
    (λ before so. subst (IsSoFar k recurring (change ∷ before)) (sym c.with_found-so_far.ensures)
    (change_further c.one_condition_is_meant.ensures k recurring change before c.in_ok-found.found (state_of c.loop-rest.so_far) c.in_ok-found.ensures so))
