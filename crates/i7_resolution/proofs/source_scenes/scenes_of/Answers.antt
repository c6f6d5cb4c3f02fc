use Rattle.std.proofs.Common.{List, subst}
use Rattle.std.specs.Prelude.{reverse}
use Rattle.i7_rules.specs.Knowns.{known_of}
use Rattle.i7_rules.specs.RuleScans.{IsLow}
use Rattle.i7_resolution.specs.SceneChangeList.{changes_lent, placed}
use Rattle.i7_resolution.specs.SceneScans.{IsSoFar, state_of}
use Rattle.i7_resolution.specs.SourceScenes.{IsTwice}
use Rattle.i7_resolution.specs.declared.scene_change_list.ChangeAt.{ChangeAt as Lent}
use Rattle.i7_resolution.proofs.ReadScenes.{sentences_told}
use Rattle.i7_resolution.proofs.source_scenes.scenes_of.Goals as goal

pub returns : goal.returns
returns c =
    let k = known_of c.args.known.now in
    let recurring = c.args.recurring.now in
    sentences_told k recurring c.args.sentences.now (changes_lent c.in_ok-changes.changes.items) c.in_ok-twice.twice c.in_ok-so_far.so_far c.told.result c.in_ok-changes.ensures
    (subst (λ (all : List Lent). IsLow (IsTwice k) (placed (reverse (changes_lent all))) c.in_ok-twice.twice) c.as_slice.ensures.value c.in_ok-twice.ensures)
    (subst (λ (all : List Lent). IsSoFar k recurring (reverse (changes_lent all)) (state_of c.in_ok-so_far.so_far)) c.as_slice-2.ensures.value c.in_ok-so_far.ensures)
    c.told.ensures
