use Rattle.std.proofs.Common.{◌≡◌, [], ◌∷◌, ◌++◌, ◌∙◌, ◌<◌, ap, arith, length, subst, sym, true, ℕ}
use Rattle.std.specs.Prelude.{if◌then◌else◌}
use Rattle.std.proofs.lemmas.Result.{err_from_is_err_and}
use Rattle.command_parser.proofs.Places.{one_more_passes}
use Rattle.story_format.specs.declared.tables.Tables.{Tables}
use Rattle.play_meaning.specs.AllThings.{is_for_all}
use Rattle.world_store.specs.StorySettings.{setting_of}
use Rattle.story_player.proofs.Passing.{there_is}
use Rattle.story_player.proofs.all_things.all_things.Goals as goal

pub loop-number-preserved : goal.loop-number-preserved
loop-number-preserved c =
    let passes = is_for_all (setting_of c.args.world.now.tables) c.args.world.now.world c.args.action in
    one_more_passes passes c.loop-number.number c.object_count-count.result c.loop-number.things.items c.add_if.new.things.items c.is_for_all-is_one.result
    (omega (arith, c.loop-number-test.true)) (c.is_for_all-is_one.ensures ∙ ap passes c.new-object.ensures)
    (c.in_ok-add_if.ensures.added ∙ ap (λ o. if c.is_for_all-is_one.result then c.loop-number.things.items ++ o ∷ [] else c.loop-number.things.items) c.new-object.ensures)
    ∙ c.loop-number.invariant

pub returns-in_err-add_if-clause-refused : goal.returns-in_err-add_if-clause-refused
returns-in_err-add_if-clause-refused c =
    let p = err_from_is_err_and c.from_residual.result c.from_residual.ensures.1 in
    let t = c.args.world.now.tables in
    let w = c.args.world.now.world in
    rw p.1
    (there_is t w c.args.action c.loop-number.number
    (subst (λ (count : ℕ). c.loop-number.number < count) (c.object_count-count.ensures.count ∙ ap (λ (t : Tables). length t.objects) c.story.ensures) c.loop-number-test.true)
    (subst (λ (o : ℕ). is_for_all (setting_of t) w c.args.action o ≡ true) c.new-object.ensures (sym c.is_for_all-is_one.ensures ∙ c.in_err-add_if.ensures.refused)))
