use Rattle.std.proofs.Common.{◌≡◌, ◌∙◌, ◌≤◌, ◌<◌, ap, arith, length, sym}
use Rattle.world_store.specs.Pasts.{world_of}
use Rattle.world_store.specs.StoryWorlds.{StoryWorld}
use Rattle.world_store.proofs.Pasts.{past_length}
use Rattle.world_store.proofs.Reverted.{reverted_back, reverted_here, shorter}
use Rattle.world_store.proofs.world.World.revert.Goals as goal

pub undo_last-requires : goal.undo_last-requires
undo_last-requires c =
    let many : length c.self.inside.log ≡ length c.loop-mark.self.past =
    sym (past_length c.self.inside.log (world_of c.self.inside.state)) ∙ ap (λ (s : StoryWorld). length s.past) c.self.view_is in
    omega (arith, many, c.len.ensures, c.loop-mark-test.true)

pub loop-mark-preserved : goal.loop-mark-preserved
loop-mark-preserved c =
    let many : length c.self.inside.log ≡ length c.loop-mark.self.past =
    sym (past_length c.self.inside.log (world_of c.self.inside.state)) ∙ ap (λ (s : StoryWorld). length s.past) c.self.view_is in
    let beyond : c.args.mark < length c.loop-mark.self.past = omega (arith, many, c.len.ensures, c.loop-mark-test.true, c.mark.view_is) in
    let upto : c.args.mark ≤ length c.undo_last.new.self.past = omega (arith, beyond, shorter c.loop-mark.self c.undo_last.new.self c.undo_last.ensures.past) in
    record { upto = upto; same = reverted_back c.args.mark c.loop-mark.self c.undo_last.new.self c.undo_last.ensures.tables c.undo_last.ensures.past upto ∙ c.loop-mark.invariant.same }

pub returns : goal.returns
returns c =
    let many : length c.self.inside.log ≡ length c.loop-mark.self.past =
    sym (past_length c.self.inside.log (world_of c.self.inside.state)) ∙ ap (λ (s : StoryWorld). length s.past) c.self.view_is in
    let from : length c.loop-mark.self.past ≤ c.args.mark = omega (arith, many, c.len.ensures, c.loop-mark-test.false, c.mark.view_is) in
    reverted_here c.args.mark c.loop-mark.self c.loop-mark.invariant.upto from ∙ c.loop-mark.invariant.same
