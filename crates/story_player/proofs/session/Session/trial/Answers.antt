use Rattle.std.proofs.Common.{◌≡◌, ◌∙◌, refl, Some}
use Rattle.story_player.proofs.Keepings.{are_there, gone_behind, has_gone_on, home_of, home_on, is_of}
use Rattle.story_player.proofs.session.Session.trial.Goals as goal

pub invariant_of-self : goal.invariant_of-self
invariant_of-self g c =
    let session = c.args.self.now in
    let t = session.story.value in
    let now = c.tried-world.result.0 in
    let taken = c.take.ensures.value in
    let there = c.unwrap-world.ensures in
    let here : session.world ≡ Some c.unwrap-world.result = cc in
    let home =
    home_on t session.world session.kept c.unwrap-world.result now (home_of t session.world session.kept session.there session.world_story session.marks) here
    (c.tried-world.ensures.story ∙ c.as_ref.ensures) (gone_behind c.tried-world.result.1 c.unwrap-world.result now c.tried-world.ensures.behind c.tried-world.ensures.left) in
    record {
      opened = session.opened;
      whole = session.whole;
      indexed = session.indexed;
      there = refl;
      world_story = is_of t (Some now) session.kept home;
      marks = are_there t (Some now) session.kept home;
    }

pub returns-clause-behind : goal.returns-clause-behind
returns-clause-behind g c =
    let session = c.args.self.now in
    let taken = c.take.ensures.value in
    let there = c.unwrap-world.ensures in
    let here : session.world ≡ Some c.unwrap-world.result = cc in
    has_gone_on c.tried-world.result.1 session.world c.unwrap-world.result c.tried-world.result.0 here c.tried-world.ensures.behind
