use Rattle.std.proofs.Common.{◌≡◌, ◌∙◌, ap, sym, subst, refl, List, Some}
use Rattle.std.specs.Prelude.{None}
use Rattle.play_meaning.specs.Sessions.{undone}
use Rattle.play_meaning.specs.Worlds.{World}
use Rattle.world_store.specs.StoryWorlds.{StoryWorld}
use Rattle.story_player.specs.Given.{said_behind, so_far}
use Rattle.story_player.specs.KeptWorlds.{kept_in}
use Rattle.world_meaning.specs.declared.session.ReplyKind.TheVariants.{Free}
use Rattle.story_player.specs.Sessions.{state_of}
use Rattle.story_player.proofs.Keepings.{IsHome, are_there, home_of, home_undone, is_of, kept_undone, mark_within}
use Rattle.story_player.proofs.session.Session.undo.Goals as goal

pub revert-requires : goal.revert-requires
revert-requires g c =
    let session = c.args.self.now in
    let t = session.story.value in
    let taken = c.take.ensures.value in
    let there = c.unwrap-world.ensures in
    let here : session.world ≡ Some c.unwrap-world.result = cc in
    mark_within t session.world session.kept c.take_back.new.self c.in-Some.mark c.unwrap-world.result
    (home_of t session.world session.kept session.there session.world_story session.marks) here (sym c.in-Some.ensures.value) c.in-Some.ensures.rest

pub invariant_of-self-in-Some : goal.invariant_of-self-in-Some
invariant_of-self-in-Some g c =
    let session = c.args.self.now in
    let t = session.story.value in
    let rest = c.take_back.new.self in
    let taken = c.take.ensures.value in
    let there = c.unwrap-world.ensures in
    let here : session.world ≡ Some c.unwrap-world.result = cc in
    let home =
    subst (λ (v : StoryWorld). IsHome t (Some v) rest) (sym c.revert.ensures)
    (home_undone t session.world session.kept rest c.in-Some.mark c.unwrap-world.result
    (home_of t session.world session.kept session.there session.world_story session.marks) here (sym c.in-Some.ensures.value) c.in-Some.ensures.rest) in
    record {
      opened = session.opened;
      whole = session.whole;
      indexed = session.indexed;
      there = refl;
      world_story = is_of t (Some c.revert.new.self) rest home;
      marks = are_there t (Some c.revert.new.self) rest home;
    }

pub returns-in-Some-clause-answer : goal.returns-in-Some-clause-answer
returns-in-Some-clause-answer g c =
    let session = c.args.self.now in
    let s = state_of session in
    let t = session.story.value in
    let rest = c.take_back.new.self in
    let taken = c.take.ensures.value in
    let there = c.unwrap-world.ensures in
    let here : session.world ≡ Some c.unwrap-world.result = cc in
    let kept =
    kept_undone t session.world session.kept rest c.in-Some.mark c.unwrap-world.result
    (home_of t session.world session.kept session.there session.world_story session.marks) here (sym c.in-Some.ensures.value) c.in-Some.ensures.rest in
    record {
      answer = (λ i. so_far (c.add_fixed-in-Some.ensures.said i) Free (record { world = (c.revert.ensures i).world; kept = kept_in (Some (c.revert.ensures i)) rest; question = None; ending = session.ending }))
          ∙ sym (ap (λ (worlds : List World). said_behind c.args.text.now.said (undone worlds s)) kept);
      goes_on = refl;
    }
