use Rattle.std.proofs.Common.{◌∙◌, ap, subst, refl, arith, length, List, ℕ}
use Rattle.play_meaning.specs.Sessions.{meant}
use Rattle.story_format.specs.declared.tables.Tables.{Tables}
use Rattle.world_store.specs.StoryPlay.{game_in_play}
use Rattle.story_player.specs.Given.{IsGiven}
use Rattle.story_player.specs.Sessions.{game_of, state_of}
use Rattle.story_player.proofs.GivenCommands.{IsUnderway, begun_commands, ended_early, ended_last, off_so, on_so, underway}
use Rattle.story_player.proofs.session.Session.commands.Goals as goal

pub loop-rest-init : goal.loop-rest-init
loop-rest-init g c = record {
  underway = begun_commands (game_of c.args.self.now) c.args.first c.args.more (state_of c.args.self.now) c.args.text.now.said c.requires.going;
  room = c.requires.room;
  story = refl;
}

pub command-given-requires-clause-going : goal.command-given-requires-clause-going
command-given-requires-clause-going g c = c.loop-rest.invariant.underway.going

pub command-given-requires-clause-room : goal.command-given-requires-clause-room
command-given-requires-clause-room g c = omega (arith, c.loop-rest.invariant.room)

pub returns-then-not-given-clause-answer : goal.returns-then-not-given-clause-answer
returns-then-not-given-clause-answer g c =
    let game = game_of c.args.self.now in
    let first = c.args.first in
    let more = c.args.more in
    let from = state_of c.args.self.now in
    let before = c.args.text.now.said in
    let words = c.loop-rest.command in
    let here = state_of c.loop-rest.self in
    let to = state_of c.command-given.new.self in
    let said = c.loop-rest.text.said in
    let after = c.command-given.new.text.said in
    let given =
    subst (λ (t : Tables). IsGiven (game_in_play t) (meant (game_in_play t) here words) here to said after c.command-given.result) c.loop-rest.invariant.story
    c.command-given.ensures.answer in
    ended_early game first more from before words here to said after c.command-given.result given c.loop-rest.rest c.loop-rest.invariant.underway
    (off_so c.command-given.result.goes_on c.if-not-given.true)

pub returns-in-None-clause-answer : goal.returns-in-None-clause-answer
returns-in-None-clause-answer g c =
    let game = game_of c.args.self.now in
    let first = c.args.first in
    let more = c.args.more in
    let from = state_of c.args.self.now in
    let before = c.args.text.now.said in
    let words = c.loop-rest.command in
    let here = state_of c.loop-rest.self in
    let to = state_of c.command-given.new.self in
    let said = c.loop-rest.text.said in
    let after = c.command-given.new.text.said in
    let given =
    subst (λ (t : Tables). IsGiven (game_in_play t) (meant (game_in_play t) here words) here to said after c.command-given.result) c.loop-rest.invariant.story
    c.command-given.ensures.answer in
    ended_last game first more from before words here to said after c.command-given.result given
    (subst (λ (rest : List (List (List ℕ))). IsUnderway game first more from before words rest here said) c.in-None.ensures.steps.0 c.loop-rest.invariant.underway)

pub loop-rest-smaller : goal.loop-rest-smaller
loop-rest-smaller g c =
    let shorter = ap (λ (rest : List (List (List ℕ))). length rest) c.in-Some.ensures.steps in
    omega (arith, shorter)

pub loop-rest-preserved : goal.loop-rest-preserved
loop-rest-preserved g c =
    let game = game_of c.args.self.now in
    let first = c.args.first in
    let more = c.args.more in
    let from = state_of c.args.self.now in
    let before = c.args.text.now.said in
    let words = c.loop-rest.command in
    let here = state_of c.loop-rest.self in
    let to = state_of c.command-given.new.self in
    let said = c.loop-rest.text.said in
    let after = c.command-given.new.text.said in
    let given =
    subst (λ (t : Tables). IsGiven (game_in_play t) (meant (game_in_play t) here words) here to said after c.command-given.result) c.loop-rest.invariant.story
    c.command-given.ensures.answer in
    let shorter = ap (λ (rest : List (List (List ℕ))). length rest) c.in-Some.ensures.steps in
    record {
      underway =
          underway game first more from before words here to said after c.command-given.result given c.in-Some.next c.next.new.self
          (subst (λ (rest : List (List (List ℕ))). IsUnderway game first more from before words rest here said) c.in-Some.ensures.steps c.loop-rest.invariant.underway)
          (on_so c.command-given.result.goes_on c.if-not-given.false);
      room = omega (arith, shorter, c.loop-rest.invariant.room, c.command-given.ensures.room);
      story = c.command-given.ensures.story ∙ c.loop-rest.invariant.story;
    }
