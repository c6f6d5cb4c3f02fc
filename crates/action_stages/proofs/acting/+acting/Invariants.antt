-- How far each call is from the deepest level, and what is left to do in each loop.
use Rattle.std.proofs.Common.{◌≡◌, ◌+◌, ◌-◌, ◌*◌, drop, length}
use Rattle.std.specs.Prelude.{map}
use Rattle.play_meaning.specs.Acting.{act, inner_of}
use Rattle.play_meaning.specs.CodedStories.{game_of_codes}
use Rattle.play_meaning.specs.Consulting.{ask, consult}
use Rattle.play_meaning.specs.Progress.{first_decision}
use Rattle.action_stages.specs.Bodies.{IsRunning, left_at}
use Rattle.world_store.specs.StoryPlay.{coded_story, game_in_play}
use Rattle.action_stages.specs.Parts.{part_of}
use Rattle.action_stages.proofs.acting.+acting.Given as goal

abbrev pub decreases-act_in : goal.decreases-act_in
decreases-act_in g l = 10 * l.depth + 8

abbrev pub decreases-part_in : goal.decreases-part_in
decreases-part_in g l = 10 * l.depth + 7

abbrev pub decreases-report_in : goal.decreases-report_in
decreases-report_in g l = 10 * l.depth + 6

abbrev pub decreases-consult_in : goal.decreases-consult_in
decreases-consult_in g l = 10 * l.depth + 5

abbrev pub decreases-ask_in : goal.decreases-ask_in
decreases-ask_in g l = 10 * l.depth + 4

abbrev pub decreases-body_in : goal.decreases-body_in
decreases-body_in g l = 10 * l.depth + 3

abbrev pub decreases-code_in : goal.decreases-code_in
decreases-code_in g l = 10 * l.depth + 2

abbrev pub decreases-step_in : goal.decreases-step_in
decreases-step_in g l = 10 * l.depth + 1

abbrev pub decreases-standard_in : goal.decreases-standard_in
decreases-standard_in g l = 10 * l.depth + 1

abbrev pub decreases-held_in : goal.decreases-held_in
decreases-held_in g l = 10 * l.depth + 1

abbrev pub decreases-follows_in : goal.decreases-follows_in
decreases-follows_in g l = 10 * l.depth

abbrev pub decreases-tries_in : goal.decreases-tries_in
decreases-tries_in g l = 10 * l.depth

abbrev pub invariant-act_in-loop-part : goal.invariant-act_in-loop-part
invariant-act_in-loop-part g l =
    let tables = g.P.Playing.tables in
    let progress = g.P.Playing.progress in
    let game = game_in_play (tables l.fn.play) in
    record {
      same : tables l.play ≡ tables l.fn.play;
      kept : g.P.Playing.loaded l.play ≡ g.P.Playing.loaded l.fn.play;
      rest : first_decision (map (part_of game (inner_of game l.depth) l.now) (drop l.part-index l.all)) (progress l.play) ≡ act game (inner_of game l.fn.depth) l.fn.now (progress
          l.fn.play);
    }

abbrev pub invariant-consult_in-loop-place : goal.invariant-consult_in-loop-place
invariant-consult_in-loop-place g l =
    let tables = g.P.Playing.tables in
    let progress = g.P.Playing.progress in
    let game = game_in_play (tables l.fn.play) in
    record {
      same : tables l.play ≡ tables l.fn.play;
      kept : g.P.Playing.loaded l.play ≡ g.P.Playing.loaded l.fn.play;
      rest : first_decision (map (ask game (inner_of game l.depth) l.book l.now) (drop l.from (game.books l.book))) (progress l.play) ≡ consult game (inner_of game l.fn.depth)
          l.fn.book l.fn.now (progress l.fn.play);
    }

abbrev pub decreases-consult_in-loop-place : goal.decreases-consult_in-loop-place
decreases-consult_in-loop-place g l = length ((game_in_play (g.P.Playing.tables l.play)).books l.book) - l.from

abbrev pub invariant-code_in-steps : goal.invariant-code_in-steps
invariant-code_in-steps g l =
    let tables = g.P.Playing.tables in
    let progress = g.P.Playing.progress in
    let k = coded_story (tables l.fn.play) in
    record {
      same : tables l.play ≡ tables l.fn.play;
      kept : g.P.Playing.loaded l.play ≡ g.P.Playing.loaded l.fn.play;
      runs : IsRunning k l.codes l.now (inner_of (game_of_codes k) l.depth) l.fn.code (progress l.fn.play) l.state (progress l.play);
    }

abbrev pub decreases-code_in-steps : goal.decreases-code_in-steps
decreases-code_in-steps g l = left_at (coded_story (g.P.Playing.tables l.fn.play)) l.state (g.P.Playing.progress l.play)
