use Rattle.golden_transcripts.proofs.Parts.{behind_behind}
use Rattle.golden_transcripts.proofs.trial.found_in.Goals as goal

pub loop-session-preserved-in-Some : goal.loop-session-preserved-in-Some
loop-session-preserved-in-Some g c =
    let begun = c.take_comments-comments.new.self.rest.now in
    let found = c.take_command.new.self.rest.now in
    behind_behind begun found c.add_exchange-added-in-Some.new.file.rest.now (behind_behind begun c.loop-session.file.rest.now found c.loop-session.invariant c.in-Some.ensures.behind)
    c.add_exchange-added-in-Some.ensures

pub loop-session-preserved : goal.loop-session-preserved
loop-session-preserved g c =
    let begun = c.take_comments-comments.new.self.rest.now in
    let found = c.take_command.new.self.rest.now in
    behind_behind begun found c.add_exchange-added-in-Some.new.file.rest.now (behind_behind begun c.loop-session.file.rest.now found c.loop-session.invariant c.in-Some.ensures.behind)
    c.add_exchange-added-in-Some.ensures

pub returns-clause-behind : goal.returns-clause-behind
returns-clause-behind g c =
    behind_behind c.take_comments-comments.new.self.rest.now c.loop-session.file.rest.now c.take_command.new.self.rest.now c.loop-session.invariant c.in_default-take_command.ensures.behind
