use Rattle.std.proofs.Common.{sym, ◌∙◌}
use Rattle.std.proofs.lemmas.Result.{err_from_is_err_and, on_err_weaker}
use Rattle.story_player.specs.Sessions.{state_of, game_of}
use Rattle.story_player.specs.Watches.{watched_inner}
use Rattle.story_player.proofs.Tellings.{last_broke, last_prompt}
use Rattle.story_player.proofs.playing.answer_last.Goals as goal

pub returns-in_err-answer-clause-front : goal.returns-in_err-answer-clause-front
returns-in_err-answer-clause-front g c =
    let p = err_from_is_err_and c.from_residual.result c.from_residual.ensures.1 in
    let held = g.W.Write.contents (watched_inner c.args.writer.now) in
    let now = g.W.Write.contents (watched_inner c.answer.new.writer) in
    rw p.1 (last_broke (game_of c.args.session.now) c.args.echo (state_of c.args.session.now) (state_of c.answer.new.session) c.args.line.now held now (sym c.is_empty.ensures ∙ c.if-is_empty.false) c.in_err-answer.ensures.front)

pub returns-clause-front : goal.returns-clause-front
returns-clause-front g c =
    let held = g.W.Write.contents (watched_inner c.args.writer.now) in
    let told = g.W.Write.contents (watched_inner c.answer.new.writer) in
    let now = g.W.Write.contents (watched_inner c.prompt.new.writer) in
    on_err_weaker c.prompt.result
    (λ broke. last_prompt (game_of c.args.session.now) c.args.echo (state_of c.args.session.now) (state_of c.answer.new.session) c.args.line.now held told now (sym c.is_empty.ensures ∙ c.if-is_empty.false) c.in_ok-answer.ensures.answered broke)
    c.prompt.ensures.front
