use Rattle.std.proofs.Common.{Ok, ap, subst}
use Rattle.std.specs.Io.KnownBytes.{Appends}
use Rattle.std.proofs.lemmas.Result.{err_from_is_err_and}
use Rattle.world_meaning.specs.Texts.{prompt}
use Rattle.play_meaning.specs.Transcripts.{while_going}
use Rattle.story_player.specs.Sessions.{state_of, game_of}
use Rattle.story_player.specs.Steps.{Answered, BrokeAnswer}
use Rattle.story_player.specs.Watches.{watched_inner}
use Rattle.story_player.proofs.PlayedLines.{cut_at_prompt, cut_in_answer, cut_in_last, cut_in_line, played_last, played_line}
use Rattle.story_player.proofs.Tellings.{part_told, state_told}
use Rattle.story_player.proofs.Writes.{consumes-nothing}
use Rattle.story_player.proofs.playing.play_line.Goals as goal

pub returns-in_err-prompt-clause-cut : goal.returns-in_err-prompt-clause-cut
returns-in_err-prompt-clause-cut g c =
    let p = err_from_is_err_and c.from_residual.result c.from_residual.ensures.1 in
    let unread = g.R.Read.remaining (watched_inner c.args.reader.now) in
    let held = g.W.Write.contents (watched_inner c.args.writer.now) in
    let now = g.W.Write.contents (watched_inner c.prompt.new.writer) in
    let told = c.in_err-prompt.ensures in
    rw (p.1, p.2, told.broke.0)
    (cut_at_prompt (game_of c.args.session.now) c.args.echo c.args.left.now unread held now (state_of c.args.session.now) c.requires.going (consumes-nothing unread) told.front)

pub returns-in_err-end-clause-cut : goal.returns-in_err-end-clause-cut
returns-in_err-end-clause-cut g c =
    let p = err_from_is_err_and c.from_residual-in_err-end.result c.from_residual-in_err-end.ensures.1 in
    let unread = g.R.Read.remaining (watched_inner c.args.reader.now) in
    let rest = g.R.Read.remaining (watched_inner c.type_line.new.reader) in
    let held = g.W.Write.contents (watched_inner c.args.writer.now) in
    let a = g.W.Write.contents (watched_inner c.prompt.new.writer) in
    let now = g.W.Write.contents (watched_inner c.type_line.new.writer) in
    let prompted = subst (λ e. Appends held a (while_going e prompt)) c.requires.going c.in_ok-prompt.ensures.wrote in
    rw (p.1, p.2)
    (cut_in_line c.in_err-end.field-0.0 (game_of c.args.session.now) c.args.echo c.args.left.now unread rest held a now (state_of c.args.session.now) c.requires.going prompted c.in_err-end.ensures.cut)

pub returns-in_err-answer-in-Break-clause-cut : goal.returns-in_err-answer-in-Break-clause-cut
returns-in_err-answer-in-Break-clause-cut g c =
    let p = err_from_is_err_and c.from_residual-in_err-answer-in-Break.result c.from_residual-in_err-answer-in-Break.ensures.1 in
    let unread = g.R.Read.remaining (watched_inner c.args.reader.now) in
    let rest = g.R.Read.remaining (watched_inner c.type_line.new.reader) in
    let held = g.W.Write.contents (watched_inner c.args.writer.now) in
    let a = g.W.Write.contents (watched_inner c.prompt.new.writer) in
    let b = g.W.Write.contents (watched_inner c.type_line.new.writer) in
    let now = g.W.Write.contents (watched_inner c.answer.new.writer) in
    let game = game_of c.args.session.now in
    let from = state_of c.args.session.now in
    let to = state_of c.answer.new.session in
    let line = c.type_line.new.line in
    let prompted = subst (λ e. Appends held a (while_going e prompt)) c.requires.going c.in_ok-prompt.ensures.wrote in
    let told = c.in_err-answer-in-Break.ensures in
    let broke = subst (λ t. BrokeAnswer (part_told game c.args.echo from t) (state_told game from t) b now to) c.drop_return.ensures told.front in
    rw (p.1, p.2, told.broke.0)
    (cut_in_answer game c.args.echo c.args.left.now c.type_line.new.left unread rest held a b now from to line.gone line.kept c.requires.going prompted (c.in_ok-end.ensures.whole (ap (λ e. Ok e) c.in-Break.is)) broke)

pub returns-in_err-answer_last-in-Input-clause-cut : goal.returns-in_err-answer_last-in-Input-clause-cut
returns-in_err-answer_last-in-Input-clause-cut g c =
    let p = err_from_is_err_and c.from_residual-in_err-answer_last-in-Input.result c.from_residual-in_err-answer_last-in-Input.ensures.1 in
    let unread = g.R.Read.remaining (watched_inner c.args.reader.now) in
    let rest = g.R.Read.remaining (watched_inner c.type_line.new.reader) in
    let held = g.W.Write.contents (watched_inner c.args.writer.now) in
    let a = g.W.Write.contents (watched_inner c.prompt.new.writer) in
    let b = g.W.Write.contents (watched_inner c.type_line.new.writer) in
    let now = g.W.Write.contents (watched_inner c.answer_last.new.writer) in
    let line = c.type_line.new.line in
    let prompted = subst (λ e. Appends held a (while_going e prompt)) c.requires.going c.in_ok-prompt.ensures.wrote in
    let told = c.in_err-answer_last-in-Input.ensures in
    rw (p.1, p.2, told.broke.0)
    (cut_in_last (game_of c.args.session.now) c.args.echo c.args.left.now c.type_line.new.left unread rest held a b now (state_of c.args.session.now) (state_of c.answer_last.new.session) line.gone line.kept c.requires.going prompted (c.in_ok-end.ensures.last (ap (λ e. Ok e) c.in-Input.is)) (c.in_ok-end.ensures.ends (ap (λ e. Ok e) c.in-Input.is)) told.front)

pub returns-in_ok-answer-in-Break-clause-whole : goal.returns-in_ok-answer-in-Break-clause-whole
returns-in_ok-answer-in-Break-clause-whole g c = λ ends.
    let unread = g.R.Read.remaining (watched_inner c.args.reader.now) in
    let rest = g.R.Read.remaining (watched_inner c.type_line.new.reader) in
    let held = g.W.Write.contents (watched_inner c.args.writer.now) in
    let a = g.W.Write.contents (watched_inner c.prompt.new.writer) in
    let b = g.W.Write.contents (watched_inner c.type_line.new.writer) in
    let now = g.W.Write.contents (watched_inner c.answer.new.writer) in
    let game = game_of c.args.session.now in
    let from = state_of c.args.session.now in
    let to = state_of c.answer.new.session in
    let line = c.type_line.new.line in
    let prompted = subst (λ e. Appends held a (while_going e prompt)) c.requires.going c.in_ok-prompt.ensures.wrote in
    let told = subst (λ t. Answered (part_told game c.args.echo from t) (state_told game from t) b now to) c.drop_return.ensures c.in_ok-answer-in-Break.ensures.answered in
    played_line game c.args.echo c.args.left.now c.type_line.new.left unread rest held a b now from to line.gone line.kept prompted (c.in_ok-end.ensures.whole ends) told

pub returns-in_ok-answer_last-in-Input-clause-last : goal.returns-in_ok-answer_last-in-Input-clause-last
returns-in_ok-answer_last-in-Input-clause-last g c = λ ends.
    let unread = g.R.Read.remaining (watched_inner c.args.reader.now) in
    let rest = g.R.Read.remaining (watched_inner c.type_line.new.reader) in
    let held = g.W.Write.contents (watched_inner c.args.writer.now) in
    let a = g.W.Write.contents (watched_inner c.prompt.new.writer) in
    let b = g.W.Write.contents (watched_inner c.type_line.new.writer) in
    let now = g.W.Write.contents (watched_inner c.answer_last.new.writer) in
    let line = c.type_line.new.line in
    let prompted = subst (λ e. Appends held a (while_going e prompt)) c.requires.going c.in_ok-prompt.ensures.wrote in
    played_last (game_of c.args.session.now) c.args.echo c.args.left.now c.type_line.new.left unread rest held a b now (state_of c.args.session.now) (state_of c.answer_last.new.session) line.gone line.kept c.requires.going prompted (c.in_ok-end.ensures.last ends) (c.in_ok-end.ensures.ends ends) c.in_ok-answer_last-in-Input.ensures.answered
