use Rattle.std.proofs.Common.{subst}
use Rattle.std.specs.Io.KnownBytes.{Appends}
use Rattle.std.proofs.lemmas.Result.{err_from_is_err_and, on_err_weaker}
use Rattle.story_player.specs.Steps.{shown}
use Rattle.story_player.specs.Watches.{watched_inner}
use Rattle.story_player.proofs.Tellings.{tell_break, tell_text}
use Rattle.story_player.proofs.playing.tell.Goals as goal

pub returns-in_err-echo_bytes-2-clause-front : goal.returns-in_err-echo_bytes-2-clause-front
returns-in_err-echo_bytes-2-clause-front g c =
    let p = err_from_is_err_and c.from_residual-in_err-echo_bytes-2.result c.from_residual-in_err-echo_bytes-2.ensures.1 in
    let held = g.W.Write.contents (watched_inner c.args.writer.now) in
    let echoed = g.W.Write.contents (watched_inner c.echo_bytes.new.writer) in
    let now = g.W.Write.contents (watched_inner c.echo_bytes-2.new.writer) in
    let kept = subst (λ bs. Appends held echoed (shown c.args.echo bs)) c.kept.ensures c.in_ok-echo_bytes.ensures.wrote in
    rw p.1 (tell_break held echoed now c.args.echo c.args.line.now.kept c.args.text.now kept c.in_err-echo_bytes-2.ensures.front)

pub returns-clause-front : goal.returns-clause-front
returns-clause-front g c =
    let held = g.W.Write.contents (watched_inner c.args.writer.now) in
    let echoed = g.W.Write.contents (watched_inner c.echo_bytes.new.writer) in
    let broken = g.W.Write.contents (watched_inner c.echo_bytes-2.new.writer) in
    let now = g.W.Write.contents (watched_inner c.write_whole.new.writer) in
    let kept = subst (λ bs. Appends held echoed (shown c.args.echo bs)) c.kept.ensures c.in_ok-echo_bytes.ensures.wrote in
    on_err_weaker c.write_whole.result
    (λ broke. tell_text held echoed broken now c.args.echo c.args.line.now.kept c.args.text.now kept c.in_ok-echo_bytes-2.ensures.wrote broke)
    c.write_whole.ensures.front
