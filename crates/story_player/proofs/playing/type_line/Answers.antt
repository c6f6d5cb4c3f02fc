use Rattle.std.proofs.Common.{◌≡◌, ◌+◌, ◌-◌, [], subst, sym, arith}
use Rattle.std.proofs.lemmas.Result.{err_from_is_err_and}
use Rattle.story_player.specs.Runs.{streams_of}
use Rattle.story_player.specs.Steps.{IsTyping, ReadsByte}
use Rattle.story_player.specs.Watches.{watched_inner}
use Rattle.story_player.proofs.TypedLines.{cut_by_limit, cut_by_reader, cut_by_writer, typed_more}
use Rattle.story_player.proofs.playing.type_line.Goals as goal

pub returns-in_err-byte-clause-cut : goal.returns-in_err-byte-clause-cut
returns-in_err-byte-clause-cut g c =
    let p = err_from_is_err_and c.from_residual.result c.from_residual.ensures.1 in
    let unread = g.R.Read.remaining (watched_inner c.args.reader.now) in
    let mid = g.R.Read.remaining (watched_inner c.loop-byte.reader) in
    let rest = g.R.Read.remaining (watched_inner c.next_byte.new.reader) in
    let held = g.W.Write.contents (watched_inner c.args.writer.now) in
    let now = g.W.Write.contents (watched_inner c.loop-byte.writer) in
    rw (p.1, p.2, c.in_err-byte.ensures.broke.0)
    (cut_by_reader c.args.echo c.args.left.now c.loop-byte.left unread mid rest held now c.loop-byte.line c.loop-byte.invariant.2 c.in_err-byte.ensures.kept)

pub returns-then-left-eq0-clause-cut : goal.returns-then-left-eq0-clause-cut
returns-then-left-eq0-clause-cut g c =
    let unread = g.R.Read.remaining (watched_inner c.args.reader.now) in
    let mid = g.R.Read.remaining (watched_inner c.loop-byte.reader) in
    let rest = g.R.Read.remaining (watched_inner c.next_byte.new.reader) in
    let held = g.W.Write.contents (watched_inner c.args.writer.now) in
    let now = g.W.Write.contents (watched_inner c.loop-byte.writer) in
    cut_by_limit c.args.echo c.args.left.now c.loop-byte.left c.in-Some.byte unread mid rest held now c.loop-byte.line c.loop-byte.invariant.2 c.if-left-eq0.true
    (subst (λ found. ReadsByte mid rest found) c.in-Some.is c.in_ok-byte.ensures.read)

pub loop-byte-preserved : goal.loop-byte-preserved
loop-byte-preserved g c =
    let unread = g.R.Read.remaining (watched_inner c.args.reader.now) in
    let mid = g.R.Read.remaining (watched_inner c.loop-byte.reader) in
    let rest = g.R.Read.remaining (watched_inner c.next_byte.new.reader) in
    let held = g.W.Write.contents (watched_inner c.args.writer.now) in
    let before = g.W.Write.contents (watched_inner c.loop-byte.writer) in
    let now = g.W.Write.contents (watched_inner c.keep_byte.new.writer) in
    let one_left : c.loop-byte.left ≡ c.loop-byte.left - 1 + 1 = omega (arith, c.if-left-eq0.false) in
    let typing = subst (λ n. IsTyping c.args.echo c.args.left.now n (streams_of unread held) (streams_of mid before) c.loop-byte.line []) one_left c.loop-byte.invariant.2 in
    let read = subst (λ found. ReadsByte mid rest found) c.in-Some.is c.in_ok-byte.ensures.read in
    let told = c.in_ok-keep_byte.ensures in (
      c.in_ok-byte.ensures.stands,
      told.stands,
      subst (λ t. IsTyping c.args.echo c.args.left.now (c.loop-byte.left - 1) (streams_of unread held) (streams_of rest now) t []) (sym told.kept)
          (typed_more c.args.echo c.args.left.now (c.loop-byte.left - 1) c.in-Some.byte unread mid rest held before now c.loop-byte.line typing c.if-byte-eq10.false read told.wrote),
    )

pub returns-in_err-keep_byte-clause-cut : goal.returns-in_err-keep_byte-clause-cut
returns-in_err-keep_byte-clause-cut g c =
    let p = err_from_is_err_and c.from_residual-in_err-keep_byte.result c.from_residual-in_err-keep_byte.ensures.1 in
    let unread = g.R.Read.remaining (watched_inner c.args.reader.now) in
    let mid = g.R.Read.remaining (watched_inner c.loop-byte.reader) in
    let rest = g.R.Read.remaining (watched_inner c.next_byte.new.reader) in
    let held = g.W.Write.contents (watched_inner c.args.writer.now) in
    let before = g.W.Write.contents (watched_inner c.loop-byte.writer) in
    let now = g.W.Write.contents (watched_inner c.keep_byte.new.writer) in
    let read = subst (λ found. ReadsByte mid rest found) c.in-Some.is c.in_ok-byte.ensures.read in
    let told = c.in_err-keep_byte.ensures in
    rw (p.1, p.2, told.broke.0)
    (cut_by_writer c.args.echo c.args.left.now c.loop-byte.left c.in-Some.byte unread mid rest held before now c.loop-byte.line c.loop-byte.invariant.2 c.if-left-eq0.false c.if-byte-eq10.false read told.front)
