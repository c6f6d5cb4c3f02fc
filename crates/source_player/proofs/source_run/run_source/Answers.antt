use Rattle.source_player.proofs.Plays.{left_source, played_source}
use Rattle.std.proofs.Common.{subst, sym}
use Rattle.story_file.specs.Compilations.{IsCompiled}
use Rattle.story_player.specs.Watches.{watched_inner}
use Rattle.standard_rules.specs.HostTables.{rule_count}
use Rattle.source_player.proofs.source_run.run_source.Goals as goal

pub returns-clause-played : goal.returns-clause-played
returns-clause-played g c =
    let unread = g.R.Read.remaining (watched_inner c.args.reader.now) in
    let rest = g.R.Read.remaining (watched_inner c.run_story.new.reader) in
    let held = g.W.Write.contents (watched_inner c.args.writer.now) in
    let now = g.W.Write.contents (watched_inner c.run_story.new.writer) in
    let compiled = subst (λ bytes. IsCompiled c.args.source.now bytes) (sym c.as_slice.ensures.value) c.in-Ok.ensures in
    played_source c.args.source.now c.as_slice.result.now c.args.echo unread rest held now c.run_story.result compiled c.run_story.ensures.played

pub returns-clause-left : goal.returns-clause-left
returns-clause-left g c =
    let unread = g.R.Read.remaining (watched_inner c.args.reader.now) in
    let rest = g.R.Read.remaining (watched_inner c.run_story.new.reader) in
    let held = g.W.Write.contents (watched_inner c.args.writer.now) in
    let now = g.W.Write.contents (watched_inner c.run_story.new.writer) in
    let compiled = subst (λ bytes. IsCompiled c.args.source.now bytes) (sym c.as_slice.ensures.value) c.in-Ok.ensures in
    left_source (rule_count c.args.hosts) c.args.source.now c.as_slice.result.now c.args.echo unread rest held now c.run_story.result compiled c.run_story.ensures.left
