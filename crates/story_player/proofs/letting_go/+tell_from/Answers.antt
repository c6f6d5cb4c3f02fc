use Rattle.std.proofs.Common.{◌∙◌, arith, sym}
use Rattle.story_player.proofs.ShorterLogs.{told_one}
use Rattle.story_player.proofs.letting_go.+tell_from.Goals as goal

pub returns-in-Some : goal.returns-in-Some
returns-in-Some t c =
    c.keep.ensures
    ∙ told_one c.args.first c.args.kept.now c.take_back.new.self c.tell_from.new.kept c.in-Some.mark c.behind.result (omega (arith, c.len.ensures.len, c.len.ensures.most)) (sym c.in-Some.ensures.value)
    c.in-Some.ensures.rest c.tell_from.ensures c.behind.ensures
