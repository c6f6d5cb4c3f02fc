use Rattle.std.proofs.Common.{◌≡◌, ◌<◌, get_or, length, rules}
use Rattle.i7_sentences.proofs.SmallRows.{small_at}
use Rattle.i7_sentences.proofs.keyword.keyword_in_table.Goals as goal

pub keyword_in-requires : goal.keyword_in-requires
keyword_in-requires c =
    let within : length c.args.word.now < length c.args.table.now = search rules in
    let got : c.in-Some.rows.now ≡ get_or c.args.table.now (length c.args.word.now) c.in-Some.rows.now = search rules in
    small_at _ c.args.table.now (length c.args.word.now) c.in-Some.rows.now c.requires within got
