use Rattle.std.proofs.Common.{length, ◌∙◌, ap, sym}
use Rattle.std.proofs.lemmas.Str.{utf8_valid_len-IsUtf8}
use Rattle.i7_lexer.proofs.source.valid_len.Goals as goal

pub returns-in-Ok : goal.returns-in-Ok
returns-in-Ok c = ap length c.in-Ok.ensures.cases.0 ∙ sym (utf8_valid_len-IsUtf8 _ c.in-Ok.ensures.cases.1)
