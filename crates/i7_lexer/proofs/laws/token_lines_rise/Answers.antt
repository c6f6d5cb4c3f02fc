use Rattle.i7_lexer.proofs.RisingLines.{token_lines_rise}
use Rattle.i7_lexer.proofs.laws.token_lines_rise.Goals as goal

pub returns : goal.returns
returns c = token_lines_rise
