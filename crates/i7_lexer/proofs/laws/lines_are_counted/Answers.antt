use Rattle.std.proofs.Common.{◌++◌, refl}
use Rattle.i7_lexer.proofs.Lines.{lines-counted}
use Rattle.i7_lexer.proofs.laws.lines_are_counted.Goals as goal

pub returns : goal.returns
returns c = λ lexemes front rest cut. lines-counted lexemes (front ++ rest) front rest cut refl
