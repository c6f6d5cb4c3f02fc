use Rattle.std.proofs.Common.{◌∙◌, sym}
use Rattle.i7_sentences.proofs.Needing.{lacking_best}
use Rattle.i7_sentences.proofs.reading.variants_left.Goals as goal

pub returns-then-is_lacking : goal.returns-then-is_lacking
returns-then-is_lacking c = sym (lacking_best c.args.signs.now c.args.tokens.now c.args.word _ c.requires.signs (sym c.is_lacking.ensures ∙ c.if-is_lacking.true) c.requires.needed)
