use Rattle.std.proofs.Common.{sym, arith}
use Rattle.std.proofs.lemmas.Grind.{common_steps}
use Rattle.i7_sentences.specs.ValueForms.{value_forms}
use Rattle.i7_sentences.proofs.Valuing.{no_kinds}
use Rattle.i7_sentences.proofs.value_reading.value_reading.Goals as goal

pub returns-then-is_empty : goal.returns-then-is_empty
returns-then-is_empty c = sym (no_kinds value_forms c.args.kinds.now c.args.tokens.now (grind (arith, common_steps, c.is_empty.ensures, c.if-is_empty.true)))
