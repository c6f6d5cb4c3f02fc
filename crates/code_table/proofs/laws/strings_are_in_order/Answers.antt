use Rattle.code_table.proofs.SaidStrings.{strings_in_order}
use Rattle.code_table.proofs.laws.strings_are_in_order.Goals as goal

pub returns : goal.returns
returns c = strings_in_order
