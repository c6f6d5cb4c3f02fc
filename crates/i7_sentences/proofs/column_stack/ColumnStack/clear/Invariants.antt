use Rattle.std.proofs.Common.{length}
use Rattle.i7_sentences.proofs.column_stack.ColumnStack.clear.Given as goal

abbrev pub decreases-loop-column : goal.decreases-loop-column
decreases-loop-column l = length l.self-inside.told.items
