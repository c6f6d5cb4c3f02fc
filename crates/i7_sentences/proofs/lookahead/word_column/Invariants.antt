use Rattle.std.proofs.Common.{◌≡◌, ◌≤◌, length, drop}
use Rattle.i7_sentences.specs.Matching.{word_column}
use Rattle.i7_sentences.proofs.lookahead.word_column.Given as goal

abbrev pub invariant-loop-place : goal.invariant-loop-place
invariant-loop-place l = record { within : l.place ≤ length l.tokens; same : l.column.items ≡ word_column l.keyword l.behind (drop l.place l.tokens) }

abbrev pub decreases-loop-place : goal.decreases-loop-place
decreases-loop-place l = l.place
