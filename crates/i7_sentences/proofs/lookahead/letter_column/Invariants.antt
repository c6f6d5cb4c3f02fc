use Rattle.std.proofs.Common.{◌≡◌, ◌≤◌, length, drop}
use Rattle.i7_sentences.specs.Matching.{letter_column, ahead_of}
use Rattle.i7_sentences.proofs.lookahead.letter_column.Given as goal

abbrev pub invariant-loop-place : goal.invariant-loop-place
invariant-loop-place l = record {
  within : l.place ≤ length l.tokens;
  ahead : l.ahead ≡ ahead_of l.class l.behind (drop l.place l.tokens);
  same : l.column.items ≡ letter_column l.class l.behind (drop l.place l.tokens);
}

abbrev pub decreases-loop-place : goal.decreases-loop-place
decreases-loop-place l = l.place
