use Rattle.std.proofs.Common.{◌≡◌, ◌≤◌, length, drop}
use Rattle.i7_sentences.specs.WordColumns.{inside_of, words_column}
use Rattle.i7_sentences.proofs.lookahead.words_column.Given as goal

abbrev pub invariant-loop-place : goal.invariant-loop-place
invariant-loop-place l = record {
  within : l.place ≤ length l.tokens;
  inside : l.inside ≡ inside_of l.behind (drop l.place l.tokens);
  same : l.column.items ≡ words_column l.behind (drop l.place l.tokens);
}

abbrev pub decreases-loop-place : goal.decreases-loop-place
decreases-loop-place l = l.place
