use Rattle.std.proofs.Common.{◌≡◌, true, length, map}
use Rattle.i7_sentences.specs.Keywords.{keyword_in}
use Rattle.i7_sentences.specs.SmallRows.{are_small}
use Rattle.i7_sentences.proofs.keyword.keyword_in.Given as goal

abbrev pub invariant-loop-rest : goal.invariant-loop-rest
invariant-loop-rest l = record {
  same : keyword_in l.word (map (λ row. record { spelling = row.0.now; keyword = row.1 }) l.rest) ≡ keyword_in l.word (map (λ row. record { spelling = row.0.now; keyword = row.1 }) l.rows);
  small : are_small (map (λ row. record { spelling = row.0.now; keyword = row.1 }) l.rest) ≡ true;
}

abbrev pub decreases-loop-rest : goal.decreases-loop-rest
decreases-loop-rest l = length l.rest
