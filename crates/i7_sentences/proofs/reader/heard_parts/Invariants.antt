use Rattle.std.proofs.Common.{◌≡◌, ◌++◌, length}
use Rattle.std.specs.List.{filter_map}
use Rattle.i7_sentences.specs.Lowest.{lower_of, lowest}
use Rattle.i7_sentences.specs.Pieces.{pieces_of}
use Rattle.i7_sentences.specs.Read.{reserved_in, sentence_in, unread_in}
use Rattle.i7_sentences.specs.Stretches.{bad_literal_of}
use Rattle.i7_sentences.proofs.reader.heard_parts.Given as goal

abbrev pub invariant-loop-rest : goal.invariant-loop-rest
invariant-loop-rest l = record {
  said : l.sentences.items ++ filter_map (sentence_in l.kinds) (pieces_of l.rest) ≡ filter_map (sentence_in l.kinds) (pieces_of l.parts);
  literals : lower_of l.bad_literal (lowest (bad_literal_of l.kinds) (pieces_of l.rest)) ≡ lowest (bad_literal_of l.kinds) (pieces_of l.parts);
  unread : lower_of l.unread (lowest (unread_in l.kinds) (pieces_of l.rest)) ≡ lowest (unread_in l.kinds) (pieces_of l.parts);
  reserved : lower_of l.reserved (lowest (reserved_in l.kinds) (pieces_of l.rest)) ≡ lowest (reserved_in l.kinds) (pieces_of l.parts);
}

abbrev pub decreases-loop-rest : goal.decreases-loop-rest
decreases-loop-rest l = length l.rest
