use Rattle.std.proofs.Common.{◌≡◌, ◌++◌, drop, take}
use Rattle.std.specs.List.{flat_map}
use Rattle.i7_lexer.specs.Tokens.{spaced, start_of}
use Rattle.i7_lexer.proofs.joins.push_spaced_words.Given as goal

abbrev pub invariant-loop-left : goal.invariant-loop-left
invariant-loop-left l = record {
  words : l.bytes.items ++ flat_map (λ other. spaced other.piece) (take l.left l.rest) ≡ l.initial.bytes.items ++ flat_map (λ other. spaced other.piece) (take l.count l.others);
  start : start_of l.start (take l.left l.rest) ≡ start_of l.fn.begins (take l.count l.others);
  rest : drop l.left l.rest ≡ drop l.count l.others;
}

abbrev pub decreases-loop-left : goal.decreases-loop-left
decreases-loop-left l = l.left
