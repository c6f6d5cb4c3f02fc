use Rattle.std.proofs.Common.{◌≡◌, length}
use Rattle.std.specs.Prelude.{map}
use Rattle.std.specs.List.{list_any}
use Rattle.i7_grammar.specs.Grammars.{is_full, line_by}
use Rattle.i7_grammar.proofs.limits.any_text_is_full.Given as goal

abbrev pub invariant-loop-rest : goal.invariant-loop-rest
invariant-loop-rest l = list_any is_full (map (line_by l.action) l.rest) ≡ list_any is_full (map (line_by l.action) l.texts)

abbrev pub decreases-loop-rest : goal.decreases-loop-rest
decreases-loop-rest l = length l.rest
