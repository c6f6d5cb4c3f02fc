use Rattle.std.proofs.Common.{◌≡◌, ◌++◌, length}
use Rattle.story_index.specs.Escapes.{shown_text}
use Rattle.story_index.proofs.html.add_text.Given as goal

abbrev pub invariant-loop-rest : goal.invariant-loop-rest
invariant-loop-rest l = l.bytes.items ++ shown_text l.rest ≡ l.fn.bytes.items ++ shown_text l.text

abbrev pub decreases-loop-rest : goal.decreases-loop-rest
decreases-loop-rest l = length l.rest
