use Rattle.std.proofs.Common.{◌≡◌, ◌+◌, length, Some, []}
use Rattle.play_meaning.specs.SoundCodes.{bare}
use Rattle.story_code.specs.Fronts.{code_in}
use Rattle.story_code.specs.Walks.{fills}
use Rattle.story_code.proofs.verifying.fill.Given as goal

abbrev pub invariant-loop-instruction : goal.invariant-loop-instruction
invariant-loop-instruction l = record {
  same : fills l.sizes l.place (Some l.known) (code_in l.rest) l.table ≡ fills l.sizes 0 (Some (bare [])) (code_in l.fn.bytes) l.fn.table;
  bound : l.place + length l.rest ≡ length l.fn.bytes;
  table : length l.table ≡ length l.fn.table;
}

abbrev pub decreases-loop-instruction : goal.decreases-loop-instruction
decreases-loop-instruction l = length l.rest
