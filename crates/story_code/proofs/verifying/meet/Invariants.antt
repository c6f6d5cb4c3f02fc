use Rattle.std.proofs.Common.{◌≡◌, ◌+◌, length, Some, []}
use Rattle.play_meaning.specs.SoundCodes.{bare}
use Rattle.story_code.specs.Fronts.{code_in}
use Rattle.story_code.specs.Walks.{meets}
use Rattle.story_code.proofs.verifying.meet.Given as goal

abbrev pub invariant-loop-instruction : goal.invariant-loop-instruction
invariant-loop-instruction l = record {
  same : meets l.sizes l.place (Some l.known) (code_in l.rest) l.table ≡ meets l.sizes 0 (Some (bare [])) (code_in l.fn.bytes) l.table;
  bound : l.place + length l.rest ≡ length l.fn.bytes;
}

abbrev pub decreases-loop-instruction : goal.decreases-loop-instruction
decreases-loop-instruction l = length l.rest
