use Rattle.std.proofs.Common.{◌≡◌, ◌+◌, ◌≤◌, length}
use Rattle.command_parser.proofs.Cuts.{begun}
use Rattle.world_meaning.specs.Reading.{words_of}
use Rattle.command_parser.proofs.cutting.word_count.Given as goal

abbrev pub invariant-loop-rest : goal.invariant-loop-rest
invariant-loop-rest l =
    (l.count + begun l.in_word l.rest ≡ length (words_of l.line))
    × (l.count + length l.rest ≤ length l.line)

abbrev pub decreases-loop-rest : goal.decreases-loop-rest
decreases-loop-rest l = length l.rest
