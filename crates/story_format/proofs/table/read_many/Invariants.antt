use Rattle.std.proofs.Common.{◌≡◌, ◌-◌}
use Rattle.story_format.specs.Formats.{get_many}
use Rattle.story_format.proofs.Loops.{with_front}
use Rattle.story_format.proofs.table.read_many.Given as goal

abbrev pub invariant-loop : goal.invariant-loop
invariant-loop g l = with_front l.all.items (get_many g.F.Field.format.get (l.count - l.counter) l.rest) ≡ get_many g.F.Field.format.get l.count l.bytes
