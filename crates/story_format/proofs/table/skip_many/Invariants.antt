use Rattle.std.proofs.Common.{◌≡◌, ◌-◌}
use Rattle.story_format.specs.Formats.{skip_many}
use Rattle.story_format.proofs.table.skip_many.Given as goal

abbrev pub invariant-loop : goal.invariant-loop
invariant-loop g l = skip_many g.F.Field.format.skip (l.count - l.counter) l.rest ≡ skip_many g.F.Field.format.skip l.count l.bytes
