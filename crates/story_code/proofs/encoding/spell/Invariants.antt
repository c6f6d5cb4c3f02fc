use Rattle.std.proofs.Common.{◌≡◌, ◌++◌, length, true}
use Rattle.std.specs.List.{list_all}
use Rattle.story_code.specs.Spelling.{can_spell, spelling}
use Rattle.story_code.proofs.encoding.spell.Given as goal

abbrev pub invariant-loop-rest : goal.invariant-loop-rest
invariant-loop-rest l = record {
  bytes : l.bytes.items ++ spelling l.rest ≡ spelling l.fn.code;
  each : list_all can_spell l.rest ≡ true → list_all can_spell l.fn.code ≡ true;
}

abbrev pub decreases-loop-rest : goal.decreases-loop-rest
decreases-loop-rest l = length l.rest
