use Rattle.std.proofs.Common.{◌≡◌, ◌+◌, ◌≤◌, length}
use Rattle.std.specs.List.{position_from}
use Rattle.world_meaning.specs.Spelling.{is_spelled}
use Rattle.i7_actions.specs.BookForms.{own_said}
use Rattle.i7_actions.proofs.book.own_said.Given as goal

abbrev pub invariant-loop-rest : goal.invariant-loop-rest
invariant-loop-rest l = record {
  same : position_from (λ name. is_spelled l.key name) l.book l.rest ≡ own_said l.rulebooks l.scenes l.key;
  bound : l.book + length l.rest ≤ 65535;
}

abbrev pub decreases-loop-rest : goal.decreases-loop-rest
decreases-loop-rest l = length l.rest
