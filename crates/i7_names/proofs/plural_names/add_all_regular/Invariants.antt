use Rattle.std.proofs.Common.{◌≡◌, length}
use Rattle.std.specs.Prelude.{fold, map}
use Rattle.i7_names.specs.Known.{known_of}
use Rattle.i7_names.specs.PluralNames.{with_regular}
use Rattle.i7_names.proofs.plural_names.add_all_regular.Given as goal

abbrev pub invariant-loop-rest : goal.invariant-loop-rest
invariant-loop-rest l = fold (with_regular l.more l.kinds) (known_of l.names) (map (λ kind. kind.items) l.rest) ≡ fold (with_regular l.more l.kinds) (known_of l.initial.names) l.kinds

abbrev pub decreases-loop-rest : goal.decreases-loop-rest
decreases-loop-rest l = length l.rest
