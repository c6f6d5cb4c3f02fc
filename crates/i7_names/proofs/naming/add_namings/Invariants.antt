use Rattle.std.proofs.Common.{◌≡◌, length}
use Rattle.std.specs.Prelude.{fold}
use Rattle.i7_names.specs.Known.{known_of}
use Rattle.i7_names.specs.Meant.{with_naming}
use Rattle.i7_names.proofs.naming.add_namings.Given as goal

abbrev pub invariant-loop-rest : goal.invariant-loop-rest
invariant-loop-rest l = fold (with_naming l.numbering) (known_of l.names) l.rest ≡ fold (with_naming l.numbering) (known_of l.initial.names) l.namings

abbrev pub decreases-loop-rest : goal.decreases-loop-rest
decreases-loop-rest l = length l.rest
