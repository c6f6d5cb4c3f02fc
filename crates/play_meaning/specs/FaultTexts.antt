-- How it is told that a change of the world is refused.
use Rattle.std.specs.Prelude.{ℕ, List, codes}
use Rattle.play_meaning.specs.declared.fault.WorldFault.{WorldFault}
use Rattle.play_meaning.specs.declared.fault.WorldFault.TheVariants.{Memory, Misplaced}

abbrev pub world_text : WorldFault → List ℕ
world_text Misplaced = codes "that can't be so"
world_text Memory = codes "out of memory"
