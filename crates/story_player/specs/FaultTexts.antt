-- How the faults of a session and of a run are told: the code and its name.
use Rattle.std.specs.Prelude.{ℕ, List, codes}
use Rattle.story_player.specs.declared.fault.RunFault.{RunFault}
use Rattle.story_player.specs.declared.fault.RunFault.TheVariants.{Read, Write, InputTooLong}
use Rattle.story_player.specs.declared.fault.StartFault.{StartFault}
use Rattle.story_player.specs.declared.fault.StartFault.TheVariants as start

abbrev pub run_text : RunFault → List ℕ
run_text Read = codes "V1 Read"
run_text Write = codes "V2 Write"
run_text InputTooLong = codes "V3 InputTooLong"

abbrev pub start_text : StartFault → List ℕ
start_text start.IncompleteHosts = codes "S1 IncompleteHosts"
start_text start.Memory = codes "S2 Memory"
