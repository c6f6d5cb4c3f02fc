-- The status with which the program ends, by what went wrong.
use Rattle.std.specs.Prelude.{ℕ, Bool, true, false, if◌then◌else◌}
use Rattle.world_meaning.specs.declared.fault.FaultCode.{FaultCode}
use Rattle.world_meaning.specs.declared.fault.FaultCode.TheVariants as code
use Rattle.story_format.specs.declared.fault.LoadFault.{LoadFault}
use Rattle.story_format.specs.declared.fault.LoadFault.TheVariants as load
use Rattle.source_player.specs.declared.faults.ProgramFault.{ProgramFault}
use Rattle.source_player.specs.declared.faults.ProgramFault.TheVariants.{Words, CannotRead, CannotWrite, Source, Story, Stream, Memory}

abbrev pub is_memory_code : FaultCode → Bool
is_memory_code code.Memory = true
is_memory_code _ = false

abbrev pub is_memory_load : LoadFault → Bool
is_memory_load load.Memory = true
is_memory_load _ = false

-- whether memory was refused, wherever it was
abbrev pub is_memory : ProgramFault → Bool
is_memory (Words text) = false
is_memory (CannotRead path) = false
is_memory (CannotWrite path) = false
is_memory (Source path fault) = is_memory_code fault.code
is_memory (Story path fault) = is_memory_load fault
is_memory (Stream fault) = false
is_memory Memory = true

-- 1 a source, 2 a story, 3 a file or a stream, 4 memory, 5 words
abbrev pub plain_status : ProgramFault → ℕ
plain_status (Words text) = 5
plain_status (CannotRead path) = 3
plain_status (CannotWrite path) = 3
plain_status (Source path fault) = 1
plain_status (Story path fault) = 2
plain_status (Stream fault) = 3
plain_status Memory = 4

abbrev pub status_of : ProgramFault → ℕ
status_of fault = if is_memory fault then 4 else plain_status fault
