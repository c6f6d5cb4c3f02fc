-- What the program prints of a fault.
use Rattle.std.specs.Prelude.{ℕ, List, [], ◌∷◌, ◌++◌, codes, if◌then◌else◌}
use Rattle.std.specs.String.{string_bytes}
use Rattle.world_meaning.specs.Faults.{fault_text}
use Rattle.story_format.specs.FaultTexts.{load_text}
use Rattle.story_player.specs.FaultTexts.{run_text}
use Rattle.story_player.specs.declared.fault.RunFault.{RunFault}
use Rattle.story_player.specs.declared.fault.RunFault.TheVariants as run
use Rattle.source_player.specs.declared.faults.ProgramFault.{ProgramFault}
use Rattle.source_player.specs.declared.faults.ProgramFault.TheVariants.{Words, CannotRead, CannotWrite, Source, Story, Stream, Memory}
use Rattle.source_player.specs.Statuses.{is_memory}

-- what is wrong, behind the path of the file or the program's name
abbrev pub program_text : ProgramFault → List ℕ
program_text (Words text) = string_bytes text
program_text (CannotRead path) = path.now ++ codes ": cannot be read"
program_text (CannotWrite path) = path.now ++ codes ": cannot be written"
program_text (Source path fault) = path.now ++ codes ":" ++ fault_text fault
program_text (Story path fault) = path.now ++ codes ": " ++ load_text fault
program_text (Stream fault) = codes "i7story: " ++ run_text fault
program_text Memory = codes "i7story: out of memory"

abbrev pub line : List ℕ → List ℕ
line text = text ++ 10 ∷ []

abbrev pub stream_line : RunFault → List ℕ
stream_line run.Read = line (program_text (Stream run.Read))
stream_line run.Write = []
stream_line run.InputTooLong = line (program_text (Stream run.InputTooLong))

-- a line each; the program's words end their own, and that nothing can be written is told by the status alone
abbrev pub plain_line : ProgramFault → List ℕ
plain_line (Words text) = program_text (Words text)
plain_line (CannotRead path) = line (program_text (CannotRead path))
plain_line (CannotWrite path) = line (program_text (CannotWrite path))
plain_line (Source path fault) = line (program_text (Source path fault))
plain_line (Story path fault) = line (program_text (Story path fault))
plain_line (Stream fault) = stream_line fault
plain_line Memory = line (program_text Memory)

-- what is printed: that memory was refused has one line, wherever it was
abbrev pub line_of : ProgramFault → List ℕ
line_of fault = if is_memory fault then line (program_text Memory) else plain_line fault
