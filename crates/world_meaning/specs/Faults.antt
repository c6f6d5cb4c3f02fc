-- The refusals of a source: how each is told, and that of memory.
use Rattle.std.specs.Prelude.{ℕ, List, ◌++◌, codes}
use Rattle.std.specs.Fmt.{decimal}
use Rattle.world_meaning.specs.declared.fault.Fault.{Fault}
use Rattle.world_meaning.specs.declared.fault.FaultCode.{FaultCode}
use Rattle.world_meaning.specs.declared.fault.FaultCode.TheVariants.{TooLong, NotText, Unclosed, BadIndent, NotUnderstood, ReservedWord, UnknownName, WrongKind, Twice, TwoPlaces, Cycle, TooMany, NoRoom, Memory, NumberOutOfRange, NoValues}

-- the code and its name
abbrev pub code_text : FaultCode → List ℕ
code_text TooLong = codes "C1 TooLong"
code_text NotText = codes "C2 NotText"
code_text Unclosed = codes "C3 Unclosed"
code_text BadIndent = codes "C4 BadIndent"
code_text NotUnderstood = codes "C5 NotUnderstood"
code_text ReservedWord = codes "C6 ReservedWord"
code_text UnknownName = codes "C7 UnknownName"
code_text WrongKind = codes "C8 WrongKind"
code_text Twice = codes "C9 Twice"
code_text TwoPlaces = codes "C10 TwoPlaces"
code_text Cycle = codes "C11 Cycle"
code_text TooMany = codes "C12 TooMany"
code_text NoRoom = codes "C13 NoRoom"
code_text Memory = codes "C14 Memory"
code_text NumberOutOfRange = codes "C15 NumberOutOfRange"
code_text NoValues = codes "C16 NoValues"

-- the line, and what is wrong there
abbrev pub fault_text : Fault → List ℕ
fault_text fault = decimal fault.line ++ codes ": " ++ code_text fault.code

-- memory was refused, at no line of the source's: 1 is told
abbrev pub out_of_memory : Fault
out_of_memory = record { code = Memory; line = 1 }
