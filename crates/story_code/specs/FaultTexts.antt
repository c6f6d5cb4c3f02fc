-- How it is told that no codes were emitted.
use Rattle.std.specs.Prelude.{ℕ, List, codes}
use Rattle.story_code.specs.declared.emit.EmitFault.{EmitFault}
use Rattle.story_code.specs.declared.emit.EmitFault.TheVariants.{Memory, TooLong}

abbrev pub emit_fault_text : EmitFault → List ℕ
emit_fault_text TooLong = codes "too long"
emit_fault_text Memory = codes "out of memory"
