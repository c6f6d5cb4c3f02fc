-- Reading a story's tables from left to right, with the first fault that is met.
use Rattle.std.specs.Prelude.{◌≡◌, ℕ, ◌==◌, Bool, true, false, ◌&&◌, List, length, take, drop, ⊤, Option, Some, None, Result, Ok, Err, if◌then◌else◌}
use Rattle.std.specs.Str.{bytes_eq}
use Rattle.std.specs.Int.{w16}
use Rattle.story_format.specs.declared.fault.LoadFault.{LoadFault}
use Rattle.story_format.specs.declared.fault.LoadFault.TheVariants.{BadMagic, BadVersion, Truncated, TooLong, BadTable, BadCode, BadOrder, Memory}
use Rattle.story_format.specs.declared.tables.Tables.{Tables}
use Rattle.story_format.specs.Formats.{number}
use Rattle.story_format.specs.Checks.{are_right}
use Rattle.story_format.specs.Layout.{tables_layout, version_of}
use Rattle.story_format.specs.Refusals.{is_version}
use Rattle.story_format.specs.Soundness.{AreSound}
use Rattle.story_format.specs.Spells.{are_ordered, magic}

-- tables, with the version that stands before them; nothing may stand behind them
abbrev pub Read : Type 0
Read = Result (ℕ × Tables) LoadFault

abbrev pub whole : ℕ → Option (Tables × List ℕ) → Read
whole version None = Err Truncated
whole version (Some found) = if length found.1 == 0 then Ok (version, found.0) else Err TooLong

abbrev pub body_at : Option (ℕ × List ℕ) → Result (ℕ × List ℕ) LoadFault
body_at None = Err Truncated
body_at (Some found) = if is_version found.0 then Ok found else Err BadVersion

-- the version, and what stands behind it
unfoldable pub body_read : List ℕ → Result (ℕ × List ℕ) LoadFault
body_read bytes = if bytes_eq (take 4 bytes) magic then body_at ((number w16).get (drop 4 bytes)) else Err BadMagic

abbrev pub tables_in : Result (ℕ × List ℕ) LoadFault → Read
tables_in (Err fault) = Err fault
tables_in (Ok body) = whole body.0 ((tables_layout body.0).format.get body.1)

abbrev pub tables_read : List ℕ → Read
tables_read bytes = tables_in (body_read bytes)

-- the version is that of the tables, and these say what a story says
unfoldable pub is_right_file : ℕ → Tables → Bool
is_right_file version t = (version == version_of t) && are_right t

-- what a function returned is what reading gives; or memory was refused where reading gives tables
abbrev pub FaultGiven : LoadFault → Read → Type 0
FaultGiven BadMagic read = read ≡ Err BadMagic
FaultGiven BadVersion read = read ≡ Err BadVersion
FaultGiven Truncated read = read ≡ Err Truncated
FaultGiven TooLong read = read ≡ Err TooLong
FaultGiven BadTable read = read ≡ Err BadTable
FaultGiven BadCode read = read ≡ Err BadCode
FaultGiven BadOrder read = read ≡ Err BadOrder
FaultGiven Memory read = (told : ℕ × Tables) × (read ≡ Ok told)

abbrev pub Gives : Read → Read → Type 0
Gives (Ok told) read = read ≡ Ok told
Gives (Err fault) read = FaultGiven fault read

-- tables of this version are a story's
abbrev pub AreAStorys : ℕ → Tables → Type 0
AreAStorys version t = (is_right_file version t ≡ true) × AreSound t × (are_ordered t ≡ true)

-- they aren't, for this fault, what is told by tables before what is told by codes; or memory was refused
abbrev pub FailBy : LoadFault → ℕ → Tables → Type 0
FailBy BadTable version t = is_right_file version t ≡ false
FailBy BadCode version t = (is_right_file version t ≡ true) × (AreSound t → ⊥)
FailBy BadOrder version t = (is_right_file version t ≡ true) × AreSound t × (are_ordered t ≡ false)
FailBy Memory version t = ⊤
FailBy _ version t = ⊥
