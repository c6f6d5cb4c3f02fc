-- Which bytes are refused, and why: each refusal says what stands in the bytes.
use Rattle.std.specs.Prelude.{◌≡◌, ◌≢◌, ℕ, ◌<◌, ◌==◌, ◌⊎◌, Bool, true, false, ◌||◌, List, [], ◌++◌, length, take}
use Rattle.std.specs.Int.{w16, to_be_bytes}
use Rattle.story_format.specs.declared.fault.LoadFault.{LoadFault}
use Rattle.story_format.specs.declared.fault.LoadFault.TheVariants.{BadMagic, BadVersion, Truncated, TooLong, BadTable, BadCode, BadOrder, Memory}
use Rattle.story_format.specs.declared.tables.Tables.{Tables}
use Rattle.story_format.specs.Layout.{tables_layout, version_of}
use Rattle.story_format.specs.Checks.{are_right}
use Rattle.story_format.specs.Soundness.{AreSound}
use Rattle.story_format.specs.Spells.{magic, head, are_ordered}

-- there are two versions
abbrev pub is_version : ℕ → Bool
is_version version = (version == 1) || (version == 2)

-- the tables of this version stand behind it, and rest behind them
abbrev pub Holds : List ℕ → ℕ → Tables → List ℕ → Type 0
Holds bytes version t rest = ((tables_layout version).format.fits t ≡ true) × (bytes ≡ head version ++ ((tables_layout version).format.put t ++ rest))

-- the bytes are tables of a version, and nothing else
abbrev pub Are : List ℕ → ℕ → Tables → Type 0
Are bytes version t = (is_version version ≡ true) × Holds bytes version t []

-- a table of this version is cut
abbrev pub IsCutFor : ℕ → List ℕ → Type 0
IsCutFor version bytes = (take 6 bytes ≡ head version) × ((t : Tables) (rest : List ℕ) → Holds bytes version t rest → ⊥)

-- the version, or a table, is cut
abbrev pub IsCut : List ℕ → Type 0
IsCut bytes = (length bytes < 6) ⊎ ((version : ℕ) × (is_version version ≡ true) × IsCutFor version bytes)

-- memory can be short only where the counts are in place: what is told by them is told first
abbrev pub IsRefused : LoadFault → List ℕ → Type 0
IsRefused BadMagic bytes = take 4 bytes ≢ magic
IsRefused BadVersion bytes = (version : ℕ) × (rest : List ℕ) × (is_version version ≡ false) × (version < 65536) × (bytes ≡ magic ++ (to_be_bytes w16 version ++ rest))
IsRefused Truncated bytes = (take 4 bytes ≡ magic) × IsCut bytes
IsRefused TooLong bytes = (version : ℕ) × (t : Tables) × (rest : List ℕ) × (is_version version ≡ true) × (rest ≢ []) × Holds bytes version t rest
IsRefused BadTable bytes = (version : ℕ) × (t : Tables) × Are bytes version t × ((version ≢ version_of t) ⊎ (are_right t ≡ false))
IsRefused BadCode bytes = (t : Tables) × Are bytes (version_of t) t × (are_right t ≡ true) × (AreSound t → ⊥)
IsRefused BadOrder bytes = (t : Tables) × Are bytes (version_of t) t × (are_right t ≡ true) × AreSound t × (are_ordered t ≡ false)
IsRefused Memory bytes = (version : ℕ) × (t : Tables) × Are bytes version t
