-- How the refusal of a story is told: its code and the code's name.
use Rattle.std.specs.Prelude.{ℕ, List, codes}
use Rattle.story_format.specs.declared.fault.LoadFault.{LoadFault}
use Rattle.story_format.specs.declared.fault.LoadFault.TheVariants.{BadMagic, BadVersion, Truncated, TooLong, BadTable, BadCode, BadOrder, Memory}

abbrev pub load_text : LoadFault → List ℕ
load_text BadMagic = codes "L1 BadMagic"
load_text BadVersion = codes "L2 BadVersion"
load_text Truncated = codes "L3 Truncated"
load_text TooLong = codes "L4 TooLong"
load_text BadTable = codes "L5 BadTable"
load_text BadCode = codes "L6 BadCode"
load_text BadOrder = codes "L7 BadOrder"
load_text Memory = codes "L8 Memory"
