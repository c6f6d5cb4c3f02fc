-- What a story says, whatever the numbers of its strings and codes are.
use Rattle.std.specs.Prelude.{◌≡◌, ℕ, ◌==◌, List, [], ◌∷◌, Option, None, Some, map, if◌then◌else◌}
use Rattle.std.specs.List.{AllZip}
use Rattle.std.specs.Option.{option_map}
use Rattle.world_meaning.specs.declared.declared.Granted.{Granted}
use Rattle.play_meaning.specs.Codes.{Codes, code_of}
use Rattle.play_meaning.specs.declared.instruction.Instruction.{Instruction}
use Rattle.play_meaning.specs.declared.instruction.Instruction.TheVariants.{Count, EndStory, Names, Next, Say}
use Rattle.code_table.specs.Strings.{string_named}
use Rattle.story_code.specs.Runs.{test_named}
use Rattle.story_format.specs.declared.rule_entry.RuleBody.{RuleBody}
use Rattle.story_format.specs.declared.rule_entry.RuleBody.TheVariants.{Code}
use Rattle.story_format.specs.declared.rule_entry.RuleEntry.{RuleEntry}
use Rattle.story_format.specs.declared.rule_tables.RuleTables.{RuleTables}
use Rattle.story_format.specs.declared.rule_tables.SceneEntry.{SceneEntry}
use Rattle.story_format.specs.declared.tables.Entry.{Entry}
use Rattle.story_format.specs.declared.tables.Tables.{Tables}
use Rattle.story_format.specs.declared.value_tables.ValueEntry.{ValueEntry}
use Rattle.story_format.specs.Codes.{codes_told}
use Rattle.story_format.specs.RuleChecks.{codes_in_tables}
use Rattle.story_format.specs.Facts.{description_code_of, lines_of, text_at}

-- the object, but for the numbers of its strings and of its code
abbrev pub unnumbered : Entry → Entry
unnumbered e = record {
  kind = e.kind;
  name = 0;
  article = e.article;
  description = 0;
  words = [];
  relation = e.relation;
  holder = e.holder;
  properties = e.properties;
  numbers = e.numbers;
}

-- An object with its texts in the place of their numbers.
pub record ToldObject : Type 0 where
  pub name : List ℕ
  pub words : List (List ℕ)
  pub rest : Entry

abbrev pub told_object : List (List ℕ) → Entry → ToldObject
told_object strings e = record { name = text_at strings e.name; words = map (text_at strings) e.words; rest = unnumbered e }

abbrev pub told_objects : Tables → List ToldObject
told_objects t = map (told_object t.strings) t.objects

-- ---- kinds of value

-- A kind of value with the names of its values in the place of their numbers.
pub record ToldValueKind : Type 0 where
  pub names : List (List ℕ)
  pub given : Granted

abbrev pub told_value_kind : List (List ℕ) → ValueEntry → ToldValueKind
told_value_kind strings v = record { names = map (text_at strings) v.names; given = v.given }

abbrev pub told_value_kinds : Tables → List ToldValueKind
told_value_kinds t = map (told_value_kind t.strings) t.values.kinds

-- ---- codes

-- the instruction, but for the number of a string or a test
abbrev pub uncoded : Instruction → Instruction
uncoded (Say string) = Say 0
uncoded (EndStory string) = EndStory 0
uncoded (Count k test) = Count k 0
uncoded (Names naming k test) = Names naming k 0
uncoded (Next k test exit) = Next k 0 exit
uncoded i = i

-- the text that it names
abbrev pub text_named : Codes → Instruction → Option (List ℕ)
text_named c i = option_map (text_at c.strings) (string_named i)

-- instructions of two stories are the same and name the same text
pub record IsAlike (c d : Codes) (i j : Instruction) : Type 0 where
  pub same : uncoded i ≡ uncoded j
  pub text : text_named c i ≡ text_named d j

-- codes of two stories say the same, instruction by instruction, and name tests that do
pub data AreAlike (c d : Codes) : List Instruction → List Instruction → Type 0 where
  ends : AreAlike c d [] []
  bare : {i j : Instruction} {is js : List Instruction} → IsAlike c d i j → test_named i ≡ None → test_named j ≡ None → AreAlike c d is js → AreAlike c d (i ∷ is) (j ∷ js)
  tested : {i j : Instruction} {is js : List Instruction} (test other : ℕ × ℕ) → IsAlike c d i j → test_named i ≡ Some test → test_named j ≡ Some other
      → AreAlike c d (code_of c test.1) (code_of d other.1) → AreAlike c d is js → AreAlike c d (i ∷ is) (j ∷ js)

-- neither is described, or both are, by codes that say the same
abbrev pub AreDescribedAlike : Codes → Codes → Option ℕ → Option ℕ → Type 0
AreDescribedAlike c d None None = Unit {0}
AreDescribedAlike c d None (Some m) = ⊥
AreDescribedAlike c d (Some n) None = ⊥
AreDescribedAlike c d (Some n) (Some m) = AreAlike c d (code_of c n) (code_of d m)

-- ---- rules and scenes

-- whether there is a code
abbrev pub uncoded_number : ℕ → ℕ
uncoded_number n = if n == 65535 then 65535 else 0

-- what a rule does, but for the number of its code
abbrev pub uncoded_body : RuleBody → RuleBody
uncoded_body (Code n) = Code 0
uncoded_body body = body

-- a rule, but for the numbers of its codes
abbrev pub uncoded_rule : RuleEntry → RuleEntry
uncoded_rule r = record r { condition = uncoded_number r.condition; body = uncoded_body r.body }

-- a scene, but for those of its own
abbrev pub uncoded_scene : SceneEntry → SceneEntry
uncoded_scene scene = record { recurring = scene.recurring; begins = uncoded_number scene.begins; ends = uncoded_number scene.ends }

-- tables 8 to 12, but for the numbers of codes and the lines of the grammar
abbrev pub uncoded_rules : RuleTables → RuleTables
uncoded_rules r = record r { grammar = []; rules = map uncoded_rule r.rules; scenes = map uncoded_scene r.scenes }

-- the codes that rules and scenes of two stories name, in turn, say the same
abbrev pub AreCodedAlike : Codes → Codes → List ℕ → List ℕ → Type 0
AreCodedAlike c d ns ms = AllZip (λ n m. AreAlike c d (code_of c n) (code_of d m)) ns ms

-- Two stories say the same: each object by its texts and what its code says, each line of the grammar by its words, each rule and
-- each scene by what its codes say, each kind of value by the names of its values, and all else as it is.
pub record AreToldAlike (t u : Tables) : Type 0 where
  pub objects : told_objects t ≡ told_objects u
  pub descriptions : (o : ℕ) → AreDescribedAlike (codes_told t) (codes_told u) (description_code_of t o) (description_code_of u o)
  pub world : t.world ≡ u.world
  pub ways : t.ways ≡ u.ways
  pub value_kinds : told_value_kinds t ≡ told_value_kinds u
  pub values : t.values.objects ≡ u.values.objects
  pub lines : lines_of t ≡ lines_of u
  pub rules : uncoded_rules t.rules ≡ uncoded_rules u.rules
  pub rule_codes : AreCodedAlike (codes_told t) (codes_told u) (codes_in_tables t.rules) (codes_in_tables u.rules)
