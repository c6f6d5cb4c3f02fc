-- The rules of a source as a whole (*Writing with Inform*, chapter 19), or why the source is refused for them.
use Rattle.std.specs.Prelude.{◌≡◌, ◌⊎◌, ℕ, true, List, Some, bytes_eq, length, reverse}
use Rattle.std.specs.List.{AllZip, list_any}
use Rattle.world_meaning.specs.declared.fault.FaultCode.{FaultCode}
use Rattle.world_meaning.specs.declared.fault.FaultCode.TheVariants.{NotUnderstood, TooMany, Twice, UnknownName, WrongKind}
use Rattle.i7_sentences.specs.Lowest.{IsLowest, IsNowhere}
use Rattle.i7_sentences.specs.declared.sentence.Sentence.{Sentence}
use Rattle.i7_rules.specs.Knowns.{Known}
use Rattle.i7_rules.specs.RuleList.{Placed, RuleAt, name_of, names_of, placed, rules_in}
use Rattle.i7_rules.specs.Rules.{IsRuleFound}
use Rattle.i7_rules.specs.declared.rule.RuleFound.{RuleFound}
use Rattle.i7_rules.specs.declared.rule.RuleFound.TheVariants as found
use Rattle.i7_rules.specs.declared.source_rules.RulesFound.{RulesFound}
use Rattle.i7_rules.specs.declared.source_rules.RulesFound.TheVariants as whole
use Rattle.i7_rules.specs.declared.source_rules.SourceRule.{SourceRule}

-- ---- what is wrong with a rule among those before it, and at which line that is told

-- its name is that of a rule before it or of a standard rule
pub record IsNamedTwice (p : Placed) (line : ℕ) : Type 0 where
  pub name : List ℕ
  pub is_named : name_of p.rule ≡ Some name
  pub is_given : list_any (bytes_eq name) (names_of p.before) ≡ true
  pub line_is : line ≡ p.rule.line

abbrev pub IsFound : Known → RuleAt → RuleFound → Type 0
IsFound k r = IsRuleFound k r.line r.rule

-- the names allow no reading of what stands at the line
abbrev pub IsUnknown : Known → Placed → ℕ → Type 0
IsUnknown k p line = IsFound k p.rule (found.Unknown line)

-- the rule's place is no room, or its head asks for a value
abbrev pub IsMisplaced : Known → Placed → ℕ → Type 0
IsMisplaced k p line = IsFound k p.rule found.WrongKind × (line ≡ p.rule.line)

-- so many rules may be an author's: with the sixty-one standard ones they are 2,000
unfoldable pub most_rules : ℕ
most_rules = 1939

abbrev pub IsOneTooMany : Placed → ℕ → Type 0
IsOneTooMany p line = (length p.before ≡ most_rules) × (line ≡ p.rule.line)

-- what stands at the line holds more than the language allows
abbrev pub HoldsTooMuch : Known → Placed → ℕ → Type 0
HoldsTooMuch k p line = IsFound k p.rule (found.TooMany line)

-- or the rule is one too many
abbrev pub IsOver : Known → Placed → ℕ → Type 0
IsOver k p line = HoldsTooMuch k p line ⊎ IsOneTooMany p line

-- the lines of its body can't be put together
abbrev pub IsUnnested : Known → Placed → ℕ → Type 0
IsUnnested k p line = IsFound k p.rule found.Unnested × (line ≡ p.rule.line)

-- ---- what is told of all rules

-- they are refused with that code at that line, and with no code before it
abbrev pub Stands : Known → FaultCode → ℕ → List Placed → Type 0
Stands k Twice line rules = IsLowest IsNamedTwice rules line
Stands k UnknownName line rules = IsNowhere IsNamedTwice rules × IsLowest (IsUnknown k) rules line
Stands k WrongKind line rules = IsNowhere IsNamedTwice rules × IsNowhere (IsUnknown k) rules × IsLowest (IsMisplaced k) rules line
Stands k TooMany line rules = IsNowhere IsNamedTwice rules × IsNowhere (IsUnknown k) rules × IsNowhere (IsMisplaced k) rules × IsLowest (IsOver k) rules line
Stands k NotUnderstood line rules =
    IsNowhere IsNamedTwice rules × IsNowhere (IsUnknown k) rules × IsNowhere (IsMisplaced k) rules × IsNowhere (IsOver k) rules × IsLowest (IsUnnested k) rules line
Stands k _ line rules = ⊥

-- what is told of a rule
pub record IsTold (k : Known) (r : RuleAt) (told : SourceRule) : Type 0 where
  pub line : told.line ≡ r.line
  pub name : told.name ≡ name_of r
  pub rule : IsFound k r (found.Says told.rule)

-- nothing refuses these rules, which come with the last first, and so much is told of each
pub record AreTold (k : Known) (rules : List RuleAt) (told : List SourceRule) : Type 0 where
  pub apart : IsNowhere IsNamedTwice (placed rules)
  pub known : IsNowhere (IsUnknown k) (placed rules)
  pub in_rooms : IsNowhere (IsMisplaced k) (placed rules)
  pub within : IsNowhere (IsOver k) (placed rules)
  pub nested : IsNowhere (IsUnnested k) (placed rules)
  pub each : AllZip (IsTold k) rules told

abbrev pub AreFound : Known → List RuleAt → RulesFound → Type 0
AreFound k rules (whole.Says told) = AreTold k rules (reverse told.items)
AreFound k rules (whole.Refused fault) = Stands k fault.code fault.line (placed rules)

-- what is told of the rules that sentences say
abbrev pub IsRulesFound : Known → List Sentence → RulesFound → Type 0
IsRulesFound k sentences = AreFound k (reverse (rules_in sentences))
