-- The rules of a source as they are looked through from the first to the last.
use Rattle.std.specs.Prelude.{◌≡◌, ℕ, List, [], ◌∷◌, Option, Some, None, bytes_eq, fold, if◌then◌else◌, option_map, reverse, slice_get}
use Rattle.std.specs.List.{AllZip, list_any}
use Rattle.world_meaning.specs.declared.fault.FaultCode.{FaultCode}
use Rattle.world_meaning.specs.declared.fault.FaultCode.TheVariants.{NotUnderstood, TooMany, Twice, UnknownName, WrongKind}
use Rattle.object_words.specs.Mentions.{mention}
use Rattle.i7_sentences.specs.Lowest.{IsLowest, IsNowhere, lower_of}
use Rattle.i7_rules.specs.Knowns.{Known}
use Rattle.i7_rules.specs.RuleList.{RuleAt, name_of, placed, standard_names}
use Rattle.i7_rules.specs.SourceRules.{HoldsTooMuch, IsMisplaced, IsTold, IsUnknown, IsUnnested}
use Rattle.play_meaning.specs.declared.tree.rule.MeantRule.{MeantRule}
use Rattle.i7_rules.specs.declared.rule.RuleFound.{RuleFound}
use Rattle.i7_rules.specs.declared.rule.RuleFound.TheVariants as found
use Rattle.i7_rules.specs.declared.source_rules.RulesFound.{RulesFound}
use Rattle.i7_rules.specs.declared.source_rules.RulesFound.TheVariants as whole
use Rattle.i7_rules.specs.declared.source_rules.SoFar.{SoFar}
use Rattle.i7_rules.specs.declared.source_rules.SourceRule.{SourceRule}

-- one of these is bad at this line and none at a lower one, or none is at any
abbrev pub IsLow : {X : Type 0} → (X → ℕ → Type 0) → List X → Option ℕ → Type 0
IsLow Bad xs None = IsNowhere Bad xs
IsLow Bad xs (Some line) = IsLowest Bad xs line

-- the line of the rule behind so many others, if there is one
abbrev pub line_behind : List RuleAt → ℕ → Option ℕ
line_behind rules count = option_map (λ r. r.line) (slice_get rules count)

-- ---- names

abbrev pub mention_name : List (List ℕ) → Option (List ℕ) → List (List ℕ)
mention_name names None = names
mention_name names (Some name) = mention names name

-- the names of the standard rules, each once
abbrev pub standard_mentions : List (List ℕ)
standard_mentions = fold mention [] standard_names

abbrev pub named_twice : List (List ℕ) → ℕ → Option (List ℕ) → Option ℕ
named_twice names line None = None
named_twice names line (Some name) = if list_any (bytes_eq name) names then Some line else None

-- the line of a rule whose name is one of these
abbrev pub twice_at : List (List ℕ) → RuleAt → Option ℕ
twice_at names r = named_twice names r.line (name_of r)

-- ---- what is found of each

-- what is told of the rules so far, the last first, and the lowest lines of what is wrong
pub record State : Type 0 where
  pub rules : List SourceRule
  pub unknown : Option ℕ
  pub misplaced : Option ℕ
  pub too_many : Option ℕ
  pub unnested : Option ℕ

abbrev pub state_of : SoFar → State
state_of so_far = record { rules = reverse so_far.rules.items; unknown = so_far.unknown; misplaced = so_far.misplaced; too_many = so_far.too_many; unnested = so_far.unnested }

abbrev pub kept_of : RuleAt → MeantRule → SourceRule
kept_of r meant = record { line = r.line; name = name_of r; rule = meant }

-- with a rule that is found to be so
abbrev pub with_found : State → RuleAt → RuleFound → State
with_found state r (found.Says meant) = record state { rules = kept_of r meant ∷ state.rules }
with_found state r (found.Unknown at) = record state { unknown = lower_of state.unknown (Some at) }
with_found state r found.WrongKind = record state { misplaced = lower_of state.misplaced (Some r.line) }
with_found state r (found.TooMany at) = record state { too_many = lower_of state.too_many (Some at) }
with_found state r found.Unnested = record state { unnested = lower_of state.unnested (Some r.line) }

-- what is found of these rules, the last first
pub record IsSoFar (k : Known) (rules : List RuleAt) (state : State) : Type 0 where
  pub unknown : IsLow (IsUnknown k) (placed rules) state.unknown
  pub misplaced : IsLow (IsMisplaced k) (placed rules) state.misplaced
  pub too_many : IsLow (HoldsTooMuch k) (placed rules) state.too_many
  pub unnested : IsLow (IsUnnested k) (placed rules) state.unnested
  pub told : state.unknown ≡ None → state.misplaced ≡ None → state.too_many ≡ None → state.unnested ≡ None → AllZip (IsTold k) rules state.rules

-- ---- what is told of all

abbrev pub refused_or : FaultCode → Option ℕ → RulesFound → RulesFound
refused_or code None next = next
refused_or code (Some line) next = whole.Refused (record { code = code; line = line })

-- by the lowest lines of a name given twice and of a rule that is one too many, and by what else is found
abbrev pub so_far_told : Option ℕ → Option ℕ → SoFar → RulesFound
so_far_told twice too_many so_far =
    refused_or Twice twice
    (refused_or UnknownName so_far.unknown
    (refused_or WrongKind so_far.misplaced
    (refused_or TooMany (lower_of so_far.too_many too_many)
    (refused_or NotUnderstood so_far.unnested (whole.Says so_far.rules)))))
