-- What a rule of a source is (*Writing with Inform*, chapter 19), or the line at which it is none.
use Rattle.std.specs.Prelude.{◌≡◌, ◌⊎◌, ℕ, Option, None, Some, reverse}
use Rattle.world_meaning.specs.declared.fault.Fault.{Fault}
use Rattle.world_meaning.specs.declared.fault.FaultCode.{FaultCode}
use Rattle.world_meaning.specs.declared.fault.FaultCode.TheVariants as code
use Rattle.i7_sentences.specs.declared.rule.Rule.{Rule}
use Rattle.play_meaning.specs.Meant.{body_meant}
use Rattle.play_meaning.specs.declared.tree.rule.RuleHead.{RuleHead}
use Rattle.i7_patterns.specs.declared.asked.Asked.{Asked}
use Rattle.i7_patterns.specs.declared.asked.Asked.TheVariants.{Read, TooMany, Unread, WrongKind}
use Rattle.i7_rules.specs.Bodies.{AreUnderstood, IsBodyOf, IsNoBody, IsOverAt, IsUnknownAt}
use Rattle.i7_rules.specs.Heads.{HasHead, HasHeadWithin, HasNoHead, IsMisplaced, IsOver, IsWithin, heading}
use Rattle.i7_rules.specs.Knowns.{Known}
use Rattle.i7_rules.specs.declared.body.BodyRead.{BodyRead}
use Rattle.i7_rules.specs.declared.body.BodyRead.TheVariants as body
use Rattle.i7_rules.specs.declared.rule.RuleFound.{RuleFound}
use Rattle.i7_rules.specs.declared.rule.RuleFound.TheVariants as found

-- a rule by what is found of its head and of its body
abbrev pub joined : ℕ → Asked RuleHead → BodyRead → RuleFound
joined line Unread body = found.Unknown line
joined line WrongKind (body.Unknown at) = found.Unknown at
joined line WrongKind _ = found.WrongKind
joined line TooMany (body.Unknown at) = found.Unknown at
joined line TooMany _ = found.TooMany line
joined line (Read head) (body.Says phrases) = found.Says (record { head = head; body = phrases })
joined line (Read head) (body.Unknown at) = found.Unknown at
joined line (Read head) (body.TooMany at) = found.TooMany at
joined line (Read head) body.Unnested = found.Unnested

-- ---- the whole rule

-- what is told of a rule at this line
abbrev pub IsRuleFound : Known → ℕ → Rule → RuleFound → Type 0
IsRuleFound k line rule (found.Says told) = IsWithin k rule (heading told.head) × IsBodyOf k rule.body (body_meant told.body.items)
IsRuleFound k line rule (found.Unknown at) = (HasNoHead k rule × (at ≡ line)) ⊎ (HasHead k rule × IsUnknownAt k (reverse rule.body) at)
IsRuleFound k line rule found.WrongKind = AreUnderstood k (reverse rule.body) × IsMisplaced k rule
IsRuleFound k line rule (found.TooMany at) = AreUnderstood k (reverse rule.body) × ((IsOver k rule × (at ≡ line)) ⊎ (HasHeadWithin k rule × IsOverAt k (reverse rule.body) at))
IsRuleFound k line rule found.Unnested = HasHeadWithin k rule × IsNoBody k rule.body

abbrev pub fault_at : FaultCode → ℕ → Option Fault
fault_at which line = Some (record { code = which; line = line })

-- what is wrong with a rule at this line of which this is told, and where
abbrev pub fault_in : ℕ → RuleFound → Option Fault
fault_in line (found.Says told) = None
fault_in line (found.Unknown at) = fault_at code.UnknownName at
fault_in line found.WrongKind = fault_at code.WrongKind line
fault_in line (found.TooMany at) = fault_at code.TooMany at
fault_in line found.Unnested = fault_at code.NotUnderstood line
