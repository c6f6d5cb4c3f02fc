-- Whatever headings are given, there are rules with them.
use Rattle.std.proofs.Common.{◌≡◌, refl, Bool, true, false, List, [], ◌∷◌}
use Rattle.std.specs.Prelude.{Option, None, Some, is_some}
use Rattle.std.specs.List.{AllZip}
use Rattle.play_meaning.specs.Rules.{Rule}
use Rattle.play_meaning.specs.Trees.{Condition, End, InDarkness}
use Rattle.rule_order.specs.Headings.{IsRuleOf}
use Rattle.rule_order.specs.declared.heading.Heading.{Heading}

-- some condition, or none
abbrev condition_if : Bool → Option Condition
condition_if false = None
condition_if true = Some InDarkness

is_as_said : (is_conditional : Bool) → is_some (condition_if is_conditional) ≡ is_conditional
is_as_said false = refl
is_as_said true = refl

is_ruled : (h : Heading) → (rule : Rule) × IsRuleOf h rule
is_ruled h = (
  record { book = _; action = _; noun = _; second = _; place = _; scene = _; condition = condition_if h.is_conditional; body = End; listed = _ },
  record { book = refl; action = refl; noun = refl; second = refl; place = refl; scene = refl; conditional = is_as_said h.is_conditional; listed = refl },
)

pub ruled : (hs : List Heading) → (rules : List Rule) × AllZip IsRuleOf hs rules
ruled [] = ([], tt)
ruled (h ∷ hs) =
    let one = is_ruled h in
    let others = ruled hs in (one.0 ∷ others.0, (one.1, others.1))
