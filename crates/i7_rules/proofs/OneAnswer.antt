-- No sentences have two answers about their rules.
use Rattle.std.proofs.Common.{◌≡◌, ℕ, List, [], ◌∷◌, ◌++◌, refl, sym, ap, ◌∙◌}
use Rattle.std.specs.Prelude.{map, reverse}
use Rattle.std.specs.List.{AllZip}
use Rattle.std.proofs.lemmas.Grind.{reverse_onto}
use Rattle.std.proofs.lemmas.List.{map-append, reverse-reverse}
use Rattle.world_meaning.specs.declared.fault.FaultCode.{FaultCode}
use Rattle.world_meaning.specs.declared.fault.FaultCode.TheVariants.{NotUnderstood, TooMany, Twice, UnknownName, WrongKind}
use Rattle.i7_sentences.specs.Lowest.{IsLowest, IsNowhere}
use Rattle.i7_sentences.specs.declared.rule.RulePhrase.{RulePhrase}
use Rattle.i7_sentences.specs.declared.sentence.Sentence.{Sentence}
use Rattle.play_meaning.specs.Meant.{body_meant}
use Rattle.play_meaning.specs.Trees.{Body}
use Rattle.i7_conditions.specs.Nesting.{IsBody}
use Rattle.i7_conditions.specs.declared.line.Line.{Line}
use Rattle.i7_rules.specs.Bodies.{IsBodyOf}
use Rattle.i7_rules.specs.Knowns.{Known}
use Rattle.i7_rules.specs.RuleList.{Placed, RuleAt, placed, rules_in}
use Rattle.i7_rules.specs.Heads.{IsWithin, heading}
use Rattle.i7_rules.specs.RulesMeant.{All, Refused, RuleMeant, RulesMeant, rule_meant, rules_meant}
use Rattle.i7_rules.specs.SourceRules.{AreFound, AreTold, IsMisplaced, IsNamedTwice, IsOver, IsRulesFound, IsTold, IsUnknown, IsUnnested, Stands}
use Rattle.i7_rules.specs.declared.source_rules.RulesFound.{RulesFound}
use Rattle.i7_rules.specs.declared.source_rules.RulesFound.TheVariants as whole
use Rattle.i7_rules.specs.declared.source_rules.SourceRule.{SourceRule}
use Rattle.i7_rules.proofs.Lows.{lowest_once}
use Rattle.i7_rules.proofs.Once.{AreOnce}
use Rattle.i7_rules.proofs.OneHead.{head_once}
use Rattle.i7_rules.proofs.OneRule.{forth, same_lines}
use Rattle.i7_rules.proofs.Rebuilt.{IsSame, body_again}
use Rattle.i7_sentences.proofs.Lowest.{nowhere_there}

-- ---- refusals

abbrev refusal : FaultCode → ℕ → RulesMeant
refusal code line = Refused (record { code = code; line = line })

module _ (k : Known) (ps : List Placed) where
  twice_once : (c : FaultCode) (a b : ℕ) → IsLowest IsNamedTwice ps a → Stands k c b ps → refusal Twice a ≡ refusal c b
  twice_once Twice a b one other = ap (refusal Twice) (lowest_once IsNamedTwice ps a b one other)
  twice_once UnknownName a b one other = absurd (nowhere_there IsNamedTwice ps a other.0 one)
  twice_once WrongKind a b one other = absurd (nowhere_there IsNamedTwice ps a other.0 one)
  twice_once TooMany a b one other = absurd (nowhere_there IsNamedTwice ps a other.0 one)
  twice_once NotUnderstood a b one other = absurd (nowhere_there IsNamedTwice ps a other.0 one)
  twice_once _ a b one other = absurd other

  unknown_once : (c : FaultCode) (a b : ℕ) → IsNowhere IsNamedTwice ps → IsLowest (IsUnknown k) ps a → Stands k c b ps → refusal UnknownName a ≡ refusal c b
  unknown_once Twice a b apart one other = absurd (nowhere_there IsNamedTwice ps b apart other)
  unknown_once UnknownName a b apart one other = ap (refusal UnknownName) (lowest_once (IsUnknown k) ps a b one other.1)
  unknown_once WrongKind a b apart one other = absurd (nowhere_there (IsUnknown k) ps a other.1 one)
  unknown_once TooMany a b apart one other = absurd (nowhere_there (IsUnknown k) ps a other.1 one)
  unknown_once NotUnderstood a b apart one other = absurd (nowhere_there (IsUnknown k) ps a other.1 one)
  unknown_once _ a b apart one other = absurd other

  misplaced_once : (c : FaultCode) (a b : ℕ) → IsNowhere IsNamedTwice ps → IsNowhere (IsUnknown k) ps → IsLowest (IsMisplaced k) ps a → Stands k c b ps → refusal WrongKind a ≡ refusal c b
  misplaced_once Twice a b apart known one other = absurd (nowhere_there IsNamedTwice ps b apart other)
  misplaced_once UnknownName a b apart known one other = absurd (nowhere_there (IsUnknown k) ps b known other.1)
  misplaced_once WrongKind a b apart known one other = ap (refusal WrongKind) (lowest_once (IsMisplaced k) ps a b one other.2)
  misplaced_once TooMany a b apart known one other = absurd (nowhere_there (IsMisplaced k) ps a other.2 one)
  misplaced_once NotUnderstood a b apart known one other = absurd (nowhere_there (IsMisplaced k) ps a other.2 one)
  misplaced_once _ a b apart known one other = absurd other

  over_once : (c : FaultCode) (a b : ℕ) → IsNowhere IsNamedTwice ps → IsNowhere (IsUnknown k) ps → IsNowhere (IsMisplaced k) ps → IsLowest (IsOver k) ps a → Stands k c b ps → refusal TooMany a ≡ refusal c b
  over_once Twice a b apart known rooms one other = absurd (nowhere_there IsNamedTwice ps b apart other)
  over_once UnknownName a b apart known rooms one other = absurd (nowhere_there (IsUnknown k) ps b known other.1)
  over_once WrongKind a b apart known rooms one other = absurd (nowhere_there (IsMisplaced k) ps b rooms other.2)
  over_once TooMany a b apart known rooms one other = ap (refusal TooMany) (lowest_once (IsOver k) ps a b one other.3)
  over_once NotUnderstood a b apart known rooms one other = absurd (nowhere_there (IsOver k) ps a other.3 one)
  over_once _ a b apart known rooms one other = absurd other

  unnested_once : (c : FaultCode) (a b : ℕ) → IsNowhere IsNamedTwice ps → IsNowhere (IsUnknown k) ps → IsNowhere (IsMisplaced k) ps → IsNowhere (IsOver k) ps → IsLowest (IsUnnested k) ps a → Stands k c b ps
      → refusal NotUnderstood a ≡ refusal c b
  unnested_once Twice a b apart known rooms within one other = absurd (nowhere_there IsNamedTwice ps b apart other)
  unnested_once UnknownName a b apart known rooms within one other = absurd (nowhere_there (IsUnknown k) ps b known other.1)
  unnested_once WrongKind a b apart known rooms within one other = absurd (nowhere_there (IsMisplaced k) ps b rooms other.2)
  unnested_once TooMany a b apart known rooms within one other = absurd (nowhere_there (IsOver k) ps b within other.3)
  unnested_once NotUnderstood a b apart known rooms within one other = ap (refusal NotUnderstood) (lowest_once (IsUnnested k) ps a b one other.4)
  unnested_once _ a b apart known rooms within one other = absurd other

  refused_once : (c d : FaultCode) (a b : ℕ) → Stands k c a ps → Stands k d b ps → refusal c a ≡ refusal d b
  refused_once Twice d a b one other = twice_once d a b one other
  refused_once UnknownName d a b one other = unknown_once d a b one.0 one.1 other
  refused_once WrongKind d a b one other = misplaced_once d a b one.0 one.1 one.2 other
  refused_once TooMany d a b one other = over_once d a b one.0 one.1 one.2 one.3 other
  refused_once NotUnderstood d a b one other = unnested_once d a b one.0 one.1 one.2 one.3 one.4 other
  refused_once _ d a b one other = absurd one

told_or_refused : (k : Known) (rules : List RuleAt) (told : List SourceRule) (c : FaultCode) (line : ℕ) → AreTold k rules told → Stands k c line (placed rules) → ⊥
told_or_refused k rules told Twice line is stands = nowhere_there IsNamedTwice (placed rules) line is.apart stands
told_or_refused k rules told UnknownName line is stands = nowhere_there (IsUnknown k) (placed rules) line is.known stands.1
told_or_refused k rules told WrongKind line is stands = nowhere_there (IsMisplaced k) (placed rules) line is.in_rooms stands.2
told_or_refused k rules told TooMany line is stands = nowhere_there (IsOver k) (placed rules) line is.within stands.3
told_or_refused k rules told NotUnderstood line is stands = nowhere_there (IsUnnested k) (placed rules) line is.nested stands.4
told_or_refused k rules told _ line is stands = stands

-- ---- rules

-- lines are one body at most
abbrev pub IsOneBody : Type 0
IsOneBody = (lines : List Line) (a b : Body) → IsBody 0 lines a → IsBody 0 lines b → a ≡ b

rule_same : (a b : RuleMeant) → a.line ≡ b.line → a.name ≡ b.name → a.head ≡ b.head → a.body ≡ b.body → a ≡ b
rule_same a b lines names heads bodies = λ i. record { line = lines i; name = names i; head = heads i; body = bodies i }

turned : (told : List SourceRule) → map rule_meant (reverse told) ≡ reverse (map rule_meant told)
turned [] = refl
turned (x ∷ told) =
    ap (map rule_meant) (reverse_onto told x []) ∙ map-append rule_meant (reverse told) (x ∷ []) ∙ ap (λ (ms : List RuleMeant). ms ++ rule_meant x ∷ []) (turned told)
    ∙ sym (reverse_onto (map rule_meant told) (rule_meant x) [])

module _ (laws : AreOnce) (law : IsOneBody) (k : Known) where
  body_once : (phrases : List RulePhrase) (a b : Body) → IsBodyOf k phrases a → IsBodyOf k phrases b → a ≡ b
  body_once phrases a b one other =
      let same : AllZip IsSame (reverse one.0) (reverse other.0) = same_lines laws k (reverse phrases) (reverse one.0) (reverse other.0) one.1 other.1 in
      law other.0 a b (body_again one.2 other.0 (forth one.0 other.0 same)) other.2

  told_once : (r : RuleAt) (a b : SourceRule) → IsTold k r a → IsTold k r b → rule_meant a ≡ rule_meant b
  told_once r a b one other =
      let fine : IsWithin k r.rule (heading a.rule.head) = one.rule.0 in
      let again : IsWithin k r.rule (heading b.rule.head) = other.rule.0 in
      rule_same (rule_meant a) (rule_meant b) (one.line ∙ sym other.line) (one.name ∙ sym other.name) (head_once laws k r.rule (heading a.rule.head) (heading b.rule.head) fine.0 again.0)
      (body_once r.rule.body (body_meant a.rule.body.items) (body_meant b.rule.body.items) one.rule.1 other.rule.1)

  all_once : (rules : List RuleAt) (a b : List SourceRule) → AllZip (IsTold k) rules a → AllZip (IsTold k) rules b → map rule_meant a ≡ map rule_meant b
  all_once [] [] [] one other = refl
  all_once [] [] (y ∷ b) one other = absurd other
  all_once [] (x ∷ a) b one other = absurd one
  all_once (r ∷ rules) [] b one other = absurd one
  all_once (r ∷ rules) (x ∷ a) [] one other = absurd other
  all_once (r ∷ rules) (x ∷ a) (y ∷ b) one other =
      ap (λ (m : RuleMeant). m ∷ map rule_meant a) (told_once r x y one.0 other.0) ∙ ap (λ (ms : List RuleMeant). rule_meant y ∷ ms) (all_once rules a b one.1 other.1)

  in_order : (rules : List RuleAt) (a b : List SourceRule) → AllZip (IsTold k) rules (reverse a) → AllZip (IsTold k) rules (reverse b) → map rule_meant a ≡ map rule_meant b
  in_order rules a b one other =
      ap (map rule_meant) (sym (reverse-reverse a)) ∙ turned (reverse a) ∙ ap reverse (all_once rules (reverse a) (reverse b) one other) ∙ sym (turned (reverse b)) ∙ ap (map rule_meant) (reverse-reverse b)

  found_once : (rules : List RuleAt) (a b : RulesFound) → AreFound k rules a → AreFound k rules b → rules_meant a ≡ rules_meant b
  found_once rules (whole.Says a) (whole.Says b) one other = ap All (in_order rules a.items b.items one.each other.each)
  found_once rules (whole.Says a) (whole.Refused fault) one other = absurd (told_or_refused k rules (reverse a.items) fault.code fault.line one other)
  found_once rules (whole.Refused fault) (whole.Says b) one other = absurd (told_or_refused k rules (reverse b.items) fault.code fault.line other one)
  found_once rules (whole.Refused fault) (whole.Refused other_fault) one other = refused_once k (placed rules) fault.code other_fault.code fault.line other_fault.line one other

  pub rules_once : (sentences : List Sentence) (a b : RulesFound) → IsRulesFound k sentences a → IsRulesFound k sentences b → rules_meant a ≡ rules_meant b
  rules_once sentences a b one other = found_once (reverse (rules_in sentences)) a b one other
