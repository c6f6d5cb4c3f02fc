-- What is found of rules, with one more.
use Rattle.std.proofs.Common.{◌≡◌, ℕ, List, [], ◌∷◌, refl, sym, ap, subst}
use Rattle.std.specs.Prelude.{None, Some, reverse}
use Rattle.world_meaning.specs.declared.fault.Fault.{Fault}
use Rattle.world_meaning.specs.declared.fault.FaultCode.{FaultCode}
use Rattle.world_meaning.specs.declared.fault.FaultCode.TheVariants as code
use Rattle.i7_sentences.specs.declared.rule.Rule.{Rule}
use Rattle.i7_rules.specs.Knowns.{Known}
use Rattle.i7_rules.specs.RuleList.{Placed, RuleAt, placed}
use Rattle.i7_rules.specs.RuleScans.{IsSoFar, State, with_found}
use Rattle.i7_rules.specs.Rules.{IsRuleFound, fault_at, fault_in}
use Rattle.i7_rules.specs.SourceRules.{HoldsTooMuch, IsFound, IsMisplaced, IsUnknown, IsUnnested}
use Rattle.i7_rules.specs.declared.rule.RuleFound.{RuleFound}
use Rattle.i7_rules.specs.declared.rule.RuleFound.TheVariants as found
use Rattle.i7_rules.specs.declared.source_rules.SourceRule.{SourceRule}
use Rattle.i7_rules.proofs.Looked.{IsLookedTo, starts}
use Rattle.i7_rules.proofs.Lows.{low_nothing, low_past, low_with, not_none}

pub none_read : (k : Known) (state : State) → state ≡ record { rules = []; unknown = None; misplaced = None; too_many = None; unnested = None } → IsSoFar k [] state
none_read k state is = subst (IsSoFar k []) (sym is) (record {
  unknown = low_nothing (IsUnknown k);
  misplaced = low_nothing (IsMisplaced k);
  too_many = low_nothing (HoldsTooMuch k);
  unnested = low_nothing (IsUnnested k);
  told = λ known in_rooms within nested. tt;
})

-- what is found before any rule
abbrev pub nothing_found : List SourceRule → State
nothing_found rules = record { rules = reverse rules; unknown = None; misplaced = None; too_many = None; unnested = None }

pub starts_reading : (k : Known) (all : List RuleAt) (rules : List SourceRule) → rules ≡ [] → IsLookedTo (λ before. IsSoFar k before (nothing_found rules)) all all
starts_reading k all rules none = starts (λ before. IsSoFar k before (nothing_found rules)) all (none_read k (nothing_found rules) (ap nothing_found none))

-- of a rule one thing is told
abbrev pub IsOneTold : Type 0
IsOneTold = (k : Known) (line : ℕ) (rule : Rule) (a b : RuleFound) → IsRuleFound k line rule a → IsRuleFound k line rule b → fault_in line a ≡ fault_in line b

same_some : (x y : Fault) → Some x ≡ Some y → x ≡ y
same_some x y e = cc

same_line : (c : FaultCode) (a b : ℕ) → fault_at c a ≡ fault_at c b → a ≡ b
same_line c a b e = ap (λ (f : Fault). f.line) (same_some (record { code = c; line = a }) (record { code = c; line = b }) e)

same_code : (c d : FaultCode) (a b : ℕ) → fault_at c a ≡ fault_at d b → c ≡ d
same_code c d a b e = ap (λ (f : Fault). f.code) (same_some (record { code = c; line = a }) (record { code = d; line = b }) e)

module _ (law : IsOneTold) (k : Known) (r : RuleAt) (before : List RuleAt) where
  abbrev here : Placed
  here = record { rule = r; before = before }

  -- what is found of a rule is what is wrong with it
  same_fault : (f g : RuleFound) → IsFound k r f → IsFound k r g → fault_in r.line f ≡ fault_in r.line g
  same_fault f g one other = law k r.line r.rule f g one other

  -- nothing else is wrong with it
  not_unknown : (f : RuleFound) → IsFound k r f → ((line : ℕ) → fault_in r.line f ≡ fault_at code.UnknownName line → ⊥) → (line : ℕ) → IsUnknown k here line → ⊥
  not_unknown f is never line bad = never line (same_fault f (found.Unknown line) is bad)

  not_misplaced : (f : RuleFound) → IsFound k r f → (fault_in r.line f ≡ fault_at code.WrongKind r.line → ⊥) → (line : ℕ) → IsMisplaced k here line → ⊥
  not_misplaced f is never line bad = never (same_fault f found.WrongKind is bad.0)

  not_over : (f : RuleFound) → IsFound k r f → ((line : ℕ) → fault_in r.line f ≡ fault_at code.TooMany line → ⊥) → (line : ℕ) → HoldsTooMuch k here line → ⊥
  not_over f is never line bad = never line (same_fault f (found.TooMany line) is bad)

  not_unnested : (f : RuleFound) → IsFound k r f → (fault_in r.line f ≡ fault_at code.NotUnderstood r.line → ⊥) → (line : ℕ) → IsUnnested k here line → ⊥
  not_unnested f is never line bad = never (same_fault f found.Unnested is bad.0)

  pub rule_further : (f : RuleFound) (state : State) → IsFound k r f → IsSoFar k before state → IsSoFar k (r ∷ before) (with_found state r f)
  rule_further (found.Says meant) state is so = record {
    unknown = low_past (IsUnknown k) here (placed before) state.unknown (not_unknown (found.Says meant) is (λ line e. let no : ⊥ = cc in no)) so.unknown;
    misplaced = low_past (IsMisplaced k) here (placed before) state.misplaced (not_misplaced (found.Says meant) is (λ e. let no : ⊥ = cc in no)) so.misplaced;
    too_many = low_past (HoldsTooMuch k) here (placed before) state.too_many (not_over (found.Says meant) is (λ line e. let no : ⊥ = cc in no)) so.too_many;
    unnested = low_past (IsUnnested k) here (placed before) state.unnested (not_unnested (found.Says meant) is (λ e. let no : ⊥ = cc in no)) so.unnested;
    told = λ known in_rooms within nested. (record { line = refl; name = refl; rule = is }, so.told known in_rooms within nested);
  }
  rule_further (found.Unknown at) state is so = record {
    unknown = low_with (IsUnknown k) here (placed before) state.unknown at (record { is = is; alone = λ line bad. same_line code.UnknownName at line (same_fault (found.Unknown at) (found.Unknown line) is bad) }) so.unknown;
    misplaced = low_past (IsMisplaced k) here (placed before) state.misplaced (not_misplaced (found.Unknown at) is (λ e. let same = same_code code.UnknownName code.WrongKind at r.line e in let no : ⊥ = cc in no)) so.misplaced;
    too_many = low_past (HoldsTooMuch k) here (placed before) state.too_many (not_over (found.Unknown at) is (λ line e. let same = same_code code.UnknownName code.TooMany at line e in let no : ⊥ = cc in no)) so.too_many;
    unnested = low_past (IsUnnested k) here (placed before) state.unnested (not_unnested (found.Unknown at) is (λ e. let same = same_code code.UnknownName code.NotUnderstood at r.line e in let no : ⊥ = cc in no)) so.unnested;
    told = λ known in_rooms within nested. absurd (not_none state.unknown at known);
  }
  rule_further found.WrongKind state is so = record {
    unknown = low_past (IsUnknown k) here (placed before) state.unknown (not_unknown found.WrongKind is (λ line e. let same = same_code code.WrongKind code.UnknownName r.line line e in let no : ⊥ = cc in no)) so.unknown;
    misplaced = low_with (IsMisplaced k) here (placed before) state.misplaced r.line (record { is = (is, refl); alone = λ line bad. sym bad.1 }) so.misplaced;
    too_many = low_past (HoldsTooMuch k) here (placed before) state.too_many (not_over found.WrongKind is (λ line e. let same = same_code code.WrongKind code.TooMany r.line line e in let no : ⊥ = cc in no)) so.too_many;
    unnested = low_past (IsUnnested k) here (placed before) state.unnested (not_unnested found.WrongKind is (λ e. let same = same_code code.WrongKind code.NotUnderstood r.line r.line e in let no : ⊥ = cc in no)) so.unnested;
    told = λ known in_rooms within nested. absurd (not_none state.misplaced r.line in_rooms);
  }
  rule_further (found.TooMany at) state is so = record {
    unknown = low_past (IsUnknown k) here (placed before) state.unknown (not_unknown (found.TooMany at) is (λ line e. let same = same_code code.TooMany code.UnknownName at line e in let no : ⊥ = cc in no)) so.unknown;
    misplaced = low_past (IsMisplaced k) here (placed before) state.misplaced (not_misplaced (found.TooMany at) is (λ e. let same = same_code code.TooMany code.WrongKind at r.line e in let no : ⊥ = cc in no)) so.misplaced;
    too_many = low_with (HoldsTooMuch k) here (placed before) state.too_many at (record { is = is; alone = λ line bad. same_line code.TooMany at line (same_fault (found.TooMany at) (found.TooMany line) is bad) }) so.too_many;
    unnested = low_past (IsUnnested k) here (placed before) state.unnested (not_unnested (found.TooMany at) is (λ e. let same = same_code code.TooMany code.NotUnderstood at r.line e in let no : ⊥ = cc in no)) so.unnested;
    told = λ known in_rooms within nested. absurd (not_none state.too_many at within);
  }
  rule_further found.Unnested state is so = record {
    unknown = low_past (IsUnknown k) here (placed before) state.unknown (not_unknown found.Unnested is (λ line e. let same = same_code code.NotUnderstood code.UnknownName r.line line e in let no : ⊥ = cc in no)) so.unknown;
    misplaced = low_past (IsMisplaced k) here (placed before) state.misplaced (not_misplaced found.Unnested is (λ e. let same = same_code code.NotUnderstood code.WrongKind r.line r.line e in let no : ⊥ = cc in no)) so.misplaced;
    too_many = low_past (HoldsTooMuch k) here (placed before) state.too_many (not_over found.Unnested is (λ line e. let same = same_code code.NotUnderstood code.TooMany r.line line e in let no : ⊥ = cc in no)) so.too_many;
    unnested = low_with (IsUnnested k) here (placed before) state.unnested r.line (record { is = (is, refl); alone = λ line bad. sym bad.1 }) so.unnested;
    told = λ known in_rooms within nested. absurd (not_none state.unnested r.line nested);
  }
