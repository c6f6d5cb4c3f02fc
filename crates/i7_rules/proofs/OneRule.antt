-- Of a rule one thing is told: that it says something, or one line at which something is wrong.
use Rattle.std.proofs.Common.{◌≡◌, ℕ, false, List, [], ◌∷◌, ◌++◌, refl, sym, ap, ◌∙◌, subst, true≢false, inl, inr}
use Rattle.std.specs.Prelude.{reverse}
use Rattle.std.specs.List.{AllZip}
use Rattle.std.proofs.lemmas.Grind.{reverse_onto}
use Rattle.std.proofs.lemmas.List.{reverse-reverse}
use Rattle.std.proofs.lemmas.List.Elements.{AllZip-push}
use Rattle.world_meaning.specs.declared.fault.FaultCode.TheVariants as code
use Rattle.i7_sentences.specs.declared.rule.Rule.{Rule}
use Rattle.i7_sentences.specs.declared.rule.RulePhrase.{RulePhrase}
use Rattle.play_meaning.specs.Meant.{body_meant}
use Rattle.play_meaning.specs.Trees.{Body}
use Rattle.i7_conditions.specs.declared.line.Line.{Line}
use Rattle.i7_rules.specs.Bodies.{AreLines, AreUnderstood, IsBodyOf, IsLine, IsNoBody, IsOver as IsPhraseOver, IsOverAt, IsUnknownAt}
use Rattle.i7_rules.specs.Knowns.{Known, repeats_around, scope_among}
use Rattle.i7_rules.specs.Lines.{is_over_behind, stated_in}
use Rattle.i7_rules.specs.Heads.{HasHead, HasHeadWithin, Head, IsHead, IsMisplaced, IsOver, IsWithin, head_is_over, heading}
use Rattle.i7_rules.specs.Rules.{IsRuleFound, fault_at, fault_in}
use Rattle.play_meaning.specs.declared.tree.rule.MeantRule.{MeantRule}
use Rattle.i7_rules.specs.declared.rule.RuleFound.{RuleFound}
use Rattle.i7_rules.specs.declared.rule.RuleFound.TheVariants as found
use Rattle.i7_rules.proofs.Once.{AreOnce, states_once}
use Rattle.i7_rules.proofs.OneHead.{not_misplaced, not_over_within}
use Rattle.i7_rules.proofs.ReadOn.{all_understood}
use Rattle.i7_rules.proofs.Rebuilt.{IsSame, body_again}

-- ---- lists from the last to the first

zip_back : (a b : List Line) → AllZip IsSame a b → AllZip IsSame (reverse a) (reverse b)
zip_back [] [] same = tt
zip_back [] (m ∷ ms) same = absurd same
zip_back (l ∷ ls) [] same = absurd same
zip_back (l ∷ ls) (m ∷ ms) same =
    let pushed : AllZip IsSame (reverse ls ++ l ∷ []) (reverse ms ++ m ∷ []) = AllZip-push IsSame (reverse ls) (reverse ms) l m (zip_back ls ms same.1) same.0 in
    subst (λ (all : List Line). AllZip IsSame all (reverse (m ∷ ms))) (sym (reverse_onto ls l []))
    (subst (AllZip IsSame (reverse ls ++ l ∷ [])) (sym (reverse_onto ms m [])) pushed)

pub forth : (a b : List Line) → AllZip IsSame (reverse a) (reverse b) → AllZip IsSame a b
forth a b same =
    subst (λ (all : List Line). AllZip IsSame all b) (reverse-reverse a)
    (subst (AllZip IsSame (reverse (reverse a))) (reverse-reverse b) (zip_back (reverse a) (reverse b) same))

-- ---- phrases that aren't understood

not_unknown : (k : Known) (phrases : List RulePhrase) (line : ℕ) → AreUnderstood k phrases → IsUnknownAt k phrases line → ⊥
not_unknown k [] line all is = elim is [ ]
not_unknown k (p ∷ before) line (AreUnderstood.and_one all one) (IsUnknownAt.this behind unknown) = unknown one.0 one.1
not_unknown k (p ∷ before) line (AreUnderstood.and_one all one) (IsUnknownAt.one_before is) = not_unknown k before line all is

unknown_once : (k : Known) (phrases : List RulePhrase) (m n : ℕ) → IsUnknownAt k phrases m → IsUnknownAt k phrases n → m ≡ n
unknown_once k [] m n a b = elim a [ ]
unknown_once k (p ∷ before) m n (IsUnknownAt.this all unknown) (IsUnknownAt.this again unknown') = refl
unknown_once k (p ∷ before) m n (IsUnknownAt.this all unknown) (IsUnknownAt.one_before b) = absurd (not_unknown k before n all b)
unknown_once k (p ∷ before) m n (IsUnknownAt.one_before a) (IsUnknownAt.this all unknown) = absurd (not_unknown k before m all a)
unknown_once k (p ∷ before) m n (IsUnknownAt.one_before a) (IsUnknownAt.one_before b) = unknown_once k before m n a b

-- ---- rules that aren't understood

-- the head and each phrase are understood
abbrev IsKnown : Known → Rule → Type 0
IsKnown k rule = HasHead k rule × AreUnderstood k (reverse rule.body)

known_or_not : (k : Known) (line at : ℕ) (rule : Rule) → IsKnown k rule → IsRuleFound k line rule (found.Unknown at) → ⊥
known_or_not k line at rule known unknown = elim unknown [
  | inl headless ↦ let head : HasHead k rule = known.0 in headless.0 head.0 head.1
  | inr later ↦ not_unknown k (reverse rule.body) at known.1 later.1
]

unknown_at_once : (k : Known) (line a b : ℕ) (rule : Rule) → IsRuleFound k line rule (found.Unknown a) → IsRuleFound k line rule (found.Unknown b) → a ≡ b
unknown_at_once k line a b rule one other = elim one [
  | inl here ↦ elim other [
    | inl again ↦ here.1 ∙ sym again.1
    | inr later ↦ let head : HasHead k rule = later.0 in absurd (here.0 head.0 head.1)
  ]
  | inr later ↦ elim other [
    | inl again ↦ let head : HasHead k rule = later.0 in absurd (again.0 head.0 head.1)
    | inr again ↦ unknown_once k (reverse rule.body) a b later.1 again.1
  ]
]

says_known : (k : Known) (line : ℕ) (rule : Rule) (meant : MeantRule) → IsRuleFound k line rule (found.Says meant) → IsKnown k rule
says_known k line rule meant says =
    let fine : IsWithin k rule (heading meant.head) = says.0 in
    let body : IsBodyOf k rule.body (body_meant meant.body.items) = says.1 in
    ((heading meant.head, fine.0), all_understood k (reverse rule.body) (reverse body.0) body.1)

unnested_known : (k : Known) (line : ℕ) (rule : Rule) → IsRuleFound k line rule found.Unnested → IsKnown k rule
unnested_known k line rule is =
    let fine : IsWithin k rule is.0.0 = is.0.1 in
    let none : IsNoBody k rule.body = is.1 in
    ((is.0.0, fine.0), all_understood k (reverse rule.body) (reverse none.0) none.1)

misplaced_known : (k : Known) (line : ℕ) (rule : Rule) → IsRuleFound k line rule found.WrongKind → IsKnown k rule
misplaced_known k line rule is = let wrong : IsMisplaced k rule = is.1 in ((wrong.0, wrong.1), is.0)

over_known : (k : Known) (line at : ℕ) (rule : Rule) → IsRuleFound k line rule (found.TooMany at) → IsKnown k rule
over_known k line at rule over = (
  elim over.1 as (λ how. HasHead k rule) [
    | inl here ↦ let its : IsOver k rule = here.0 in (its.0, its.1)
    | inr later ↦ let fine : IsWithin k rule later.0.0 = later.0.1 in (later.0.0, fine.0)
  ],
  over.0,
)

-- ---- phrases over their limits

module _ (laws : AreOnce) where
  not_within : (k : Known) (before : List RulePhrase) (p : RulePhrase) (line : Line) → IsLine k before p line → IsPhraseOver k before p → ⊥
  not_within k before p line is over =
      let same : over.0 ≡ stated_in line.step = states_once laws k (scope_among k (repeats_around before p)) p over.0 (stated_in line.step) over.1 is.states in
      true≢false (sym over.2 ∙ ap (is_over_behind before p) same ∙ is.within)

  not_over : (k : Known) (phrases : List RulePhrase) (lines : List Line) (line : ℕ) → AreLines k phrases lines → IsOverAt k phrases line → ⊥
  not_over k [] lines line all is = elim is [ ]
  not_over k (p ∷ before) (l ∷ ls) line (AreLines.and_one all one) (IsOverAt.this behind over) = not_within k before p l one over
  not_over k (p ∷ before) (l ∷ ls) line (AreLines.and_one all one) (IsOverAt.one_before is) = not_over k before ls line all is
  not_over k (p ∷ before) [] line all is = elim all [ ]

  over_once : (k : Known) (phrases : List RulePhrase) (m n : ℕ) → IsOverAt k phrases m → IsOverAt k phrases n → m ≡ n
  over_once k [] m n a b = elim a [ ]
  over_once k (p ∷ before) m n (IsOverAt.this all over) (IsOverAt.this again over') = refl
  over_once k (p ∷ before) m n (IsOverAt.this {lines = ls} all over) (IsOverAt.one_before b) = absurd (not_over k before ls n all b)
  over_once k (p ∷ before) m n (IsOverAt.one_before a) (IsOverAt.this {lines = ls} all over) = absurd (not_over k before ls m all a)
  over_once k (p ∷ before) m n (IsOverAt.one_before a) (IsOverAt.one_before b) = over_once k before m n a b

  -- ---- lines

  same_line : (k : Known) (before : List RulePhrase) (p : RulePhrase) (a b : Line) → IsLine k before p a → IsLine k before p b → IsSame a b
  same_line k before p a b one other = record {
    depth = one.depth ∙ sym other.depth;
    states = states_once laws k (scope_among k (repeats_around before p)) p (stated_in a.step) (stated_in b.step) one.states other.states;
  }

  pub same_lines : (k : Known) (phrases : List RulePhrase) (a b : List Line) → AreLines k phrases a → AreLines k phrases b → AllZip IsSame a b
  same_lines k [] [] [] one other = tt
  same_lines k [] [] (m ∷ ms) one other = elim other [ ]
  same_lines k [] (l ∷ ls) b one other = elim one [ ]
  same_lines k (p ∷ before) [] b one other = elim one [ ]
  same_lines k (p ∷ before) (l ∷ ls) [] one other = elim other [ ]
  same_lines k (p ∷ before) (l ∷ ls) (m ∷ ms) (AreLines.and_one all one) (AreLines.and_one again other) = (same_line k before p l m one other, same_lines k before ls ms all again)

  -- ---- bodies

  nested_or_not : (k : Known) (phrases : List RulePhrase) (body : Body) → IsBodyOf k phrases body → IsNoBody k phrases → ⊥
  nested_or_not k phrases body is isnt =
      let same : AllZip IsSame (reverse is.0) (reverse isnt.0) = same_lines k (reverse phrases) (reverse is.0) (reverse isnt.0) is.1 isnt.1 in
      isnt.2 body (body_again is.2 isnt.0 (forth is.0 isnt.0 same))

  -- ---- rules

  not_fine_and_over : (k : Known) (line at : ℕ) (rule : Rule) (head : Head) (lines : List Line) → IsHead k rule head → head_is_over head ≡ false → AreLines k (reverse rule.body) lines
      → IsRuleFound k line rule (found.TooMany at) → ⊥
  not_fine_and_over k line at rule head lines is within all over = elim over.1 [
    | inl here ↦ let its : IsOver k rule = here.0 in not_over_within laws k rule its.0 head its.1 its.3 is within
    | inr later ↦ not_over k (reverse rule.body) lines at all later.1
  ]

  over_at_once : (k : Known) (line a b : ℕ) (rule : Rule) → IsRuleFound k line rule (found.TooMany a) → IsRuleFound k line rule (found.TooMany b) → a ≡ b
  over_at_once k line a b rule one other = elim one.1 [
    | inl here ↦ elim other.1 [
      | inl again ↦ here.1 ∙ sym again.1
      | inr later ↦ let its : IsOver k rule = here.0 in let fine : IsWithin k rule later.0.0 = later.0.1 in absurd (not_over_within laws k rule its.0 later.0.0 its.1 its.3 fine.0 fine.2)
    ]
    | inr later ↦ elim other.1 [
      | inl again ↦ let its : IsOver k rule = again.0 in let fine : IsWithin k rule later.0.0 = later.0.1 in absurd (not_over_within laws k rule its.0 later.0.0 its.1 its.3 fine.0 fine.2)
      | inr again ↦ over_once k (reverse rule.body) a b later.1 again.1
    ]
  ]

  says_or_over : (k : Known) (line at : ℕ) (rule : Rule) (meant : MeantRule) → IsRuleFound k line rule (found.Says meant) → IsRuleFound k line rule (found.TooMany at) → ⊥
  says_or_over k line at rule meant says over =
      let fine : IsWithin k rule (heading meant.head) = says.0 in
      let body : IsBodyOf k rule.body (body_meant meant.body.items) = says.1 in
      not_fine_and_over k line at rule (heading meant.head) (reverse body.0) fine.0 fine.2 body.1 over

  unnested_or_over : (k : Known) (line at : ℕ) (rule : Rule) → IsRuleFound k line rule found.Unnested → IsRuleFound k line rule (found.TooMany at) → ⊥
  unnested_or_over k line at rule is over =
      let fine : IsWithin k rule is.0.0 = is.0.1 in
      let none : IsNoBody k rule.body = is.1 in
      not_fine_and_over k line at rule is.0.0 (reverse none.0) fine.0 fine.2 none.1 over

  -- ---- a place that is no room

  within_or_misplaced : (k : Known) (line : ℕ) (rule : Rule) (head : Head) → IsWithin k rule head → IsRuleFound k line rule found.WrongKind → ⊥
  within_or_misplaced k line rule head fine wrong = not_misplaced laws k rule head fine.0 fine.1 wrong.1

  unnested_or_misplaced : (k : Known) (line : ℕ) (rule : Rule) → IsRuleFound k line rule found.Unnested → IsRuleFound k line rule found.WrongKind → ⊥
  unnested_or_misplaced k line rule is wrong = let has : HasHeadWithin k rule = is.0 in within_or_misplaced k line rule has.0 has.1 wrong

  over_or_misplaced : (k : Known) (line at : ℕ) (rule : Rule) → IsRuleFound k line rule (found.TooMany at) → IsRuleFound k line rule found.WrongKind → ⊥
  over_or_misplaced k line at rule over wrong = elim over.1 [
    | inl here ↦ let its : IsOver k rule = here.0 in not_misplaced laws k rule its.0 its.1 its.2 wrong.1
    | inr later ↦ let has : HasHeadWithin k rule = later.0 in within_or_misplaced k line rule has.0 has.1 wrong
  ]

  pub one_told : (k : Known) (line : ℕ) (rule : Rule) (a b : RuleFound) → IsRuleFound k line rule a → IsRuleFound k line rule b → fault_in line a ≡ fault_in line b
  one_told k line rule (found.Says m) (found.Says n) one other = refl
  one_told k line rule (found.Says m) (found.Unknown b) one other = absurd (known_or_not k line b rule (says_known k line rule m one) other)
  one_told k line rule (found.Says m) found.WrongKind one other = absurd (within_or_misplaced k line rule (heading m.head) one.0 other)
  one_told k line rule (found.Says m) (found.TooMany b) one other = absurd (says_or_over k line b rule m one other)
  one_told k line rule (found.Says m) found.Unnested one other = absurd (nested_or_not k rule.body (body_meant m.body.items) one.1 other.1)
  one_told k line rule (found.Unknown a) (found.Says n) one other = absurd (known_or_not k line a rule (says_known k line rule n other) one)
  one_told k line rule (found.Unknown a) (found.Unknown b) one other = ap (fault_at code.UnknownName) (unknown_at_once k line a b rule one other)
  one_told k line rule (found.Unknown a) found.WrongKind one other = absurd (known_or_not k line a rule (misplaced_known k line rule other) one)
  one_told k line rule (found.Unknown a) (found.TooMany b) one other = absurd (known_or_not k line a rule (over_known k line b rule other) one)
  one_told k line rule (found.Unknown a) found.Unnested one other = absurd (known_or_not k line a rule (unnested_known k line rule other) one)
  one_told k line rule found.WrongKind (found.Says n) one other = absurd (within_or_misplaced k line rule (heading n.head) other.0 one)
  one_told k line rule found.WrongKind (found.Unknown b) one other = absurd (known_or_not k line b rule (misplaced_known k line rule one) other)
  one_told k line rule found.WrongKind found.WrongKind one other = refl
  one_told k line rule found.WrongKind (found.TooMany b) one other = absurd (over_or_misplaced k line b rule other one)
  one_told k line rule found.WrongKind found.Unnested one other = absurd (unnested_or_misplaced k line rule other one)
  one_told k line rule (found.TooMany a) (found.Says n) one other = absurd (says_or_over k line a rule n other one)
  one_told k line rule (found.TooMany a) (found.Unknown b) one other = absurd (known_or_not k line b rule (over_known k line a rule one) other)
  one_told k line rule (found.TooMany a) found.WrongKind one other = absurd (over_or_misplaced k line a rule one other)
  one_told k line rule (found.TooMany a) (found.TooMany b) one other = ap (fault_at code.TooMany) (over_at_once k line a b rule one other)
  one_told k line rule (found.TooMany a) found.Unnested one other = absurd (unnested_or_over k line a rule other one)
  one_told k line rule found.Unnested (found.Says n) one other = absurd (nested_or_not k rule.body (body_meant n.body.items) other.1 one.1)
  one_told k line rule found.Unnested (found.Unknown b) one other = absurd (known_or_not k line b rule (unnested_known k line rule one) other)
  one_told k line rule found.Unnested found.WrongKind one other = absurd (unnested_or_misplaced k line rule one other)
  one_told k line rule found.Unnested (found.TooMany b) one other = absurd (unnested_or_over k line b rule one other)
  one_told k line rule found.Unnested found.Unnested one other = refl
