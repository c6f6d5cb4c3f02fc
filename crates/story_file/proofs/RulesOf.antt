-- The rules of sentences that mean a tale are few, stand in its books, and ask for what is there.
use Rattle.std.proofs.Common.{◌+◌, ◌≡◌, ◌∙◌, ap, refl, subst, sym, ℕ, suc, ◌<◌, ◌≤◌, Bool, true, ◌&&◌, List, [], ◌∷◌, ◌++◌, length, map, Some, arith, inl, inr}
use Rattle.std.specs.Prelude.{None, Option, nat_le, nat_lt, reverse}
use Rattle.std.specs.List.{AllZip, list_all}
use Rattle.std.proofs.lemmas.Bool.{cases_lt, lt-ltb, and_from, and_parts}
use Rattle.std.proofs.lemmas.Grind.{reverse_onto}
use Rattle.std.proofs.lemmas.List.{length-append, length-map, length-reverse, length-take, reverse-reverse}
use Rattle.std.proofs.lemmas.List.Elements.{All-head, All-tail}
use Rattle.std.proofs.lemmas.List.Folds.{list_all-append}
use Rattle.std.proofs.lemmas.Option.{slice_get_within}
use Rattle.world_meaning.specs.declared.declared.Declared.{Declared}
use Rattle.world_meaning.specs.declared.tale.Tale.{Tale}
use Rattle.play_meaning.specs.Patterns.{pattern_meant, rule_meant}
use Rattle.play_meaning.specs.declared.tree.rule.MeantRule.{MeantRule}
use Rattle.play_meaning.specs.Rules.{Anything, Aspect, Exactly, OfKind, Rule}
use Rattle.play_meaning.specs.Trees.{Adjective, NotSo, Quality, Touchable, Valued, Visible}
use Rattle.i7_actions.specs.Actions.{standard_actions}
use Rattle.i7_conditions.specs.There.{AreThere, Counts}
use Rattle.i7_patterns.specs.There.{AsksWhatIs, is_aspect_of, is_one_of, is_quality_of}
use Rattle.i7_rules.specs.Knowns.{Known}
use Rattle.i7_rules.specs.RuleList.{Placed, RuleAt, placed, rules_in}
use Rattle.i7_rules.specs.Heads.{IsBook, IsWithin, heading}
use Rattle.i7_rules.proofs.Present.{head_there, scene_there}
use Rattle.i7_rules.specs.SourceRules.{AreTold, IsOver, IsRulesFound, IsTold, most_rules}
use Rattle.i7_rules.specs.declared.source_rules.SourceRule.{SourceRule}
use Rattle.i7_sentences.specs.ActionDeclarations.{actions_declared}
use Rattle.i7_sentences.specs.Lowest.{IsNowhere}
use Rattle.i7_sentences.specs.declared.rule.RuleBook.{RuleBook}
use Rattle.i7_sentences.specs.declared.rule.RuleBook.TheVariants as named
use Rattle.i7_sentences.specs.declared.sentence.Sentence.{Sentence}
use Rattle.i7_resolution.specs.Resolutions.{IsResolution}
use Rattle.i7_resolution.specs.SourceActions.{action_of, actions_in, known_actions}
use Rattle.i7_resolution.specs.declared.resolution.Resolution.TheVariants as resolution
use Rattle.i7_resolution.specs.declared.resolution.Resolved.{Resolved}
use Rattle.story_format.specs.Contents.{Contents}
use Rattle.story_format.specs.Holding.{Named, is_asked, is_of, is_property, is_there, named_by, named_in}
use Rattle.story_format.specs.RuleMaking.{book_count}
use Rattle.story_file.specs.Meanings.{AreMeant, known_said}
use Rattle.story_file.proofs.Counted.{actions_are, counts_of, names_are_there, rulebooks_counted, scenes_counted}
use Rattle.story_file.proofs.Resolving.{few_actions, said_of}

-- ---- what is told of the rules

-- where nothing refuses the sentences
pub told_all : (k : Known) (recurring : List Bool) (sentences : List Sentence) (resolved : Resolved) → IsResolution k recurring sentences (resolution.Says resolved) → AreTold k (reverse (rules_in sentences)) (reverse resolved.rules.items)
told_all k recurring sentences resolved is =
    subst (IsRulesFound k sentences) (said_of k recurring sentences resolved is).rules is.is_joined.rules_are

-- ---- there are few

few_placed : (k : Known) (rules : List RuleAt) → IsNowhere (IsOver k) (placed rules) → length rules ≤ most_rules
few_placed k [] none = omega arith
few_placed k (rule ∷ before) none =
    let Fits = λ (p : Placed). (line : ℕ) → IsOver k p line → ⊥ in
    let this : Placed = record { rule = rule; before = before } in
    let few = few_placed k before (All-tail Fits this (placed before) none) in
    elim (cases_lt (length before) most_rules) [
      | inl less ↦ omega (arith, less)
      | inr many ↦ absurd (All-head Fits this (placed before) none rule.line (inr (omega (arith, few, many), refl)))
    ]

pub as_many : {A B : Type 0} (R : A → B → Type 0) (xs : List A) (ys : List B) → AllZip R xs ys → length ys ≡ length xs
as_many R [] [] zip = refl
as_many R [] (y ∷ ys) zip = absurd zip
as_many R (x ∷ xs) [] zip = absurd zip
as_many R (x ∷ xs) (y ∷ ys) zip = ap suc (as_many R xs ys zip.1)

few_told : (k : Known) (rules : List RuleAt) (told : List SourceRule) → AreTold k rules (reverse told) → length told ≤ 1939
unfolding most_rules
few_told k rules told are = omega (arith, few_placed k rules are.within, as_many (IsTold k) rules (reverse told) are.each, length-reverse told)

-- ---- each stands in a book

pub list_all_back : {A : Type 0} (p : A → Bool) (xs : List A) → list_all p xs ≡ true → list_all p (reverse xs) ≡ true
list_all_back p [] all = refl
list_all_back p (x ∷ xs) all =
    let t = and_parts (p x) (list_all p xs) all in
    ap (list_all p) (reverse_onto xs x []) ∙ list_all-append p (reverse xs) (x ∷ []) ∙ and_from (list_all p (reverse xs)) (p x && true) (list_all_back p xs t.1) (and_from (p x) true t.0 refl)

-- ---- what is asked for is there, as a story file has it

same_number : (count : ℕ) (n : Option ℕ) → is_there count n ≡ is_one_of count n
same_number count None = refl
same_number count (Some n) = refl

module _ (z : Named) (y : Counts) (objects : z.objects ≡ y.objects) (kinds : z.kinds ≡ y.kinds) (flags : z.flags ≡ y.qualities) where
  same_adjective : (a : Adjective) → is_property z.flags a ≡ is_quality_of y a
  same_adjective (Quality p side) = ap (λ (n : ℕ). nat_lt p n) flags
  same_adjective (Valued q value) = refl
  same_adjective Visible = refl
  same_adjective Touchable = refl
  same_adjective (NotSo (Quality p side)) = ap (λ (n : ℕ). nat_lt p n) flags
  same_adjective (NotSo _) = refl

  same_adjectives : (all : List Adjective) → list_all (is_property z.flags) all ≡ list_all (is_quality_of y) all
  same_adjectives [] = refl
  same_adjectives (a ∷ all) = ap (λ (b : Bool). b && list_all (is_property z.flags) all) (same_adjective a) ∙ ap (λ (b : Bool). is_quality_of y a && b) (same_adjectives all)

  same_aspect : (x : Aspect) → is_asked z x ≡ is_aspect_of y x
  same_aspect Anything = refl
  same_aspect (Exactly o) = ap (λ (n : ℕ). nat_lt o n) objects
  same_aspect (OfKind kind all) =
      ap (λ (n : ℕ). nat_lt kind n && (nat_le (length all) 9 && list_all (is_property z.flags) all)) kinds
      ∙ ap (λ (b : Bool). nat_lt kind y.kinds && (nat_le (length all) 9 && b)) (same_adjectives all)

pub sixteen : length standard_actions ≡ 16
unfolding standard_actions
sixteen = refl

-- rules know all actions where they are few
known_counted : (sentences : List Sentence) → length (actions_declared sentences) ≤ 184 → length (known_actions (actions_in sentences)) ≡ 16 + length (actions_declared sentences)
unfolding actions_in
known_counted sentences few =
    let declared = actions_declared sentences in
    let all = standard_actions ++ map action_of declared in
    let whole : length all ≡ 16 + length declared = omega (arith, sixteen, length-append standard_actions (map action_of declared), length-map declared action_of) in
    length-take 255 all ∙ omega (arith, few, whole)

module _ (k : Known) (d : Declared) (y : Counts) (there : AreThere y k.meanings k.plurals) (actions : length k.actions ≡ 16 + length d.actions) (books : length k.rulebooks ≡ d.rulebooks) (scenes : k.scenes ≡ length d.scenes)
    (kinds : length d.kinds ≡ y.kinds) (flags : length d.flags ≡ y.qualities) (happen : length d.scenes ≡ y.scenes) where
  book_below : (book : RuleBook) (number : ℕ) → IsBook k book number → number < book_count d
  book_below named.Before number is = omega (arith, is)
  book_below named.Instead number is = omega (arith, is)
  book_below named.Check number is = omega (arith, is)
  book_below named.CarryOut number is = omega (arith, is)
  book_below named.After number is = omega (arith, is)
  book_below named.Report number is = omega (arith, is)
  book_below named.EveryTurn number is = omega (arith, is)
  book_below named.PlayBegins number is = omega (arith, is)
  book_below (named.SceneBegins words) number is = omega (arith, is.2, scene_there k y there words is.0 is.1, happen)
  book_below (named.SceneEnds words) number is = omega (arith, is.2, scene_there k y there words is.0 is.1, happen)
  book_below (named.Own words) number is = omega (arith, is.numbered, slice_get_within k.rulebooks is.k is.name is.at, books, scenes)

  -- of a book that there is, about what there is
  abbrev is_of_tale : ℕ → SourceRule → Bool
  is_of_tale objects told = is_of (named_by d objects) (rule_meant told.rule)

  asking_of : (objects : ℕ) → objects ≡ y.objects → (rule : MeantRule) → rule.head.book < book_count d → AsksWhatIs y (length k.actions) (pattern_meant rule.head.pattern)
      → is_of (named_by d objects) (rule_meant rule) ≡ true
  unfolding is_of
  asking_of objects counted rule book asks =
      let z = named_by d objects in
      let about = pattern_meant rule.head.pattern in
      let same = same_aspect z y counted kinds flags in
      rw (
        lt-ltb rule.head.book (book_count d) book,
        same_number z.actions about.action ∙ ap (λ (n : ℕ). is_one_of n about.action) (sym actions) ∙ asks.action,
        same about.noun ∙ asks.noun,
        same about.second ∙ asks.second,
        same about.place ∙ asks.place,
        same_number z.scenes about.scene ∙ ap (λ (n : ℕ). is_one_of n about.scene) happen ∙ asks.scene,
      ) refl

  told_of : (objects : ℕ) → objects ≡ y.objects → (r : RuleAt) (told : SourceRule) → IsTold k r told → is_of_tale objects told ≡ true
  told_of objects counted r told is =
      let head : IsWithin k r.rule (heading told.rule.head) = (is.rule).0 in
      asking_of objects counted told.rule (book_below r.rule.book told.rule.head.book (head.0).book) (head_there k y there r.rule (heading told.rule.head) head)

  all_of : (objects : ℕ) → objects ≡ y.objects → (rules : List RuleAt) (told : List SourceRule) → AllZip (IsTold k) rules told → list_all (is_of_tale objects) told ≡ true
  all_of objects counted [] [] each = refl
  all_of objects counted [] (one ∷ told) each = absurd each
  all_of objects counted (rule ∷ rules) [] each = absurd each
  all_of objects counted (rule ∷ rules) (one ∷ told) each =
      and_from (is_of_tale objects one) (list_all (is_of_tale objects) told) (told_of objects counted rule one each.0) (all_of objects counted rules told each.1)

  tested : (objects : ℕ) (told : List SourceRule) → list_all (is_of (named_by d objects)) (map (λ one. rule_meant one.rule) told) ≡ list_all (is_of_tale objects) told
  tested objects [] = refl
  tested objects (one ∷ told) = ap (λ (b : Bool). is_of_tale objects one && b) (tested objects told)

  told_rules_of : (objects : ℕ) → objects ≡ y.objects → (rules : List RuleAt) (told : List SourceRule) → AllZip (IsTold k) rules (reverse told)
      → list_all (is_of (named_by d objects)) (map (λ one. rule_meant one.rule) told) ≡ true
  told_rules_of objects counted rules told each =
      tested objects told ∙ ap (list_all (is_of_tale objects)) (sym (reverse-reverse told)) ∙ list_all_back (is_of_tale objects) (reverse told) (all_of objects counted rules (reverse told) each)

-- ---- all of it

pub few_rules : (sentences : List Sentence) (tale : Tale) (said : Contents) → AreMeant sentences tale said → length said.rules ≤ 1939
few_rules sentences tale said meant =
    let told = told_all (known_said sentences tale) tale.declared.scenes sentences meant.resolved meant.resolved_is in
    let few = few_told (known_said sentences tale) (reverse (rules_in sentences)) meant.resolved.rules.items told in
    subst (λ (all : List Rule). length all ≤ 1939) (sym meant.rules_are) (omega (arith, few, length-map meant.resolved.rules.items (λ (one : SourceRule). rule_meant one.rule)))

pub acts_few : (sentences : List Sentence) (tale : Tale) (said : Contents) → AreMeant sentences tale said → length tale.declared.actions ≤ 184
acts_few sentences tale said meant =
    omega (arith, actions_are sentences tale meant.tale_is, few_actions (known_said sentences tale) tale.declared.scenes sentences meant.resolved meant.resolved_is)

-- of books that there are, about what there is
pub rules_named : (sentences : List Sentence) (tale : Tale) (said : Contents) → AreMeant sentences tale said → list_all (is_of (named_in tale)) said.rules ≡ true
rules_named sentences tale said meant =
    let k = known_said sentences tale in
    let told = told_all k tale.declared.scenes sentences meant.resolved meant.resolved_is in
    let acts : length k.actions ≡ 16 + length tale.declared.actions =
    known_counted sentences (few_actions k tale.declared.scenes sentences meant.resolved meant.resolved_is) ∙ ap (λ (n : ℕ). 16 + n) (sym (actions_are sentences tale meant.tale_is)) in
    subst (λ (all : List Rule). list_all (is_of (named_in tale)) all ≡ true) (sym meant.rules_are)
    (told_rules_of k tale.declared (counts_of sentences tale) (names_are_there sentences tale meant.tale_is) acts (rulebooks_counted sentences tale meant.tale_is)
    (scenes_counted sentences tale meant.tale_is) refl refl refl (length tale.objects) refl (reverse (rules_in sentences)) meant.resolved.rules.items told.each)
