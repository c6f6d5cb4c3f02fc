-- The rules of a tale: their codes are named in turn, each for its use, and their tables are a story's.
use Rattle.std.proofs.Common.{◌≡◌, ℕ, zero, suc, ◌+◌, ◌<◌, ◌≤◌, true, false, ltb, leb, eqb, List, [], ◌∷◌, ◌++◌, length, map, Option, Some, None, refl, sym, ap, ◌∙◌, arith, inl, inr, length-append}
use Rattle.std.specs.Prelude.{min, replicate}
use Rattle.std.specs.List.{flat_map, list_all}
use Rattle.std.proofs.lemmas.Bool.{lt-ltb, le-leb, ne_eqb, eq-eqb, cases_Bool, and_from, and_parts}
use Rattle.std.proofs.lemmas.List.{length-map, map-append}
use Rattle.std.proofs.lemmas.List.Folds.{list_all-append}
use Rattle.std.proofs.lemmas.Grind.{flat_map-append}
use Rattle.world_meaning.specs.declared.declared.Declared.{Declared}
use Rattle.play_meaning.specs.Rules.{Rule}
use Rattle.play_meaning.specs.Scripts.{Scene}
use Rattle.play_meaning.specs.StandardRules.{rules_of_closing, rules_of_dropping, rules_of_examining, rules_of_going, rules_of_inserting, rules_of_inventory, rules_of_looking, rules_of_opening, rules_of_putting, rules_of_switching, rules_of_taking, rules_of_wearing, standard_rules}
use Rattle.play_meaning.specs.Trees.{Condition}
use Rattle.play_meaning.specs.declared.operand.Counts.{Counts}
use Rattle.play_meaning.specs.declared.operand.Use.{Use}
use Rattle.code_table.specs.Origins.{Origin, origins_of_rule, use_for}
use Rattle.story_format.specs.Checks.{codes_named}
use Rattle.story_format.specs.Holding.{Named, has_first_noun, is_of}
use Rattle.story_format.specs.Layout.{aspect_layout, body_layout, book_layout, kind_aspect_layout, line_layout, rule_layout, rules_layout, side_layout}
use Rattle.story_format.specs.Making.{Worded, described_in, entries_of}
use Rattle.story_format.specs.RuleChecks.{are_right_books, are_right_lines, are_right_rules, code_if, code_of_body, codes_in_rule, codes_in_rules, codes_in_scene, codes_in_scenes, codes_in_tables, is_number_or_none, is_right_body, is_right_rule, lists_what_is_there, test_if, use_in_body, uses_in_rule, uses_in_rules, uses_in_scene, uses_in_scenes, uses_in_tables}
use Rattle.story_format.specs.RuleMaking.{action_entries, all_entries, book_count, codes_of_rules, condition_count, condition_number, entry_with, first_own_book, rule_count, rule_entries, rule_entry, rules_of, scene_entries, standard_entries, standard_entry, standard_from}
use Rattle.story_format.specs.Soundness.{are_in_turn}
use Rattle.story_format.specs.declared.rule_entry.RuleBody.{RuleBody}
use Rattle.story_format.specs.declared.rule_entry.RuleBody.TheVariants.{Code, Standard, Unknown}
use Rattle.story_format.specs.declared.rule_entry.RuleEntry.{RuleEntry}
use Rattle.story_format.specs.declared.rule_tables.Book.{Book}
use Rattle.story_format.specs.declared.rule_tables.LineEntry.{LineEntry}
use Rattle.story_format.specs.declared.rule_tables.RuleTables.{RuleTables}
use Rattle.story_format.specs.declared.rule_tables.SceneEntry.{SceneEntry}
use Rattle.story_format.proofs.AboutRules.{IsSmall, aspect_fits, aspect_right, named_of, named_parts, number_fits, number_right}
use Rattle.story_format.proofs.ActionLemmas.{action_count, actions_fit, actions_right}
use Rattle.story_format.proofs.OrderLemmas.{codes_counted, codes_in_turn}
use Rattle.story_format.proofs.SceneLemmas.{condition_fits, condition_right, each_scene_right, length_scenes, origins_in_scenes, scenes_fit, scenes_in_turn, scenes_used}
use Rattle.story_format.proofs.Turns.{turn_joined}
use Rattle.story_format.proofs.StandardRuleRows.{all_bare, each_of, no_codes, no_uses, standard_count}

-- ---- each code that rules and scenes name has its use

pub tests_counted : (n : ℕ) → length (test_if n) ≡ length (code_if n)
tests_counted n =
    elim (cases_Bool (eqb n 65535)) [
      | inl none ↦ rw none refl
      | inr some ↦ rw some refl
    ]

body_counted : (b : RuleBody) → length (use_in_body b) ≡ length (code_of_body b)
body_counted (Code n) = refl
body_counted (Standard n) = refl
body_counted (Unknown n) = refl

pub rule_counted : (r : RuleEntry) → length (uses_in_rule r) ≡ length (codes_in_rule r)
rule_counted r =
    length-append (test_if r.condition) (use_in_body r.body) ∙ (λ i. tests_counted r.condition i + body_counted r.body i) ∙ sym (length-append (code_if r.condition) (code_of_body r.body))

pub scene_counted : (scene : SceneEntry) → length (uses_in_scene scene) ≡ length (codes_in_scene scene)
scene_counted scene =
    length-append (test_if scene.begins) (test_if scene.ends) ∙ (λ i. tests_counted scene.begins i + tests_counted scene.ends i) ∙ sym (length-append (code_if scene.begins) (code_if scene.ends))

all_counted : {X : Type 0} (codes : X → List ℕ) (uses : X → List Use) → ((x : X) → length (uses x) ≡ length (codes x)) → (xs : List X) → length (flat_map uses xs) ≡ length (flat_map codes xs)
all_counted codes uses counted [] = refl
all_counted codes uses counted (x ∷ xs) =
    length-append (uses x) (flat_map uses xs) ∙ (λ i. counted x i + all_counted codes uses counted xs i) ∙ sym (length-append (codes x) (flat_map codes xs))

pub uses_counted : (rules : List RuleEntry) → length (uses_in_rules rules) ≡ length (codes_in_rules rules)
uses_counted rules = all_counted codes_in_rule uses_in_rule rule_counted rules

pub tables_counted : (r : RuleTables) → length (uses_in_tables r) ≡ length (codes_in_tables r)
tables_counted r =
    length-append (uses_in_rules r.rules) (uses_in_scenes r.scenes) ∙ (λ i. uses_counted r.rules i + all_counted codes_in_scene uses_in_scene scene_counted r.scenes i)
    ∙ sym (length-append (codes_in_rules r.rules) (codes_in_scenes r.scenes))

-- ---- the codes of a rule

abbrev codes_by : ℕ → Option Condition → List ℕ
codes_by next None = next ∷ []
codes_by next (Some condition) = next ∷ (next + 1) ∷ []

codes_are : (next : ℕ) (rule : Rule) (c : Option Condition) → rule.condition ≡ c → next + condition_count c < 65535 → codes_in_rule (rule_entry next rule) ≡ codes_by next c
codes_are next rule None is lt =
    let own : min (next + 0) 65535 ≡ next = omega (arith, lt) in
    rw (is, own) refl
codes_are next rule (Some condition) is lt =
    let first : min next 65535 ≡ next = omega (arith, lt) in
    let own : min (next + 1) 65535 ≡ next + 1 = omega (arith, lt) in
    let told : eqb next 65535 ≡ false = ne_eqb _ _ (λ k. omega (arith, k, lt)) in
    rw (is, first, own, told) refl

uses_are : (next : ℕ) (rule : Rule) (c : Option Condition) → rule.condition ≡ c → next + condition_count c < 65535 → uses_in_rule (rule_entry next rule) ≡ map use_for (origins_of_rule rule)
uses_are next rule None is lt = rw is refl
uses_are next rule (Some condition) is lt =
    let first : min next 65535 ≡ next = omega (arith, lt) in
    let told : eqb next 65535 ≡ false = ne_eqb _ _ (λ k. omega (arith, k, lt)) in
    rw (is, first, told) refl

by_turn : (next : ℕ) (c : Option Condition) → are_in_turn next (codes_by next c) ≡ true
unfolding are_in_turn
by_turn next None = rw (eq-eqb next next refl) refl
by_turn next (Some condition) = rw (eq-eqb next next refl, eq-eqb (next + 1) (next + 1) refl) refl

by_count : (next : ℕ) (c : Option Condition) → length (codes_by next c) ≡ condition_count c + 1
by_count next None = refl
by_count next (Some condition) = refl

-- each origin has a code
origin_count : (rule : Rule) (c : Option Condition) → rule.condition ≡ c → length (origins_of_rule rule) ≡ condition_count c + 1
origin_count rule None is = rw is refl
origin_count rule (Some condition) is = rw is refl

abbrev pub origins_in : List Rule → List Origin
origins_in rules = flat_map origins_of_rule rules

pub counted : (rule : Rule) → length (origins_of_rule rule) ≡ rule_count rule
counted rule = origin_count rule rule.condition refl

pub counted_more : (rule : Rule) (rules : List Rule) → length (origins_in (rule ∷ rules)) ≡ rule_count rule + length (origins_in rules)
counted_more rule rules = length-append (origins_of_rule rule) (origins_in rules) ∙ ap (λ n. n + length (origins_in rules)) (counted rule)

pub rules_in_turn : (rules : List Rule) (next : ℕ) → next + length (origins_in rules) ≤ 65535 → are_in_turn next (codes_in_rules (rule_entries next rules)) ≡ true
unfolding rule_entries are_in_turn
rules_in_turn [] next le = refl
rules_in_turn (rule ∷ rules) next le =
    let more = counted_more rule rules in
    let own : codes_in_rule (rule_entry next rule) ≡ codes_by next rule.condition = codes_are next rule rule.condition refl (omega (arith, le, more)) in
    let long : length (codes_in_rule (rule_entry next rule)) ≡ rule_count rule = ap length own ∙ by_count next rule.condition in
    turn_joined (codes_in_rule (rule_entry next rule)) (codes_in_rules (rule_entries (next + rule_count rule) rules)) next (ap (are_in_turn next) own ∙ by_turn next rule.condition)
    (ap (λ n. are_in_turn (next + n) (codes_in_rules (rule_entries (next + rule_count rule) rules))) long ∙ rules_in_turn rules (next + rule_count rule) (omega (arith, le, more)))

pub rules_used : (rules : List Rule) (next : ℕ) → next + length (origins_in rules) ≤ 65535 → uses_in_rules (rule_entries next rules) ≡ map use_for (origins_in rules)
unfolding rule_entries
rules_used [] next le = refl
rules_used (rule ∷ rules) next le =
    let more = counted_more rule rules in
    (λ i. uses_are next rule rule.condition refl (omega (arith, le, more)) i ++ rules_used rules (next + rule_count rule) (omega (arith, le, more)) i)
    ∙ sym (map-append use_for (origins_of_rule rule) (origins_in rules))

-- the rules that every story has name no code

codes_in_all : (rules : List Rule) (next : ℕ) → codes_in_rules (all_entries next rules) ≡ codes_in_rules (rule_entries next rules)
codes_in_all rules next = flat_map-append codes_in_rule standard_entries (rule_entries next rules) ∙ ap (λ codes. codes ++ codes_in_rules (rule_entries next rules)) no_codes

uses_in_all : (rules : List Rule) (next : ℕ) → uses_in_rules (all_entries next rules) ≡ uses_in_rules (rule_entries next rules)
uses_in_all rules next = flat_map-append uses_in_rule standard_entries (rule_entries next rules) ∙ ap (λ uses. uses ++ uses_in_rules (rule_entries next rules)) no_uses

-- the codes of the author's rules, and behind them those of scenes

pub codes_counted_of : (rules : List Rule) → codes_of_rules rules ≡ length (origins_in rules)
codes_counted_of [] = refl
codes_counted_of (rule ∷ rules) = ap (λ n. rule_count rule + n) (codes_counted_of rules) ∙ sym (counted_more rule rules)

abbrev behind : ℕ → List Rule → ℕ
behind next rules = next + codes_of_rules rules

pub codes_in_made : (d : Declared) (lines : List LineEntry) (books : List Book) (rules : List Rule) (scenes : List Scene) (next : ℕ)
    → codes_in_tables (rules_of d lines books next rules scenes) ≡ codes_in_rules (rule_entries next rules) ++ codes_in_scenes (scene_entries (behind next rules) scenes)
unfolding rules_of
codes_in_made d lines books rules scenes next = ap (λ codes. codes ++ codes_in_scenes (scene_entries (behind next rules) scenes)) (codes_in_all rules next)

pub uses_in_made : (d : Declared) (lines : List LineEntry) (books : List Book) (rules : List Rule) (scenes : List Scene) (next : ℕ) → next + (length (origins_in rules) + length (origins_in_scenes scenes)) ≤ 65535
    → uses_in_tables (rules_of d lines books next rules scenes) ≡ map use_for (origins_in rules) ++ map use_for (origins_in_scenes scenes)
unfolding rules_of
uses_in_made d lines books rules scenes next le =
    let there = codes_counted_of rules in
    λ i. (uses_in_all rules next ∙ rules_used rules next (omega (arith, le))) i ++ scenes_used scenes (behind next rules) (omega (arith, le, there)) i

-- the codes that the entries of objects, of the author's rules and of scenes name
abbrev pub heads_by : List (List ℕ) → List Worded → List Rule → List Scene → List ℕ
heads_by strings ws rules scenes = codes_named (entries_of strings 0 ws) ++ (codes_in_rules (rule_entries (described_in ws) rules) ++ codes_in_scenes (scene_entries (behind (described_in ws) rules) scenes))

codes_long : (rules : List Rule) (next : ℕ) → next + length (origins_in rules) ≤ 65535 → length (codes_in_rules (rule_entries next rules)) ≡ length (origins_in rules)
codes_long rules next le =
    sym (uses_counted (rule_entries next rules)) ∙ ap length (rules_used rules next le) ∙ length-map (origins_in rules) use_for

pub heads_in_turn : (strings : List (List ℕ)) (ws : List Worded) (rules : List Rule) (scenes : List Scene) → length ws ≤ 1000 → described_in ws + (length (origins_in rules) + length (origins_in_scenes scenes)) ≤ 65535 → are_in_turn 0 (heads_by strings ws rules scenes) ≡ true
heads_in_turn strings ws rules scenes few le =
    let described = codes_counted strings ws 0 (omega (arith, few)) in
    let there : 0 + length (codes_named (entries_of strings 0 ws)) ≡ described_in ws = omega (arith, described) in
    let rule_codes = codes_in_rules (rule_entries (described_in ws) rules) in
    let scene_codes = codes_in_scenes (scene_entries (behind (described_in ws) rules) scenes) in
    let long : described_in ws + length rule_codes ≡ behind (described_in ws) rules = omega (arith, codes_long rules (described_in ws) (omega (arith, le)), codes_counted_of rules) in
    let own = scenes_in_turn scenes (behind (described_in ws) rules) (omega (arith, le, codes_counted_of rules)) in
    let more = turn_joined rule_codes scene_codes (described_in ws) (rules_in_turn rules (described_in ws) (omega (arith, le))) (ap (λ n. are_in_turn n scene_codes) long ∙ own) in
    turn_joined (codes_named (entries_of strings 0 ws)) (rule_codes ++ scene_codes) 0 (codes_in_turn strings ws 0 (omega (arith, few))) (ap (λ n. are_in_turn n (rule_codes ++ scene_codes)) there ∙ more)

-- ---- a rule's entry is right

entry_right : (z : Counts) (rule : Rule) (condition : ℕ) (body : RuleBody) → is_of (named_of z) rule ≡ true → is_number_or_none 65535 z.codes condition ≡ true → is_right_body z.codes body ≡ true → is_right_rule z (entry_with rule condition body) ≡ true
unfolding is_right_rule
entry_right z rule condition body is asked done =
    let p = named_parts (named_of z) rule is in
    rw (
      lt-ltb _ _ p.book,
      number_right z.actions rule.action p.action,
      aspect_right z rule.noun p.noun,
      aspect_right z rule.second p.second,
      aspect_right z rule.place p.place,
      number_right z.scenes rule.scene p.scene,
      asked,
      done,
    ) refl

rule_right : (z : Counts) (next : ℕ) (rule : Rule) → is_of (named_of z) rule ≡ true → next + condition_count rule.condition < z.codes → z.codes ≤ 65535 → is_right_rule z (rule_entry next rule) ≡ true
unfolding is_right_body
rule_right z next rule is lt le =
    let own : min (next + condition_count rule.condition) 65535 ≡ next + condition_count rule.condition = omega (arith, lt, le) in
    let there : is_right_body z.codes (Code (min (next + condition_count rule.condition) 65535)) ≡ true = rw own (lt-ltb _ _ lt) in
    entry_right z rule (condition_number next rule.condition) (Code (min (next + condition_count rule.condition) 65535)) is (condition_right next z.codes rule.condition (omega (arith, lt)) le) there

pub rules_right : (z : Counts) (rules : List Rule) (next : ℕ) → list_all (is_of (named_of z)) rules ≡ true → next + length (origins_in rules) ≤ z.codes → z.codes ≤ 65535 → list_all (is_right_rule z) (rule_entries next rules) ≡ true
unfolding rule_entries
rules_right z [] next named le few = refl
rules_right z (rule ∷ rules) next named le few =
    let more = counted_more rule rules in
    let t = and_parts (is_of (named_of z) rule) (list_all (is_of (named_of z)) rules) named in
    and_from (is_right_rule z (rule_entry next rule)) (list_all (is_right_rule z) (rule_entries (next + rule_count rule) rules))
    (rule_right z next rule t.0 (omega (arith, le, more)) few) (rules_right z rules (next + rule_count rule) t.1 (omega (arith, le, more)) few)

-- ---- the entries of the rules that every story has are right

standard_right : (z : Counts) (rules : List Rule) (number : ℕ) → list_all (is_of (named_of z)) rules ≡ true → 1 ≤ number → number + length rules ≤ 62 → list_all (is_right_rule z) (standard_from number rules) ≡ true
unfolding is_right_body
standard_right z [] number named first last = refl
standard_right z (rule ∷ rules) number named first last =
    let t = and_parts (is_of (named_of z) rule) (list_all (is_of (named_of z)) rules) named in
    let there : is_right_body z.codes (Standard number) ≡ true = and_from (leb 1 number) (leb number 61) (le-leb 1 number first) (le-leb number 61 (omega (arith, last))) in
    and_from (is_right_rule z (standard_entry number rule)) (list_all (is_right_rule z) (standard_from (number + 1) rules))
    (entry_right z rule 65535 (Standard number) t.0 refl there) (standard_right z rules (number + 1) t.1 (omega arith) (omega (arith, last)))

all_standard_right : (z : Counts) → 16 ≤ z.actions → 8 ≤ z.books → list_all (is_right_rule z) standard_entries ≡ true
unfolding standard_entries
all_standard_right z actions books = standard_right z standard_rules 1 (each_of (named_of z) standard_rules books actions all_bare) (omega arith) (omega (arith, standard_count))

pub length_standard : length standard_entries ≡ 61
unfolding standard_entries standard_rules rules_of_looking rules_of_examining rules_of_taking rules_of_dropping rules_of_putting rules_of_inserting rules_of_opening rules_of_closing rules_of_going rules_of_wearing rules_of_inventory rules_of_switching
length_standard = refl

-- ---- books

pub length_replicated : {A : Type 0} (a : A) (n : ℕ) → length (replicate n a) ≡ n
length_replicated a zero = refl
length_replicated a (suc n) = ap suc (length_replicated a n)

books_right : (scenes own rules : ℕ) (books : List Book) → own ≤ 100 → length books ≡ first_own_book scenes + own → list_all (lists_what_is_there rules) books ≡ true → are_right_books scenes rules books ≡ true
unfolding are_right_books
books_right scenes own rules books le count there =
    rw (le-leb (first_own_book scenes) (length books) (omega (arith, count)), le-leb (length books) (first_own_book scenes + 100) (omega (arith, count, le))) there

pub length_entries : (rules : List Rule) (next : ℕ) → length (rule_entries next rules) ≡ length rules
unfolding rule_entries
length_entries [] next = refl
length_entries (rule ∷ rules) next = ap suc (length_entries rules (next + rule_count rule))

pub length_all : (rules : List Rule) (next : ℕ) → length (all_entries next rules) ≡ 61 + length rules
length_all rules next = omega (arith, length-append standard_entries (rule_entries next rules), length_standard, length_entries rules next)

all_right : (z : Counts) (rules : List Rule) (next : ℕ) → 16 ≤ z.actions → 8 ≤ z.books → list_all (is_of (named_of z)) rules ≡ true → next + length (origins_in rules) ≤ z.codes → z.codes ≤ 65535 → list_all (is_right_rule z) (all_entries next rules) ≡ true
all_right z rules next actions books named le codes =
    list_all-append (is_right_rule z) standard_entries (rule_entries next rules)
    ∙ and_from (list_all (is_right_rule z) standard_entries) (list_all (is_right_rule z) (rule_entries next rules)) (all_standard_right z actions books) (rules_right z rules next named le codes)

-- what is known of the books of a tale with so many rules, those that every story has among them
pub record AreRightBooks (d : Declared) (books : List Book) (count : ℕ) : Type 0 where
  pub count_is : length books ≡ book_count d
  pub there : list_all (lists_what_is_there count) books ≡ true
  pub fit : list_all book_layout.format.fits books ≡ true

-- tables 8 to 12 are right, where there are so many codes and these books
pub rule_tables_right : (d : Declared) (lines : List LineEntry) (books : List Book) (z : Counts) (rules : List Rule) (scenes : List Scene) (next : ℕ) → length scenes ≡ length d.scenes → length d.scenes ≤ 50 → d.rulebooks ≤ 100 → length rules ≤ 1939 → AreRightBooks d books (61 + length rules) → length d.actions ≤ 184 → list_all has_first_noun d.actions ≡ true → are_right_lines z (action_entries d.actions) lines ≡ true → 16 ≤ z.actions → 8 ≤ z.books
    → list_all (is_of (named_of z)) rules ≡ true → next + (length (origins_in rules) + length (origins_in_scenes scenes)) ≤ z.codes → z.codes ≤ 65535 → are_right_rules z (rules_of d lines books next rules scenes) ≡ true
unfolding are_right_rules rules_of
rule_tables_right d lines books z rules scenes next same few_scenes few_own few known few_actions nouns lines_so actions built_in named le codes =
    let entries = scene_entries (behind next rules) scenes in
    let count : length entries ≡ length d.scenes = length_scenes scenes (behind next rules) ∙ same in
    let scene_few : leb (length entries) 50 ≡ true = le-leb _ _ (omega (arith, count, few_scenes)) in
    let scenes_so = each_scene_right z scenes (behind next rules) (omega (arith, le, codes_counted_of rules)) codes in
    let many = length_all rules next in
    let own_books : are_right_books (length entries) (length (all_entries next rules)) books ≡ true =
    (λ i. are_right_books (count i) (many i) books) ∙ books_right (length d.scenes) d.rulebooks (61 + length rules) books few_own known.count_is known.there in
    let few_entries : leb (length (all_entries next rules)) 2000 ≡ true = le-leb _ _ (omega (arith, many, few)) in
    rw (scene_few, scenes_so, own_books, actions_right d.actions few_actions nouns, lines_so, few_entries) (all_right z rules next actions built_in named (omega (arith, le)) codes)

-- ---- there is room for each in its bytes

rule_fits : (z : Named) (next : ℕ) (rule : Rule) → IsSmall z → is_of z rule ≡ true → rule_layout.format.fits (rule_entry next rule) ≡ true
unfolding rule_layout body_layout
rule_fits z next rule small is =
    let p = named_parts z rule is in
    let own : ltb (min (next + condition_count rule.condition) 65535) 65536 ≡ true = lt-ltb _ _ (omega arith) in
    rw (
      lt-ltb rule.book 65536 (omega (arith, p.book, small.books)),
      number_fits z.actions rule.action small.actions p.action,
      aspect_fits z rule.noun small p.noun,
      aspect_fits z rule.second small p.second,
      aspect_fits z rule.place small p.place,
      number_fits z.scenes rule.scene small.scenes p.scene,
      condition_fits next rule.condition,
      own,
    ) refl

rules_fit : (z : Named) (rules : List Rule) (next : ℕ) → IsSmall z → list_all (is_of z) rules ≡ true → list_all rule_layout.format.fits (rule_entries next rules) ≡ true
unfolding rule_entries
rules_fit z [] next small named = refl
rules_fit z (rule ∷ rules) next small named =
    let t = and_parts (is_of z rule) (list_all (is_of z) rules) named in
    and_from (rule_layout.format.fits (rule_entry next rule)) (list_all rule_layout.format.fits (rule_entries (next + rule_count rule) rules)) (rule_fits z next rule small t.0) (rules_fit z rules (next + rule_count rule) small t.1)

standard_fit : list_all rule_layout.format.fits standard_entries ≡ true
unfolding rule_layout body_layout aspect_layout kind_aspect_layout side_layout standard_entries standard_rules rules_of_looking rules_of_examining rules_of_taking rules_of_dropping rules_of_putting rules_of_inserting rules_of_opening rules_of_closing rules_of_going rules_of_wearing rules_of_inventory rules_of_switching
standard_fit = refl

all_fit : (z : Named) (rules : List Rule) (next : ℕ) → IsSmall z → list_all (is_of z) rules ≡ true → list_all rule_layout.format.fits (all_entries next rules) ≡ true
all_fit z rules next small named =
    list_all-append rule_layout.format.fits standard_entries (rule_entries next rules)
    ∙ and_from (list_all rule_layout.format.fits standard_entries) (list_all rule_layout.format.fits (rule_entries next rules)) standard_fit (rules_fit z rules next small named)

pub rule_tables_fit : (d : Declared) (lines : List LineEntry) (books : List Book) (z : Named) (rules : List Rule) (scenes : List Scene) (next : ℕ) → length scenes ≡ length d.scenes → length d.scenes ≤ 50 → d.rulebooks ≤ 100 → length rules ≤ 1939 → AreRightBooks d books (61 + length rules) → length d.actions ≤ 184 → ltb (length lines) 65536 ≡ true → list_all line_layout.format.fits lines ≡ true → IsSmall z
    → list_all (is_of z) rules ≡ true → rules_layout.format.fits (rules_of d lines books next rules scenes) ≡ true
unfolding rules_layout rules_of
rule_tables_fit d lines books z rules scenes next same few_scenes few_own few known few_actions few_lines lines_fit small named =
    let scene_few : ltb (length (scene_entries (behind next rules) scenes)) 65536 ≡ true = lt-ltb _ _ (omega (arith, length_scenes scenes (behind next rules), same, few_scenes)) in
    let all : ltb (length books) 65536 ≡ true = lt-ltb _ _ (omega (arith, known.count_is, few_scenes, few_own)) in
    let rule_few : ltb (length (all_entries next rules)) 65536 ≡ true = lt-ltb _ _ (omega (arith, length_all rules next, few)) in
    rw (action_count d.actions few_actions, actions_fit d.actions, few_lines, lines_fit, rule_few, all_fit z rules next small named, all, known.fit, scene_few) (scenes_fit scenes (behind next rules))
