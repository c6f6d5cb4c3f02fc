-- The rows of the rules that every story has are theirs, and name what each story has.
use Rattle.std.proofs.Common.{◌≡◌, ◌∙◌, sym, refl, ℕ, ◌<◌, ◌≤◌, Bool, true, false, ◌&&◌, ltb, List, [], ◌∷◌, ◌++◌, length, map, Option, Some, None, arith}
use Rattle.std.specs.List.{AllZip, list_all}
use Rattle.std.specs.Option.{is_none}
use Rattle.std.proofs.lemmas.Bool.{lt-ltb, ltb-true, and_from, and_parts}
use Rattle.std.proofs.lemmas.List.{append-nil}
use Rattle.world_meaning.proofs.Options.{none_is}
use Rattle.play_meaning.specs.Rules.{Anything, Aspect, Exactly, OfKind, Rule}
use Rattle.play_meaning.specs.StandardRules.{rules_of_closing, rules_of_dropping, rules_of_examining, rules_of_going, rules_of_inserting, rules_of_inventory, rules_of_looking, rules_of_opening, rules_of_putting, rules_of_switching, rules_of_taking, rules_of_wearing, standard_rules}
use Rattle.story_format.specs.Holding.{Named, is_of, is_there}
use Rattle.story_format.specs.RuleChecks.{codes_in_rules, uses_in_rules}
use Rattle.story_format.specs.RuleHeadings.{Headed, heading_of}
use Rattle.story_format.specs.RuleMaking.{standard_entries}
use Rattle.story_format.specs.StandardRows.{row_entries, row_rule}
use Rattle.story_format.specs.declared.rule_entry.RuleEntry.{RuleEntry}
use Rattle.rule_order.specs.declared.standard_rules.TheConstants.{STANDARD_RULES}

pub entries_are : row_entries 1 STANDARD_RULES ≡ standard_entries
unfolding standard_entries standard_rules rules_of_looking rules_of_examining rules_of_taking rules_of_dropping rules_of_putting rules_of_inserting rules_of_opening rules_of_closing rules_of_going rules_of_wearing rules_of_inventory rules_of_switching
entries_are = refl

pub headings_are : map (λ row. heading_of (row_rule row)) STANDARD_RULES ≡ map heading_of standard_rules
unfolding standard_rules rules_of_looking rules_of_examining rules_of_taking rules_of_dropping rules_of_putting rules_of_inserting rules_of_opening rules_of_closing rules_of_going rules_of_wearing rules_of_inventory rules_of_switching
headings_are = refl

-- where no row is left

pub entries_end : (entries : List RuleEntry) (number : ℕ) (rest : List (ℕ × ℕ)) → length rest < 1 → entries ++ row_entries number rest ≡ row_entries 1 STANDARD_RULES → entries ≡ standard_entries
entries_end entries number [] lt made = sym (append-nil entries) ∙ made ∙ entries_are
entries_end entries number (row ∷ rest) lt made = absurd (omega (arith, lt))

pub headings_end : (headings : List Headed) (rest : List (ℕ × ℕ)) → length rest < 1 → headings ++ map (λ row. heading_of (row_rule row)) rest ≡ map (λ row. heading_of (row_rule row)) STANDARD_RULES → headings ≡ map heading_of standard_rules
headings_end headings [] lt made = sym (append-nil headings) ∙ made ∙ headings_are
headings_end headings (row ∷ rest) lt made = absurd (omega (arith, lt))

pub standard_count : length standard_rules ≡ 61
unfolding standard_rules rules_of_looking rules_of_examining rules_of_taking rules_of_dropping rules_of_putting rules_of_inserting rules_of_opening rules_of_closing rules_of_going rules_of_wearing rules_of_inventory rules_of_switching
standard_count = refl

-- ---- they are about their actions alone

abbrev is_anything : Aspect → Bool
is_anything Anything = true
is_anything (Exactly o) = false
is_anything (OfKind kind adjectives) = false

abbrev pub is_bare : Rule → Bool
is_bare rule =
    ltb rule.book 8 && (is_there 16 rule.action && (is_anything rule.noun && (is_anything rule.second && (is_anything rule.place && (is_none rule.scene && is_none rule.condition)))))

pub all_bare : list_all is_bare standard_rules ≡ true
unfolding standard_rules rules_of_looking rules_of_examining rules_of_taking rules_of_dropping rules_of_putting rules_of_inserting rules_of_opening rules_of_closing rules_of_going rules_of_wearing rules_of_inventory rules_of_switching
all_bare = refl

pub record IsBare (rule : Rule) : Type 0 where
  pub book : ltb rule.book 8 ≡ true
  pub action : is_there 16 rule.action ≡ true
  pub noun : rule.noun ≡ Anything
  pub second : rule.second ≡ Anything
  pub place : rule.place ≡ Anything
  pub scene : rule.scene ≡ None
  pub condition : rule.condition ≡ None

anything_is : (x : Aspect) → is_anything x ≡ true → x ≡ Anything
anything_is Anything h = refl
anything_is (Exactly o) h = absurd cc
anything_is (OfKind kind adjectives) h = absurd cc

pub bare_is : (rule : Rule) → is_bare rule ≡ true → IsBare rule
bare_is rule h =
    let a = and_parts (ltb rule.book 8) (is_there 16 rule.action && (is_anything rule.noun && (is_anything rule.second && (is_anything rule.place && (is_none rule.scene && is_none rule.condition))))) h in
    let b = and_parts (is_there 16 rule.action) (is_anything rule.noun && (is_anything rule.second && (is_anything rule.place && (is_none rule.scene && is_none rule.condition)))) a.1 in
    let c = and_parts (is_anything rule.noun) (is_anything rule.second && (is_anything rule.place && (is_none rule.scene && is_none rule.condition))) b.1 in
    let d = and_parts (is_anything rule.second) (is_anything rule.place && (is_none rule.scene && is_none rule.condition)) c.1 in
    let e = and_parts (is_anything rule.place) (is_none rule.scene && is_none rule.condition) d.1 in
    let f = and_parts (is_none rule.scene) (is_none rule.condition) e.1 in
    record {
      book = a.0;
      action = b.0;
      noun = anything_is rule.noun c.0;
      second = anything_is rule.second d.0;
      place = anything_is rule.place e.0;
      scene = none_is rule.scene f.0;
      condition = none_is rule.condition f.1;
    }

there_among : (few many : ℕ) (o : Option ℕ) → few ≤ many → is_there few o ≡ true → is_there many o ≡ true
there_among few many None le h = refl
there_among few many (Some n) le h = lt-ltb _ _ (omega (arith, ltb-true n few h, le))

-- so each story has what they name
pub bare_of : (z : Named) (rule : Rule) → 8 ≤ z.books → 16 ≤ z.actions → is_bare rule ≡ true → is_of z rule ≡ true
unfolding is_of
bare_of z rule books actions h =
    let b = bare_is rule h in
    let book : ltb rule.book z.books ≡ true = lt-ltb _ _ (omega (arith, ltb-true rule.book 8 b.book, books)) in
    rw (book, there_among 16 z.actions rule.action actions b.action, b.noun, b.second, b.place, b.scene) refl

pub each_of : (z : Named) (rules : List Rule) → 8 ≤ z.books → 16 ≤ z.actions → list_all is_bare rules ≡ true → list_all (is_of z) rules ≡ true
each_of z [] books actions h = refl
each_of z (rule ∷ rules) books actions h =
    let t = and_parts (is_bare rule) (list_all is_bare rules) h in
    and_from (is_of z rule) (list_all (is_of z) rules) (bare_of z rule books actions t.0) (each_of z rules books actions t.1)

-- ---- they name no code

pub no_codes : codes_in_rules standard_entries ≡ []
unfolding standard_entries standard_rules rules_of_looking rules_of_examining rules_of_taking rules_of_dropping rules_of_putting rules_of_inserting rules_of_opening rules_of_closing rules_of_going rules_of_wearing rules_of_inventory rules_of_switching
no_codes = refl

pub no_uses : uses_in_rules standard_entries ≡ []
unfolding standard_entries standard_rules rules_of_looking rules_of_examining rules_of_taking rules_of_dropping rules_of_putting rules_of_inserting rules_of_opening rules_of_closing rules_of_going rules_of_wearing rules_of_inventory rules_of_switching
no_uses = refl

-- ---- two lists of them

pub zip_append : {A B : Type 0} (R : A → B → Type 0) (xs : List A) (ys : List B) (us : List A) (vs : List B) → AllZip R xs ys → AllZip R us vs → AllZip R (xs ++ us) (ys ++ vs)
zip_append R [] [] us vs one other = other
zip_append R [] (y ∷ ys) us vs one other = absurd one
zip_append R (x ∷ xs) [] us vs one other = absurd one
zip_append R (x ∷ xs) (y ∷ ys) us vs one other = (one.0, zip_append R xs ys us vs one.1 other)
