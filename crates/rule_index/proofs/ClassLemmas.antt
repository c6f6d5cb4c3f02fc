-- Classes grow by one, and an action that no rule names has the class of none.
use Rattle.std.proofs.Common.{◌≡◌, ◌∙◌, ap, sym, refl, subst, ℕ, zero, suc, ◌+◌, Bool, true, false, List, [], ◌∷◌, ◌++◌, length, Option, Some, None, position}
use Rattle.std.specs.Prelude.{◌==◌, ◌||◌, slice_get, if◌then◌else◌}
use Rattle.std.specs.List.{list_any}
use Rattle.play_meaning.specs.Rules.{is_action}
use Rattle.story_format.specs.Facts.{book_of_rule, rules_listed}
use Rattle.story_format.specs.Carrying.{number_if_some}
use Rattle.story_format.specs.declared.rule_entry.RuleEntry.{RuleEntry}
use Rattle.story_format.specs.declared.tables.Tables.{Tables}
use Rattle.rule_index.specs.Buckets.{place_in_book, place_listed}
use Rattle.rule_index.specs.Classes.{AreClasses, EachIs, class_of, entry_has, entry_suits, places_where, rule_has, rule_suits}

-- one more
pub each_more : {A : Type 0} (Is : ℕ → A → Type 0) (xs : List A) (x : A) → EachIs Is xs → Is (length xs) x → EachIs Is (xs ++ x ∷ [])
each_more Is [] x each new zero y is = let same : x ≡ y = cc in subst (Is 0) same new
each_more Is [] x each new (suc place) y is = absurd cc
each_more Is (z ∷ xs) x each new zero y is = each zero y is
each_more Is (z ∷ xs) x each new (suc place) y is = each_more (λ n. Is (suc n)) xs x (λ n y is. each (suc n) y is) new place y is

-- ---- an action that no rule names

named_not : (n action : ℕ) (none : Bool) → (n == 255) ≡ none → (n == action) ≡ false → is_action (number_if_some n) 255 ≡ is_action (number_if_some n) action
named_not n action true is not =
    ap (λ b. is_action (if b then None else Some n) 255) is ∙ sym (ap (λ b. is_action (if b then None else Some n) action) is)
named_not n action false is not =
    ap (λ b. is_action (if b then None else Some n) 255) is ∙ is ∙ sym not ∙ sym (ap (λ b. is_action (if b then None else Some n) action) is)

entry_not : (action : ℕ) (entry : Option RuleEntry) → entry_has action entry ≡ false → entry_suits 255 entry ≡ entry_suits action entry
entry_not action None not = refl
entry_not action (Some entry) not = named_not entry.action action (entry.action == 255) refl not

suits_not : (t : Tables) (action rule : ℕ) → rule_has t action rule ≡ false → rule_suits t 255 rule ≡ rule_suits t action rule
unfolding rule_has rule_suits
suits_not t action rule not = entry_not action (slice_get t.rules.rules rule) not

none_of : (a b : Bool) → (a || b) ≡ false → (a ≡ false) × (b ≡ false)
none_of true b none = absurd cc
none_of false b none = (refl, none)

pub class_of_none : (t : Tables) (action place : ℕ) (rules : List ℕ) → list_any (rule_has t action) rules ≡ false
    → places_where (rule_suits t 255) place rules ≡ places_where (rule_suits t action) place rules
class_of_none t action place [] none = refl
class_of_none t action place (rule ∷ rules) none =
    let parts = none_of (rule_has t action rule) (list_any (rule_has t action) rules) none in
    let more = class_of_none t action (place + 1) rules parts.1 in
    ap (λ b. if b then place ∷ places_where (rule_suits t 255) (place + 1) rules else places_where (rule_suits t 255) (place + 1) rules) (suits_not t action rule parts.0)
    ∙ ap (λ rest. if rule_suits t action rule then place ∷ rest else rest) more

pub class_is : (t : Tables) (book action : ℕ) (listed places : List ℕ) → listed ≡ rules_listed t book → places ≡ places_where (rule_suits t action) 0 listed → places ≡ class_of t book action
unfolding class_of
class_is t book action listed places told is = is ∙ ap (places_where (rule_suits t action) 0) told

-- the class of the next action
pub classes_more : (t : Tables) (book action : ℕ) (listed class : List ℕ) (classes : List (List ℕ)) → AreClasses t book classes → length classes ≡ action
    → listed ≡ rules_listed t book → class ≡ places_where (rule_suits t action) 0 listed → AreClasses t book (classes ++ class ∷ [])
classes_more t book action listed class classes so_far count told is =
    each_more (λ n places. places ≡ class_of t book n) classes class so_far (class_is t book action listed class told is ∙ ap (class_of t book) (sym count))

pub class_there : (t s : Tables) (book action : ℕ) (listed class : List ℕ) → s ≡ t → listed ≡ rules_listed s book → class ≡ class_of t book action
    → class ≡ places_where (rule_suits s action) 0 listed
unfolding class_of
class_there t s book action listed class same told is =
    is ∙ ap (λ (t : Tables). places_where (rule_suits t action) 0 (rules_listed t book)) (sym same) ∙ ap (places_where (rule_suits s action) 0) (sym told)

-- ---- places of rules

pub place_so : (t : Tables) (rule book : ℕ) (result : Option ℕ) (listed : List ℕ) → Some book ≡ book_of_rule t rule → listed ≡ rules_listed t book
    → result ≡ position (λ other. other == rule) listed → result ≡ place_in_book t rule
place_so t rule book result listed is told place = place ∙ ap (position (λ other. other == rule)) told ∙ ap (place_listed t rule) is
