-- The classes of a book's rules: for each action the places of those that name no action or that one, in order.
use Rattle.std.specs.Prelude.{◌≡◌, ℕ, ◌+◌, Bool, false, ◌==◌, List, [], ◌∷◌, Option, None, Some, slice_get, if◌then◌else◌}
use Rattle.play_meaning.specs.Rules.{is_action}
use Rattle.story_format.specs.Carrying.{number_if_some}
use Rattle.story_format.specs.Facts.{rules_listed}
use Rattle.story_format.specs.declared.rule_entry.RuleEntry.{RuleEntry}
use Rattle.story_format.specs.declared.tables.Tables.{Tables}

abbrev pub entry_suits : ℕ → Option RuleEntry → Bool
entry_suits action None = false
entry_suits action (Some entry) = is_action (number_if_some entry.action) action

-- the story's rule of this number names no action, or this one
unfoldable pub rule_suits : Tables → ℕ → ℕ → Bool
rule_suits t action rule = entry_suits action (slice_get t.rules.rules rule)

abbrev pub entry_has : ℕ → Option RuleEntry → Bool
entry_has action None = false
entry_has action (Some entry) = entry.action == action

-- the number in the story's rule is that of this action
unfoldable pub rule_has : Tables → ℕ → ℕ → Bool
rule_has t action rule = entry_has action (slice_get t.rules.rules rule)

-- the places of the rules that pass, the first of these standing at this one
abbrev pub places_where : (ℕ → Bool) → ℕ → List ℕ → List ℕ
places_where passes place [] = []
places_where passes place (rule ∷ rules) = if passes rule then place ∷ places_where passes (place + 1) rules else places_where passes (place + 1) rules

unfoldable pub class_of : Tables → (book action : ℕ) → List ℕ
class_of t book action = places_where (rule_suits t action) 0 (rules_listed t book)

-- each of a list is as is said of its place
abbrev pub EachIs : {A : Type 0} → (ℕ → A → Type 0) → List A → Type 0
EachIs Is xs = (place : ℕ) (x : _) → slice_get xs place ≡ Some x → Is place x

-- each list is the class of the action of its place; there may be fewer than actions
abbrev pub AreClasses : Tables → ℕ → List (List ℕ) → Type 0
AreClasses t book = EachIs (λ action places. places ≡ class_of t book action)

-- each entry has classes of the book of its place
abbrev pub AreIndexed : Tables → List (List (List ℕ)) → Type 0
AreIndexed t = EachIs (AreClasses t)
