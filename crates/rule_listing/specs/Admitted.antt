-- Which rules an action, its noun and a room admit, each of which may be left open.
use Rattle.std.specs.Prelude.{ℕ, Bool, false, true, ◌&&◌, List, filter, Option, None, Some, slice_get}
use Rattle.play_meaning.specs.Admitting.{may_be_met}
use Rattle.play_meaning.specs.Rules.{Aspect, is_action}
use Rattle.play_meaning.specs.Settings.{Setting}
use Rattle.rule_listing.specs.declared.admitted.Sought.{Sought}
use Rattle.rule_listing.specs.declared.admitted.SoughtObject.{SoughtObject}
use Rattle.rule_listing.specs.declared.admitted.SoughtObject.TheVariants.{Any, Nothing, The}
use Rattle.story_format.specs.Carrying.{number_if_some}
use Rattle.story_format.specs.Facts.{rules_listed}
use Rattle.story_format.specs.declared.rule_entry.RuleEntry.{RuleEntry}
use Rattle.story_format.specs.declared.tables.Tables.{Tables}
use Rattle.world_store.specs.StoryPlay.{aspect_told}
use Rattle.world_store.specs.StorySettings.{setting_of}

-- whatever is asked, where any object will do; else as the index asks
abbrev pub may_be : Setting → Aspect → SoughtObject → Bool
may_be s aspect Any = true
may_be s aspect Nothing = may_be_met s aspect None
may_be s aspect (The o) = may_be_met s aspect (Some o)

-- the number of a rule's action, if it has one, and the action that is sought, if one is
abbrev pub is_action_sought : Option ℕ → Option ℕ → Bool
is_action_sought number None = true
is_action_sought number (Some action) = is_action number action

abbrev pub entry_sought : Setting → Sought → Option RuleEntry → Bool
entry_sought s sought None = false
entry_sought s sought (Some entry) = is_action_sought (number_if_some entry.action) sought.action
    && may_be s (aspect_told entry.noun) sought.noun && may_be s (aspect_told entry.place) sought.room

-- the story's rule of this number admits what is sought; a rule that isn't there doesn't
unfoldable pub is_sought : Tables → Sought → ℕ → Bool
is_sought t sought rule = entry_sought (setting_of t) sought (slice_get t.rules.rules rule)

-- the rules of a book that admit what is sought, in the book's order
abbrev pub rules_sought : Tables → Sought → (book : ℕ) → List ℕ
rules_sought t sought book = filter (is_sought t sought) (rules_listed t book)

-- an object that is sought, as the index asks for it
abbrev pub index_object : Option ℕ → SoughtObject
index_object None = Nothing
index_object (Some o) = The o
