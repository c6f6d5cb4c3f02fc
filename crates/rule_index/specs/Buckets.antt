-- Which rules of a book admit an action, a noun and a room, and where they stand in it.
use Rattle.std.specs.Prelude.{ℕ, Bool, false, ◌==◌, List, filter, position, Option, None, Some, slice_get}
use Rattle.play_meaning.specs.Admitting.{admits}
use Rattle.play_meaning.specs.CodedStories.{head_of}
use Rattle.play_meaning.specs.Settings.{Setting}
use Rattle.story_format.specs.Facts.{book_of_rule, rules_listed}
use Rattle.story_format.specs.declared.rule_entry.RuleEntry.{RuleEntry}
use Rattle.story_format.specs.declared.tables.Tables.{Tables}
use Rattle.world_store.specs.StoryPlay.{rule_told}
use Rattle.world_store.specs.StorySettings.{setting_of}

-- a rule that isn't there admits nothing
abbrev pub entry_admits : Setting → (action : ℕ) → (noun room : Option ℕ) → Option RuleEntry → Bool
entry_admits s action noun room None = false
entry_admits s action noun room (Some entry) = admits s (head_of (rule_told entry)) action noun room

-- the story's rule of this number admits the action, the noun and the room
unfoldable pub rule_admits : Tables → (action : ℕ) → (noun room : Option ℕ) → ℕ → Bool
rule_admits t action noun room rule = entry_admits (setting_of t) action noun room (slice_get t.rules.rules rule)

-- the rules of a book that admit them, in its order
abbrev pub bucket_of : Tables → (book action : ℕ) → (noun room : Option ℕ) → List ℕ
bucket_of t book action noun room = filter (rule_admits t action noun room) (rules_listed t book)

abbrev pub place_listed : Tables → (rule : ℕ) → (book : Option ℕ) → Option ℕ
place_listed t rule None = None
place_listed t rule (Some book) = position (λ other. other == rule) (rules_listed t book)

-- the place at which a rule stands in its book, from 0; a rule that its book doesn't list stands nowhere
abbrev pub place_in_book : Tables → (rule : ℕ) → Option ℕ
place_in_book t rule = place_listed t rule (book_of_rule t rule)
