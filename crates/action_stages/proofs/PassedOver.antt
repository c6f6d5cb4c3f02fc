-- The rules that an index passes over aren't about what is there.
use Rattle.std.proofs.Common.{◌≡◌, ◌∙◌, ap, sym, refl, ℕ, Bool, true, false, Option, Some, None}
use Rattle.std.specs.Prelude.{option_map, slice_get}
use Rattle.play_meaning.specs.Admitting.{admits}
use Rattle.play_meaning.specs.CodedStories.{coded_is_about, game_of_codes, head_of}
use Rattle.play_meaning.specs.Rules.{Rule, is_about}
use Rattle.play_meaning.specs.Settings.{Setting}
use Rattle.play_meaning.specs.Worlds.{World, location_of}
use Rattle.play_meaning.specs.declared.action.ActionNow.{ActionNow}
use Rattle.rule_index.specs.Buckets.{entry_admits, rule_admits}
use Rattle.rule_index.specs.Walks.{IsFirstFrom, NoneIsLeft}
use Rattle.story_format.specs.Facts.{rules_listed}
use Rattle.story_format.specs.declared.rule_entry.RuleEntry.{RuleEntry}
use Rattle.story_format.specs.declared.tables.Tables.{Tables}
use Rattle.world_store.specs.StoryPlay.{coded_story, game_in_play, rule_told}
use Rattle.world_store.specs.StorySettings.{setting_of}
use Rattle.action_stages.specs.Passing.{IsNext, NoneBehindIsAbout}
use Rattle.action_stages.proofs.Asked.{books_listed, rule_there}

-- what is known of admitting
abbrev pub Admitting : Type 0
Admitting = (s : Setting) (w : World) (now : ActionNow) (rule : Rule) → is_about s w now rule ≡ true → admits s rule now.action now.noun (location_of w) ≡ true

module _ (t : Tables) (book : ℕ) (now : ActionNow) (w : World) (room : Option ℕ) (law : Admitting) (here : location_of w ≡ room) where
  apart : (rule : Rule) → admits (setting_of t) rule now.action now.noun room ≡ false → is_about (setting_of t) w now rule ≡ false
  apart rule not = by (is_about (setting_of t) w now rule) refl
    where
      by : (b : Bool) → is_about (setting_of t) w now rule ≡ b → is_about (setting_of t) w now rule ≡ false
      by true about =
          let both : true ≡ false = sym (law (setting_of t) w now rule about) ∙ ap (admits (setting_of t) rule now.action now.noun) here ∙ not in
          absurd cc
      by false not = not

  entry_apart : (entry : Option RuleEntry) → entry_admits (setting_of t) now.action now.noun room entry ≡ false
      → coded_is_about (setting_of t) now w (option_map rule_told entry) ≡ false
  entry_apart None not = refl
  entry_apart (Some entry) not = apart (head_of (rule_told entry)) not

  not_about : (rule : ℕ) → rule_admits t now.action now.noun room rule ≡ false → (game_in_play t).is_about rule now w ≡ false
  unfolding rule_admits game_of_codes coded_story
  not_about rule not = ap (coded_is_about (setting_of t) now w) (rule_there t rule) ∙ entry_apart (slice_get t.rules.rules rule) not

  listed_so : (game_in_play t).books book ≡ rules_listed t book
  unfolding game_of_codes coded_story
  listed_so = books_listed t.rules.books book

  pub next_is : (from place rule : ℕ) → IsFirstFrom (rule_admits t now.action now.noun room) (rules_listed t book) from place rule
      → IsNext (game_in_play t) book now w from place rule
  next_is from place rule first = record {
    behind = first.behind;
    there = ap (λ rules. slice_get rules place) listed_so ∙ first.there;
    others = λ n other low high there. not_about other (first.others n other low high (ap (λ rules. slice_get rules n) (sym listed_so) ∙ there));
  }

  pub none_is : (from : ℕ) → NoneIsLeft (rule_admits t now.action now.noun room) (rules_listed t book) from → NoneBehindIsAbout (game_in_play t) book now w from
  none_is from none = λ n other low there. not_about other (none n other low (ap (λ rules. slice_get rules n) (sym listed_so) ∙ there))
