-- What is sought with nothing left open is asked as the index asks it.
use Rattle.std.proofs.Common.{◌≡◌, ℕ, ◌&&◌, refl, Option, Some, None}
use Rattle.std.specs.Prelude.{slice_get}
use Rattle.play_meaning.specs.Admitting.{admits, may_be_met}
use Rattle.play_meaning.specs.Rules.{Aspect, is_action}
use Rattle.play_meaning.specs.Settings.{Setting}
use Rattle.rule_index.specs.Buckets.{entry_admits, rule_admits}
use Rattle.rule_listing.specs.Admitted.{entry_sought, index_object, is_sought, may_be}
use Rattle.rule_listing.specs.declared.admitted.Sought.{Sought}
use Rattle.story_format.specs.Carrying.{number_if_some}
use Rattle.story_format.specs.declared.rule_entry.RuleEntry.{RuleEntry}
use Rattle.story_format.specs.declared.tables.Tables.{Tables}
use Rattle.world_store.specs.StoryPlay.{aspect_told}
use Rattle.world_store.specs.StorySettings.{setting_of}

-- an action, a noun or none, and a room or none
abbrev pub sought_of : ℕ → Option ℕ → Option ℕ → Sought
sought_of action noun room = record { action = Some action; noun = index_object noun; room = index_object room }

object_alike : (s : Setting) (aspect : Aspect) (o : Option ℕ) → may_be s aspect (index_object o) ≡ may_be_met s aspect o
object_alike s aspect None = refl
object_alike s aspect (Some o) = refl

entry_alike : (s : Setting) (action : ℕ) (noun room : Option ℕ) (entry : Option RuleEntry) → entry_sought s (sought_of action noun room) entry ≡ entry_admits s action noun room entry
unfolding admits
entry_alike s action noun room None = refl
entry_alike s action noun room (Some entry) =
    λ i. is_action (number_if_some entry.action) action && object_alike s (aspect_told entry.noun) noun i && object_alike s (aspect_told entry.place) room i

pub rule_alike : (t : Tables) (action : ℕ) (noun room : Option ℕ) (rule : ℕ) → is_sought t (sought_of action noun room) rule ≡ rule_admits t action noun room rule
unfolding is_sought rule_admits
rule_alike t action noun room rule = entry_alike (setting_of t) action noun room (slice_get t.rules.rules rule)
