-- What a turn of an action on several things says and does, one thing behind the other.
use Rattle.std.proofs.Common.{◌≡◌, ◌∙◌, ap, ℕ, List, [], ◌∷◌, ◌++◌, append_assoc}
use Rattle.play_meaning.specs.CodedStories.{game_of_codes}
use Rattle.play_meaning.specs.Progress.{Progress, say}
use Rattle.play_meaning.specs.Turns.{name_first}
use Rattle.story_format.specs.Facts.{name_of}
use Rattle.story_format.specs.declared.tables.Tables.{Tables}
use Rattle.world_store.specs.StoryPlay.{coded_story, game_in_play}
use Rattle.world_store.specs.StorySettings.{setting_of}

-- an object's name, and a colon and a blank behind it
pub named_first : (t : Tables) (o : ℕ) (name : List ℕ) (p q r : Progress) → name ≡ name_of t o → q ≡ say name p → r ≡ say (58 ∷ 32 ∷ []) q
    → r ≡ say (name_first (game_in_play t) o) p
unfolding game_of_codes coded_story setting_of
named_first t o name p q r is first second =
    second ∙ ap (say (58 ∷ 32 ∷ [])) first ∙ (λ i. record p { text = append_assoc p.text name (58 ∷ 32 ∷ []) i })
    ∙ ap (λ (name : List ℕ). say (name ++ 58 ∷ 32 ∷ []) p) is
