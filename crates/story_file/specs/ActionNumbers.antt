-- The numbers by which rules name actions are those by which play and table 8 know them.
use Rattle.std.specs.Prelude.{◌≡◌, ℕ, List, [], ◌∷◌, ◌++◌, codes, map, slice_get, Ok, Option, Some, option_map}
use Rattle.world_meaning.specs.declared.tale.Tale.{Tale}
use Rattle.play_meaning.specs.StandardActions.{closing, dropping, examining, going, inserting, jumping, looking, opening, putting_on, standard_needs, switching_off, switching_on, taking, taking_inventory, taking_off, waiting, wearing}
use Rattle.i7_actions.specs.Actions.{count_needed, standard_actions}
use Rattle.i7_kinds.specs.Tales.{tale_said}
use Rattle.i7_resolution.specs.SourceActions.{actions_in, key_of_action}
use Rattle.i7_sentences.specs.declared.sentence.Sentence.{Sentence}

-- an action by the number that play has for it, and its name
pub record Numbered : Type 0 where
  pub number : ℕ
  pub name : List ℕ

abbrev pub numbered : ℕ → List ℕ → Numbered
numbered number name = record { number = number; name = name }

unfoldable pub names_in_play : List Numbered
names_in_play =
    numbered looking (codes "looking") ∷ numbered examining (codes "examining") ∷ numbered taking (codes "taking") ∷ numbered dropping (codes "dropping")
    ∷ numbered putting_on (codes "putting it on") ∷ numbered inserting (codes "inserting it into") ∷ numbered opening (codes "opening") ∷ numbered closing (codes "closing")
    ∷ numbered going (codes "going") ∷ numbered wearing (codes "wearing") ∷ numbered taking_off (codes "taking off") ∷ numbered taking_inventory (codes "taking inventory")
    ∷ numbered waiting (codes "waiting") ∷ numbered jumping (codes "jumping") ∷ numbered switching_on (codes "switching on") ∷ numbered switching_off (codes "switching off") ∷ []

-- the name of the action of this number, as rules know it
abbrev pub name_known : ℕ → Option (List ℕ)
name_known number = option_map key_of_action (slice_get standard_actions number)

abbrev pub StandardNamesAgree : Type 0
StandardNamesAgree = map (λ action. name_known action.number) names_in_play ≡ map (λ action. Some action.name) names_in_play

-- of sentences that mean a tale each action has as many nouns as that of its number in table 8 asks for
abbrev pub NounsAgree : Type 0
NounsAgree = (sentences : List Sentence) (tale : Tale) → tale_said sentences ≡ Ok tale
    → map (λ action. action.nouns) (actions_in sentences) ≡ map count_needed (standard_needs ++ tale.declared.actions)
