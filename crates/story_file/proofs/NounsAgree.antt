-- The actions of sentences ask for as many nouns, number by number, as those of the tale that they mean.
use Rattle.std.proofs.Common.{◌≡◌, ◌∙◌, ap, refl, List, [], ◌∷◌, ◌++◌, map}
use Rattle.std.proofs.lemmas.List.{map-append}
use Rattle.world_meaning.specs.declared.needs.Needs.{Needs}
use Rattle.play_meaning.specs.StandardActions.{standard_needs}
use Rattle.i7_actions.specs.Actions.{count_needed, standard_actions}
use Rattle.i7_actions.specs.declared.action.Action.{Action}
use Rattle.i7_actions.specs.declared.action.NounCount.{NounCount}
use Rattle.i7_kinds.specs.Actions.{actions_said}
use Rattle.i7_resolution.specs.SourceActions.{action_of, actions_in}
use Rattle.i7_sentences.specs.ActionDeclarations.{ActionAt, actions_declared}
use Rattle.story_file.specs.ActionNumbers.{NounsAgree}
use Rattle.story_file.proofs.Counted.{acts_are}

abbrev nouns_of : List Action → List NounCount
nouns_of actions = map (λ action. action.nouns) actions

standard_nouns : nouns_of standard_actions ≡ map count_needed standard_needs
unfolding standard_actions standard_needs
standard_nouns = refl

declared_nouns : (declared : List ActionAt) → nouns_of (map action_of declared) ≡ map count_needed (map (λ action. action.said.needs) declared)
declared_nouns [] = refl
declared_nouns (action ∷ declared) = ap (λ (more : List NounCount). count_needed action.said.needs ∷ more) (declared_nouns declared)

pub nouns_agree : NounsAgree
unfolding actions_in actions_said
nouns_agree sentences tale meant =
    let declared = actions_declared sentences in
    let said : List Needs = map (λ action. action.said.needs) declared in
    map-append (λ (action : Action). action.nouns) standard_actions (map action_of declared)
    ∙ ap (λ (front : List NounCount). front ++ nouns_of (map action_of declared)) standard_nouns
    ∙ ap (λ (behind : List NounCount). map count_needed standard_needs ++ behind) (declared_nouns declared)
    ∙ map-append' standard_needs said
    ∙ ap (λ (needs : List Needs). map count_needed (standard_needs ++ needs)) (acts_are sentences tale meant)
  where
    map-append' : (front behind : List Needs) → map count_needed front ++ map count_needed behind ≡ map count_needed (front ++ behind)
    map-append' [] behind = refl
    map-append' (needs ∷ front) behind = ap (λ (more : List NounCount). count_needed needs ∷ more) (map-append' front behind)
