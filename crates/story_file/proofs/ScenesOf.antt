-- The scenes of sentences that mean a tale are the tale's: they may happen again as it says.
use Rattle.std.proofs.Common.{◌≡◌, ◌∙◌, ap, refl, subst, ℕ, ◌+◌, Bool, List, [], ◌∷◌, map}
use Rattle.std.specs.List.{AllZip, enumerate_from}
use Rattle.world_meaning.specs.declared.tale.Tale.{Tale}
use Rattle.play_meaning.specs.ScenesMeant.{scene_meant}
use Rattle.play_meaning.specs.Scripts.{Scene}
use Rattle.i7_rules.specs.Knowns.{Known}
use Rattle.i7_sentences.specs.declared.sentence.Sentence.{Sentence}
use Rattle.i7_resolution.specs.SceneChangeList.{ChangeAt}
use Rattle.i7_resolution.specs.SourceScenes.{IsScenesFound, IsTold}
use Rattle.i7_resolution.specs.declared.source_scenes.ScenesFound.TheVariants as staged
use Rattle.story_format.specs.Contents.{Contents}
use Rattle.story_file.specs.Meanings.{AreMeant, known_said}
use Rattle.story_file.proofs.Resolving.{said_of}

recur_so : (k : Known) (changes : List ChangeAt) (recurring : List Bool) (n : ℕ) (scenes : List Scene) → AllZip (IsTold k changes) (enumerate_from n recurring) scenes → map (λ scene. scene.recurs) scenes ≡ recurring
recur_so k changes [] n [] each = refl
recur_so k changes [] n (scene ∷ scenes) each = absurd each
recur_so k changes (recurs ∷ recurring) n [] each = absurd each
recur_so k changes (recurs ∷ recurring) n (scene ∷ scenes) each = λ i. each.0.recurs i ∷ recur_so k changes recurring (n + 1) scenes each.1 i

pub scenes_recur : (sentences : List Sentence) (tale : Tale) (said : Contents) → AreMeant sentences tale said → map (λ scene. scene.recurs) said.scenes ≡ tale.declared.scenes
scenes_recur sentences tale said meant =
    let k = known_said sentences tale in
    let recurring = tale.declared.scenes in
    let said_so = (said_of k recurring sentences meant.resolved meant.resolved_is).scenes in
    let told : IsScenesFound k recurring sentences (staged.Says meant.resolved.scenes) = subst (IsScenesFound k recurring sentences) said_so meant.resolved_is.is_joined.scenes_are in
    ap (map (λ (scene : Scene). scene.recurs)) meant.scenes_are ∙ recur_so k _ recurring 0 (map scene_meant meant.resolved.scenes.items) told.each
