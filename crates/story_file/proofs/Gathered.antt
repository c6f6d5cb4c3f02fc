-- What descriptions say is put together object by object.
use Rattle.std.proofs.Common.{◌≡◌, ◌∙◌, ap, refl, subst, sym, ℕ, suc, ◌-◌, ◌<◌, ◌≤◌, List, [], ◌∷◌, ◌++◌, length, drop, take, get_or, append-nil, append_assoc, Some, arith}
use Rattle.std.specs.Prelude.{Option, None}
use Rattle.std.specs.List.{AllZip}
use Rattle.std.proofs.lemmas.List.{map-append, take_all}
use Rattle.world_meaning.specs.declared.tale.Object.{Object}
use Rattle.play_meaning.specs.Meant.{text_meant}
use Rattle.play_meaning.specs.Trees.{Text}
use Rattle.play_meaning.specs.declared.tree.said.Text.{Text as Kept}
use Rattle.play_meaning.specs.TranslatedScripts.{in_list}
use Rattle.i7_conditions.specs.Scopes.{Scope}
use Rattle.i7_conditions.specs.Readings.{IsFoundAs}
use Rattle.i7_conditions.specs.declared.found.Found.{Found}
use Rattle.i7_conditions.specs.declared.found.Found.TheVariants.{Read}
use Rattle.i7_phrases.specs.Texts.{found_text, text_is_over}
use Rattle.i7_resolution.specs.SourceTexts.{SaysIn}
use Rattle.story_file.specs.Meanings.{AreTexts, descriptions_of}
use Rattle.story_file.specs.Texts.{AddsText, AreReadable, texts_kept}

module _ (s : Scope) (objects : List Object) where
  -- these objects are left, where so many texts are known
  pub record IsOnWay (texts : List Kept) (rest : List Object) : Type 0 where
    pub readable : AreReadable s rest
    pub told : (more : List Text) → AreTexts s rest more → AreTexts s objects (texts_kept texts ++ more)

  pub begins : (texts : List Kept) → AreReadable s objects → texts ≡ [] → IsOnWay texts objects
  begins texts readable none = subst (λ l. IsOnWay l objects) (sym none) (record { readable = readable; told = λ more are. are })

  grown : (texts more : List Kept) (rest : List Object) (object : Object) (description : Option (List ℕ)) → object.description ≡ description → AddsText s description texts more → IsOnWay texts (object ∷ rest) → IsOnWay more rest
  grown texts more rest object None is same way = record {
    readable = way.readable.1;
    told = λ others are. subst (λ l. AreTexts s objects (texts_kept l ++ others)) (sym same)
        (way.told others (subst (λ (d : Option (List ℕ)). AllZip (SaysIn s) (in_list d ++ descriptions_of rest) others) (sym is) are));
  }
  grown texts more rest object (Some bytes) is added way = record {
    readable = way.readable.1;
    told = λ others are.
        let text = added.0 in
        let kept : texts_kept more ≡ texts_kept texts ++ text_meant text ∷ [] = ap texts_kept added.1.0 ∙ map-append text_meant texts (text ∷ []) in
        subst (λ l. AreTexts s objects l) (sym (ap (λ l. l ++ others) kept ∙ append_assoc (texts_kept texts) (text_meant text ∷ []) others))
        (way.told (text_meant text ∷ others) (subst (λ (d : Option (List ℕ)). AllZip (SaysIn s) (in_list d ++ descriptions_of rest) (text_meant text ∷ others)) (sym is) (added.1.1, are)));
  }

  pub grows_on : (texts more : List Kept) (rest : List Object) (object : Object) → 1 ≤ length rest → object ≡ get_or rest 0 object → AddsText s object.description texts more → IsOnWay texts rest → IsOnWay more (take (length rest - 1) (drop 1 rest))
  grows_on texts more [] object some at added way = absurd (omega (arith, some))
  grows_on texts more (one ∷ rest) object some at added way =
      let whole : take (suc (length rest) - 1) rest ≡ rest = take_all _ rest (omega arith) in
      subst (λ l. IsOnWay more l) (sym whole) (grown texts more rest one one.description refl (subst (λ (o : Object). AddsText s o.description texts more) at added) way)

  pub ends : (texts : List Kept) (rest : List Object) → length rest < 1 → IsOnWay texts rest → AreTexts s objects (texts_kept texts)
  ends texts (one ∷ rest) none way = absurd (omega (arith, none))
  ends texts [] none way = subst (λ l. AreTexts s objects l) (append-nil (texts_kept texts)) (way.told [] tt)

-- ---- a description that is read

pub found_says : (s : Scope) (bytes slice : List ℕ) (found : Found Kept) (text : Kept) → slice ≡ bytes → IsFoundAs (SaysIn s slice) text_is_over (found_text found) → found ≡ Read text → SaysIn s bytes (text_meant text)
found_says s bytes slice found text same is e =
    let there = subst (λ (f : Found Kept). IsFoundAs (SaysIn s slice) text_is_over (found_text f)) e is in
    subst (λ (b : List ℕ). SaysIn s b (text_meant text)) same there.0
