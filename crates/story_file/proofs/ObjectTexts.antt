-- The text that a story has for an object is what its description says.
use Rattle.std.proofs.Common.{◌≡◌, ◌∙◌, ap, refl, subst, ℕ, zero, suc, List, [], ◌∷◌, ◌++◌, drop, Option, Some, None, if◌then◌else◌}
use Rattle.std.specs.Prelude.{slice_get, is_some}
use Rattle.std.specs.List.{AllZip}
use Rattle.world_meaning.specs.declared.tale.Object.{Object}
use Rattle.play_meaning.specs.TranslatedScripts.{in_list}
use Rattle.play_meaning.specs.Trees.{Text}
use Rattle.i7_conditions.specs.Scopes.{Scope}
use Rattle.i7_resolution.specs.SourceTexts.{SaysIn}
use Rattle.story_format.specs.Making.{code_count, text_in}
use Rattle.story_file.specs.Meanings.{AreTexts, descriptions_of}
use Rattle.story_file.specs.Texts.{HasTextSaid}

-- by whether the first object has a description
module _ (s : Scope) (objects : List Object) where
  abbrev Zipped : Option (List ℕ) → List Text → Type 0
  Zipped description texts = AllZip (SaysIn s) (in_list description ++ descriptions_of objects) texts

  later : (description : Option (List ℕ)) (texts : List Text) → Zipped description texts → AreTexts s objects (drop (code_count description) texts)
  later None texts zip = zip
  later (Some bytes) [] zip = absurd zip
  later (Some bytes) (text ∷ texts) zip = zip.1

  -- the text of an object with this description, of these texts the first
  abbrev text_at : Option (List ℕ) → List Text → Option Text
  text_at description texts = if is_some description then slice_get texts 0 else None

  first : (description : Option (List ℕ)) (texts : List Text) (bytes : List ℕ) → Zipped description texts → description ≡ Some bytes → HasTextSaid s bytes (text_at description texts)
  first None texts bytes zip is = absurd cc
  first (Some other) [] bytes zip is = absurd zip
  first (Some other) (text ∷ texts) bytes zip is = let same : other ≡ bytes = cc in (text, (refl, subst (λ b. SaysIn s b text) same zip.0))

pub text_said : (s : Scope) (objects : List Object) (texts : List Text) (n : ℕ) (object : Object) (bytes : List ℕ) → AreTexts s objects texts → slice_get objects n ≡ Some object → object.description ≡ Some bytes
    → HasTextSaid s bytes (text_in objects texts n)
text_said s [] texts n object bytes are at is = absurd cc
text_said s (one ∷ objects) texts zero object bytes are at is =
    let same : one ≡ object = cc in
    first s objects one.description texts bytes are (ap (λ (o : Object). o.description) same ∙ is)
text_said s (one ∷ objects) texts (suc n) object bytes are at is = text_said s objects (drop (code_count one.description) texts) n object bytes (later s objects one.description texts are) at is
