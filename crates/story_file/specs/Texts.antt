-- The texts of descriptions, as they are read and as they are kept.
use Rattle.std.specs.Prelude.{◌≡◌, ℕ, true, List, [], ◌∷◌, ◌++◌, map, Option, None, Some}
use Rattle.std.specs.List.{AllByRecursion}
use Rattle.world_meaning.specs.declared.tale.Object.{Object}
use Rattle.play_meaning.specs.Meant.{text_meant}
use Rattle.play_meaning.specs.Trees.{Text}
use Rattle.play_meaning.specs.declared.tree.said.Text.{Text as Kept}
use Rattle.i7_conditions.specs.Scopes.{Scope}
use Rattle.i7_phrases.specs.Texts.{text_is_over}
use Rattle.i7_resolution.specs.SourceTexts.{SaysIn}

-- the bytes say something, and nothing that holds more than the language allows
pub record CanBeRead (s : Scope) (bytes : List ℕ) : Type 0 where
  pub known : ((text : Text) → SaysIn s bytes text → ⊥) → ⊥
  pub within : (text : Text) → SaysIn s bytes text → text_is_over text ≡ true → ⊥

abbrev pub IsReadable : Scope → Option (List ℕ) → Type 0
IsReadable s None = Unit {0}
IsReadable s (Some bytes) = CanBeRead s bytes

abbrev pub AreReadable : Scope → List Object → Type 0
AreReadable s objects = AllByRecursion (λ object. IsReadable s object.description) objects

-- ---- as they are kept

abbrev pub texts_kept : List Kept → List Text
texts_kept texts = map text_meant texts

-- what a description says, if there is one, stands behind the texts so far
abbrev pub AddsText : Scope → Option (List ℕ) → List Kept → List Kept → Type 0
AddsText s None texts more = more ≡ texts
AddsText s (Some bytes) texts more = (text : Kept) × ((more ≡ texts ++ text ∷ []) × SaysIn s bytes (text_meant text))

-- ---- as a story has them

-- there is a text, and these bytes say it
abbrev pub HasTextSaid : Scope → List ℕ → Option Text → Type 0
HasTextSaid s bytes found = (text : Text) × ((found ≡ Some text) × SaysIn s bytes text)
