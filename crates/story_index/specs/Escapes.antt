-- How the bytes of a source are written in a page, so that a reader of the page shows just them.
use Rattle.std.specs.Prelude.{ℕ, Bool, ◌==◌, ◌≢◌, ◌||◌, List, [], ◌∷◌, ◌++◌, codes, flat_map, if◌then◌else◌}

-- a byte that would open a tag, an entity or the end of an attribute's value is written as the entity that stands for it
abbrev pub shown : ℕ → List ℕ
shown byte = if byte == 38 then codes "&amp;" else (if byte == 60 then codes "&lt;" else (if byte == 62 then codes "&gt;"
    else (if byte == 34 then codes "&quot;" else byte ∷ [])))

abbrev pub shown_text : List ℕ → List ℕ
shown_text bytes = flat_map shown bytes

-- `<`, `>` and a quotation mark
abbrev pub is_of_markup : ℕ → Bool
is_of_markup byte = (byte == 60) || (byte == 62) || (byte == 34)

-- a reader of the page shows a text for these bytes of it: the entities for what they stand for, and each other byte as it is
pub data IsReadAs : List ℕ → List ℕ → Type 0 where
  nothing : IsReadAs [] []
  ampersand : {bytes text : List ℕ} → IsReadAs bytes text → IsReadAs (codes "&amp;" ++ bytes) (38 ∷ text)
  less : {bytes text : List ℕ} → IsReadAs bytes text → IsReadAs (codes "&lt;" ++ bytes) (60 ∷ text)
  greater : {bytes text : List ℕ} → IsReadAs bytes text → IsReadAs (codes "&gt;" ++ bytes) (62 ∷ text)
  quotation : {bytes text : List ℕ} → IsReadAs bytes text → IsReadAs (codes "&quot;" ++ bytes) (34 ∷ text)
  plain : {byte : ℕ} {bytes text : List ℕ} → byte ≢ 38 → IsReadAs bytes text → IsReadAs (byte ∷ bytes) (byte ∷ text)
