-- What a story's bytes are.
use Rattle.std.specs.Prelude.{◌≡◌, ℕ, Bool, true, List, [], ◌∷◌, ◌++◌}
use Rattle.std.specs.Int.{w16, to_be_bytes}
use Rattle.story_format.specs.declared.tables.Tables.{Tables}
use Rattle.story_format.specs.Layout.{tables_layout, version_of}
use Rattle.story_format.specs.Checks.{are_right}
use Rattle.story_format.specs.BookRules.{list_their_own}
use Rattle.story_format.specs.Soundness.{AreSound}

-- `I7ST`, and the version
abbrev pub magic : List ℕ
magic = 73 ∷ 55 ∷ 83 ∷ 84 ∷ []

abbrev pub head : ℕ → List ℕ
head version = magic ++ to_be_bytes w16 version

-- each book lists rules of its own, and none twice
unfoldable pub are_ordered : Tables → Bool
are_ordered t = list_their_own t.rules.rules 0 t.rules.books

-- The tables are a story's.
pub record IsStory (t : Tables) : Type 0 where
  -- each number and count has room in its bytes
  pub fits : (tables_layout (version_of t)).format.fits t ≡ true
  -- the tables but for the codes say what a story says
  pub right : are_right t ≡ true
  -- the codes are sound, and everything is named
  pub sound : AreSound t
  -- the books list rules of their own
  pub ordered : are_ordered t ≡ true

-- The bytes spell the story of these tables: version 2 where there are kinds of value, else version 1.
pub record Spells (bytes : List ℕ) (t : Tables) : Type 0 where
  pub story : IsStory t
  pub spelled : bytes ≡ head (version_of t) ++ (tables_layout (version_of t)).format.put t
