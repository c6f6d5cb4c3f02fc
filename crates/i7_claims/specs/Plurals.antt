-- Kinds by their names and by their plurals.
use Rattle.std.specs.Prelude.{ℕ, Bool, true, false, ◌&&◌, List, [], ◌∷◌, ◌++◌, find, Option, Some, None, bytes_eq, codes, if◌then◌else◌}
use Rattle.world_meaning.specs.Spelling.{is_spelled}
use Rattle.i7_sentences.specs.Plurals.{front_of, plural_of}
use Rattle.i7_claims.specs.Firsts.{first_of}
use Rattle.i7_claims.specs.NameScans.{Standings}
use Rattle.i7_claims.specs.declared.claim.Standing.{Standing}
use Rattle.i7_claims.specs.declared.claim.Standing.TheVariants as stands

abbrev pub is_kind : Standing → Bool
is_kind stands.Kind = true
is_kind _ = false

abbrev pub is_kind_in : Option Standing → Bool
is_kind_in None = false
is_kind_in (Some standing) = is_kind standing

-- `men`, `women` and `people` stand beside the regular plurals
abbrev pub irregular_of : List ℕ → Option (List ℕ)
irregular_of words =
    if is_spelled words (codes "men") then Some (codes "man")
    else (if is_spelled words (codes "women") then Some (codes "woman") else (if is_spelled words (codes "people") then Some (codes "person") else None))

-- the name is a kind's and these words are its plural
abbrev pub is_kind_of_plural : Standings → List ℕ → List ℕ → Bool
is_kind_of_plural known words name = is_kind_in (known name) && bytes_eq (plural_of name) words

-- the names whose plural words may be
abbrev pub singulars : List ℕ → List (List ℕ)
singulars words = front_of 1 words ∷ front_of 2 words ∷ (front_of 3 words ++ codes "y") ∷ []

-- the kind that words name, or whose plural they are
abbrev pub kind_named : Standings → List ℕ → Option (List ℕ)
kind_named known words =
    if is_kind_in (known words) then Some words
    else first_of (irregular_of words) (find (is_kind_of_plural known words) (singulars words))
