-- What words say that something is, by what each name stands for: either-or properties, and then perhaps a kind.
use Rattle.std.specs.Prelude.{ℕ, Bool, true, false, not, ◌&&◌, ◌||◌, List, [], ◌∷◌, ◌++◌, length, get_or, Option, Some, None, is_some, codes, if◌then◌else◌}
use Rattle.world_meaning.specs.Spelling.{is_spelled, lowered}
use Rattle.i7_claims.specs.NameScans.{Standings}
use Rattle.i7_claims.specs.Phrases.{first_word, is_blank, is_phrase, kind_said, last_word, phrase_said, without_blank}
use Rattle.i7_claims.specs.declared.claim.Quality.{Quality}
use Rattle.i7_claims.specs.declared.wording.What.{What}

abbrev pub is_empty : List ℕ → Bool
is_empty [] = true
is_empty (b ∷ bytes) = false

-- before these bytes a word ends
abbrev pub is_end : List ℕ → Bool
is_end [] = true
is_end (b ∷ bytes) = is_blank b

-- ---- whether words can be cut into names, told for each count of bytes that are left of them

abbrev pub looked : List Bool → ℕ → Bool
looked column left = get_or column left false

-- `switched off` is one word; so are `switched on` and `fixed in place`, but `on` and `in` are reserved, and begin no name by themselves
abbrev pub parts_word : List ℕ → List ℕ → Bool
parts_word front after = is_spelled (first_word (without_blank after)) (codes "off") && is_spelled (last_word front) (codes "switched")

-- between these bytes a name may end: a word does, and those behind can be cut
abbrev pub may_end : List Bool → List ℕ → List ℕ → Bool
may_end column front after = is_end after && looked column (length after) && not (parts_word front after)

-- the bytes in front are a name, and those behind it can be cut
abbrev pub ends_name : Standings → Bool → List Bool → List ℕ → List ℕ → Bool
ends_name known is_joined column front after = may_end column front after && is_phrase known is_joined front

-- the bytes in front, with some of these, are one
abbrev pub some_name : Standings → Bool → List Bool → List ℕ → List ℕ → Bool
some_name known is_joined column front [] = false
some_name known is_joined column front (b ∷ bytes) = ends_name known is_joined column (front ++ b ∷ []) bytes || some_name known is_joined column (front ++ b ∷ []) bytes

unfoldable pub can_begin : Standings → Bool → List Bool → List ℕ → Bool
can_begin known is_joined column words = is_some (kind_said known is_joined words) || some_name known is_joined column [] words

abbrev pub can_cut : Standings → Bool → List Bool → List ℕ → Bool
can_cut known is_joined column [] = true
can_cut known is_joined column (b ∷ bytes) = if is_blank b then looked column (length bytes) else can_begin known is_joined column (b ∷ bytes)

abbrev pub column_of : Standings → Bool → List ℕ → List Bool
column_of known is_joined [] = true ∷ []
column_of known is_joined (b ∷ bytes) = column_of known is_joined bytes ++ can_cut known is_joined (column_of known is_joined bytes) (b ∷ bytes) ∷ []

-- ---- how words are cut from left to right

-- the bytes of a name so far, and the qualities before it
pub record Cut : Type 0 where
  pub front : List ℕ
  pub qualities : List Quality

abbrev pub uncut : Cut
uncut = record { front = []; qualities = [] }

abbrev pub with_quality : Cut → Option Quality → Cut
with_quality cut None = cut
with_quality cut (Some quality) = record { front = []; qualities = cut.qualities ++ quality ∷ [] }

abbrev pub with_byte : Cut → ℕ → Cut
with_byte cut b = record cut { front = cut.front ++ b ∷ [] }

-- a name ends where those behind it can be cut
abbrev pub ended : Standings → Bool → List Bool → Cut → List ℕ → Cut
ended known is_joined column cut after =
    if may_end column cut.front after then with_quality cut (phrase_said known is_joined cut.front) else cut

-- one byte more, with those behind it
abbrev pub taken : Standings → Bool → List Bool → Cut → ℕ → List ℕ → Cut
taken known is_joined column cut b after = if is_empty cut.front && is_blank b then cut else ended known is_joined column (with_byte cut b) after

-- a kind that is all the rest of the words
abbrev pub kind_at : Standings → Bool → Cut → List ℕ → Option (List ℕ)
kind_at known is_joined cut words = if is_empty cut.front && not (is_end words) then kind_said known is_joined words else None

abbrev pub with_kind : Cut → Option (List ℕ) → Option What → Option What
with_kind cut None other = other
with_kind cut (Some kind) other = Some (record { qualities = cut.qualities; kind = Some kind })

abbrev pub finished : Cut → Option What
finished cut = if is_empty cut.front then Some (record { qualities = cut.qualities; kind = None }) else None

abbrev pub cut_words : Standings → Bool → List Bool → Cut → List ℕ → Option What
cut_words known is_joined column cut [] = finished cut
cut_words known is_joined column cut (b ∷ bytes) =
    with_kind cut (kind_at known is_joined cut (b ∷ bytes)) (cut_words known is_joined column (taken known is_joined column cut b bytes) bytes)

abbrev pub cut_by : Standings → Bool → List Bool → List ℕ → Option What
cut_by known is_joined column words = if looked column (length words) then cut_words known is_joined column uncut words else None

-- names from left to right, each the shortest behind which the rest can be cut, but a kind that is all the rest goes
-- first
unfoldable pub cut : Standings → Bool → List ℕ → Option What
cut known is_joined words = cut_by known is_joined (column_of known is_joined words) words

-- what words say, if they can be cut into names
abbrev pub what_said : Standings → List ℕ → Option What
what_said known words = cut known false (lowered words)

-- what words behind `usually` say, names joined by `and`
abbrev pub usual_said : Standings → List ℕ → Option What
usual_said known words = cut known true (codes "and " ++ lowered words)
