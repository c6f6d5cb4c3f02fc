-- How the words of a description are cut into adjectives and the kind behind them, told from the last word to the first.
use Rattle.std.specs.Prelude.{◌≡◌, ℕ, ◌+◌, ◌-◌, min, Bool, true, false, nat_lt, List, [], ◌∷◌, ◌++◌, length, take, get_or, Option, Some, None, if◌then◌else◌}
use Rattle.play_meaning.specs.declared.tree.object.Adjective.{Adjective}
use Rattle.i7_conditions.specs.Adjectives.{adjective_named, kind_named}
use Rattle.i7_conditions.specs.Scopes.{Scope}
use Rattle.i7_conditions.specs.Words.{Word}
use Rattle.i7_conditions.specs.declared.front.Front.{Front}
use Rattle.i7_conditions.specs.declared.front.Step.{Step}
use Rattle.i7_conditions.specs.declared.front.Step.TheVariants.{Ends, Goes, Stops}

abbrev pub can_go : Step → Bool
can_go Stops = false
can_go (Ends kind) = true
can_go (Goes adjective count) = true

-- what the last words are cut into first, where so many are left
abbrev pub looked : List Step → ℕ → Step
looked column left = get_or column left Stops

-- the adjective that count words in front are, if the rest can be cut
abbrev pub adjective_at : Scope → List Word → List Step → ℕ → Option Adjective
adjective_at s words column count = if can_go (looked column (length words - count)) then adjective_named s (take count words) else None

abbrev pub goes_by : Option Adjective → ℕ → Step → Step
goes_by None count other = other
goes_by (Some adjective) count other = Goes adjective count

-- the shortest adjective of count words or more behind which the rest can be cut
abbrev pub goes : Scope → List Word → List Step → ℕ → List Word → Step
goes s words column count [] = Stops
goes s words column count (word ∷ window) = goes_by (adjective_at s words column count) count (goes s words column (count + 1) window)

abbrev pub window_of : List Word → List Word
window_of words = take (min (length words) 33) words

abbrev pub ends_or : Option ℕ → Step → Step
ends_or (Some kind) other = Ends kind
ends_or None other = other

-- a kind that is all the rest goes before adjectives, which have at most 33 words
abbrev pub step_at : Scope → List Word → List Step → Step
step_at s words column = ends_or (kind_named s words) (goes s words column 1 (window_of words))

-- of each count of last words, what they are cut into first
abbrev pub column_of : Scope → List Word → List Step
column_of s [] = Stops ∷ []
column_of s (word ∷ words) = column_of s words ++ step_at s (word ∷ words) (column_of s words) ∷ []

-- a column tells the same as another, whatever it ends with
abbrev pub IsToldBy : List Step → List Step → Type 0
IsToldBy column other = (left : ℕ) → looked column left ≡ looked other left

-- how many of a column's last steps stop, with one step more
abbrev pub stops_with : ℕ → Step → ℕ
stops_with stops step = if can_go step then 0 else stops + 1

-- what words are cut into by their first step, given what the words behind some more are cut into
abbrev pub followed : Step → List Adjective → (ℕ → List Adjective → Option Front) → Option Front
followed Stops adjectives next = None
followed (Ends kind) adjectives next = Some (record { adjectives = adjectives; kind = kind })
followed (Goes adjective count) adjectives next = next (count - 1) (adjectives ++ adjective ∷ [])

-- what words are cut into by the column, behind so many that are passed over and behind these adjectives
abbrev pub follow : List Step → ℕ → List Adjective → List Word → Option Front
follow column skipped adjectives [] = None
follow column skipped adjectives (word ∷ words) =
    if nat_lt 0 skipped then follow column (skipped - 1) adjectives words
    else followed (looked column (length words + 1)) adjectives (λ count more. follow column count more words)

unfoldable pub front_said : Scope → List Word → Option Front
front_said s words = follow (column_of s words) 0 [] words
