-- Which repeats stand around a phrase (*Writing with Inform*, 11.9): the name that one gives is known as far as phrases are
-- deeper than it.
use Rattle.std.specs.Prelude.{ℕ, nat_lt, Bool, false, not, List, [], ◌∷◌, Option, None, Some, if◌then◌else◌, reverse}
use Rattle.i7_sentences.specs.declared.rule.RulePhrase.{RulePhrase}
use Rattle.i7_sentences.specs.declared.spoken.Spoken.{Spoken}
use Rattle.i7_sentences.specs.declared.spoken.Spoken.TheVariants as spoken
use Rattle.i7_conditions.specs.Words.{Word, key_of}
use Rattle.i7_phrases.specs.declared.around.Around.{Around}

-- the name that a repeat gives to its object
abbrev pub name_given : Spoken → Option Word
name_given (spoken.Repeat name through) = Some (key_of name)
name_given _ = None

abbrev pub with_name : Option Word → List Word → List Word
with_name None names = names
with_name (Some name) names = name ∷ names

-- The names of the repeats around a phrase that so many blocks stand around, the innermost first; of the phrases before it the
-- last is first here. It belongs to the nearest that is less deep, that one to the nearest that is less deep still, and so on.
unfoldable pub names_around : ℕ → List RulePhrase → List Word
names_around depth [] = []
names_around depth (p ∷ before) = if nat_lt p.depth depth then with_name (name_given p.said) (names_around p.depth before) else names_around depth before

-- ---- as they are kept: the repeats that are open, the innermost first

pub record Open : Type 0 where
  pub depths : List ℕ
  pub names : List Word

abbrev pub none_open : Open
none_open = record { depths = []; names = [] }

abbrev pub around_of : Around → Open
around_of around = record { depths = reverse around.depths.items; names = reverse around.names.items }

abbrev pub depths_left : List ℕ → List ℕ
depths_left [] = []
depths_left (depth ∷ depths) = depths

abbrev pub names_left : List Word → List Word
names_left [] = []
names_left (name ∷ names) = names

abbrev pub shut : Open → Open
shut o = record { depths = depths_left o.depths; names = names_left o.names }

-- a phrase of a repeat is deeper than the repeat
abbrev pub is_left_by : ℕ → List ℕ → Bool
is_left_by depth [] = false
is_left_by depth (innermost ∷ depths) = not (nat_lt innermost depth)

abbrev pub is_left : ℕ → Open → Bool
is_left depth o = is_left_by depth o.depths

unfoldable pub left_from : ℕ → List ℕ → List Word → Open
left_from depth [] names = record { depths = []; names = names }
left_from depth (innermost ∷ depths) names = if nat_lt innermost depth then record { depths = innermost ∷ depths; names = names } else left_from depth depths (names_left names)

abbrev pub left : ℕ → Open → Open
left depth o = left_from depth o.depths o.names

abbrev pub entered : ℕ → Word → Open → Open
entered depth name o = record { depths = depth ∷ o.depths; names = name ∷ o.names }

abbrev pub entered_if : ℕ → Option Word → Open → Open
entered_if depth None o = o
entered_if depth (Some name) o = entered depth name o

abbrev pub passed : RulePhrase → Open → Open
passed p o = entered_if p.depth (name_given p.said) (left p.depth o)

-- behind these phrases, the last of which is first here
unfoldable pub open_behind : List RulePhrase → Open
open_behind [] = none_open
open_behind (p ∷ before) = passed p (open_behind before)
