-- Which description words are.
use Rattle.std.specs.Prelude.{◌≡◌, ℕ, ◌<◌, ◌≤◌, ◌⊎◌, List, length, map, take, drop, Some, None}
use Rattle.world_meaning.specs.declared.place.Rel.{Rel}
use Rattle.play_meaning.specs.Meant.{adjective_meant}
use Rattle.play_meaning.specs.Trees.{Description, Object, Those, ThoseHeld}
use Rattle.play_meaning.specs.declared.tree.object.Adjective.{Adjective}
use Rattle.i7_conditions.specs.Cuts.{IsMeant}
use Rattle.i7_conditions.specs.Objects.{Means, froms}
use Rattle.i7_conditions.specs.Relations.{before_relation, relation_at}
use Rattle.i7_conditions.specs.Scopes.{Scope}
use Rattle.i7_conditions.specs.Words.{Word, without_article}
use Rattle.i7_conditions.specs.declared.found.Found.{Found}
use Rattle.i7_conditions.specs.declared.found.Found.TheVariants.{Read, TooMany, Unread}

-- the words in front of the first relation, and those from there on
abbrev pub front_words : List Word → List Word
front_words words = take (before_relation words) words

abbrev pub words_behind : List Word → List Word
words_behind words = drop (before_relation words) words

-- adjectives and a kind, then perhaps a relation and an object
pub data DescribesBare (s : Scope) : List Word → Description → Type 0 where
  plain : {words : List Word} {adjectives : List Adjective} {k : ℕ} → relation_at (words_behind words) ≡ None → IsMeant s (front_words words) adjectives k
      → DescribesBare s words (Those (map adjective_meant adjectives) (Some k))
  held : {words : List Word} {adjectives : List Adjective} {k : ℕ} {relation : Rel} {holder : List Word} {o : Object} → relation_at (words_behind words) ≡ Some (relation, holder)
      → IsMeant s (front_words words) adjectives k → Means s holder o → DescribesBare s words (ThoseHeld (map adjective_meant adjectives) (Some k) relation o)

-- one article in front is free
abbrev pub Describes : Scope → List Word → Description → Type 0
Describes s words d = DescribesBare s (without_article words) d

abbrev pub adjectives_in : Description → ℕ
adjectives_in (Those adjectives kind) = length adjectives
adjectives_in (ThoseHeld adjectives kind relation holder) = length adjectives

abbrev pub froms_in : Description → ℕ
froms_in (Those adjectives kind) = 0
froms_in (ThoseHeld adjectives kind relation holder) = froms holder

-- at most 9 adjectives, and at most 8 `from`s within one another
abbrev pub IsFoundBy : (Description → Type 0) → Found Description → Type 0
IsFoundBy Is (Read d) = Is d × (adjectives_in d ≤ 9) × (froms_in d ≤ 8)
IsFoundBy Is TooMany = (d : Description) × Is d × ((9 < adjectives_in d) ⊎ (8 < froms_in d))
IsFoundBy Is Unread = (d : Description) → Is d → ⊥

abbrev pub IsDescriptionFound : Scope → List Word → Found Description → Type 0
IsDescriptionFound s words found = IsFoundBy (Describes s words) found
