-- Where words say what holds objects.
use Rattle.std.specs.Prelude.{ℕ, ◌+◌, Bool, ◌&&◌, List, [], ◌∷◌, Option, Some, None, codes, is_some, if◌then◌else◌}
use Rattle.world_meaning.specs.Spelling.{is_spelled}
use Rattle.world_meaning.specs.declared.place.Rel.{Rel}
use Rattle.world_meaning.specs.declared.place.Rel.TheVariants.{In, On, Carried, Worn, Part}
use Rattle.i7_conditions.specs.Words.{Word}

abbrev pub relation_of_one : Word → Option Rel
relation_of_one word = if is_spelled word (codes "in") then Some In else (if is_spelled word (codes "on") then Some On else None)

-- `carried by`, `worn by`, `part of`
unfoldable pub relation_of_two : Word → Word → Option Rel
relation_of_two first second =
    if is_spelled second (codes "by") then (if is_spelled first (codes "carried") then Some Carried else (if is_spelled first (codes "worn") then Some Worn else None))
    else (if is_spelled second (codes "of") && is_spelled first (codes "part") then Some Part else None)

abbrev pub and_behind : Option Rel → List Word → Option (Rel × List Word)
and_behind None behind = None
and_behind (Some relation) behind = Some (relation, behind)

abbrev pub relation_behind : Word → List Word → Option (Rel × List Word)
relation_behind first [] = None
relation_behind first (second ∷ behind) = and_behind (relation_of_two first second) behind

abbrev pub relation_by : Option Rel → Word → List Word → Option (Rel × List Word)
relation_by (Some relation) first rest = Some (relation, rest)
relation_by None first rest = relation_behind first rest

-- the relation with which words begin, and the words behind it
unfoldable pub relation_at : List Word → Option (Rel × List Word)
relation_at [] = None
relation_at (first ∷ rest) = relation_by (relation_of_one first) first rest

abbrev pub begins_relation : List Word → Bool
begins_relation words = is_some (relation_at words)

-- how many words stand in front of the first relation
abbrev pub before_relation : List Word → ℕ
before_relation [] = 0
before_relation (word ∷ words) = if begins_relation (word ∷ words) then 0 else before_relation words + 1
