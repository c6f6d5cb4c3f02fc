-- Patterns that ask for what is there, and of which no noun has too many adjectives.
use Rattle.std.specs.Prelude.{◌≡◌, ℕ, Bool, true, false, ◌&&◌, nat_le, nat_lt, length, Option, Some, None}
use Rattle.std.specs.List.{list_all}
use Rattle.play_meaning.specs.Patterns.{Pattern}
use Rattle.play_meaning.specs.Rules.{Anything, Aspect, Exactly, OfKind}
use Rattle.play_meaning.specs.Trees.{Adjective, NotSo, Quality}
use Rattle.i7_conditions.specs.There.{Counts}

-- one of so many, if any
abbrev pub is_one_of : ℕ → Option ℕ → Bool
is_one_of count None = true
is_one_of count (Some n) = nat_lt n count

-- an either-or property that is there, perhaps denied
abbrev pub is_quality_of : Counts → Adjective → Bool
is_quality_of z (Quality p side) = nat_lt p z.qualities
is_quality_of z (NotSo (Quality p side)) = nat_lt p z.qualities
is_quality_of z _ = false

-- an object that is there, or a kind that is, with no more than 9 adjectives
abbrev pub is_aspect_of : Counts → Aspect → Bool
is_aspect_of z Anything = true
is_aspect_of z (Exactly o) = nat_lt o z.objects
is_aspect_of z (OfKind kind adjectives) = nat_lt kind z.kinds && (nat_le (length adjectives) 9 && list_all (is_quality_of z) adjectives)

-- of so many actions one, if any, and a scene, if any, and what is there of the nouns and of the place
pub record AsksWhatIs (z : Counts) (actions : ℕ) (p : Pattern) : Type 0 where
  pub action : is_one_of actions p.action ≡ true
  pub noun : is_aspect_of z p.noun ≡ true
  pub second : is_aspect_of z p.second ≡ true
  pub place : is_aspect_of z p.place ≡ true
  pub scene : is_one_of z.scenes p.scene ≡ true
