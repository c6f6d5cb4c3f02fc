-- Phrases of one name: what is said by a property's name, perhaps behind `not` or an article, or by a kind's.
use Rattle.std.specs.Prelude.{ℕ, ◌+◌, ◌-◌, Bool, true, false, not, ◌&&◌, ◌==◌, List, [], ◌∷◌, take, drop, length, Option, Some, None, option_map, codes, if◌then◌else◌}
use Rattle.std.specs.List.{prefix_len, suffix_len}
use Rattle.world_meaning.specs.Spelling.{is_article, is_spelled}
use Rattle.i7_claims.specs.NameScans.{Standings}
use Rattle.i7_claims.specs.Plurals.{kind_named}
use Rattle.i7_claims.specs.declared.claim.Quality.{Quality}
use Rattle.i7_claims.specs.declared.claim.Standing.{Standing}
use Rattle.i7_claims.specs.declared.claim.Standing.TheVariants as stands
use Rattle.i7_claims.specs.declared.claim.Value.{Value}
use Rattle.i7_claims.specs.declared.claim.Value.TheVariants.{Truth, Amount, Choice, Never}

abbrev pub is_blank : ℕ → Bool
is_blank b = b == 32

-- what a name says: a property's first name that it is true, its second that it isn't; and a value's, but for where `and` joins names,
-- that its kind of value has it
abbrev pub quality_by : Bool → Standing → List ℕ → Option Quality
quality_by is_joined (stands.First second) name = Some (record { property = name; value = Truth true })
quality_by is_joined (stands.Second first) name = Some (record { property = first; value = Truth false })
quality_by is_joined (stands.Value value) name = if is_joined then None else Some (record { property = value.kind; value = Choice value.place })
quality_by is_joined _ name = None

abbrev pub quality_in : Bool → Option Standing → List ℕ → Option Quality
quality_in is_joined None name = None
quality_in is_joined (Some standing) name = quality_by is_joined standing name

-- behind `not` the other is said of an either-or property, and no value of a kind of value
abbrev pub denied : Value → Value
denied (Truth truth) = Truth (not truth)
denied (Amount number) = Amount number
denied (Choice place) = Never
denied Never = Never

abbrev pub said_of : Bool → Quality → Quality
said_of is_denied quality = if is_denied then record quality { value = denied quality.value } else quality

abbrev pub is_letter : ℕ → Bool
is_letter b = not (is_blank b)

abbrev pub first_word : List ℕ → List ℕ
first_word words = take (prefix_len is_letter words) words

abbrev pub without_blank : List ℕ → List ℕ
without_blank [] = []
without_blank (b ∷ bytes) = bytes

abbrev pub last_word : List ℕ → List ℕ
last_word words = drop (length words - suffix_len is_letter words) words

-- what stands behind the first word and its blank
abbrev pub behind_word : List ℕ → List ℕ
behind_word words = without_blank (drop (prefix_len is_letter words) words)

abbrev pub without_article : List ℕ → List ℕ
without_article words = if is_article (first_word words) then behind_word words else words

-- ---- what one name says

abbrev pub name_said : Standings → Bool → List ℕ → Option Quality
name_said known is_joined name = quality_in is_joined (known name) name

abbrev pub denied_if : Bool → Option Quality → Option Quality
denied_if is_denied quality = option_map (said_of is_denied) quality

-- a name may stand behind `not`, and each of these behind an article
abbrev pub is_denied : List ℕ → Bool
is_denied phrase = is_spelled (first_word (without_article phrase)) (codes "not")

abbrev pub name_in : List ℕ → List ℕ
name_in phrase = if is_denied phrase then without_article (behind_word (without_article phrase)) else without_article phrase

abbrev pub plain_said : Standings → Bool → List ℕ → Option Quality
plain_said known is_joined phrase = denied_if (is_denied phrase) (name_said known is_joined (name_in phrase))

-- where `and` joins names, it stands before each
abbrev pub is_behind_and : List ℕ → Bool
is_behind_and phrase = is_spelled (first_word phrase) (codes "and")

abbrev pub joined_said : Standings → List ℕ → Option Quality
joined_said known phrase = if is_behind_and phrase then plain_said known true (behind_word phrase) else None

unfoldable pub phrase_said : Standings → Bool → List ℕ → Option Quality
phrase_said known is_joined phrase = if is_joined then joined_said known phrase else plain_said known false phrase

-- whether it says something
abbrev pub is_quality_by : Bool → Standing → Bool
is_quality_by is_joined (stands.First second) = true
is_quality_by is_joined (stands.Second first) = true
is_quality_by is_joined (stands.Value value) = not is_joined
is_quality_by is_joined _ = false

abbrev pub is_quality : Bool → Option Standing → Bool
is_quality is_joined None = false
is_quality is_joined (Some standing) = is_quality_by is_joined standing

abbrev pub is_name : Standings → Bool → List ℕ → Bool
is_name known is_joined phrase = is_quality is_joined (known (name_in phrase))

unfoldable pub is_phrase : Standings → Bool → List ℕ → Bool
is_phrase known is_joined phrase = if is_joined then is_behind_and phrase && is_name known true (behind_word phrase) else is_name known false phrase

-- a phrase has at most so many bytes more than its name, and words that name a kind
abbrev pub longest_phrase : ℕ → ℕ
longest_phrase most = most + 20

-- the kind that words name, behind an article; none where `and` joins names
unfoldable pub kind_said : Standings → Bool → List ℕ → Option (List ℕ)
kind_said known is_joined words = if is_joined then None else kind_named known (without_article words)
