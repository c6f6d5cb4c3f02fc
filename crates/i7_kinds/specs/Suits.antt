-- Which places the kinds of objects allow, and where the player begins.
use Rattle.std.specs.Prelude.{ℕ, ◌+◌, Bool, true, false, not, ◌&&◌, ◌||◌, ◌==◌, List, [], ◌∷◌, drop, slice_get, Option, Some, None, if◌then◌else◌}
use Rattle.std.specs.List.{list_any}
use Rattle.world_meaning.specs.Kinds.{is_under, room_kind}
use Rattle.world_meaning.specs.Placing.{Kinds, can_be_held, can_hold, keeps_player}
use Rattle.world_meaning.specs.declared.place.Place.{Place}
use Rattle.world_meaning.specs.declared.place.Rel.TheVariants.{In}
use Rattle.i7_kinds.specs.Grants.{built_in_bases}
use Rattle.i7_kinds.specs.Knowns.{Scope, is_parted_at, kind_of, kinds_known, known_at}
use Rattle.i7_claims.specs.Numbers.{number_in}
use Rattle.i7_kinds.specs.Places.{Places, place_of, put, thing_of}
use Rattle.i7_claims.specs.Scans.{lowest}
use Rattle.i7_claims.specs.declared.claim.Claim.{Claim}
use Rattle.i7_claims.specs.declared.claim.Fact.{Fact}
use Rattle.i7_claims.specs.declared.claim.Fact.TheVariants.{Has, Placed, Usually}
use Rattle.i7_claims.specs.declared.claim.Having.{Having}
use Rattle.i7_claims.specs.declared.claim.Value.{Value}
use Rattle.i7_claims.specs.declared.claim.Value.TheVariants.{Never}
use Rattle.i7_claims.specs.declared.claim.Usual.{Usual}
use Rattle.i7_kinds.specs.declared.knowns.Known.{Known}

-- the kinds allow the place: the player is directly in a room
abbrev pub suits : Kinds → ℕ → Place → Bool
suits kinds o place = can_be_held kinds o && can_hold kinds place.relation place.holder && keeps_player kinds o place

abbrev pub kinds_in : Option (List ℕ) → List ℕ
kinds_in None = []
kinds_in (Some kinds) = kinds

-- objects of a kind have a property that is built in so, or that sentences give to a kind above
abbrev pub can_be : Scope → ℕ → ℕ → Bool
can_be s kind property =
    list_any (λ base. is_under s.parents kind base) (kinds_in (slice_get built_in_bases property))
    || list_any (λ given. (given.property == property) && is_under s.parents kind given.kind) s.givens

-- what is said of a kind of value is none of its values
abbrev pub is_never_said : Value → Bool
is_never_said Never = true
is_never_said _ = false

-- where the kind of an object is known, it lacks a property, or the value is none of the property's
abbrev pub is_lacking : Scope → List Known → Having → Bool
is_lacking s knowns h =
    not (is_parted_at knowns (number_in s.objects h.object))
    && (is_never_said h.value || not (can_be s (kind_of (known_at knowns (number_in s.objects h.object))) (number_in s.properties h.property)))

-- a kind lacks the property of which something is usual
abbrev pub lacks : Scope → Usual → Bool
lacks s u = not (can_be s (number_in s.kinds u.kind) (number_in s.properties u.property))

-- or the value is none of the property's
abbrev pub is_never : Scope → Usual → Bool
is_never s u = is_never_said u.value || lacks s u

-- C8: a place that the kinds don't allow, a property that they lack, or a value that is none of the property's, where they are known
abbrev pub is_unsuited : Scope → List Known → Fact → Bool
is_unsuited s knowns (Placed p) =
    not (is_parted_at knowns (thing_of s.objects p) || is_parted_at knowns (place_of s.objects p).holder)
    && not (suits (kinds_known s.parents knowns) (thing_of s.objects p) (place_of s.objects p))
is_unsuited s knowns (Has h) = is_lacking s knowns h
is_unsuited s knowns (Usually u) = is_never s u
is_unsuited s knowns _ = false

abbrev pub shows_unsuited : Scope → List Known → Claim → Bool
shows_unsuited s knowns c = is_unsuited s knowns c.fact

abbrev pub same_knowns : List Known → Claim → List Known
same_knowns knowns c = knowns

abbrev pub unsuited : Scope → List Known → List Claim → Option ℕ
unsuited s knowns claims = lowest (shows_unsuited s) same_knowns knowns claims None

-- the first room among objects counted from o
abbrev pub room_from : List (Option ℕ) → ℕ → List Known → Option ℕ
room_from parents o [] = None
room_from parents o (known ∷ knowns) = if is_under parents (kind_of known) room_kind then Some o else room_from parents (o + 1) knowns

-- the lowest-numbered room
abbrev pub first_room : List (Option ℕ) → List Known → Option ℕ
first_room parents knowns = room_from parents 13 (drop 13 knowns)

-- the player is where a sentence says, and else in this room
abbrev pub with_player : Places → Option ℕ → Places
with_player places None = places
with_player places (Some room) = put places 0 (record { relation = In; holder = room })
