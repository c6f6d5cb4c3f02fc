-- The kinds of objects: the deepest kind that is demanded of each, all of its demands lying on one path.
use Rattle.std.specs.Prelude.{ℕ, ◌-◌, Bool, true, false, not, ◌==◌, ◌&&◌, List, ◌∷◌, ◌++◌, length, map, fold, replicate, slice_get, slice_index_or, slice_set, Option, Some, None, if◌then◌else◌}
use Rattle.world_meaning.specs.Kinds.{container_kind, direction_kind, door_kind, is_under, person_kind, room_kind, supporter_kind, thing_kind}
use Rattle.world_meaning.specs.Placing.{Kinds}
use Rattle.world_meaning.specs.declared.place.Rel.{Rel}
use Rattle.world_meaning.specs.declared.place.Rel.TheVariants.{In}
use Rattle.i7_claims.specs.Numbers.{has_name, number_in}
use Rattle.i7_claims.specs.Scans.{lowest}
use Rattle.i7_claims.specs.declared.claim.Claim.{Claim}
use Rattle.i7_claims.specs.declared.claim.Demand.{Demand}
use Rattle.i7_claims.specs.declared.claim.Fact.{Fact}
use Rattle.i7_claims.specs.declared.claim.Fact.TheVariants.{Demands, Placed, RoomUnlessDoor}
use Rattle.i7_claims.specs.declared.claim.Placing.{Placing}
use Rattle.i7_kinds.specs.declared.knowns.Demanded.{Demanded}
use Rattle.i7_kinds.specs.declared.knowns.Demanded.TheVariants.{Nothing, Deepest, Parted}
use Rattle.i7_kinds.specs.declared.grants.Given.{Given}
use Rattle.i7_kinds.specs.declared.knowns.Known.{Known}

-- the names of objects, of kinds, of properties, the either-or ones first, and of variables, by number, of each kind the
-- kind above it, which kinds sentences give a property to, and of which objects they demand a door
pub record Scope : Type 0 where
  pub objects : List (List ℕ)
  pub kinds : List (List ℕ)
  pub parents : List (Option ℕ)
  pub properties : List (List ℕ)
  pub givens : List Given
  pub doors : List (List ℕ)
  pub variables : List (List ℕ)

abbrev pub scope_of_names : List (List ℕ) → List (List ℕ) → List (Option ℕ) → List (List ℕ) → List Given → List (List ℕ) → List (List ℕ) → Scope
scope_of_names objects kinds parents properties givens doors variables = record {
  objects = objects;
  kinds = kinds;
  parents = parents;
  properties = properties;
  givens = givens;
  doors = doors;
  variables = variables;
}

-- ---- what is known of an object by the claims so far

abbrev pub unknown : Known
unknown = record { demanded = Nothing; holds = false }

abbrev pub known_as : ℕ → Known
known_as kind = record { demanded = Deepest kind; holds = false }

-- of so many objects: the player, the directions, and the author's
abbrev pub first_knowns : ℕ → List Known
first_knowns count = known_as person_kind ∷ replicate 12 (known_as direction_kind) ++ replicate (count - 13) unknown

abbrev pub known_at : List Known → ℕ → Known
known_at knowns o = slice_index_or knowns o unknown

-- one demand more
abbrev pub deepen : List (Option ℕ) → Demanded → ℕ → Demanded
deepen parents Nothing kind = Deepest kind
deepen parents (Deepest d) kind = if is_under parents d kind then Deepest d else (if is_under parents kind d then Deepest kind else Parted)
deepen parents Parted kind = Parted

abbrev pub deepened : Scope → List Known → List ℕ → ℕ → Demanded
deepened s knowns object kind = deepen s.parents (known_at knowns (number_in s.objects object)).demanded kind

abbrev pub with_demand : Scope → List Known → List ℕ → ℕ → List Known
with_demand s knowns object kind = slice_set knowns (number_in s.objects object) (record (known_at knowns (number_in s.objects object)) { demanded = deepened s knowns object kind })

-- a room is demanded, unless a door is
abbrev pub with_room : Scope → List Known → List ℕ → List Known
with_room s knowns object = if has_name s.doors object then knowns else with_demand s knowns object room_kind

abbrev pub is_in : Rel → Bool
is_in In = true
is_in _ = false

-- something is in the holder
abbrev pub with_holder : Scope → List Known → Placing → List Known
with_holder s knowns p =
    if is_in p.relation then slice_set knowns (number_in s.objects p.holder) (record (known_at knowns (number_in s.objects p.holder)) { holds = true })
    else knowns

-- a kind is demanded; one that isn't there says nothing
abbrev pub with_kind : Scope → List Known → Demand → List Known
with_kind s knowns d = if has_name s.kinds d.kind then with_demand s knowns d.object (number_in s.kinds d.kind) else knowns

abbrev pub with_known : Scope → List Known → Fact → List Known
with_known s knowns (Demands d) = with_kind s knowns d
with_known s knowns (RoomUnlessDoor object) = with_room s knowns object
with_known s knowns (Placed p) = with_holder s knowns p
with_known s knowns _ = knowns

abbrev pub with_known_of : Scope → List Known → Claim → List Known
with_known_of s knowns c = with_known s knowns c.fact

-- what is known of each object by these claims
abbrev pub knowns_of : Scope → List Claim → List Known
knowns_of s claims = fold (with_known_of s) (first_knowns (length s.objects)) claims

-- ---- kinds

abbrev pub thing_or_container : Bool → ℕ
thing_or_container holds = if holds then container_kind else thing_kind

abbrev pub kind_by : Demanded → Bool → ℕ
kind_by Nothing holds = thing_or_container holds
kind_by (Deepest kind) holds = if kind == thing_kind then thing_or_container holds else kind
kind_by Parted holds = thing_kind

-- what something is in, and is demanded nothing deeper than a thing, is a container, and else a thing
abbrev pub kind_of : Known → ℕ
kind_of known = kind_by known.demanded known.holds

abbrev pub kinds_of : List Known → List ℕ
kinds_of knowns = map kind_of knowns

abbrev pub is_parted : Demanded → Bool
is_parted Parted = true
is_parted _ = false

abbrev pub is_parted_in : Option Known → Bool
is_parted_in None = false
is_parted_in (Some known) = is_parted known.demanded

-- the demands of an object lie on no one path
abbrev pub is_parted_at : List Known → ℕ → Bool
is_parted_at knowns o = is_parted_in (slice_get knowns o)

abbrev pub is_of_in : List (Option ℕ) → ℕ → Option Known → Bool
is_of_in parents kind None = false
is_of_in parents kind (Some known) = is_under parents (kind_of known) kind

-- an object is of a kind or of one below it
abbrev pub is_of : List (Option ℕ) → List Known → ℕ → ℕ → Bool
is_of parents knowns kind o = is_of_in parents kind (slice_get knowns o)

abbrev pub kinds_known : List (Option ℕ) → List Known → Kinds
kinds_known parents knowns = record {
  is_thing = is_of parents knowns thing_kind;
  is_room = is_of parents knowns room_kind;
  is_door = is_of parents knowns door_kind;
  is_container = is_of parents knowns container_kind;
  is_supporter = is_of parents knowns supporter_kind;
  is_person = is_of parents knowns person_kind;
}

-- ---- C8: the first demand off the path of the earlier ones

abbrev pub is_off : Scope → List Known → Fact → Bool
is_off s knowns (Demands d) = has_name s.kinds d.kind && is_parted (deepened s knowns d.object (number_in s.kinds d.kind))
is_off s knowns (RoomUnlessDoor object) = not (has_name s.doors object) && is_parted (deepened s knowns object room_kind)
is_off s knowns _ = false

abbrev pub shows_off : Scope → List Known → Claim → Bool
shows_off s knowns c = is_off s knowns c.fact

abbrev pub off_path : Scope → List Claim → Option ℕ
off_path s claims = lowest (shows_off s) (with_known_of s) (first_knowns (length s.objects)) claims None
