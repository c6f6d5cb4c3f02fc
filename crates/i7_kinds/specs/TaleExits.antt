-- The exits of a tale's objects, by what the sentences that mean the tale state.
use Rattle.std.specs.Prelude.{◌≡◌, ℕ, ◌-◌, List, slice_get, Option, Some, None, Ok}
use Rattle.world_meaning.specs.Directions.{direction_number}
use Rattle.world_meaning.specs.Tale.{object_at}
use Rattle.world_meaning.specs.declared.direction.Direction.{Direction}
use Rattle.world_meaning.specs.declared.exits.Way.{Way}
use Rattle.world_meaning.specs.declared.tale.Object.{Object}
use Rattle.world_meaning.specs.declared.tale.Tale.{Tale}
use Rattle.i7_sentences.specs.declared.sentence.Sentence.{Sentence}
use Rattle.i7_claims.specs.Statements.{stated_by}
use Rattle.i7_claims.specs.declared.statements.NumberedSentence.{NumberedSentence}
use Rattle.i7_kinds.specs.ExitsShown.{Implies, IsLed, IsLedFirst, IsUnled}
use Rattle.i7_kinds.specs.RefusalsShown.{States}
use Rattle.i7_kinds.specs.Tales.{tale_said, way_to}
use Rattle.i7_kinds.specs.WrittenAbout.{IsRoomOf}
use Rattle.i7_kinds.specs.declared.ways.Exit.{Exit}
use Rattle.i7_kinds.specs.declared.ways.Target.{Target}

-- the way out by a direction, if there is one
abbrev pub way_out_of : Object → Direction → Option Way
way_out_of object direction = slice_get object.exits.ways (direction_number direction - 1)

-- an exit leads where any of the statements says that states it; where none does, where the first leads that implies it;
-- and else nowhere
pub record LeadsAsSaid (statements : List NumberedSentence) (exit : Exit) (way : Option Way) : Type 0 where
  pub stated : (target : Target) → IsLed States statements exit target → way ≡ Some (way_to (Some target))
  pub implied : IsUnled States statements exit → (target : Target) → IsLedFirst Implies statements exit target → way ≡ Some (way_to (Some target))
  pub nowhere : IsUnled States statements exit → IsUnled Implies statements exit → way ≡ Some (way_to None)

-- the exits of a room lead as sentences say, and those of what is no room lead nowhere
pub record HasExits (sentences : List Sentence) (tale : Tale) (o : ℕ) (object : Object) : Type 0 where
  pub room : IsRoomOf tale o → (direction : Direction) → LeadsAsSaid (stated_by sentences) (record { room = o; direction = direction_number direction }) (way_out_of object direction)
  pub other : (IsRoomOf tale o → ⊥) → (direction : Direction) → way_out_of object direction ≡ Some (way_to None)

-- so it is of the objects of a tale that sentences mean
abbrev pub ExitsAreAsSaid : Type 0
ExitsAreAsSaid = (sentences : List Sentence) (tale : Tale) (o : ℕ) (object : Object) → tale_said sentences ≡ Ok tale → object_at tale o ≡ Some object → HasExits sentences tale o object
