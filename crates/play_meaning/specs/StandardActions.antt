-- The actions that every story has: their numbers, and what each asks for.
use Rattle.std.specs.Prelude.{ℕ, Bool, true, false, List, [], ◌∷◌, slice_index_or}
use Rattle.play_meaning.specs.declared.standard_actions.TheConstants.{CLOSING, DROPPING, EXAMINING, GOING, INSERTING, JUMPING, LOOKING, OPENING, PUTTING_ON, SWITCHING_OFF, SWITCHING_ON, TAKING, TAKING_INVENTORY, TAKING_OFF, WAITING, WEARING}
use Rattle.world_meaning.specs.declared.needs.Needs.{Needs}
use Rattle.world_meaning.specs.declared.needs.Slot.{Slot}
use Rattle.world_meaning.specs.declared.needs.Slot.TheVariants.{Absent, Visible, Touched, Carried}

abbrev pub looking : ℕ
looking = LOOKING

abbrev pub examining : ℕ
examining = EXAMINING

abbrev pub taking : ℕ
taking = TAKING

abbrev pub dropping : ℕ
dropping = DROPPING

abbrev pub putting_on : ℕ
putting_on = PUTTING_ON

abbrev pub inserting : ℕ
inserting = INSERTING

abbrev pub opening : ℕ
opening = OPENING

abbrev pub closing : ℕ
closing = CLOSING

abbrev pub going : ℕ
going = GOING

abbrev pub wearing : ℕ
wearing = WEARING

abbrev pub taking_off : ℕ
taking_off = TAKING_OFF

abbrev pub taking_inventory : ℕ
taking_inventory = TAKING_INVENTORY

abbrev pub waiting : ℕ
waiting = WAITING

abbrev pub jumping : ℕ
jumping = JUMPING

abbrev pub switching_on : ℕ
switching_on = SWITCHING_ON

abbrev pub switching_off : ℕ
switching_off = SWITCHING_OFF

abbrev pub asking : Slot → Slot → Bool → Needs
asking noun second light = record { noun = noun; second = second; light = light; out_of_world = false }

-- what an action that isn't there asks for
abbrev pub no_needs : Needs
no_needs = asking Absent Absent false

-- by number
unfoldable pub standard_needs : List Needs
standard_needs =
    asking Absent Absent false ∷ asking Visible Absent true ∷ asking Touched Absent false ∷ asking Touched Absent false
    ∷ asking Carried Touched false ∷ asking Carried Touched false ∷ asking Touched Absent false ∷ asking Touched Absent false
    ∷ asking Visible Absent false ∷ asking Carried Absent false ∷ asking Touched Absent false ∷ asking Absent Absent false
    ∷ asking Absent Absent false ∷ asking Absent Absent false ∷ asking Touched Absent false ∷ asking Touched Absent false ∷ []

-- what is asked where no source has actions of its own
abbrev pub needs_of : ℕ → Needs
needs_of action = slice_index_or standard_needs action no_needs
