-- The built-in properties by their names.
use Rattle.std.specs.Prelude.{ℕ, List, [], ◌∷◌, Option, codes, slice_get}
use Rattle.std.specs.Option.{option_map}
use Rattle.world_meaning.specs.declared.kinds.TheConstants.{PROPERTIES}
use Rattle.world_meaning.specs.declared.standard_properties.TheConstants.{DESCRIBED, FIXED_IN_PLACE, LIGHTED, LIT, OPEN, OPENABLE, SCENERY, SWITCHED_ON, TRANSPARENT, VISITED, WEARABLE}

-- the name of the built-in property of this number
abbrev pub property_name : ℕ → Option (List ℕ)
property_name number = option_map (λ row. row.0.now) (slice_get PROPERTIES number)

-- the numbers by which rules ask of them, and what they are called
abbrev pub named_properties : List (ℕ × List ℕ)
named_properties =
    (OPEN, codes "open") ∷ (OPENABLE, codes "openable") ∷ (TRANSPARENT, codes "transparent") ∷ (LIT, codes "lit") ∷ (LIGHTED, codes "lighted")
    ∷ (SCENERY, codes "scenery") ∷ (FIXED_IN_PLACE, codes "fixed in place") ∷ (WEARABLE, codes "wearable") ∷ (DESCRIBED, codes "described")
    ∷ (SWITCHED_ON, codes "switched on") ∷ (VISITED, codes "visited") ∷ []
