-- The built-in either-or properties.
use Rattle.std.specs.Prelude.{ℕ, List, map}
use Rattle.world_meaning.specs.declared.kinds.TheConstants.{PROPERTIES}
use Rattle.world_meaning.specs.declared.standard_properties.TheConstants.{DESCRIBED}

-- the kinds that have a property, and those whose objects it is true of by default
pub record Property : Type 0 where
  pub kinds : List ℕ
  pub true_of : List ℕ

-- the built-in properties by number
unfoldable pub built_in_properties : List Property
built_in_properties = map (λ property. record { kinds = property.2.now; true_of = property.3.now }) PROPERTIES

abbrev pub described : ℕ
described = DESCRIBED
