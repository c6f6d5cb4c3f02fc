-- The compiler's descriptions as contracts see them.
use Rattle.std.specs.Prelude.{List}
use Rattle.i7_kinds.specs.declared.descriptions.Description.{Description}
use Rattle.i7_kinds.specs.declared.descriptions.Descriptions.{Descriptions}

abbrev pub descriptions_in : Descriptions → List Description
descriptions_in descriptions = descriptions.all.items
