-- The numbers of relations, in story files and wherever two are compared.
use Rattle.std.specs.Prelude.{ℕ}
use Rattle.world_meaning.specs.declared.place.Rel.{Rel}
use Rattle.world_meaning.specs.declared.place.Rel.TheVariants.{In, On, Carried, Worn, Part}

abbrev pub relation_number : Rel → ℕ
relation_number In = 0
relation_number On = 1
relation_number Carried = 2
relation_number Worn = 3
relation_number Part = 4
