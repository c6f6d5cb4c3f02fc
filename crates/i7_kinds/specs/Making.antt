-- What the objects of a tale are made from, as contracts see it.
use Rattle.i7_kinds.specs.Described.{descriptions_in}
use Rattle.i7_kinds.specs.StatedWays.{stated}
use Rattle.i7_kinds.specs.Tales.{Made}
use Rattle.i7_kinds.specs.Values.{value_at}
use Rattle.i7_kinds.specs.declared.objects.Makings.{Makings}

abbrev pub made_of : Makings → Made
made_of m = record {
  parents = m.parents.now;
  kinds = m.kinds.now;
  places = m.places.now;
  flags = m.flags.now;
  numbers = m.numbers.now;
  value_kinds = m.value_kinds.now;
  values = value_at m.values.now;
  usuals = value_at m.usuals.now;
  descriptions = descriptions_in m.descriptions.now;
  statements = stated m.ways.now;
}
