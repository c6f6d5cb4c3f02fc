-- What there is, as it is lent.
use Rattle.std.specs.Prelude.{List}
use Rattle.world_meaning.specs.declared.tale.Object.{Object}
use Rattle.i7_actions.specs.declared.action.Action.{Action}
use Rattle.i7_conditions.specs.NamesOf.{meanings_of}
use Rattle.i7_conditions.specs.declared.names.Names.{Names}
use Rattle.i7_grammar.specs.Targets.{Known}
use Rattle.i7_grammar.specs.declared.known.Known.{Known as Lent}

abbrev pub known_by : Names → List Action → List Object → Known
known_by names actions objects = record { meanings = meanings_of names; actions = actions; objects = objects }

abbrev pub known_of : Lent → Known
known_of k = known_by k.names.now k.actions.now k.objects.now
