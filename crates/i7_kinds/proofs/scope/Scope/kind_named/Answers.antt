use Rattle.std.proofs.Common.{◌∙◌, ap}
use Rattle.std.specs.Prelude.{bytes_eq, is_some}
use Rattle.i7_kinds.proofs.Named.{there_if_placed}
use Rattle.i7_kinds.proofs.scope.Scope.kind_named.Goals as goal

pub returns-clause-there : goal.returns-clause-there
returns-clause-there c = rw (← c.self.view_is) (ap is_some c.place_of.ensures ∙ there_if_placed (bytes_eq c.args.key.now) c.self.inside.kinds.now)
