use Rattle.std.proofs.Common.{◌∙◌, ap, refl}
use Rattle.std.specs.Prelude.{bytes_eq}
use Rattle.world_meaning.specs.Kinds.{is_under}
use Rattle.i7_kinds.proofs.Named.{not_there, there}
use Rattle.i7_kinds.proofs.doors.is_door_kind.Goals as goal

pub returns-in-None : goal.returns-in-None
returns-in-None c = rw (not_there (bytes_eq c.args.kind.now) c.args.kinds.now c.in-None.ensures) refl

pub returns-in-Some : goal.returns-in-Some
returns-in-Some c =
    rw (there (bytes_eq c.args.kind.now) c.args.kinds.now _ c.in-Some.ensures, ← c.in-Some.ensures)
    (c.is_under.ensures ∙ ap (is_under c.args.parents.now c.in-Some.number) c.get.ensures)
