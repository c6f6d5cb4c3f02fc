use Rattle.i7_kinds.proofs.WrittenAbout.{about}
use Rattle.i7_kinds.proofs.refusal_laws.descriptions_are_about_objects.Goals as goal

pub returns : goal.returns
returns c = about
