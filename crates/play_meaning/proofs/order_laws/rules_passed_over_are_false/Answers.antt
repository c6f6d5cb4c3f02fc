use Rattle.play_meaning.proofs.Admitted.{about_admits}
use Rattle.play_meaning.proofs.order_laws.rules_passed_over_are_false.Goals as goal

pub returns : goal.returns
returns c = about_admits
