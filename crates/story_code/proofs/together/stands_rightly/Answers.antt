use Rattle.std.proofs.Common.{sym}
use Rattle.story_code.proofs.TestsNamed.{one_found}
use Rattle.story_code.proofs.together.stands_rightly.Goals as goal

pub returns-in-Some : goal.returns-in-Some
returns-in-Some c = one_found c.args.codes.now c.args.number c.in-Some.code.now c.is_one_of.result (sym c.in-Some.ensures) c.verified_code_is_sound.ensures c.is_one_of.ensures
