use Rattle.std.proofs.Common.{subst}
use Rattle.story_code.specs.Soundness.{IsSoundCode, Judged}
use Rattle.story_code.proofs.laws.verified_code_is_sound.Goals as goal

pub returns : goal.returns
returns c = subst (λ (j : Judged). IsSoundCode j.sizes j.bytes) c.code.view_is c.code.invariant
