use Rattle.std.proofs.Common.{◌∙◌, ap, subst, drop, length, arith}
use Rattle.story_code.specs.Fronts.{front}
use Rattle.story_code.specs.Soundness.{IsSoundCode, Judged}
use Rattle.story_code.proofs.Fetched.{found}
use Rattle.story_code.proofs.fetching.instruction_at.Goals as goal

pub returns-then-bytes-place : goal.returns-then-bytes-place
returns-then-bytes-place c i at =
    let sound = subst (λ (j : Judged). IsSoundCode j.sizes j.bytes) c.code.view_is c.code.invariant in
    let within = (found c.args.code.now sound c.args.place i at).0 in
    let same = ap (λ (j : Judged). length j.bytes) c.code.view_is in
    absurd (omega (arith, within, same, ap length c.as_slice-bytes.ensures.value, c.if-bytes-place.true))

pub returns : goal.returns
returns c i at =
    let sound = subst (λ (j : Judged). IsSoundCode j.sizes j.bytes) c.code.view_is c.code.invariant in
    c.first.ensures ∙ ap front (c.split_at.ensures.back ∙ ap (drop c.args.place) (c.as_slice-bytes.ensures.value ∙ ap (λ (j : Judged). j.bytes) c.code.view_is))
    ∙ (found c.args.code.now sound c.args.place i at).1
