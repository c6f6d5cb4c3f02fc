use Rattle.std.proofs.Common.{◌∙◌, ap, sym, subst, ◌<◌, length, arith}
use Rattle.std.specs.Prelude.{slice_get}
use Rattle.play_meaning.specs.Instructions.{at_place, sizes}
use Rattle.story_code.specs.Runs.{Standing, code_told}
use Rattle.story_code.specs.Soundness.{IsSoundCode, Judged}
use Rattle.story_code.proofs.Fetched.{long, told}
use Rattle.story_code.proofs.Served.{fetched_by}
use Rattle.story_code.proofs.fetching.fetch.Goals as goal

pub returns : goal.returns
returns c =
    let judged = c.args.codes.now in
    let s = c.args.state.now in
    let j = c.in_ok-code.code.now in
    let view = c.state.view_is in
    let sound = subst (λ (k : Judged). IsSoundCode k.sizes k.bytes) c.code.view_is c.code.invariant in
    let there = ap (slice_get judged) (sym (ap (λ (x : Standing). x.code) view)) ∙ sym c.in_ok-code.ensures in
    fetched_by judged s c.requires.stands j c.instruction_at.result c.requires.sound
    (omega (arith, c.if-len-gt9.false, c.len.ensures.count, ap (λ (x : Standing). length x.loops) view)) there
    (subst (λ is. sizes is < 65536) (sym (told j sound)) (long j sound))
    (λ i at. c.instruction_at.ensures i (ap (λ (x : Standing). at_place (code_told j) x.place) view ∙ at))
