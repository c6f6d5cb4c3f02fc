use Rattle.std.proofs.Common.{sym, subst, []}
use Rattle.play_meaning.specs.Machines.{Abandons}
use Rattle.story_code.specs.Runs.{MayRead, Standing}
use Rattle.story_code.specs.Testing.{EndsSo, begun}
use Rattle.story_code.proofs.Described.{reads_description, says_so, said_as}
use Rattle.story_code.proofs.describing.said_by.Goals as goal

pub read_plain-requires-clause-stands : goal.read_plain-requires-clause-stands
read_plain-requires-clause-stands g c =
    subst (λ (s : Standing). MayRead c.args.codes.now s) (sym c.new-state.ensures) (reads_description c.args.codes.now c.args.number c.requires.sound c.requires.describes)

pub returns-in-Ok : goal.returns-in-Ok
returns-in-Ok g c =
    said_as (g.G.Ground.fixed c.args.ground.now) c.args.codes.now c.args.now.now (g.G.Ground.world c.args.ground.now) c.args.number c.requires.sound c.requires.describes
    c.new-state.result c.new-state.ensures c.new-text.result.items c.new-text.ensures.items c.in-Ok.field-0 c.read_plain.new.text.items c.read_plain.new.state.work c.in-Ok.ensures.read

pub returns-in-Err : goal.returns-in-Err
returns-in-Err g c granted =
    let fixed = g.G.Ground.fixed c.args.ground.now in
    let w = g.G.Ground.world c.args.ground.now in
    let ends = c.in-Err.ensures.read granted in
    says_so fixed c.args.codes.now c.args.now.now w c.args.number (Abandons c.in-Err.reason)
    (subst (λ text. EndsSo fixed c.args.codes.now c.args.now.now w (begun c.args.number []) text (Abandons c.in-Err.reason)) c.new-text.ensures.items
    (subst (λ (s : Standing). EndsSo fixed c.args.codes.now c.args.now.now w s c.new-text.result.items (Abandons c.in-Err.reason)) c.new-state.ensures ends))
