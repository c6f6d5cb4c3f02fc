use Rattle.std.proofs.Common.{◌∙◌, ◌++◌, ◌-◌, ap, sym, subst, true, false, [], ◌∷◌, take, None, Some, Ok, Err, List, Option, ℕ, arith}
use Rattle.std.specs.Prelude.{slice_index_or}
use Rattle.play_meaning.specs.Machines.{first_passing, number_behind}
use Rattle.story_code.specs.Runs.{Standing, TestIs, passes_in}
use Rattle.story_code.proofs.Looped.{found, none_left, sought_broken, sought_on}
use Rattle.story_code.proofs.looping.next_object.Goals as goal

pub loop-next-init : goal.loop-next-init
loop-next-init g c depth describes enough =
    let fixed = g.G.Ground.fixed c.args.ground.now in
    let f = passes_in fixed c.args.codes.now c.args.now.now (g.G.Ground.world c.args.ground.now) depth describes c.args.test (take c.args.number c.args.state.now.loops) in
    let first = c.number_behind-first.ensures ∙ ap number_behind (c.at.ensures ∙ ap (λ (s : Standing). slice_index_or s.loops c.args.number None) c.state.view_is) in
    ap (λ n. first_passing f (fixed.setting.count - n) n) first

pub returns-in-Ok-true : goal.returns-in-Ok-true
returns-in-Ok-true g c depth describes enough =
    let fixed = g.G.Ground.fixed c.args.ground.now in
    let w = g.G.Ground.world c.args.ground.now in
    let outer = take c.args.number c.args.state.now.loops in
    let f = passes_in fixed c.args.codes.now c.args.now.now w depth describes c.args.test outer in
    let loops = c.with.ensures ∙ ap (λ (l : List (Option ℕ)). l ++ Some c.new-object.result ∷ []) (c.keep.ensures ∙ ap (take c.args.number) (c.copied-outer.ensures ∙ ap (λ (s : Standing). s.loops) c.state.view_is))
    ∙ ap (λ n. outer ++ Some n ∷ []) c.new-object.ensures in
    let is = subst (λ ls. TestIs fixed c.args.codes.now c.args.now.now w c.args.test ls (Ok true)) loops (subst (λ b. TestIs fixed c.args.codes.now c.args.now.now w c.args.test c.with.result (Ok b)) c.in-Ok-true.field-0-test c.in-Ok-true.ensures) depth describes enough in
    let from = number_behind (slice_index_or c.args.state.now.loops c.args.number None) in
    found f fixed.setting.count (first_passing f (fixed.setting.count - from) from) c.loop-next.next (omega (arith, c.loop-next-test.true, c.from-next-end.ensures, c.object_count.ensures)) is (c.loop-next.invariant depth describes enough)
    ∙ ap (λ n. Ok (Some n)) (sym c.new-object.ensures)

pub returns-in-Err : goal.returns-in-Err
returns-in-Err g c granted depth describes enough =
    let fixed = g.G.Ground.fixed c.args.ground.now in
    let w = g.G.Ground.world c.args.ground.now in
    let outer = take c.args.number c.args.state.now.loops in
    let f = passes_in fixed c.args.codes.now c.args.now.now w depth describes c.args.test outer in
    let loops = c.with.ensures ∙ ap (λ (l : List (Option ℕ)). l ++ Some c.new-object.result ∷ []) (c.keep.ensures ∙ ap (take c.args.number) (c.copied-outer.ensures ∙ ap (λ (s : Standing). s.loops) c.state.view_is))
    ∙ ap (λ n. outer ++ Some n ∷ []) c.new-object.ensures in
    let broke = subst (λ ls. TestIs fixed c.args.codes.now c.args.now.now w c.args.test ls (Err c.in-Err.reason)) loops (c.in-Err.ensures granted) depth describes enough in
    let from = number_behind (slice_index_or c.args.state.now.loops c.args.number None) in
    sought_broken f fixed.setting.count (first_passing f (fixed.setting.count - from) from) c.in-Err.reason c.loop-next.next (omega (arith, c.loop-next-test.true, c.from-next-end.ensures, c.object_count.ensures)) broke
    (c.loop-next.invariant depth describes enough)

pub loop-next-preserved : goal.loop-next-preserved
loop-next-preserved g c depth describes enough =
    let fixed = g.G.Ground.fixed c.args.ground.now in
    let w = g.G.Ground.world c.args.ground.now in
    let outer = take c.args.number c.args.state.now.loops in
    let f = passes_in fixed c.args.codes.now c.args.now.now w depth describes c.args.test outer in
    let loops = c.with.ensures ∙ ap (λ (l : List (Option ℕ)). l ++ Some c.new-object.result ∷ []) (c.keep.ensures ∙ ap (take c.args.number) (c.copied-outer.ensures ∙ ap (λ (s : Standing). s.loops) c.state.view_is))
    ∙ ap (λ n. outer ++ Some n ∷ []) c.new-object.ensures in
    let is = subst (λ ls. TestIs fixed c.args.codes.now c.args.now.now w c.args.test ls (Ok false)) loops (subst (λ b. TestIs fixed c.args.codes.now c.args.now.now w c.args.test c.with.result (Ok b)) c.in-Ok-false.field-0-test c.in-Ok-false.ensures) depth describes enough in
    let from = number_behind (slice_index_or c.args.state.now.loops c.args.number None) in
    sought_on f fixed.setting.count (first_passing f (fixed.setting.count - from) from) c.loop-next.next (omega (arith, c.loop-next-test.true, c.from-next-end.ensures, c.object_count.ensures)) is (c.loop-next.invariant depth describes enough)

pub returns : goal.returns
returns g c depth describes enough =
    let fixed = g.G.Ground.fixed c.args.ground.now in
    let f = passes_in fixed c.args.codes.now c.args.now.now (g.G.Ground.world c.args.ground.now) depth describes c.args.test (take c.args.number c.args.state.now.loops) in
    let from = number_behind (slice_index_or c.args.state.now.loops c.args.number None) in
    none_left f fixed.setting.count (first_passing f (fixed.setting.count - from) from) c.loop-next.next (omega (arith, c.loop-next-test.false, c.from-next-end.ensures, c.object_count.ensures)) (c.loop-next.invariant depth describes enough)
