-- What a level means by the one below it, and the parts of an action as its stages.
use Rattle.std.proofs.Common.{◌≡◌, ℕ, ◌-◌, ◌<◌, suc, Bool, true, false, refl, ap, arith}
use Rattle.std.specs.Prelude.{Err, map}
use Rattle.play_meaning.specs.Acting.{act, inner_of, progress_of, stages}
use Rattle.play_meaning.specs.Consulting.{consult}
use Rattle.play_meaning.specs.Doing.{Inner}
use Rattle.play_meaning.specs.Games.{Game}
use Rattle.play_meaning.specs.Progress.{Progress, first_decision}
use Rattle.play_meaning.specs.declared.action.ActionNow.{ActionNow}
use Rattle.world_meaning.specs.declared.session.Abandon.TheVariants.{NestedTooDeep}
use Rattle.action_stages.specs.Parts.{part_of, parts}

-- with a level left below, a try is an action there
pub tries_deeper : (g : Game) (depth : ℕ) (now : ActionNow) (p : Progress) → 0 < depth → (inner_of g depth).tries now p ≡ progress_of (act g (inner_of g (depth - 1)) now p)
unfolding inner_of
tries_deeper g depth now p less =
    let e : depth ≡ suc (depth - 1) = omega (arith, less) in
    ap (λ n. (inner_of g n).tries now p) e

pub follows_deeper : (g : Game) (depth book : ℕ) (now : ActionNow) (p : Progress) → 0 < depth → (inner_of g depth).follows book now p ≡ progress_of (consult g (inner_of g (depth - 1)) book now p)
unfolding inner_of
follows_deeper g depth book now p less =
    let e : depth ≡ suc (depth - 1) = omega (arith, less) in
    ap (λ n. (inner_of g n).follows book now p) e

-- with none left play is abandoned
pub tries_deepest : (g : Game) (depth : ℕ) (now : ActionNow) (p : Progress) → depth ≡ 0 → (inner_of g depth).tries now p ≡ Err NestedTooDeep
unfolding inner_of
tries_deepest g depth now p is = ap (λ n. (inner_of g n).tries now p) is

pub follows_deepest : (g : Game) (depth book : ℕ) (now : ActionNow) (p : Progress) → depth ≡ 0 → (inner_of g depth).follows book now p ≡ Err NestedTooDeep
unfolding inner_of
follows_deepest g depth book now p is = ap (λ n. (inner_of g n).follows book now p) is

pub ruleset levels_rules = (tries_deeper, tries_deepest, follows_deeper, follows_deepest)

-- ---- parts

stages_are : (out_of_world : Bool) (g : Game) (inner : Inner) (now : ActionNow) → stages out_of_world g inner now ≡ map (part_of g inner now) (parts out_of_world)
unfolding part_of stages
stages_are true g inner now = refl
stages_are false g inner now = refl

pub parts_are : (g : Game) (inner : Inner) (now : ActionNow) (p : Progress) → act g inner now p ≡ first_decision (map (part_of g inner now) (parts (g.needs now.action).out_of_world)) p
unfolding act
parts_are g inner now p = ap (λ steps. first_decision steps p) (stages_are (g.needs now.action).out_of_world g inner now)
