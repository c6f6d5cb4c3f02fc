use Rattle.std.proofs.Common.{◌∙◌, ◌++◌, ◌∷◌, List, [], ℕ, ap}
use Rattle.i7_kinds.specs.Cycles.{encloses, unseen}
use Rattle.i7_kinds.proofs.Walks.{first_step, less_left, step_on}
use Rattle.i7_kinds.proofs.cycles.encloses.Goals as goal

pub loop-at-init : goal.loop-at-init
loop-at-init c =
    first_step c.args.contents.now c.in_ok-seen.seen.items c.push_back.new.self.items c.args.object c.args.other
    (c.in_ok-seen.ensures.items_if_clones_equal (λ y same. same))
    (c.in_ok-push_back.ensures.items ∙ ap (λ (todo : List ℕ). todo ++ c.args.object ∷ []) c.new-todo.ensures.items)

pub loop-at-smaller : goal.loop-at-smaller
loop-at-smaller c =
    let contents = c.args.contents.now in
    rw c.in-Some.ensures.items (less_left (unseen contents c.loop-at.seen.items) (unseen contents c.open.new.seen.items) c.in-Some.at c.pop_front.new.self.items c.open.new.todo.items
    c.in_ok-open.ensures.seen
    c.in_ok-open.ensures.todo)

pub loop-at-preserved : goal.loop-at-preserved
loop-at-preserved c =
    let contents = c.args.contents.now in
    step_on (unseen contents c.loop-at.seen.items) (unseen contents c.open.new.seen.items) c.in-Some.at c.pop_front.new.self.items c.open.new.todo.items c.args.other (encloses contents c.args.object c.args.other)
    c.in_ok-open.ensures.seen
    c.in_ok-open.ensures.todo
    c.if-at-other.false
    (rw c.in-Some.ensures.items at c.loop-at.invariant)
