use Rattle.std.proofs.Common.{ap, append-nil, sym, ◌∙◌, ◌++◌, List, ℕ}
use Rattle.i7_kinds.proofs.Walks.{unseen_gone, unseen_marked, unseen_stays, unseen_there}
use Rattle.i7_kinds.proofs.cycles.open.Goals as goal

pub returns-in_ok-add_all-clause-seen : goal.returns-in_ok-add_all-clause-seen
returns-in_ok-add_all-clause-seen c = rw c.see.ensures (unseen_marked c.args.contents.now c.args.seen.now.items c.args.object)

pub returns-in_ok-add_all-clause-todo : goal.returns-in_ok-add_all-clause-todo
returns-in_ok-add_all-clause-todo c =
    c.in_ok-add_all.ensures
    ∙ ap (λ (things : List ℕ). c.args.todo.now.items ++ things) (c.things_in.ensures ∙ sym (unseen_there c.args.contents.now c.args.seen.now.items c.args.object (rw c.as_slice.ensures.value at (sym c.if-is_unseen.ensures))))

pub returns-else-is_unseen-clause-seen : goal.returns-else-is_unseen-clause-seen
returns-else-is_unseen-clause-seen c = unseen_stays c.args.contents.now c.args.seen.now.items c.args.object (rw c.as_slice.ensures.value at (sym c.if-is_unseen.ensures))

pub returns-else-is_unseen-clause-todo : goal.returns-else-is_unseen-clause-todo
returns-else-is_unseen-clause-todo c = sym (ap (λ (things : List ℕ). c.args.todo.now.items ++ things) (unseen_gone c.args.contents.now c.args.seen.now.items c.args.object (rw c.as_slice.ensures.value at (sym c.if-is_unseen.ensures))) ∙ append-nil c.args.todo.now.items)
