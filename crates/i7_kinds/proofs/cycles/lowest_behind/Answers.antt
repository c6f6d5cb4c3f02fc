use Rattle.i7_kinds.proofs.Rising.{behind}
use Rattle.i7_kinds.proofs.cycles.lowest_behind.Goals as goal

pub loop-rest-init : goal.loop-rest-init
loop-rest-init c = rw c.in_ok-contents.ensures (behind c.args.scope.now.objects c.args.front.now c.args.claims.now c.requires)
