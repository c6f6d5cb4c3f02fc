use Rattle.std.proofs.Common.{sym, ◌∙◌}
use Rattle.i7_kinds.proofs.Rising.{no_cycle}
use Rattle.i7_kinds.proofs.cycles.are_ranked.Goals as goal

pub returns : goal.returns
returns c ranked = no_cycle c.args.scope.now.objects c.as_slice-2.result.now c.args.claims.now (rw (c.as_slice-3.ensures.value, c.in_ok-contents.ensures) at (sym c.rise.ensures ∙ ranked))
