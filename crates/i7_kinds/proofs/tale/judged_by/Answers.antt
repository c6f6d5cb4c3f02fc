use Rattle.std.proofs.Common.{refl, sym, ◌∙◌}
use Rattle.i7_kinds.specs.StatedWays.{stated}
use Rattle.i7_kinds.proofs.Readiness.{ready_at}
use Rattle.i7_claims.specs.Views.{mentions_of}
use Rattle.i7_kinds.proofs.tale.judged_by.Goals as goal

pub tale_made-requires-clause-ready : goal.tale_made-requires-clause-ready
tale_made-requires-clause-ready c =
    let statements = stated c.args.ways.now in
    ready_at c.args.scope.now c.args.claims.now statements statements (mentions_of c.args.mentions.now) c.args.knowns.now refl c.requires.knowns
    c.requires.scope c.requires.within c.requires.counted (sym c.in_ok-refused.ensures ∙ c.in_default.is)
