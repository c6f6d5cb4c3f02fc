use Rattle.std.proofs.Common.{sym, ◌∙◌}
use Rattle.indexmap.specs.IndexMap.{get}
use Rattle.i7_kinds.specs.Views.{exit_eq}
use Rattle.i7_kinds.proofs.Exits.{copied_none, exit_led}
use Rattle.i7_kinds.proofs.ways.lead_exit.Goals as goal

pub returns-in_ok-insert : goal.returns-in_ok-insert
returns-in_ok-insert c =
    exit_led (λ exit. get exit_eq c.args.targets.now exit) (λ exit. get exit_eq c.insert.new.self exit) c.args.lead.exit c.args.lead.target c.in_ok-insert.ensures.updates.0
    (sym c.get.ensures.value ∙ copied_none c.get.result c.is_none.result c.is_none.ensures c.if-is_none.true)
