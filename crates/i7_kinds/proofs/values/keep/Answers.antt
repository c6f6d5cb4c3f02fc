use Rattle.std.proofs.Common.{sym, ◌∙◌}
use Rattle.indexmap.specs.IndexMap.{get}
use Rattle.i7_kinds.specs.Values.{slot_eq}
use Rattle.i7_kinds.proofs.ValueScans.{no_value, slot_kept}
use Rattle.i7_kinds.proofs.values.keep.Goals as goal

pub returns-in_ok-insert : goal.returns-in_ok-insert
returns-in_ok-insert c =
    slot_kept (λ slot. get slot_eq c.args.values.now slot) (λ slot. get slot_eq c.insert.new.self slot) c.args.slot c.args.value c.in_ok-insert.ensures.updates.0
    (sym c.get.ensures.value ∙ no_value c.get.result c.is_none.result c.is_none.ensures c.if-is_none.true)
