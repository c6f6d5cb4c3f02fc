use Rattle.std.proofs.Common.{◌∙◌, ap, sym, ℕ, List}
use Rattle.std.specs.Prelude.{bytes_eq}
use Rattle.std.specs.Global.{Vec}
use Rattle.std.specs.Map.{lookup}
use Rattle.indexmap.proofs.CallerLemmas.{insert_entry-new}
use Rattle.i7_conditions.proofs.Kept.{copied_none, told_behind}
use Rattle.i7_conditions.proofs.names.keep_plural.Goals as goal

pub returns-in_ok-insert : goal.returns-in_ok-insert
returns-in_ok-insert c =
    let here = ap (λ (s : List ℕ). lookup (λ (k : Vec ℕ). bytes_eq s k.items) c.args.plurals.now.entries) (sym c.as_slice.ensures.value) in
    let none = here ∙ sym c.get.ensures.value ∙ copied_none c.get.result c.is_none.result c.is_none.ensures c.if-is_none.true in
    let more = c.in_ok-insert.ensures.entries ∙ insert_entry-new (λ k l. bytes_eq k.items l.items) c.args.plurals.now c.args.plural c.args.kind none in
    λ i word. told_behind c.args.plurals.now.entries c.insert.new.self.entries c.args.plural c.args.kind more word i
