use Rattle.std.proofs.Common.{ap, sym, ℕ, List, ◌∙◌}
use Rattle.std.specs.List.{list_any}
use Rattle.std.specs.Str.{bytes_eq}
use Rattle.object_words.proofs.StringLemmas.{added, was_there}
use Rattle.object_words.proofs.strings.Strings.mention.Goals as goal

pub returns-in_ok-insert : goal.returns-in_ok-insert
returns-in_ok-insert c =
    let same = c.in_ok-from_slice.ensures.items in
    rw (c.in_ok-insert.ensures.keys, ← c.self.view_is) (added _ c.self.inside.set.keys c.in_ok-from_slice.field-0 c.args.string.now same (ap (λ (s : List ℕ). list_any (λ key. bytes_eq s key.items) c.self.inside.set.keys) same))

pub returns-else-not-contains : goal.returns-else-not-contains
returns-else-not-contains c = rw (← c.self.view_is) (was_there c.self.inside.set.keys c.args.string.now (sym c.contains.ensures ∙ c.if-not-contains.false))
