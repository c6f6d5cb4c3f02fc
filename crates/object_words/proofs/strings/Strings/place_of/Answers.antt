use Rattle.std.proofs.Common.{◌∙◌, sym}
use Rattle.std.specs.Str.{bytes_eq}
use Rattle.object_words.proofs.StringLemmas.{position_mapped}
use Rattle.object_words.proofs.strings.Strings.place_of.Goals as goal

pub returns : goal.returns
returns c = rw (← c.self.view_is) (c.get_index_of.ensures.index ∙ sym (position_mapped (λ key. key.items) (bytes_eq c.args.string.now) c.self.inside.set.keys))
