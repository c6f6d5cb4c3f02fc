use Rattle.std.proofs.Common.{◌∙◌, ap, length, sym}
use Rattle.object_words.proofs.StringLemmas.{length_mapped}
use Rattle.story_format.specs.Facts.{text_at}
use Rattle.story_format.proofs.story.Story.word_count.Goals as goal

pub returns : goal.returns
returns c = sym (length_mapped (text_at c.args.self.now.strings) c.words.result.now) ∙ ap (λ ws. length ws) c.words.ensures
