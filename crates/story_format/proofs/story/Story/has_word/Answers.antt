use Rattle.std.proofs.Common.{◌∙◌, ap}
use Rattle.std.specs.List.{list_any}
use Rattle.object_words.proofs.StringLemmas.{any_mapped}
use Rattle.world_meaning.specs.Spelling.{is_spelled}
use Rattle.story_format.specs.Facts.{text_at}
use Rattle.story_format.specs.declared.tables.Tables.{Tables}
use Rattle.story_format.proofs.story.Story.has_word.Goals as goal

pub returns : goal.returns
returns c =
    let word = c.args.word.now in
    let texts = c.args.self.now.strings in
    rw (← c.words.ensures) (rw (any_mapped (text_at texts) (is_spelled word) c.words.result.now) (c.hold_word.ensures ∙ ap (λ ts. list_any (λ n. is_spelled word (text_at ts n)) c.words.result.now) (c.as_slice.ensures ∙ ap (λ (t : Tables). t.strings) c.self.view_is)))
