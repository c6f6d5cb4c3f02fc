use Rattle.std.proofs.Common.{◌∙◌, ap}
use Rattle.play_meaning.specs.declared.operand.Counts.{Counts}
use Rattle.story_code.specs.SoundlyEmitted.{among}
use Rattle.story_format.specs.Contents.{contents_meant}
use Rattle.story_format.proofs.CodedTables.{counted}
use Rattle.story_format.proofs.coding.numbered.Goals as goal

pub returns-clause-counts : goal.returns-clause-counts
returns-clause-counts c = λ own codes.
    ap (λ (z : Counts). among z own codes) c.counts_of.ensures
    ∙ counted c.args.tale.now (contents_meant c.args.contents.now) c.in_ok-strings.strings c.in_ok-strings.tables c.in_ok-strings.ensures.strings c.in_ok-strings.ensures.tables own codes
