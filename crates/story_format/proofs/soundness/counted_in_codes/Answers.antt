use Rattle.std.proofs.Common.{◌∙◌, map}
use Rattle.code_table.specs.Strings.{strings_of}
use Rattle.story_code.specs.Runs.{code_told}
use Rattle.story_format.specs.Checks.{strings_in_tables}
use Rattle.story_format.proofs.Counting.{front_uncounted, back_counted}
use Rattle.story_format.proofs.soundness.counted_in_codes.Goals as goal

pub returns-in_default : goal.returns-in_default
returns-in_default c =
    front_uncounted (strings_in_tables c.args.tables.now) (strings_of (map code_told c.args.codes.now)) c.as_slice.result.now c.counted.result c.counted.ensures
    (c.as_slice.ensures.value ∙ c.in_ok-numbers.ensures) c.in_default.is

pub returns : goal.returns
returns c =
    back_counted (strings_in_tables c.args.tables.now) (strings_of (map code_told c.args.codes.now)) c.as_slice.result.now c.counted.result c.counted.ensures
    (c.as_slice.ensures.value ∙ c.in_ok-numbers.ensures) c.in-Some.next c.strings_counted.result c.in-Some.is c.strings_counted.ensures
