use Rattle.std.proofs.Common.{◌∙◌, ◌++◌, ap, sym, length, map}
use Rattle.code_table.specs.Strings.{counted_on, strings_of}
use Rattle.code_table.proofs.Grown.{found_code}
use Rattle.story_code.specs.Runs.{code_told}
use Rattle.story_format.specs.Checks.{strings_in_tables}
use Rattle.story_format.specs.Soundness.{are_in_turn, is_count}
use Rattle.story_format.specs.ValueChecks.{strings_in_values}
use Rattle.story_format.proofs.SoundOrNot.{sound, unsound}
use Rattle.story_format.proofs.codes.codes_of.Goals as goal

pub returns-then-not-branch : goal.returns-then-not-branch
returns-then-not-branch c =
    unsound c.args.tables.now c.in-Some.codes.items c.counts_of.result c.as_slice-2.result.now c.as_slice-bytes.result.now c.counts_of.ensures (c.as_slice-2.ensures.value ∙ c.in_ok-uses.ensures) c.as_slice-bytes.ensures
    (found_code _ _ c.in_ok-codes.field-0 c.in-Some.codes c.in-Some.is c.in_ok-codes.ensures) c.in_ok-are_all_named.field-0
    (c.in_ok-are_all_named.ensures ∙ ap (λ codes. is_count (length c.args.tables.now.strings) (counted_on 0 ((strings_in_tables c.args.tables.now ++ strings_of (map code_told codes)) ++ strings_in_values c.args.tables.now.values.kinds))) c.as_slice-3.ensures.value) c.if-not-branch.true

pub returns : goal.returns
returns c =
    sound c.args.tables.now c.in-Some.codes.items c.counts_of.result c.as_slice-2.result.now c.as_slice-bytes.result.now c.counts_of.ensures (c.as_slice-2.ensures.value ∙ c.in_ok-uses.ensures) c.as_slice-bytes.ensures
    (found_code _ _ c.in_ok-codes.field-0 c.in-Some.codes c.in-Some.is c.in_ok-codes.ensures) c.in_ok-are_all_named.field-0
    (c.in_ok-are_all_named.ensures ∙ ap (λ codes. is_count (length c.args.tables.now.strings) (counted_on 0 ((strings_in_tables c.args.tables.now ++ strings_of (map code_told codes)) ++ strings_in_values c.args.tables.now.values.kinds))) c.as_slice-3.ensures.value) c.if-not-branch.false
    (ap (are_in_turn 0) (sym (c.as_slice.ensures.value ∙ c.in_ok-heads_named.ensures)) ∙ sym c.are_in_turn.ensures ∙ c.if-not-are_in_turn.false)
