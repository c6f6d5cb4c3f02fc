use Rattle.std.proofs.Common.{◌++◌, ◌∙◌, ap, sym, length, map, nat_eq}
use Rattle.code_table.specs.Strings.{strings_of}
use Rattle.story_code.specs.Runs.{code_told}
use Rattle.story_format.specs.Checks.{strings_in_tables}
use Rattle.story_format.specs.Soundness.{is_count}
use Rattle.story_format.specs.ValueChecks.{strings_in_values}
use Rattle.story_format.proofs.Counting.{all_behind, none_behind}
use Rattle.story_format.proofs.soundness.are_all_named.Goals as goal

pub returns-in_default : goal.returns-in_default
returns-in_default c =
    none_behind (length c.args.tables.now.strings) (strings_in_tables c.args.tables.now ++ strings_of (map code_told c.args.codes.now)) (strings_in_values c.args.tables.now.values.kinds) c.in_ok-next.field-0 c.in_ok-next.ensures c.in_default.is

pub returns-in-Some-counted : goal.returns-in-Some-counted
returns-in-Some-counted c =
    ap (λ strings. nat_eq c.in-Some-counted.count (length strings)) c.as_slice-in-Some-counted.ensures ∙ ap (is_count (length c.args.tables.now.strings)) (sym c.in-Some-counted.is)
    ∙ all_behind (length c.args.tables.now.strings) (strings_in_tables c.args.tables.now ++ strings_of (map code_told c.args.codes.now)) (strings_in_values c.args.tables.now.values.kinds) c.in_ok-next.field-0 c.in_ok-next.ensures
    c.as_slice-2.result.now c.in-Some.next c.counted.result (c.as_slice-2.ensures.value ∙ c.in_ok-numbers.ensures ∙ ap strings_in_values c.as_slice.ensures) c.in-Some.is c.counted.ensures

pub returns : goal.returns
returns c =
    ap (is_count (length c.args.tables.now.strings)) (sym c.in-None.is)
    ∙ all_behind (length c.args.tables.now.strings) (strings_in_tables c.args.tables.now ++ strings_of (map code_told c.args.codes.now)) (strings_in_values c.args.tables.now.values.kinds) c.in_ok-next.field-0 c.in_ok-next.ensures
    c.as_slice-2.result.now c.in-Some.next c.counted.result (c.as_slice-2.ensures.value ∙ c.in_ok-numbers.ensures ∙ ap strings_in_values c.as_slice.ensures) c.in-Some.is c.counted.ensures
