use Rattle.std.proofs.Common.{◌∙◌, ap, refl, sym, subst, arith, length, length-append}
use Rattle.object_words.specs.Mentions.{number_in}
use Rattle.code_table.specs.Coding.{AreCoded}
use Rattle.code_table.specs.Origins.{origins_meant}
use Rattle.code_table.proofs.Coded.{all_fit, can_be_said, coded_long, too_many_heads, too_many_tests}
use Rattle.code_table.proofs.Heads.{no_number, number_is}
use Rattle.code_table.proofs.Tabled.{all_spelled, table_of_origins}
use Rattle.code_table.proofs.emitting.code_table.Goals as goal

pub returns-in_default-clause-none : goal.returns-in_default-clause-none
returns-in_default-clause-none c = too_many_heads c.args.counts.now (number_in c.args.strings.now) (origins_meant c.args.texts.now c.args.rules.now c.args.scenes.now) c.in_default.ensures

pub returns-in-Err-clause-none : goal.returns-in-Err-clause-none
returns-in-Err-clause-none c = c.in-Err.ensures.none c.in-Some.ensures

pub returns-in_default-number_behind-clause-none : goal.returns-in_default-number_behind-clause-none
returns-in_default-number_behind-clause-none c =
    let z = c.args.counts.now in
    let string = number_in c.args.strings.now in
    let origins = origins_meant c.args.texts.now c.args.rules.now c.args.scenes.now in
    let codes = c.in-Ok.out.codes.items in
    let tests = c.in-Ok.out.tests.items in
    let coded = subst (λ n. AreCoded z string n origins codes tests) c.in-Some.ensures c.in-Ok.ensures.coded in
    too_many_tests z string origins codes tests coded (omega (arith, no_number _ _ (sym c.number_behind.ensures ∙ c.in_default-number_behind.is), c.len.ensures, c.in-Some.ensures, c.in-Ok.out.tests.ok))

pub returns-in-Ok-append-clause-codes : goal.returns-in-Ok-append-clause-codes
returns-in-Ok-append-clause-codes c =
    let z = c.args.counts.now in
    let string = number_in c.args.strings.now in
    let origins = origins_meant c.args.texts.now c.args.rules.now c.args.scenes.now in
    let codes = c.in-Ok.out.codes.items in
    let tests = c.in-Ok.out.tests.items in
    let coded = subst (λ n. AreCoded z string n origins codes tests) c.in-Some.ensures c.in-Ok.ensures.coded in
    all_spelled z string (length c.append.new.self.items) origins codes tests c.append.new.self.items coded c.in-Ok-append.ensures.items refl

pub returns-in-Ok-append-clause-fit : goal.returns-in-Ok-append-clause-fit
returns-in-Ok-append-clause-fit c =
    let z = c.args.counts.now in
    let string = number_in c.args.strings.now in
    let origins = origins_meant c.args.texts.now c.args.rules.now c.args.scenes.now in
    let codes = c.in-Ok.out.codes.items in
    let tests = c.in-Ok.out.tests.items in
    let coded = subst (λ n. AreCoded z string n origins codes tests) c.in-Some.ensures c.in-Ok.ensures.coded in
    all_fit z string (length origins) origins codes tests coded

pub returns-in-Ok-append-clause-said : goal.returns-in-Ok-append-clause-said
returns-in-Ok-append-clause-said c =
    let z = c.args.counts.now in
    let string = number_in c.args.strings.now in
    let origins = origins_meant c.args.texts.now c.args.rules.now c.args.scenes.now in
    let codes = c.in-Ok.out.codes.items in
    let tests = c.in-Ok.out.tests.items in
    let coded = subst (λ n. AreCoded z string n origins codes tests) c.in-Some.ensures c.in-Ok.ensures.coded in
    can_be_said z string origins codes tests coded (omega (arith, (number_is _ _ _ (sym c.number_behind.ensures ∙ c.in-Some-number_behind.is)).1, c.len.ensures, c.in-Some.ensures, c.in-Ok.out.tests.ok))

pub returns-in-Ok-append-clause-table : goal.returns-in-Ok-append-clause-table
returns-in-Ok-append-clause-table c =
    let z = c.args.counts.now in
    let string = number_in c.args.strings.now in
    let origins = origins_meant c.args.texts.now c.args.rules.now c.args.scenes.now in
    let codes = c.in-Ok.out.codes.items in
    let tests = c.in-Ok.out.tests.items in
    let coded = subst (λ n. AreCoded z string n origins codes tests) c.in-Some.ensures c.in-Ok.ensures.coded in
    table_of_origins z string origins codes tests c.append.new.self.items coded c.in-Ok-append.ensures.items

pub returns-in-Ok-append-clause-few : goal.returns-in-Ok-append-clause-few
returns-in-Ok-append-clause-few c =
    let z = c.args.counts.now in
    let string = number_in c.args.strings.now in
    let origins = origins_meant c.args.texts.now c.args.rules.now c.args.scenes.now in
    let codes = c.in-Ok.out.codes.items in
    let tests = c.in-Ok.out.tests.items in
    let coded = subst (λ n. AreCoded z string n origins codes tests) c.in-Some.ensures c.in-Ok.ensures.coded in
    omega (arith, (number_is _ _ _ (sym c.number_behind.ensures ∙ c.in-Some-number_behind.is)).1, c.len.ensures, c.in-Some.ensures, c.in-Ok.out.tests.ok, coded_long z string (length origins) origins codes tests coded, length-append codes tests, ap length c.in-Ok-append.ensures.items)
