use Rattle.std.proofs.lemmas.Result.{IfErr-weaker, IfOk-weaker}
use Rattle.story_format.specs.Contents.{contents_meant}
use Rattle.story_format.proofs.CodedTables.{are_held, coded_is, none_so, on_both, too_many}
use Rattle.story_format.proofs.coding.tables_of.Goals as goal

pub returns-then-not-are_few-clause-none : goal.returns-then-not-are_few-clause-none
returns-then-not-are_few-clause-none c =
    too_many c.args.tale.now (contents_meant c.args.contents.now) c.in-Ok.strings c.in-Ok.tables c.in-Ok.ensures.strings c.in-Ok.ensures.tables c.as_slice.result.now c.as_slice.ensures c.are_few.result c.are_few.ensures
    c.if-not-are_few.true

pub returns-clause-tables : goal.returns-clause-tables
returns-clause-tables c =
    IfOk-weaker c.with_codes.result _ _
    (λ coded is. coded_is c.args.tale.now (contents_meant c.args.contents.now) c.in-Ok.strings c.in-Ok.tables c.in-Ok.ensures.strings c.in-Ok.ensures.tables coded is) c.with_codes.ensures.coded

pub returns-clause-said : goal.returns-clause-said
returns-clause-said c =
    on_both c.with_codes.result c.with_codes.ensures.fit c.with_codes.ensures.said
    (λ fit said. are_held c.args.tale.now (contents_meant c.args.contents.now) c.in-Ok.strings c.in-Ok.tables c.in-Ok.ensures.strings c.in-Ok.ensures.tables c.as_slice.result.now c.as_slice.ensures c.are_few.result
    c.are_few.ensures c.requires.are_of c.if-not-are_few.false fit said)

pub returns-clause-none : goal.returns-clause-none
returns-clause-none c =
    IfErr-weaker c.with_codes.result _ _
    (λ fault none. none_so c.args.tale.now (contents_meant c.args.contents.now) c.in-Ok.strings c.in-Ok.tables c.in-Ok.ensures.strings c.in-Ok.ensures.tables fault none) c.with_codes.ensures.none
