use Rattle.std.proofs.lemmas.Result.{IfErr-weaker, on_ok_weaker}
use Rattle.code_table.proofs.SceneCodes.{asked_added, asked_stops, none_added}
use Rattle.code_table.proofs.coding.add_asked.Goals as goal

pub returns-in-Some-clause-coded : goal.returns-in-Some-clause-coded
returns-in-Some-clause-coded c = λ string.
    on_ok_weaker c.add_condition.result
    (asked_added c.args.counts.now string c.args.heads c.args.asked.now c.in-Some.condition c.args.out.now.codes.items c.args.out.now.tests.items c.add_condition.new.out.codes.items c.add_condition.new.out.tests.items c.in-Some.is)
    (c.add_condition.ensures.coded string)

pub returns-in-Some-clause-none : goal.returns-in-Some-clause-none
returns-in-Some-clause-none c = λ string.
    IfErr-weaker c.add_condition.result _ _ (λ fault. asked_stops c.args.counts.now string c.args.heads c.args.asked.now c.in-Some.condition c.args.out.now.codes.items c.args.out.now.tests.items fault c.in-Some.is)
    (c.add_condition.ensures.none string)

pub returns-in-None-clause-coded : goal.returns-in-None-clause-coded
returns-in-None-clause-coded c = λ string. none_added c.args.counts.now string c.args.heads c.args.asked.now c.args.out.now.codes.items c.args.out.now.tests.items c.in-None.is
