use Rattle.std.proofs.Common.{arith, refl, sym}
use Rattle.std.proofs.lemmas.Bool.{eqb-false}
use Rattle.i7_lexer.proofs.Cutting.{so_far-bound, so_far-unclosed, next-within}
use Rattle.i7_lexer.proofs.Placing.{surveyed-start, surveyed-kept, surveyed-passed, surveyed-all}
use Rattle.i7_lexer.proofs.survey.survey_of.Goals as goal

pub loop-rest-init : goal.loop-rest-init
loop-rest-init c = rw (c.at_front-at.ensures, c.at_front-depth.ensures) (surveyed-start c.args.text.now, omega arith)

pub returns-in_default-clause-fault : goal.returns-in_default-clause-fault
returns-in_default-clause-fault c =
    (refl, so_far-unclosed c.args.text.now c.loop-rest.rest.now c.loop-rest.at c.loop-rest.invariant.0.so_far (omega (arith, eqb-false _ 0 (sym c.loop-rest-test.ensures))) c.in_default.ensures)

pub after-behind-requires-clause-lines : goal.after-behind-requires-clause-lines
after-behind-requires-clause-lines c =
    let within = next-within c.loop-rest.rest.now c.in-Some.lexeme c.in-Some.after.now c.in-Some.ensures in
    omega (arith, so_far-bound c.args.text.now c.loop-rest.rest.now c.loop-rest.at c.loop-rest.invariant.0.so_far, within.0, within.1)

pub after-behind-requires-clause-short : goal.after-behind-requires-clause-short
after-behind-requires-clause-short c =
    let within = next-within c.loop-rest.rest.now c.in-Some.lexeme c.in-Some.after.now c.in-Some.ensures in
    omega (arith, so_far-bound c.args.text.now c.loop-rest.rest.now c.loop-rest.at c.loop-rest.invariant.0.so_far, within.0)

pub loop-rest-smaller-in-Kept : goal.loop-rest-smaller-in-Kept
loop-rest-smaller-in-Kept c =
    (next-within c.loop-rest.rest.now c.in-Some.lexeme c.in-Some.after.now c.in-Some.ensures).2

pub loop-rest-preserved-in-Kept : goal.loop-rest-preserved-in-Kept
loop-rest-preserved-in-Kept c =
    let less = (next-within c.loop-rest.rest.now c.in-Some.lexeme c.in-Some.after.now c.in-Some.ensures).2 in
    (surveyed-kept c.args.text.now c.loop-rest.rest.now c.in-Some.after.now c.loop-rest.at _ c.loop-rest.depth _ c.in-Some.lexeme c.in-Kept.piece c.loop-rest.invariant.0 c.in-Some.ensures c.after-behind.ensures c.in-Kept.is c.with-depth.ensures, omega (arith, less, c.loop-rest.invariant.1))

pub loop-rest-smaller : goal.loop-rest-smaller
loop-rest-smaller c =
    (next-within c.loop-rest.rest.now c.in-Some.lexeme c.in-Some.after.now c.in-Some.ensures).2

pub loop-rest-preserved : goal.loop-rest-preserved
loop-rest-preserved c =
    let less = (next-within c.loop-rest.rest.now c.in-Some.lexeme c.in-Some.after.now c.in-Some.ensures).2 in
    (surveyed-passed c.args.text.now c.loop-rest.rest.now c.in-Some.after.now c.loop-rest.at _ c.loop-rest.depth c.in-Some.lexeme c.loop-rest.invariant.0 c.in-Some.ensures c.after-behind.ensures c.in_default-lexeme.not-Kept, omega (arith, less, c.loop-rest.invariant.1))

pub returns-clause-placed : goal.returns-clause-placed
returns-clause-placed c =
    (surveyed-all c.args.text.now c.loop-rest.rest.now c.loop-rest.at c.loop-rest.depth c.loop-rest.invariant.0 (sym c.loop-rest-test.ensures)).placed

pub returns-clause-depth : goal.returns-clause-depth
returns-clause-depth c =
    (surveyed-all c.args.text.now c.loop-rest.rest.now c.loop-rest.at c.loop-rest.depth c.loop-rest.invariant.0 (sym c.loop-rest-test.ensures)).depth
