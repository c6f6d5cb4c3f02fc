use Rattle.i7_lexer.proofs.Joining.{drop-push, spaced-push, start-push}
use Rattle.std.proofs.Common.{arith}
use Rattle.i7_lexer.proofs.joins.push_spaced_words.Goals as goal

pub loop-left-preserved : goal.loop-left-preserved
loop-left-preserved c = record {
  words = spaced-push c.loop-left.bytes.items _ _ c.loop-left.left c.in-Some.other c.loop-left.rest c.in-Some.after (omega (arith, c.loop-left-test.true)) c.in-Some.ensures c.in_ok-push_spaced.ensures c.loop-left.invariant.words;
  start = start-push c.loop-left.start _ _ c.loop-left.left c.in-Some.other c.loop-left.rest c.in-Some.after (omega (arith, c.loop-left-test.true)) c.in-Some.ensures c.with_other-start.ensures c.loop-left.invariant.start;
  rest = drop-push c.loop-left.left c.in-Some.other c.loop-left.rest c.in-Some.after _ (omega (arith, c.loop-left-test.true)) c.in-Some.ensures c.loop-left.invariant.rest;
}
