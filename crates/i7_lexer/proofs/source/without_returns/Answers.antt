use Rattle.std.proofs.Common.{arith}
use Rattle.i7_lexer.specs.Sources.{without_returns}
use Rattle.i7_lexer.proofs.Returns.{front_step}
use Rattle.i7_lexer.proofs.source.without_returns.Goals as goal

pub loop-rest-preserved : goal.loop-rest-preserved
loop-rest-preserved c = record {
  same = front_step (without_returns c.args.bytes.now) c.loop-rest.out.items c.loop-rest.rest.now _ _ _ _ c.loop-rest.invariant.same c.unreturned_len.ensures.value c.split_at.ensures.front c.split_at.ensures.back c.in_ok-extend_from_slice.ensures.items;
  bound = omega (arith, c.loop-rest.invariant.bound, c.unreturned_len.ensures.bound, c.in_ok-extend_from_slice.ensures.len, c.split_at.ensures.front_len, c.split_at.ensures.back_len);
}
