-- So far so many kinds, and from here on as many as are missing.
use Rattle.std.proofs.Common.{◌≡◌, ◌≤◌, length, ◌+◌}
use Rattle.play_meaning.specs.Tales.{depth_of, depth_within}
use Rattle.rule_order.proofs.specificity.depth_of.Given as goal

abbrev pub invariant-loop-left : goal.invariant-loop-left
invariant-loop-left l = record {
  same : l.depth + depth_within l.kinds (length l.left) l.at ≡ 1 + depth_of l.kinds l.fn.kind;
  bound : l.depth + length l.left ≤ 1 + length l.kinds;
}

abbrev pub decreases-loop-left : goal.decreases-loop-left
decreases-loop-left l = length l.left
