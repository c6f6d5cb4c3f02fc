use Rattle.std.proofs.Common.{◌∙◌}
use Rattle.object_words.proofs.WordLemmas.{mentions_on, mentions_last}
use Rattle.object_words.proofs.words.mention_words.Goals as goal

pub loop-end-preserved : goal.loop-end-preserved
loop-end-preserved c =
    rw (c.split_at-in-Some.ensures.back, c.split_at.ensures.back, c.in_ok-mention_piece.ensures, c.split_at.ensures.front) (mentions_on c.loop-end.words c.loop-end.rest.now c.in-Some.end c.in-Some.ensures ∙ c.loop-end.invariant)

pub returns : goal.returns
returns c = rw c.in_ok-mention_piece-2.ensures (mentions_last c.loop-end.words c.loop-end.rest.now c.in_default.ensures ∙ c.loop-end.invariant)
