use Rattle.std.proofs.Common.{◌≡◌, length}
use Rattle.std.specs.Prelude.{fold}
use Rattle.object_words.specs.Mentions.{mention}
use Rattle.i7_claims.proofs.built_in.mention_all.Given as goal

abbrev pub invariant-loop-rest : goal.invariant-loop-rest
invariant-loop-rest l = fold (λ seen name. mention seen name.now) l.books l.rest ≡ fold (λ seen name. mention seen name.now) l.initial.books l.names

abbrev pub decreases-loop-rest : goal.decreases-loop-rest
decreases-loop-rest l = length l.rest
