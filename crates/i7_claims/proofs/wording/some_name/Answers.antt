use Rattle.std.proofs.Common.{length, sym, ap, ◌∙◌, arith}
use Rattle.std.proofs.lemmas.Bool.{ltb-true}
use Rattle.i7_claims.specs.NameScans.{standing_at}
use Rattle.i7_claims.proofs.Lengths.{no_longer_name}
use Rattle.i7_claims.proofs.wording.some_name.Goals as goal

pub returns-then-is_too_long : goal.returns-then-is_too_long
returns-then-is_too_long c =
    let long = ltb-true _ _ (sym c.is_too_long.ensures ∙ c.if-is_too_long.true) in
    let same = ap length c.as_slice.ensures.value in
    sym (no_longer_name c.args.most (standing_at c.args.known.now) c.args.is_joined c.args.column.now c.loop-rest.front.items c.loop-rest.rest.now c.requires.short (omega (arith, long, same))) ∙ c.loop-rest.invariant
