use Rattle.std.proofs.Common.{sym, ◌∙◌}
use Rattle.std.proofs.lemmas.Bool.{ltb-true}
use Rattle.i7_claims.specs.NameScans.{standing_at}
use Rattle.i7_claims.proofs.Lengths.{no_long_kind}
use Rattle.i7_claims.proofs.phrases.kind_said.Goals as goal

pub returns-then-is_too_long : goal.returns-then-is_too_long
returns-then-is_too_long c =
    let long = ltb-true _ _ (sym c.is_too_long.ensures ∙ c.if-is_too_long.true) in
    sym (no_long_kind c.args.most (standing_at c.args.known.now) c.args.is_joined c.args.words.now c.requires.short long)
