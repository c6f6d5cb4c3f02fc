use Rattle.std.proofs.Common.{ap, ◌∙◌}
use Rattle.i7_claims.specs.Statements.{key_of, number_in}
use Rattle.i7_claims.proofs.names.Names.number_of.Goals as goal

pub returns : goal.returns
returns c = c.number_in.ensures ∙ ap (λ key. number_in c.args.self.now.keys key) (c.as_slice-2.ensures.value ∙ c.in_ok-key.ensures ∙ ap key_of c.as_slice.ensures)
