use Rattle.std.proofs.Common.{◌≡◌, Some, sym, ◌∙◌}
use Rattle.i7_conditions.proofs.Nested.{body_is_nested}
use Rattle.i7_conditions.proofs.nesting.one_body_is_nested.Goals as goal

pub returns : goal.returns
returns c = λ lines a b is_a is_b. let same : Some a ≡ Some b = sym (body_is_nested lines a is_a) ∙ body_is_nested lines b is_b in cc
