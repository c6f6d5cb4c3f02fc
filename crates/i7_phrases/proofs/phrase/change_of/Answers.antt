use Rattle.std.proofs.Common.{◌≡◌}
use Rattle.std.specs.Prelude.{option_map}
use Rattle.std.proofs.lemmas.Result.{IfOk-weaker}
use Rattle.i7_conditions.specs.Scopes.{scope_of}
use Rattle.i7_phrases.specs.ChangeForms.{found_simple}
use Rattle.i7_phrases.specs.Limits.{phrase_is_over}
use Rattle.i7_phrases.specs.PhraseForms.{change_said}
use Rattle.i7_phrases.specs.Phrases.{Changes, is_change}
use Rattle.i7_phrases.specs.Told.{IsToldOf}
use Rattle.i7_phrases.proofs.Changed.{changes_found}
use Rattle.i7_phrases.proofs.phrase.change_of.Goals as goal

pub returns : goal.returns
returns c =
    IfOk-weaker c.change_said.result (λ change. option_map found_simple change ≡ change_said (scope_of c.args.scope.now) c.args.said.now)
    (λ change. IsToldOf (is_change c.args.said.now) (Changes (scope_of c.args.scope.now) c.args.said.now) phrase_is_over (option_map found_simple change))
    (λ change e. changes_found (scope_of c.args.scope.now) c.args.said.now (option_map found_simple change) e) c.change_said.ensures
