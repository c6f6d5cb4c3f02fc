use Rattle.std.proofs.Common.{◌≡◌, ap, ◌∙◌}
use Rattle.std.proofs.lemmas.Result.{IfOk-weaker}
use Rattle.i7_conditions.specs.Readings.{IsFoundAs, one}
use Rattle.i7_conditions.specs.Scopes.{scope_of}
use Rattle.i7_phrases.specs.ChangeForms.{found_simple}
use Rattle.i7_phrases.specs.Limits.{phrase_is_over}
use Rattle.i7_phrases.specs.Texts.{found_text}
use Rattle.i7_rules.specs.Doings.{SaysSo}
use Rattle.i7_rules.specs.Saying.{saying}
use Rattle.i7_rules.proofs.Told.{text_told}
use Rattle.i7_rules.proofs.saying.said_of.Goals as goal

pub returns : goal.returns
returns c =
    let text = found_text c.in_ok-text.text in
    IfOk-weaker c.said_so.result
    (λ found. found_simple found ≡ one (saying c.ends_sentence.result) text)
    (λ found. IsFoundAs (SaysSo (scope_of c.args.scope.now) c.args.pieces.now) phrase_is_over (found_simple found))
    (λ found e. text_told (scope_of c.args.scope.now) c.args.pieces.now text (found_simple found)
    (e ∙ ap (λ ends. one (saying ends) text) c.ends_sentence.ensures) c.in_ok-text.ensures)
    c.said_so.ensures
