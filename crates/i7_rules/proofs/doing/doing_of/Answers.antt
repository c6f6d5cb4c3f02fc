use Rattle.std.proofs.Common.{sym, ap, ◌∙◌, subst}
use Rattle.std.specs.Prelude.{IfOk}
use Rattle.std.proofs.lemmas.Result.{IfOk-weaker}
use Rattle.i7_conditions.specs.Readings.{IsFoundAs}
use Rattle.i7_conditions.specs.Scopes.{scope_of}
use Rattle.i7_phrases.specs.ChangeForms.{found_simple}
use Rattle.i7_phrases.specs.Limits.{phrase_is_over}
use Rattle.i7_rules.specs.Doings.{ChangesOrEnds, Does, SaysSo}
use Rattle.i7_rules.specs.Knowns.{known_of}
use Rattle.i7_rules.proofs.Told.{other_does, says_does}
use Rattle.i7_sentences.specs.declared.spoken.Spoken.{Spoken}
use Rattle.i7_sentences.specs.declared.spoken.Spoken.TheVariants as spoken
use Rattle.i7_rules.proofs.doing.doing_of.Goals as goal

pub returns-in-Say : goal.returns-in-Say
returns-in-Say c =
    let does = says_does (known_of c.args.known.now) (scope_of c.args.scope.now) c.args.said.now c.as_slice.result.now _ _ c.in-Say.is c.as_slice.ensures in
    IfOk-weaker c.said_of.result (λ found. IsFoundAs (SaysSo (scope_of c.args.scope.now) c.as_slice.result.now) phrase_is_over (found_simple found))
    (λ found. IsFoundAs (Does (known_of c.args.known.now) (scope_of c.args.scope.now) c.args.said.now) phrase_is_over (found_simple found))
    (λ found h. does (found_simple found) h) c.said_of.ensures

pub returns-in-Try : goal.returns-in-Try
returns-in-Try c =
    subst (λ (said : Spoken). IfOk c.try_of.result (λ found. IsFoundAs (Does (known_of c.args.known.now) (scope_of c.args.scope.now) said) phrase_is_over (found_simple found)))
    (ap (spoken.Try c.in-Try.is_silent) c.as_slice-in-Try.ensures ∙ sym c.in-Try.is) c.try_of.ensures

pub returns-in-Follow : goal.returns-in-Follow
returns-in-Follow c =
    subst (λ (said : Spoken). IfOk c.follow_of.result (λ found. IsFoundAs (Does (known_of c.args.known.now) (scope_of c.args.scope.now) said) phrase_is_over (found_simple found)))
    (ap spoken.Follow c.as_slice-in-Follow.ensures ∙ sym c.in-Follow.is) c.follow_of.ensures

pub returns-in_default : goal.returns-in_default
returns-in_default c =
    IfOk-weaker c.other_of.result (λ found. IsFoundAs (ChangesOrEnds (scope_of c.args.scope.now) c.args.said.now) phrase_is_over (found_simple found))
    (λ found. IsFoundAs (Does (known_of c.args.known.now) (scope_of c.args.scope.now) c.args.said.now) phrase_is_over (found_simple found))
    (λ found h. other_does (known_of c.args.known.now) (scope_of c.args.scope.now) c.args.said.now (found_simple found) c.in_default.not-Say c.in_default.not-Try c.in_default.not-Follow h)
    c.other_of.ensures
