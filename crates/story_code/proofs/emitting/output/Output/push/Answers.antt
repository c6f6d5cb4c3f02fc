use Rattle.std.proofs.Common.{false, sym, ap, ◌∙◌}
use Rattle.play_meaning.specs.Instructions.{sizes}
use Rattle.play_meaning.specs.Translation.{one}
use Rattle.story_code.specs.Emitting.{can_say_all, emitted, kept_if}
use Rattle.story_code.proofs.Followed.{emitted_more, fits_behind, fits_no_more, none_kept}
use Rattle.story_code.proofs.emitting.output.Output.push.Goals as goal

pub returns-then-not-self : goal.returns-then-not-self
returns-then-not-self c = sym c.self.view_is ∙ none_kept _ _ _ _ c.if-not-self.true ∙ ap (λ s. emitted s (one c.args.instruction)) c.self.view_is

pub invariant_of-self-in-Some : goal.invariant_of-self-in-Some
invariant_of-self-in-Some c = λ t.
    let all = fits_behind _ _ _ _ _ (c.self.invariant t).1 (c.self.invariant t).0 (sym c.place_behind.ensures ∙ c.in-Some.is) in
    (all.0 ∙ ap sizes (sym c.in_ok-push-in-Some.ensures.items), ap (λ code. can_say_all (record { code = code; tests = c.self.inside.tests.items })) c.in_ok-push-in-Some.ensures.items ∙ all.1)

pub returns-in_ok-push-in-Some : goal.returns-in_ok-push-in-Some
returns-in_ok-push-in-Some c =
    let fits = c.if-not-self.false in
    let kept = c.self.invariant fits in
    let all = fits_behind _ _ _ _ _ kept.1 kept.0 (sym c.place_behind.ensures ∙ c.in-Some.is) in
    ap (λ code. record { first = c.self.inside.first; kept = kept_if c.self.inside.fits (record { code = code; tests = c.self.inside.tests.items }) }) c.in_ok-push-in-Some.ensures.items
    ∙ emitted_more _ _ _ _ _ _ fits (fits ∙ sym all.1)
    ∙ ap (λ s. emitted s (one c.args.instruction)) c.self.view_is

pub returns-in-None : goal.returns-in-None
returns-in-None c =
    let fits = c.if-not-self.false in
    let kept = c.self.invariant fits in
    emitted_more _ _ _ _ _ false fits (sym (fits_no_more _ _ _ _ kept.1 kept.0 (sym c.place_behind.ensures ∙ c.in-None.is)))
    ∙ ap (λ s. emitted s (one c.args.instruction)) c.self.view_is
