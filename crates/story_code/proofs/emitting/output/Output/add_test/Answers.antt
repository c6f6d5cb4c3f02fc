use Rattle.std.proofs.Common.{◌++◌, [], ◌∷◌, true, false, sym, ap, ◌∙◌}
use Rattle.story_code.specs.Emitting.{can_say_all, can_say_code, emitted, only_test}
use Rattle.story_code.proofs.Followed.{emitted_test, fits_test, none_kept}
use Rattle.story_code.proofs.emitting.output.Output.add_test.Goals as goal

pub returns-then-not-self : goal.returns-then-not-self
returns-then-not-self c = sym c.self.view_is ∙ none_kept _ _ _ _ c.if-not-self.true ∙ ap (λ s. emitted s (only_test c.args.test.items)) c.self.view_is

pub invariant_of-self : goal.invariant_of-self
invariant_of-self c = λ t. (
  (c.self.invariant t).0,
  ap (λ tests. can_say_all (record { code = c.self.inside.code.items; tests = tests })) c.in_ok-push.ensures.items
      ∙ ap (λ test. can_say_all (record { code = c.self.inside.code.items; tests = c.self.inside.tests.items ++ test ∷ [] })) c.new.ensures
      ∙ fits_test _ _ _ true (c.self.invariant t).1 (ap can_say_code (sym c.as_slice.ensures.value) ∙ sym c.can_say.ensures ∙ c.if-can_say.true),
)

pub returns-in_ok-push : goal.returns-in_ok-push
returns-in_ok-push c =
    let fits = c.if-not-self.false in
    let can = fits_test _ _ _ true (c.self.invariant fits).1 (ap can_say_code (sym c.as_slice.ensures.value) ∙ sym c.can_say.ensures ∙ c.if-can_say.true) in
    emitted_test _ _ _ _ _ _ _ fits (λ t. ap (λ tests. record { code = c.self.inside.code.items; tests = tests }) c.in_ok-push.ensures.items ∙ ap (λ test. record { code = c.self.inside.code.items; tests = c.self.inside.tests.items ++ test ∷ [] }) c.new.ensures) (fits ∙ sym can)
    ∙ ap (λ s. emitted s (only_test c.args.test.items)) c.self.view_is

pub returns-else-can_say : goal.returns-else-can_say
returns-else-can_say c =
    let fits = c.if-not-self.false in
    let can = fits_test _ _ _ false (c.self.invariant fits).1 (ap can_say_code (sym c.as_slice.ensures.value) ∙ sym c.can_say.ensures ∙ c.if-can_say.false) in
    emitted_test _ _ _ c.args.test.items _ false (record { code = []; tests = [] }) fits (λ t. let no : ⊥ = cc in absurd no) (sym can)
    ∙ ap (λ s. emitted s (only_test c.args.test.items)) c.self.view_is
