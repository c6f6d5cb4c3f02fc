use Rattle.std.proofs.Common.{sym, ap, ◌∙◌}
use Rattle.play_meaning.specs.Translation.{one}
use Rattle.story_code.specs.Emitting.{emitted}
use Rattle.story_code.proofs.Followed.{named_test, no_test}
use Rattle.story_code.proofs.emitting.output.Output.push_test.Goals as goal

pub returns-in_ok-add_test-in-Some : goal.returns-in_ok-add_test-in-Some
returns-in_ok-add_test-in-Some c = c.in_ok-add_test-in-Some.ensures ∙ named_test _ _ _ _ _ (sym c.next_test.ensures ∙ c.in-Some.is) (c.in_ok-push-in-Some.ensures ∙ ap (λ i. emitted c.args.self.now (one i)) c.named.ensures)

pub returns-in-None : goal.returns-in-None
returns-in-None c = no_test _ _ _ _ (ap (λ s. s.first) c.self.view_is) (sym c.next_test.ensures ∙ c.in-None.is)
