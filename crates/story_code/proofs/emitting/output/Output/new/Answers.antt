use Rattle.std.proofs.Common.{[], sym, ap, ◌∙◌}
use Rattle.play_meaning.specs.Instructions.{sizes}
use Rattle.story_code.specs.Emitting.{can_say_all}
use Rattle.story_code.proofs.emitting.output.Output.new.Goals as goal

pub invariant_of-result : goal.invariant_of-result
unfolding can_say_all
invariant_of-result c = λ t. (ap sizes (sym c.new.ensures.items), ap (λ code. can_say_all (record { code = code; tests = c.new-2.result.items })) c.new.ensures.items ∙ ap (λ tests. can_say_all (record { code = []; tests = tests })) c.new-2.ensures.items)
