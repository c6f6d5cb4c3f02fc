use Rattle.std.proofs.Common.{ap, ◌∙◌}
use Rattle.play_meaning.specs.Meant.{conjunction_meant}
use Rattle.play_meaning.specs.Translation.{condition_part}
use Rattle.story_code.specs.Emitting.{conjunctions_emitted, emitted}
use Rattle.story_code.proofs.Joinings.{conjunctions_joined, conjunctions_step}
use Rattle.story_code.proofs.emitting.condition.emit_condition.Goals as goal

pub loop-rest-init : goal.loop-rest-init
loop-rest-init c =
    ap (λ s. conjunctions_emitted c.args.loops s c.as_slice-rest.result.now) c.in_ok-emit_conjunction.ensures
    ∙ ap (λ rest. conjunctions_emitted c.args.loops (emitted c.args.out.now (condition_part c.args.loops (conjunction_meant c.args.condition.now.first))) rest) c.as_slice-rest.ensures.value
    ∙ conjunctions_joined c.args.loops c.args.out.now (conjunction_meant c.args.condition.now.first) c.args.condition.now.rest.items

pub loop-rest-preserved : goal.loop-rest-preserved
loop-rest-preserved c = conjunctions_step _ _ _ _ _ c.loop-rest.rest.now _ c.in-len1-up.len_at_least c.next-item.is c.loop-rest.invariant c.in_ok-emit_conjunction-2.ensures c.in_ok-push.ensures
