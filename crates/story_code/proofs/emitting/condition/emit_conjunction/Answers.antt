use Rattle.std.proofs.Common.{ap, ◌∙◌}
use Rattle.play_meaning.specs.Meant.{clause_meant}
use Rattle.play_meaning.specs.Translation.{condition_part}
use Rattle.story_code.specs.Emitting.{clauses_emitted, emitted}
use Rattle.story_code.proofs.Joinings.{clauses_joined, clauses_step}
use Rattle.story_code.proofs.emitting.condition.emit_conjunction.Goals as goal

pub loop-rest-init : goal.loop-rest-init
loop-rest-init c =
    ap (λ s. clauses_emitted c.args.loops s c.as_slice-rest.result.now) c.in_ok-emit_clause.ensures
    ∙ ap (λ rest. clauses_emitted c.args.loops (emitted c.args.out.now (condition_part c.args.loops (clause_meant c.args.conjunction.now.first))) rest) c.as_slice-rest.ensures.value
    ∙ clauses_joined c.args.loops c.args.out.now (clause_meant c.args.conjunction.now.first) c.args.conjunction.now.rest.items

pub loop-rest-preserved : goal.loop-rest-preserved
loop-rest-preserved c = clauses_step _ _ _ _ _ c.loop-rest.rest.now _ c.in-len1-up.len_at_least c.next-item.is c.loop-rest.invariant c.in_ok-emit_clause-2.ensures c.in_ok-push.ensures
