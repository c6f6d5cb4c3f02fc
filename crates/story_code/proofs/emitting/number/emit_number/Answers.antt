use Rattle.story_code.proofs.Joinings.{number_emitted}
use Rattle.story_code.proofs.emitting.number.emit_number.Goals as goal

pub returns : goal.returns
returns c = number_emitted _ _ _ _ _ _ _ _ c.as_slice-joined.ensures.value c.in_ok-emit_term.ensures c.in_ok-emit_terms.ensures c.in_ok-emit_operators.ensures
