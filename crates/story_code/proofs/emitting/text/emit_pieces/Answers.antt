use Rattle.story_code.proofs.Texts.{pieces_end, pieces_step}
use Rattle.story_code.proofs.emitting.text.emit_pieces.Goals as goal

pub loop-rest-preserved : goal.loop-rest-preserved
loop-rest-preserved c = pieces_step _ _ _ _ _ c.loop-rest.rest.now _ c.in-len1-up.len_at_least c.piece-item.is c.loop-rest.invariant c.in_ok-emit_piece.ensures

pub returns : goal.returns
returns c = pieces_end _ _ _ _ c.loop-rest.rest.now c.in_default.len_below c.fits.ensures.settled c.loop-rest.invariant
