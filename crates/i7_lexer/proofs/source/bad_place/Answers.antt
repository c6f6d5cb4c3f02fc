use Rattle.i7_lexer.proofs.BadPlaces.{first_bad, all_text}
use Rattle.i7_lexer.proofs.source.bad_place.Goals as goal

pub returns-then-place-bytes : goal.returns-then-place-bytes
returns-then-place-bytes c = first_bad _ _ _ _ c.valid_len.ensures c.plain_len.ensures c.min-place.ensures c.if-place-bytes.true

pub returns-else-place-bytes : goal.returns-else-place-bytes
returns-else-place-bytes c = all_text _ _ _ _ c.valid_len.ensures c.plain_len.ensures c.min-place.ensures c.if-place-bytes.false
