use Rattle.i7_sentences.proofs.Columns.{end_later}
use Rattle.i7_sentences.proofs.matcher.take_piece.Goals as goal

pub returns-after-is_kept-clause-suffix : goal.returns-after-is_kept-clause-suffix
returns-after-is_kept-clause-suffix c = rw c.split_at.ensures.back (end_later _ c.args.rest.now c.args.tokens.now c.requires.suffix)
