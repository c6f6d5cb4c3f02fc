use Rattle.i7_phrases.proofs.Once.{block_once}
use Rattle.i7_phrases.proofs.block.one_block_is_opened.Goals as goal

pub returns : goal.returns
returns c = block_once
