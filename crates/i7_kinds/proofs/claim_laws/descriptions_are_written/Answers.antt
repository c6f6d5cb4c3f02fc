use Rattle.i7_kinds.proofs.Written.{written}
use Rattle.i7_kinds.proofs.claim_laws.descriptions_are_written.Goals as goal

pub returns : goal.returns
returns c = written
