use Rattle.i7_conditions.proofs.Described.{described_once}
use Rattle.i7_conditions.proofs.description.one_description_is_meant.Goals as goal

pub returns : goal.returns
returns c = described_once
