use Rattle.golden_transcripts.proofs.Parts.{behind_two}
use Rattle.golden_transcripts.proofs.kept.Kept.take_line.Goals as goal

pub returns : goal.returns
returns c = behind_two c.args.self.now.rest.now c.take-line.new.self.rest.now c.take.new.self.rest.now c.take-line.result.now c.take.result.now c.take-line.ensures.parts c.take.ensures.parts
