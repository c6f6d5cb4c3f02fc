use Rattle.play_meaning.proofs.States.{ahead, begins, finds, keeps, within}
use Rattle.play_meaning.proofs.code_laws.runs_stand_where_codes_say.Goals as goal

pub returns-clause-begins : goal.returns-clause-begins
returns-clause-begins c z role code sound loops p around = begins sound loops p around

pub returns-clause-finds : goal.returns-clause-finds
returns-clause-finds c z role code sound s i stands at = finds sound s i stands at

pub returns-clause-keeps : goal.returns-clause-keeps
returns-clause-keeps c z role code sound f s t i few stands at step gives_object = keeps sound f few s t i stands at step gives_object

pub returns-clause-ahead : goal.returns-clause-ahead
returns-clause-ahead c z role code sound f s t i nobody stands at step = ahead sound f nobody s t i stands at step

pub returns-clause-within : goal.returns-clause-within
returns-clause-within c z role code sound s stands = within sound s stands
