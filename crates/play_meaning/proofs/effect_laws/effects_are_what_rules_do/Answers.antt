use Rattle.play_meaning.proofs.Stated.{hardly_portable, looked, portable, reported, taken, unsaid}
use Rattle.play_meaning.proofs.effect_laws.effects_are_what_rules_do.Goals as goal

pub returns-clause-scenery : goal.returns-clause-scenery
returns-clause-scenery c = hardly_portable

pub returns-clause-unsaid : goal.returns-clause-unsaid
returns-clause-unsaid c = unsaid

pub returns-clause-portable : goal.returns-clause-portable
returns-clause-portable c = portable

pub returns-clause-taken : goal.returns-clause-taken
returns-clause-taken c = taken

pub returns-clause-reported : goal.returns-clause-reported
returns-clause-reported c = reported

pub returns-clause-looked : goal.returns-clause-looked
returns-clause-looked c = looked
