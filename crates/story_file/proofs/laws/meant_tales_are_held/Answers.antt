use Rattle.std.proofs.Common.{refl}
use Rattle.story_file.proofs.Compiled.{are_of}
use Rattle.story_file.proofs.Held.{tale_kept}
use Rattle.story_file.proofs.Ranges.{says_ranged}
use Rattle.story_file.proofs.laws.meant_tales_are_held.Goals as goal

pub returns-clause-held : goal.returns-clause-held
returns-clause-held c = λ source tale said means. (tale_kept means.sentences tale (says_ranged source means.sentences means.says) means.meant.tale_is means.meant.short).held

pub returns-clause-of_tale : goal.returns-clause-of_tale
returns-clause-of_tale c = λ source tale said means. are_of source means.sentences means.sentences means.says refl tale said means.meant
