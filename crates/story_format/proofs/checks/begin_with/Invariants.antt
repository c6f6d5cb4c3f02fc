use Rattle.std.proofs.Common.{◌≡◌, length}
use Rattle.object_words.proofs.StringLemmas.{items_of}
use Rattle.story_format.specs.Checks.{begin_with}
use Rattle.story_format.proofs.checks.begin_with.Given as goal

abbrev pub invariant-loop-texts : goal.invariant-loop-texts
invariant-loop-texts l = begin_with l.strings l.numbers (items_of l.texts) ≡ begin_with l.strings l.initial.numbers (items_of l.initial.texts)

abbrev pub decreases-loop-texts : goal.decreases-loop-texts
decreases-loop-texts l = length l.texts
