use Rattle.std.proofs.Common.{◌≡◌, drop}
use Rattle.std.specs.List.{list_all}
use Rattle.object_words.specs.Mentions.{number_in}
use Rattle.story_code.specs.Fits.{branch_fits}
use Rattle.story_code.proofs.FitLists.{fits_here}
use Rattle.story_code.proofs.fitting.phrase.+bodies.Given as goal

abbrev pub invariant-body_fits-loop-at : goal.invariant-body_fits-loop-at
invariant-body_fits-loop-at l = list_all (fits_here l.fn.counts (number_in l.fn.strings) l.fn.loops) (drop l.at l.fn.body) ≡ list_all (fits_here l.fn.counts (number_in l.fn.strings) l.fn.loops) l.fn.body

abbrev pub invariant-branches_fit-loop-at : goal.invariant-branches_fit-loop-at
invariant-branches_fit-loop-at l = list_all (branch_fits l.fn.counts (number_in l.fn.strings) l.fn.loops) (drop l.at l.fn.branches) ≡ list_all (branch_fits l.fn.counts (number_in l.fn.strings) l.fn.loops) l.fn.branches
