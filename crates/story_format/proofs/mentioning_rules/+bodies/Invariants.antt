use Rattle.std.proofs.Common.{◌≡◌, drop}
use Rattle.std.specs.Prelude.{fold}
use Rattle.std.specs.List.{flat_map}
use Rattle.object_words.specs.Mentions.{mention}
use Rattle.play_meaning.specs.Meant.{body_meant}
use Rattle.play_meaning.specs.Translation.{strings_of_body}
use Rattle.story_format.specs.Mentioning.{branch_strings}
use Rattle.story_format.proofs.mentioning_rules.+bodies.Given as goal

abbrev pub invariant-mention_body-loop-at : goal.invariant-mention_body-loop-at
invariant-mention_body-loop-at l = fold mention l.strings (strings_of_body (body_meant (drop l.at l.fn.body))) ≡ fold mention l.fn.strings (strings_of_body (body_meant l.fn.body))

abbrev pub invariant-mention_branches-loop-at : goal.invariant-mention_branches-loop-at
invariant-mention_branches-loop-at l = fold mention l.strings (flat_map branch_strings (drop l.at l.fn.branches)) ≡ fold mention l.fn.strings (flat_map branch_strings l.fn.branches)
