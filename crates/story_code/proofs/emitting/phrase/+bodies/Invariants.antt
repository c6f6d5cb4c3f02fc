use Rattle.std.proofs.Common.{◌≡◌, drop}
use Rattle.object_words.specs.Mentions.{number_in}
use Rattle.play_meaning.specs.Meant.{body_meant}
use Rattle.play_meaning.specs.Translation.{body_part}
use Rattle.story_code.specs.Choosing.{branches_emitted, choosing}
use Rattle.story_code.specs.Emitting.{emitted}
use Rattle.story_code.proofs.emitting.phrase.+bodies.Given as goal

abbrev pub invariant-emit_body-loop-at : goal.invariant-emit_body-loop-at
invariant-emit_body-loop-at l = emitted l.out (body_part (number_in l.fn.strings) l.fn.loops (body_meant (drop l.at l.fn.body))) ≡ emitted l.fn.out (body_part (number_in l.fn.strings) l.fn.loops (body_meant l.fn.body))

abbrev pub invariant-emit_branches-loop-at : goal.invariant-emit_branches-loop-at
invariant-emit_branches-loop-at l = branches_emitted (number_in l.fn.strings) l.fn.loops (choosing l.out l.leaps.items) (drop l.at l.fn.branches) ≡ branches_emitted (number_in l.fn.strings) l.fn.loops (choosing l.fn.out l.fn.leaps.items) l.fn.branches
