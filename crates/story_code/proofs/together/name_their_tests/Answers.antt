use Rattle.std.proofs.Common.{◌∙◌, sym, arith}
use Rattle.story_code.proofs.FrontLemmas.{front_fits}
use Rattle.story_code.proofs.TestsNamed.{named_end, named_next, named_stop}
use Rattle.story_code.proofs.WalkLemmas.{nil_length}
use Rattle.story_code.proofs.together.name_their_tests.Goals as goal

pub split_at-requires : goal.split_at-requires
split_at-requires c = omega (arith, front_fits _ _ (sym c.in-Some.ensures), c.size.ensures)

pub returns-then-not-names_its_test : goal.returns-then-not-names_its_test
returns-then-not-names_its_test c = named_stop _ _ _ _ (sym c.in-Some.ensures) (sym c.names_its_test.ensures ∙ c.if-not-names_its_test.true) c.loop-instruction.invariant

pub loop-instruction-preserved : goal.loop-instruction-preserved
loop-instruction-preserved c = named_next _ _ _ _ _ _ (sym c.in-Some.ensures) c.size.ensures c.split_at.ensures.back (sym c.names_its_test.ensures ∙ c.if-not-names_its_test.false) c.loop-instruction.invariant

pub returns : goal.returns
returns c = c.is_empty.ensures ∙ nil_length c.loop-instruction.rest.now ∙ sym (named_end _ _ (sym c.first.ensures ∙ c.in_default.is)) ∙ c.loop-instruction.invariant
