use Rattle.std.proofs.Common.{◌∙◌, ap, sym, refl, arith}
use Rattle.play_meaning.specs.TranslatedScripts.{in_list}
use Rattle.story_code.specs.Passes.{if_so}
use Rattle.story_code.specs.Runs.{test_named}
use Rattle.story_code.proofs.FrontLemmas.{front_fits}
use Rattle.story_code.proofs.WalkLemmas.{nil_length}
use Rattle.code_table.specs.Growing.{with_tests}
use Rattle.code_table.proofs.Turns.{tests_stop, tests_then}
use Rattle.code_table.proofs.Walked.{walk_ends, walk_on, walk_stops}
use Rattle.code_table.proofs.naming.add_tests.Goals as goal

pub returns-then-not-branch : goal.returns-then-not-branch
returns-then-not-branch c =
    walk_stops with_tests (λ i. in_list (test_named i)) tests_stop _ _ c.loop-instruction.uses.items _ (sym c.in-Some.ensures) (sym c.in_ok-add_test.ensures ∙ ap (λ b. if_so b c.add_test.new.uses.items) c.if-not-branch.true)
    c.loop-instruction.invariant

pub split_at-requires : goal.split_at-requires
split_at-requires c = omega (arith, front_fits _ _ (sym c.in-Some.ensures), c.size.ensures)

pub loop-instruction-preserved : goal.loop-instruction-preserved
loop-instruction-preserved c =
    walk_on with_tests (λ i. in_list (test_named i)) tests_then _ _ _ _ c.loop-instruction.uses.items c.add_test.new.uses.items _ (sym c.in-Some.ensures) c.size.ensures c.split_at.ensures.back
    (sym c.in_ok-add_test.ensures ∙ ap (λ b. if_so b c.add_test.new.uses.items) c.if-not-branch.false) c.loop-instruction.invariant

pub returns : goal.returns
returns c =
    ap (λ b. if_so b c.loop-instruction.uses.items) (c.is_empty.ensures ∙ nil_length c.loop-instruction.rest.now)
    ∙ walk_ends with_tests (λ i. in_list (test_named i)) (λ uses. refl) _ c.loop-instruction.uses.items _ (sym c.first.ensures ∙ c.in_default.is) c.loop-instruction.invariant
