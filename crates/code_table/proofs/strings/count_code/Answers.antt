use Rattle.std.proofs.Common.{◌∙◌, ap, sym, refl, arith}
use Rattle.play_meaning.specs.TranslatedScripts.{in_list}
use Rattle.story_code.specs.Passes.{if_so}
use Rattle.story_code.proofs.FrontLemmas.{front_fits}
use Rattle.story_code.proofs.WalkLemmas.{nil_length}
use Rattle.code_table.specs.Strings.{counted_on, string_named}
use Rattle.code_table.proofs.Counted.{strings_stop, strings_then}
use Rattle.code_table.proofs.Walked.{walk_ends, walk_on, walk_stops}
use Rattle.code_table.proofs.strings.count_code.Goals as goal

pub returns-in-None : goal.returns-in-None
returns-in-None c =
    walk_stops counted_on (λ i. in_list (string_named i)) strings_stop _ _ c.loop-instruction.count _ (sym c.in-Some.ensures) (sym c.count_string.ensures ∙ c.in-None.is) c.loop-instruction.invariant

pub split_at-requires : goal.split_at-requires
split_at-requires c = omega (arith, front_fits _ _ (sym c.in-Some.ensures), c.size.ensures)

pub loop-instruction-preserved : goal.loop-instruction-preserved
loop-instruction-preserved c =
    walk_on counted_on (λ i. in_list (string_named i)) strings_then _ _ _ _ c.loop-instruction.count c.in-Some-count_string.more _ (sym c.in-Some.ensures) c.size.ensures c.split_at.ensures.back
    (sym c.count_string.ensures ∙ c.in-Some-count_string.is) c.loop-instruction.invariant

pub returns-then-not-is_empty : goal.returns-then-not-is_empty
returns-then-not-is_empty c =
    ap (λ b. if_so b c.loop-instruction.count) (sym c.if-not-is_empty.true ∙ c.is_empty.ensures ∙ nil_length c.loop-instruction.rest.now)
    ∙ walk_ends counted_on (λ i. in_list (string_named i)) (λ next. refl) _ c.loop-instruction.count _ (sym c.first.ensures ∙ c.in_default.is) c.loop-instruction.invariant

pub returns : goal.returns
returns c =
    ap (λ b. if_so b c.loop-instruction.count) (sym c.if-not-is_empty.false ∙ c.is_empty.ensures ∙ nil_length c.loop-instruction.rest.now)
    ∙ walk_ends counted_on (λ i. in_list (string_named i)) (λ next. refl) _ c.loop-instruction.count _ (sym c.first.ensures ∙ c.in_default.is) c.loop-instruction.invariant
