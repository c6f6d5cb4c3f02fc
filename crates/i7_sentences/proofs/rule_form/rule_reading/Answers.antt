use Rattle.i7_sentences.specs.RuleHeads.{rule_forms}
use Rattle.i7_sentences.proofs.rule_form.rule_reading.Goals as goal

pub returns : goal.returns
unfolding rule_forms
returns c = c.in_ok-lowest_fit.ensures
