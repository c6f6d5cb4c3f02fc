use Rattle.std.proofs.Common.{◌∙◌, sym}
use Rattle.rule_index.proofs.ClassLemmas.{class_of_none}
use Rattle.rule_index.proofs.classes.class_for.Goals as goal

pub returns-then-not-is_named : goal.returns-then-not-is_named
returns-then-not-is_named c =
    c.in_ok-clone.ensures.cases ∙ c.requires.unnamed
    ∙ class_of_none c.args.story.now c.args.action 0 c.args.listed.now (sym c.is_named.ensures ∙ c.if-not-is_named.true)
