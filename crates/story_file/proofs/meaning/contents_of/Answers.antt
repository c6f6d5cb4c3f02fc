use Rattle.std.proofs.Common.{◌∙◌, ap, map}
use Rattle.std.proofs.lemmas.Simd.{map-map}
use Rattle.play_meaning.specs.Patterns.{rule_meant}
use Rattle.i7_rules.specs.declared.source_rules.SourceRule.{SourceRule}
use Rattle.story_file.proofs.meaning.contents_of.Goals as goal

pub returns-clause-rules : goal.returns-clause-rules
returns-clause-rules c = ap (map rule_meant) c.in_ok-rules.ensures ∙ map-map rule_meant (λ (told : SourceRule). told.rule) c.args.resolved.rules.items
