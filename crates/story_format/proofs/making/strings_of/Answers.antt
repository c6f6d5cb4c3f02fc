use Rattle.std.proofs.Common.{ap, refl, ◌∙◌}
use Rattle.std.specs.List.{flat_map, fold}
use Rattle.std.specs.Prelude.{map}
use Rattle.command_grammar.specs.Lines.{line_meant}
use Rattle.object_words.specs.Mentions.{first_mentions, mention}
use Rattle.code_table.specs.Origins.{origins_meant}
use Rattle.story_format.specs.Contents.{contents_meant}
use Rattle.story_format.specs.Making.{story_lines, strings_of, strings_said, texts_named}
use Rattle.story_format.specs.Mentioning.{rule_strings, text_strings}
use Rattle.story_format.specs.WordedViews.{all_worded}
use Rattle.story_format.proofs.Mentioned.{all_mentioned, mentioned_on, names_on}
use Rattle.story_format.proofs.making.strings_of.Goals as goal

pub returns : goal.returns
unfolding strings_of
returns c =
    let said = c.args.contents.now in
    let named = texts_named (all_worded c.args.worded.now) (story_lines (contents_meant said).lines) in
    let texts = strings_said (origins_meant said.texts.items said.rules.items said.scenes.items) in
    let before = mentioned_on texts named (flat_map text_strings said.texts.items) (flat_map rule_strings said.rules.items) _ _ _ _
    refl
    (c.in_ok-strings.ensures ∙ ap (λ all. first_mentions (texts_named (all_worded c.args.worded.now) (story_lines (map line_meant all)))) c.as_slice.ensures.value)
    (c.in_ok-mention_texts.ensures ∙ ap (λ texts. fold mention c.in_ok-strings.strings (flat_map text_strings texts)) c.as_slice-texts.ensures.value)
    (c.in_ok-mention_rules.ensures ∙ ap (λ rules. fold mention c.mention_texts.new.strings (flat_map rule_strings rules)) c.as_slice-rules.ensures.value)
    (all_mentioned said.texts.items said.rules.items said.scenes.items) in
    names_on named texts c.args.declared.now.values c.as_slice-2.result.now c.mention_rules.new.strings c.mention_values.new.strings before c.as_slice-2.ensures c.in_ok-mention_values.ensures
