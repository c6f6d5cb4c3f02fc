use Rattle.std.proofs.Common.{◌≡◌, ◌∙◌, ap, length, None}
use Rattle.std.specs.Option.{unwrap_or}
use Rattle.std.specs.Prelude.{map}
use Rattle.object_words.specs.Mentions.{number_in}
use Rattle.play_meaning.specs.Meant.{text_meant}
use Rattle.play_meaning.specs.Patterns.{rule_meant}
use Rattle.play_meaning.specs.ScenesMeant.{scene_meant}
use Rattle.code_table.specs.Origins.{origins_of_rule, origins_of_scene}
use Rattle.story_format.specs.Contents.{contents_meant}
use Rattle.story_format.specs.Holding.{counts_in}
use Rattle.story_format.specs.Making.{strings_with}
use Rattle.story_file.specs.Lines.{rule_lines, scene_lines, text_lines}
use Rattle.story_file.specs.LongOnes.{lowest, one_text}
use Rattle.story_file.specs.Meanings.{scope_said}
use Rattle.story_file.proofs.LongLines.{line_found, moved}
use Rattle.story_file.proofs.long_ones.line_told.Goals as goal

pub returns : goal.returns
returns c =
    let t = c.args.meant.now.tale in
    let kept = c.args.meant.now.contents in
    let said = contents_meant kept in
    let z = c.in_ok-counts.counts in
    let y = counts_in t said in
    let string = number_in c.in_ok-counts.strings in
    let other = number_in (strings_with t said) in
    let same : string ≡ other = ap number_in c.in_ok-counts.ensures.strings in
    let are = c.in_ok-counts.ensures.counts in
    let texts = moved one_text text_meant z y string other same are c.as_slice-2.result.now kept.texts.items c.as_slice-2.ensures.value c.in_ok-longs.longs.items c.in_ok-longs.ensures in
    let rules = moved origins_of_rule rule_meant z y string other same are c.as_slice-5.result.now kept.rules.items c.as_slice-5.ensures.value c.in_ok-longs-2.longs.items c.in_ok-longs-2.ensures in
    let scenes = moved origins_of_scene scene_meant z y other other (λ i. other) are c.as_slice-8.result.now kept.scenes.items c.as_slice-8.ensures.value c.in_ok-longs-3.longs.items (c.in_ok-longs-3.ensures other) in
    let sentences = c.args.sentences.now in
    let text_at : c.as_slice-3.result.now ≡ text_lines sentences t.objects = c.as_slice-3.ensures.value ∙ c.in_ok-lines.ensures ∙ ap (text_lines sentences) c.as_slice.ensures in
    let rule_at : c.as_slice-6.result.now ≡ rule_lines sentences = c.as_slice-6.ensures.value ∙ c.in_ok-lines-2.ensures in
    let scene_at : c.as_slice-9.result.now ≡ scene_lines (scope_said sentences) sentences (length t.declared.scenes) = c.as_slice-9.ensures.value ∙ c.requires.lines in
    let first = c.lowest-found.ensures ∙ (λ i. lowest None (text_at i) (c.as_slice-4.ensures.value i)) in
    let second = c.lowest-found-2.ensures ∙ (λ i. lowest (first i) (rule_at i) (c.as_slice-7.ensures.value i)) in
    let third = c.lowest.ensures ∙ (λ i. lowest (second i) (scene_at i) (c.as_slice-10.ensures.value i)) in
    line_found y other (text_lines sentences t.objects) (rule_lines sentences) (scene_lines (scope_said sentences) sentences (length t.declared.scenes))
    (map one_text said.texts) (map origins_of_rule said.rules) (map origins_of_scene said.scenes) c.in_ok-longs.longs.items c.in_ok-longs-2.longs.items c.in_ok-longs-3.longs.items c.unwrap_or.result texts rules scenes
    (c.unwrap_or.ensures ∙ (λ i. unwrap_or (third i) 1))
