use Rattle.std.proofs.Common.{◌≡◌, List, [], length, subst, sym, ◌∙◌, refl, inl}
use Rattle.i7_kinds.proofs.Written.{written}
use Rattle.i7_resolution.specs.Resolutions.{IsResolution, scope_in}
use Rattle.i7_rules.specs.Knowns.{Known, scope_among}
use Rattle.i7_sentences.specs.declared.sentence.Sentence.{Sentence}
use Rattle.story_format.specs.Contents.{contents_meant}
use Rattle.story_file.specs.Lines.{scene_lines}
use Rattle.story_file.specs.Meanings.{AreTexts, known_said, too_long}
use Rattle.story_file.specs.Texts.{AreReadable}
use Rattle.story_file.proofs.Understood.{readable}
use Rattle.story_file.proofs.meaning.meant_of.Goals as goal

pub kept_of-requires : goal.kept_of-requires
kept_of-requires c =
    let sentences = c.args.claimed.now in
    let tale = c.args.said.now.tale in
    let is = subst (IsResolution (known_said sentences tale) tale.declared.scenes sentences) c.in-Says.is c.in-Ok.ensures.told in
    subst (λ (k : Known). AreReadable (scope_among k []) tale.objects) (sym c.in-Ok.ensures.names) (readable written (known_said sentences tale) tale.declared.scenes sentences tale c.in-Says.resolved c.requires.tale is)

pub returns-in-Ok-kept_of-clause-meant : goal.returns-in-Ok-kept_of-clause-meant
returns-in-Ok-kept_of-clause-meant c =
    let sentences = c.args.claimed.now in
    let tale = c.args.said.now.tale in
    record {
      tale_is = c.requires.tale;
      short = sym c.requires.line ∙ c.in_default-long_line.is;
      resolved = c.in-Says.resolved;
      resolved_is = subst (IsResolution (known_said sentences tale) tale.declared.scenes sentences) c.in-Says.is c.in-Ok.ensures.told;
      texts_are = subst (λ (k : Known). AreTexts (scope_among k []) tale.objects (contents_meant c.in-Ok-kept_of.kept.contents).texts) c.in-Ok.ensures.names c.in-Ok-kept_of.ensures.texts;
      rules_are = c.in-Ok-kept_of.ensures.rules;
      listings_are = c.in-Ok-kept_of.ensures.listings;
      scenes_are = c.in-Ok-kept_of.ensures.scenes;
      lines_are = c.in-Ok-kept_of.ensures.commands;
      synonyms_are = c.in-Ok-kept_of.ensures.synonyms;
    }

pub returns-in-Ok-kept_of-clause-lines : goal.returns-in-Ok-kept_of-clause-lines
returns-in-Ok-kept_of-clause-lines c =
    let sentences = c.args.claimed.now in
    let count = length c.args.said.now.tale.declared.scenes in
    let lines = c.in-Ok-kept_of.kept.scene_lines.items in
    subst (λ (k : Known). lines ≡ scene_lines (scope_among k []) sentences count) c.in-Ok.ensures.names
    (subst (λ (lent : List Sentence). lines ≡ scene_lines (scope_in c.in-Ok.names) lent count) c.sentences-sentences.ensures c.in-Ok-kept_of.ensures.lines)

pub returns-in-Some-clause-refused : goal.returns-in-Some-clause-refused
returns-in-Some-clause-refused c =
    let sentences = c.args.claimed.now in
    let tale = c.args.said.now.tale in
    inl (too_long (record {
      tale = tale;
      tale_is = c.requires.tale;
      resolved = c.in-Says.resolved;
      resolved_is = subst (IsResolution (known_said sentences tale) tale.declared.scenes sentences) c.in-Says.is c.in-Ok.ensures.told;
      line = c.in-Some.line;
      long = sym c.requires.line ∙ c.in-Some.is;
      fault_is = refl;
    }))
