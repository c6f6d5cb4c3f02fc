use Rattle.std.proofs.Common.{◌++◌, subst, sym, ap, ◌∙◌}
use Rattle.story_format.specs.Contents.{contents_meant}
use Rattle.story_format.specs.Layout.{tables_layout, version_of}
use Rattle.story_format.specs.Spells.{IsStory, head}
use Rattle.story_format.proofs.Stories.{tale_is_story}
use Rattle.story_format.proofs.writing.write.Goals as goal

pub spelling-requires : goal.spelling-requires
spelling-requires c = subst IsStory (sym c.in-Ok.ensures.tables) (tale_is_story c.args.tale.now (contents_meant c.args.contents.now) c.requires.held c.in-Ok.ensures.said)

pub returns-in-Ok-spelling-clause-spelled : goal.returns-in-Ok-spelling-clause-spelled
returns-in-Ok-spelling-clause-spelled c =
    record {
      story = tale_is_story c.args.tale.now (contents_meant c.args.contents.now) c.requires.held c.in-Ok.ensures.said;
      spelled = c.in-Ok-spelling.ensures ∙ ap (λ tables. head (version_of tables) ++ (tables_layout (version_of tables)).format.put tables) c.in-Ok.ensures.tables;
    }
