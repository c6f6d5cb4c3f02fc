-- What a tale gives to play, whole: with its actions, the texts of its objects, its rules, listed as sentences list them, its scenes,
-- and its commands.
use Rattle.std.specs.Prelude.{◌++◌, slice_index_or}
use Rattle.command_grammar.specs.Synonyms.{words_told}
use Rattle.play_meaning.specs.Commands.{read}
use Rattle.play_meaning.specs.Grammar.{Grammar}
use Rattle.play_meaning.specs.Scripts.{Script}
use Rattle.play_meaning.specs.StandardActions.{no_needs, standard_needs}
use Rattle.play_meaning.specs.Tales.{setting_of, start_of}
use Rattle.story_format.specs.Contents.{Contents}
use Rattle.story_format.specs.Making.{story_lines, story_rules, text_of}
use Rattle.world_meaning.specs.declared.tale.Tale.{Tale}

-- the author's lines, and behind them those that every story understands
abbrev pub whole_grammar : Tale → Contents → Grammar
whole_grammar t c = record { setting = setting_of t; words = words_told c.synonyms t; lines = story_lines c.lines }

unfoldable pub whole_script : Tale → Contents → Script
whole_script t c = record {
  setting = setting_of t;
  start = start_of t;
  needs = λ action. slice_index_or (standard_needs ++ t.declared.actions) action no_needs;
  descriptions = text_of t c.texts;
  rules = story_rules c.listings c.rules;
  scenes = c.scenes;
  reads = read (whole_grammar t c);
}
