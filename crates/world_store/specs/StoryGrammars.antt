-- The grammar of a loaded story's commands.
use Rattle.play_meaning.specs.Grammar.{Grammar}
use Rattle.story_format.specs.Facts.{lines_of, words_of}
use Rattle.story_format.specs.declared.tables.Tables.{Tables}
use Rattle.world_store.specs.StorySettings.{setting_of}

-- its objects go by their words, and its lines are those of its table, in their order
abbrev pub grammar_of : Tables → Grammar
grammar_of t = record { setting = setting_of t; words = words_of t; lines = lines_of t }
