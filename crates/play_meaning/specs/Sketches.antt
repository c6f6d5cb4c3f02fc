-- A story written by hand, to compute examples on: a tale of the built-in kinds and properties and its own, with
-- actions, commands, rules and scenes.
use Rattle.std.specs.Prelude.{ℕ, ◌+◌, ℤ, pos, Bool, ◌&&◌, ◌==◌, List, [], ◌∷◌, ◌++◌, map, find, is_some, replicate, Option, None, Some, slice_get, slice_index_or}
use Rattle.world_meaning.specs.Declarations.{count_of_numbers}
use Rattle.world_meaning.specs.Directions.{all_directions, direction_number}
use Rattle.world_meaning.specs.Kinds.{built_in_parents}
use Rattle.world_meaning.specs.Properties.{built_in_properties}
use Rattle.world_meaning.specs.Reading.{words_of}
use Rattle.world_meaning.specs.Spelling.{lowered}
use Rattle.world_meaning.specs.declared.article.Article.{Article}
use Rattle.world_meaning.specs.declared.declared.Declared.{Declared}
use Rattle.world_meaning.specs.declared.declared.Granted.{Granted}
use Rattle.world_meaning.specs.declared.exits.Way.{Way}
use Rattle.world_meaning.specs.declared.place.Place.{Place}
use Rattle.world_meaning.specs.declared.tale.Object.{Object}
use Rattle.world_meaning.specs.declared.tale.Tale.{Tale}
use Rattle.play_meaning.specs.Commands.{read}
use Rattle.play_meaning.specs.Games.{Game}
use Rattle.play_meaning.specs.Grammar.{Grammar, Line}
use Rattle.play_meaning.specs.Rules.{Rule}
use Rattle.play_meaning.specs.Scripts.{Scene, Script, game_of}
use Rattle.play_meaning.specs.Settings.{Setting}
use Rattle.play_meaning.specs.StandardActions.{no_needs, standard_needs}
use Rattle.play_meaning.specs.StandardGrammar.{standard_lines}
use Rattle.play_meaning.specs.Tales.{setting_of, start_of}
use Rattle.play_meaning.specs.Trees.{Text}
use Rattle.play_meaning.specs.Worlds.{World}
use Rattle.world_meaning.specs.declared.needs.Needs.{Needs}

pub record Item : Type 0 where
  pub kind : ℕ
  pub name : List ℕ
  pub article : Article
  pub place : Option Place
  -- the properties that are true of it as the story begins
  pub flags : List ℕ
  pub description : Option Text
  -- the words that it goes by besides those of its name
  pub words : List (List ℕ)

-- a way out of a room
pub record Exit : Type 0 where
  pub from : ℕ
  pub direction : ℕ
  pub to : ℕ
  pub door : Option ℕ

pub record Sketch : Type 0 where
  -- the kinds above the author's kinds
  pub kinds : List (Option ℕ)
  pub items : List Item
  pub exits : List Exit
  pub variables : List ℤ
  -- the kinds that have each number property: each object's is 0 as the story begins
  pub numbers : List (List ℕ)
  -- the author's actions, and the lines of their commands
  pub actions : List Needs
  pub lines : List Line
  -- the standard rules and the author's
  pub rules : List Rule
  pub scenes : List Scene

-- ---- its tale

abbrev pub granted : List ℕ → Granted
granted kinds = record { kinds = kinds }

abbrev pub declared_in : Sketch → Declared
declared_in k = record {
  kinds = built_in_parents ++ k.kinds;
  flags = map (λ property. granted property.kinds) built_in_properties;
  numbers = map granted k.numbers;
  variables = k.variables;
  scenes = map (λ scene. scene.recurs) k.scenes;
  rulebooks = 0;
  actions = k.actions;
  values = [];
}

abbrev pub leads_from : ℕ → ℕ → Exit → Bool
leads_from room direction exit = (exit.from == room) && (exit.direction == direction)

abbrev pub way_by : Option Exit → Way
way_by None = record { room = None; door = None }
way_by (Some exit) = record { room = Some exit.to; door = exit.door }

abbrev pub object_of : Sketch → ℕ → Item → Object
object_of k o item = record {
  kind = item.kind;
  name = item.name;
  article = item.article;
  description = None;
  place = item.place;
  exits = record { ways = map (λ d. way_by (find (leads_from o (direction_number d)) k.exits)) all_directions };
  properties = item.flags;
  numbers = replicate (count_of_numbers (declared_in k).kinds (declared_in k).numbers item.kind) (pos 0);
  values = [];
}

abbrev pub objects_from : Sketch → ℕ → List Item → List Object
objects_from k o [] = []
objects_from k o (item ∷ items) = object_of k o item ∷ objects_from k (o + 1) items

unfoldable pub tale_of : Sketch → Tale
tale_of k = record { declared = declared_in k; objects = objects_from k 0 k.items }

-- ---- its game

abbrev pub description_in : Option Item → Option Text
description_in None = None
description_in (Some item) = item.description

abbrev pub description_at : Sketch → ℕ → Option Text
description_at k o = description_in (slice_get k.items o)

-- that of its tale, with what its objects say of themselves
abbrev pub setting_in : Sketch → Setting
setting_in k = record (setting_of (tale_of k)) { has_description = λ o. is_some (description_at k o) }

unfoldable pub start_in : Sketch → World
start_in k = start_of (tale_of k)

-- the words of its name, and those that it goes by besides
abbrev pub words_in : Option Item → List (List ℕ)
words_in None = []
words_in (Some item) = words_of (lowered item.name) ++ item.words

unfoldable pub grammar_of : Sketch → Grammar
grammar_of k = record {
  setting = setting_in k;
  words = λ o. words_in (slice_get k.items o);
  lines = k.lines ++ standard_lines;
}

unfoldable pub script_of : Sketch → Script
script_of k = record {
  setting = setting_in k;
  start = start_in k;
  needs = λ action. slice_index_or (standard_needs ++ k.actions) action no_needs;
  descriptions = description_at k;
  rules = k.rules;
  scenes = k.scenes;
  reads = read (grammar_of k);
}

abbrev pub game_of_sketch : Sketch → Game
game_of_sketch k = game_of (script_of k)
