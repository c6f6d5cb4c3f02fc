-- The game of a story file, whole: its actions, its rules with their codes, its rulebooks in their stored order, its scenes, and the
-- lines of its grammar.
use Rattle.std.specs.Prelude.{ℕ, Bool, ◌||◌, ◌==◌, map, slice_get, Option, None, Some, if◌then◌else◌}
use Rattle.play_meaning.specs.CodedStories.{Coded, CodedRule, CodedScene, CodedStory, RuleBody, Standard, game_of_codes}
use Rattle.play_meaning.specs.Games.{Game}
use Rattle.play_meaning.specs.Commands.{read}
use Rattle.play_meaning.specs.Rules.{Anything, Aspect, Exactly, OfKind}
use Rattle.play_meaning.specs.StandardActions.{no_needs}
use Rattle.play_meaning.specs.Trees.{Adjective, First, NotSo, Quality, Second}
use Rattle.story_format.specs.Carrying.{code_if_some, number_if_some}
use Rattle.story_format.specs.Codes.{codes_told}
use Rattle.story_format.specs.Facts.{description_code_of}
use Rattle.story_format.specs.declared.rule_entry.Aspect.{Aspect as Asked}
use Rattle.story_format.specs.declared.rule_entry.Aspect.TheVariants as aspects
use Rattle.story_format.specs.declared.rule_entry.PropertySide.{PropertySide}
use Rattle.story_format.specs.declared.rule_entry.RuleBody.{RuleBody as Done}
use Rattle.story_format.specs.declared.rule_entry.RuleBody.TheVariants as bodies
use Rattle.story_format.specs.declared.rule_entry.RuleEntry.{RuleEntry}
use Rattle.story_format.specs.declared.rule_tables.ActionEntry.{ActionEntry}
use Rattle.story_format.specs.declared.rule_tables.SceneEntry.{SceneEntry}
use Rattle.story_format.specs.declared.tables.Tables.{Tables}
use Rattle.world_meaning.specs.declared.needs.Needs.{Needs}
use Rattle.world_meaning.specs.declared.needs.Slot.{Slot}
use Rattle.world_meaning.specs.declared.needs.Slot.TheVariants.{Absent, Visible, Touched, Carried}
use Rattle.world_store.specs.StartWorlds.{start_world}
use Rattle.world_store.specs.StoryGrammars.{grammar_of}
use Rattle.world_store.specs.StorySettings.{setting_of}

-- ---- actions

-- what is asked of a noun
abbrev pub slot_of : ℕ → Slot
slot_of n = if n == 0 then Visible else (if n == 1 then Touched else (if n == 2 then Carried else Absent))

abbrev pub has_mark : ℕ → ActionEntry → Bool
has_mark mark entry = (entry.marks == mark) || (entry.marks == 3)

abbrev pub needs_told : ActionEntry → Needs
needs_told entry = record { noun = slot_of entry.noun; second = slot_of entry.second; light = has_mark 1 entry; out_of_world = has_mark 2 entry }

-- an action that isn't there asks for nothing
abbrev pub needs_in : Option ActionEntry → Needs
needs_in None = no_needs
needs_in (Some entry) = needs_told entry

-- ---- rules

-- which name of a property is asked, and whether it is denied
abbrev pub adjective_told : PropertySide → Adjective
adjective_told side =
    if side.side == 0 then Quality side.property Second else (if side.side == 1 then Quality side.property First
    else (if side.side == 2 then NotSo (Quality side.property Second) else NotSo (Quality side.property First)))

-- no story asks for one that no bytes tell
abbrev pub aspect_told : Asked → Aspect
aspect_told aspects.Anything = Anything
aspect_told (aspects.Object o) = Exactly o
aspect_told (aspects.Kind k) = OfKind k.kind (map adjective_told k.properties)
aspect_told (aspects.Unknown tag) = Anything

-- no story has a body that no bytes tell; behind the sixty-first there is no standard rule
abbrev pub body_told : Done → RuleBody
body_told (bodies.Code n) = Coded n
body_told (bodies.Standard n) = Standard n
body_told (bodies.Unknown tag) = Standard 62

abbrev pub rule_told : RuleEntry → CodedRule
rule_told r = record {
  book = r.book;
  action = number_if_some r.action;
  noun = aspect_told r.noun;
  second = aspect_told r.second;
  place = aspect_told r.place;
  scene = number_if_some r.scene;
  condition = code_if_some r.condition;
  body = body_told r.body;
}

-- ---- scenes

abbrev pub scene_told : SceneEntry → CodedScene
scene_told scene = record { recurs = (scene.recurring == 1); begins = code_if_some scene.begins; ends = code_if_some scene.ends }

-- ---- all of it

unfoldable pub coded_story : Tables → CodedStory
coded_story t = record {
  setting = setting_of t;
  start = start_world t;
  needs = λ action. needs_in (slice_get t.rules.actions action);
  descriptions = description_code_of t;
  codes = codes_told t;
  rules = map rule_told t.rules.rules;
  books = map (λ book. book.rules) t.rules.books;
  scenes = map scene_told t.rules.scenes;
  reads = read (grammar_of t);
}

abbrev pub game_in_play : Tables → Game
game_in_play t = game_of_codes (coded_story t)
