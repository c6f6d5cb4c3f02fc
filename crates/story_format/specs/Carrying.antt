-- Tables that carry a tale: they say of each object's name, words and ways, and of the start, what the tale says; its
-- description's code says its text; its actions ask for the same; its rules are about the same, and their codes answer their
-- conditions and do their bodies; its books list them in the order in which they are asked, as sentences list them; the codes of
-- its scenes answer when they begin and end; its grammar has the same lines; and its values go by the same names.
use Rattle.std.specs.Prelude.{◌≡◌, ℕ, zero, suc, Bool, true, false, ◌||◌, [], ◌∷◌, ◌++◌, count_by, is_some, length, map, slice_get, Option, None, Some, if◌then◌else◌, ◌==◌}
use Rattle.std.specs.List.{AllZip}
use Rattle.std.specs.Option.{option_map}
use Rattle.play_meaning.specs.Codes.{Codes, RunsTo, test_of}
use Rattle.play_meaning.specs.Doing.{Inner, do_body}
use Rattle.play_meaning.specs.Grounds.{said_by_code}
use Rattle.play_meaning.specs.Order.{book_of}
use Rattle.play_meaning.specs.Progress.{Progress}
use Rattle.play_meaning.specs.Rules.{Anything, Aspect, Exactly, OfKind, Rule}
use Rattle.play_meaning.specs.Saying.{Telling}
use Rattle.play_meaning.specs.Scripts.{Scene, says, scope_of, undescribed}
use Rattle.play_meaning.specs.Settings.{Setting}
use Rattle.play_meaning.specs.StandardActions.{standard_needs}
use Rattle.play_meaning.specs.StandardRules.{standard_rules}
use Rattle.play_meaning.specs.Tales.{names_in_kind, setting_of}
use Rattle.play_meaning.specs.Trees.{Adjective, Body, Condition, First, NotSo, Quality, Second}
use Rattle.play_meaning.specs.Truth.{truth_in}
use Rattle.play_meaning.specs.Worlds.{World}
use Rattle.play_meaning.specs.declared.action.ActionNow.{ActionNow}
use Rattle.world_meaning.specs.Tale.{description_of as told_description, name_of as told_name, start_of as told_start, way_of as told_way}
use Rattle.world_meaning.specs.declared.needs.Needs.{Needs}
use Rattle.world_meaning.specs.declared.needs.Slot.{Slot}
use Rattle.world_meaning.specs.declared.needs.Slot.TheVariants.{Absent, Visible, Touched, Carried}
use Rattle.world_meaning.specs.declared.tale.Tale.{Tale}
use Rattle.command_grammar.specs.Synonyms.{words_told}
use Rattle.story_format.specs.declared.rule_entry.Aspect.{Aspect as Asked}
use Rattle.story_format.specs.declared.rule_entry.Aspect.TheVariants as aspects
use Rattle.story_format.specs.declared.rule_entry.PropertySide.{PropertySide}
use Rattle.story_format.specs.declared.rule_entry.RuleBody.{RuleBody}
use Rattle.story_format.specs.declared.rule_entry.RuleBody.TheVariants.{Code, Standard}
use Rattle.story_format.specs.declared.rule_entry.RuleEntry.{RuleEntry}
use Rattle.story_format.specs.declared.rule_tables.ActionEntry.{ActionEntry}
use Rattle.story_format.specs.declared.rule_tables.SceneEntry.{SceneEntry}
use Rattle.story_format.specs.declared.tables.Tables.{Tables}
use Rattle.story_format.specs.Codes.{codes_told}
use Rattle.story_format.specs.Contents.{Contents}
use Rattle.story_format.specs.Facts.{description_code_of, name_of, object_count_of, lines_of, rules_listed, start_of, way_of, words_of}
use Rattle.story_format.specs.InPlay.{value_names}
use Rattle.story_format.specs.Making.{story_lines, story_rules, text_of}

-- ---- actions

-- what this number says that an action asks of a noun; 255 that it has none
abbrev pub need_told : ℕ → Option Slot
need_told n = if n == 255 then Some Absent else (if n == 0 then Some Visible else (if n == 1 then Some Touched else (if n == 2 then Some Carried else None)))

abbrev pub is_present : Slot → Bool
is_present Absent = false
is_present _ = true

-- the entry asks for what the action does; of its marks 1 is that for light, 2 that for out of world, and 3 is both
pub record AsksFor (e : ActionEntry) (needs : Needs) : Type 0 where
  pub nouns : e.nouns ≡ count_by is_present (needs.noun ∷ needs.second ∷ [])
  pub noun : need_told e.noun ≡ Some needs.noun
  pub second : need_told e.second ≡ Some needs.second
  pub light : ((e.marks == 1) || (e.marks == 3)) ≡ needs.light
  pub out_of_world : ((e.marks == 2) || (e.marks == 3)) ≡ needs.out_of_world

-- ---- rules

-- neither is there, or the code answers what the condition is, in every action and world, or abandons as it does
abbrev pub IsAnsweredBy : Codes → Option ℕ → Option Condition → Type 0
IsAnsweredBy c None None = Unit {0}
IsAnsweredBy c None (Some condition) = ⊥
IsAnsweredBy c (Some n) None = ⊥
IsAnsweredBy c (Some n) (Some condition) = (t : Telling) (now : ActionNow) (w : World) → test_of c t now n [] w ≡ truth_in t.setting (scope_of now) w condition

-- what the standard rule of this number does, from 1
abbrev pub standard_body : ℕ → Option Body
standard_body zero = None
standard_body (suc n) = option_map (λ rule. rule.body) (slice_get standard_rules n)

-- it is a code, and a run of it does what the body means, whatever the actions that it tries and the books that it follows do; or
-- it is a standard rule, which does that
abbrev pub IsDoneBy : Codes → RuleBody → Body → Type 0
IsDoneBy c (Code n) body = (t : Telling) (inner : Inner) (now : ActionNow) (p : Progress) → RunsTo c t inner n now p (do_body t inner body (scope_of now) p)
IsDoneBy c (Standard n) body = standard_body n ≡ Some body
IsDoneBy c _ body = ⊥

abbrev pub code_if_some : ℕ → Option ℕ
code_if_some n = if n == 65535 then None else Some n

abbrev pub number_if_some : ℕ → Option ℕ
number_if_some n = if n == 255 then None else Some n

-- an entry asks of a noun or of the place what a rule does
abbrev pub asked_by : PropertySide → Option Adjective
asked_by side = if side.side == 1 then Some (Quality side.property First) else (if side.side == 0 then Some (Quality side.property Second)
    else (if side.side == 3 then Some (NotSo (Quality side.property First)) else (if side.side == 2 then Some (NotSo (Quality side.property Second)) else None)))

abbrev pub AsksSo : Asked → Aspect → Type 0
AsksSo aspects.Anything Anything = Unit {0}
AsksSo (aspects.Object n) (Exactly o) = n ≡ o
AsksSo (aspects.Kind k) (OfKind kind adjectives) = (k.kind ≡ kind) × (map asked_by k.properties ≡ map Some adjectives)
AsksSo _ _ = ⊥

-- what the rule is about, its condition aside
pub record IsAbout (r : RuleEntry) (rule : Rule) : Type 0 where
  pub action : number_if_some r.action ≡ rule.action
  pub noun : AsksSo r.noun rule.noun
  pub second : AsksSo r.second rule.second
  pub place : AsksSo r.place rule.place
  pub scene : number_if_some r.scene ≡ rule.scene

pub record CarriesRule (c : Codes) (r : RuleEntry) (rule : Rule) : Type 0 where
  pub book : r.book ≡ rule.book
  pub about : IsAbout r rule
  pub condition : IsAnsweredBy c (code_if_some r.condition) rule.condition
  pub body : IsDoneBy c r.body rule.body

-- ---- scenes

pub record CarriesScene (c : Codes) (e : SceneEntry) (scene : Scene) : Type 0 where
  pub recurs : (e.recurring == 1) ≡ scene.recurs
  pub begins : IsAnsweredBy c (code_if_some e.begins) scene.begins
  pub ends : IsAnsweredBy c (code_if_some e.ends) scene.ends

-- ---- all of it

-- where this is said of the tale
pub record Carries (tables : Tables) (tale : Tale) (said : Contents) : Type 0 where
  pub count : object_count_of tables ≡ length tale.objects
  pub names : (o : ℕ) → name_of tables o ≡ told_name tale o
  pub words : (o : ℕ) → words_of tables o ≡ words_told said.synonyms tale o
  pub described : (o : ℕ) → is_some (description_code_of tables o) ≡ is_some (told_description tale o)
  -- whatever the setting, the action and the world are
  pub descriptions : (o : ℕ) (s : Setting) (now : ActionNow) (w : World)
      → said_by_code (codes_told tables) s now w (description_code_of tables o) ≡ says (undescribed s) now w (text_of tale said.texts o)
  pub ways : (o direction : ℕ) → way_of tables o direction ≡ told_way tale o direction
  pub start : start_of tables ≡ told_start tale
  -- the sixteen, and behind them the author's
  pub actions : AllZip AsksFor tables.rules.actions (standard_needs ++ tale.declared.actions)
  -- those that every story has, and behind them the author's
  pub rules_are : AllZip (CarriesRule (codes_told tables)) tables.rules.rules (story_rules said.listings said.rules)
  -- each book lists its rules in the order in which they are asked
  pub books : (book : ℕ) → rules_listed tables book ≡ book_of (setting_of tale) (story_rules said.listings said.rules) book
  pub scenes_are : AllZip (CarriesScene (codes_told tables)) tables.rules.scenes said.scenes
  -- the author's, and behind them those that every story understands
  pub lines_are : lines_of tables ≡ story_lines said.lines
  pub value_names_are : (q : ℕ) → value_names tables q ≡ names_in_kind (slice_get tale.declared.values q)
