-- The tables of a tale that a story file holds give the tale's own game.
use Rattle.std.proofs.Common.{◌≡◌, ℕ, zero, suc, ◌+◌, ◌-◌, Bool, true, false, List, [], ◌∷◌, length, map, Option, Some, None, refl, sym, ap, ◌∙◌, inl, inr}
use Rattle.std.specs.Prelude.{FitsSigned, is_none, replicate, slice_get, slice_index_or, ℤ, pos, negsuc}
use Rattle.std.specs.Int.{w32, cast_signed, cast_unsigned}
use Rattle.std.specs.List.{flat_map, list_all, range_with_len}
use Rattle.std.proofs.lemmas.Bool.{ltb-true, cases_Bool, and_parts}
use Rattle.std.proofs.lemmas.Int.{to_z-of_z}
use Rattle.world_meaning.proofs.Options.{none_is}
use Rattle.world_meaning.specs.Declarations.{are_each_below, counts_had, has_property, is_number, suits_kind}
use Rattle.world_meaning.specs.Kinds.{is_under}
use Rattle.world_meaning.specs.WellMade.{are_closed, has_right_exits, is_closed, sorts_in}
use Rattle.world_meaning.specs.declared.article.Article.{Article}
use Rattle.world_meaning.specs.declared.article.Article.TheVariants as articles
use Rattle.world_meaning.specs.declared.declared.Declared.{Declared}
use Rattle.world_meaning.specs.declared.declared.Granted.{Granted}
use Rattle.world_meaning.specs.declared.exits.Way.{Way}
use Rattle.world_meaning.specs.declared.sorts.Sorts.{Sorts}
use Rattle.world_meaning.specs.declared.tale.Object.{Object}
use Rattle.world_meaning.specs.declared.tale.Tale.{Tale}
use Rattle.play_meaning.proofs.Agreement.{one_setting}
use Rattle.play_meaning.specs.Agreement.{SettingsAgree}
use Rattle.play_meaning.specs.Commands.{read}
use Rattle.play_meaning.specs.Grounds.{said_by_code}
use Rattle.play_meaning.specs.PlainTales.{story_of_script}
use Rattle.play_meaning.specs.Scripts.{says, undescribed}
use Rattle.play_meaning.specs.Worlds.{World}
use Rattle.play_meaning.specs.declared.action.ActionNow.{ActionNow}
use Rattle.play_meaning.specs.Tales.{door_in as told_door, door_on as told_door_on, in_object, is_true_at_start, grants_of, number_at_start, place_among, setting_of as told_setting, start_of}
use Rattle.command_grammar.specs.declared.synonym.Synonym.{Synonym}
use Rattle.story_format.specs.Codes.{codes_told}
use Rattle.story_format.specs.Contents.{Contents}
use Rattle.story_format.specs.Facts.{description_code_of, exits_at}
use Rattle.play_meaning.specs.Worlds.{not_begun}
use Rattle.story_format.specs.RuleMaking.{codes_of_rules, rules_of, scene_entries}
use Rattle.story_format.specs.Holding.{AreHeld, AreOf, IsHeld}
use Rattle.story_format.specs.InPlay.{article_in, article_numbered, door_in, has_in, is_of_in, number_from, start_number, start_numbers, start_flags, start_variable, starts_true}
use Rattle.story_format.specs.Making.{Worded, article_number, code_count, described_in, entries_of, entry_of, numbers_of, strings_with, tables_of, tables_with, text_of, values_of, variable_of, ways_of, worded, worded_at, worded_from, world_of}
use Rattle.story_format.specs.TaleScripts.{whole_grammar, whole_script}
use Rattle.story_format.specs.declared.tables.Entry.{Entry}
use Rattle.story_format.proofs.Carried.{exits_found, object_found, tale_carried}
use Rattle.story_format.proofs.DeclaredLemmas.{declared_parts}
use Rattle.story_format.proofs.EntryLemmas.{objects_back, objects_in, places_back}
use Rattle.story_format.proofs.MadeValues.{tale_grants, value_kinds_counted, values_started}
use Rattle.story_format.proofs.SceneLemmas.{length_scenes}
use Rattle.story_format.proofs.Stories.{as_many_scenes}
use Rattle.story_format.proofs.StoryLemmas.{all_at}
use Rattle.world_store.specs.StartWorlds.{start_world}
use Rattle.world_store.specs.StoryGames.{plain_story}
use Rattle.world_store.specs.StoryGrammars.{grammar_of}
use Rattle.world_store.specs.StorySettings.{setting_of}

-- ---- numbers fit their words

number_fits : (z : ℤ) → is_number z ≡ true → FitsSigned w32 z
number_fits (pos n) h = record { sfits = ltb-true _ _ h }
number_fits (negsuc n) h = record { sfits = ltb-true _ _ h }

number_back : (z : ℤ) → is_number z ≡ true → cast_signed w32 (cast_unsigned w32 z) ≡ z
number_back z h = to_z-of_z w32 z (number_fits z h)

numbers_back : (zs : List ℤ) (i : ℕ) → list_all is_number zs ≡ true → number_from (slice_get (numbers_of zs) i) ≡ slice_index_or zs i (pos 0)
numbers_back [] i h = refl
numbers_back (z ∷ zs) zero h = number_back z (and_parts (is_number z) (list_all is_number zs) h).0
numbers_back (z ∷ zs) (suc i) h = numbers_back zs i (and_parts (is_number z) (list_all is_number zs) h).1

variables_back : (zs : List ℤ) → list_all is_number zs ≡ true → map start_variable (map variable_of zs) ≡ zs
variables_back [] h = refl
variables_back (z ∷ zs) h =
    let t = and_parts (is_number z) (list_all is_number zs) h in
    λ i. number_back z t.0 i ∷ variables_back zs t.1 i

-- ---- an entry says what its object says

article_back : (a : Article) → article_numbered (article_number a) ≡ a
article_back articles.None = refl
article_back articles.A = refl
article_back articles.An = refl
article_back articles.Some = refl

module _ {A : Type 0} (otherwise : A) (told : Option Entry → A) (said : Object → A) (nobody : told None ≡ otherwise)
    (same : (strings : List (List ℕ)) (next : ℕ) (w : Worded) → told (Some (entry_of strings next w)) ≡ said w.object) where
  -- by the object's number
  said_at : (synonyms : List Synonym) (strings : List (List ℕ)) (next from : ℕ) (objects : List Object) (o : ℕ) → told (slice_get (entries_of strings next (worded_from synonyms from objects)) o) ≡ in_object otherwise said (slice_get objects o)
  unfolding entries_of
  said_at synonyms strings next from [] o = nobody
  said_at synonyms strings next from (object ∷ objects) zero = same strings next (worded_at synonyms from object)
  said_at synonyms strings next from (object ∷ objects) (suc o) = said_at synonyms strings (next + code_count object.description) (from + 1) objects o

module _ {A : Type 0} (right : Object → Bool) (told : Entry → A) (said : Object → A)
    (same : (strings : List (List ℕ)) (next : ℕ) (w : Worded) → right w.object ≡ true → told (entry_of strings next w) ≡ said w.object) where
  -- of all objects
  said_of_all : (synonyms : List Synonym) (strings : List (List ℕ)) (next from : ℕ) (objects : List Object) → list_all right objects ≡ true → map told (entries_of strings next (worded_from synonyms from objects)) ≡ map said objects
  unfolding entries_of
  said_of_all synonyms strings next from [] h = refl
  said_of_all synonyms strings next from (object ∷ objects) h =
      let t = and_parts (right object) (list_all right objects) h in
      λ i. same strings next (worded_at synonyms from object) t.0 i ∷ said_of_all synonyms strings (next + code_count object.description) (from + 1) objects t.1 i

-- ---- doors

closed_door : (ways : List Way) (i : ℕ) → list_all is_closed ways ≡ true → told_door_on (slice_get ways i) ≡ None
closed_door [] i h = refl
closed_door (way ∷ ways) zero h = none_is way.door (and_parts (is_none way.room) (is_none way.door) (and_parts (is_closed way) (list_all is_closed ways) h).0).1
closed_door (way ∷ ways) (suc i) h = closed_door ways i (and_parts (is_closed way) (list_all is_closed ways) h).1

doors_found : (parents : List (Option ℕ)) (sorts : Sorts) (strings : List (List ℕ)) (ws : List Worded) (o direction : ℕ) (found : Option Worded) → slice_get ws o ≡ found → list_all (has_right_exits parents sorts) (objects_in ws) ≡ true
    → door_in (exits_at parents (entries_of strings 0 ws) (flat_map (ways_of parents) ws) o) direction ≡ in_object None (told_door direction) (slice_get (objects_in ws) o)
unfolding has_right_exits
doors_found parents sorts strings ws o direction None e h = rw (exits_found parents strings ws o None e, object_found ws o None e) refl
doors_found parents sorts strings ws o direction (Some w) e h =
    let object : slice_get (objects_in ws) o ≡ Some w.object = object_found ws o (Some w) e in
    let right : has_right_exits parents sorts w.object ≡ true = all_at (has_right_exits parents sorts) (objects_in ws) o w.object h object in
    elim (cases_Bool (is_under parents w.object.kind 1)) [
      | inl is ↦ rw (exits_found parents strings ws o (Some w) e, is, object) refl
      | inr isnt ↦ let closed : are_closed w.object.exits ≡ true = rw isnt at right in rw (exits_found parents strings ws o (Some w) e, isnt, object) (sym (closed_door w.object.exits.ways (direction - 1) closed))
    ]

-- ---- what never changes

settings_agree : (t : Tale) (c : Contents) → IsHeld t → AreHeld t c → SettingsAgree (setting_of (tables_of t c)) (told_setting t)
unfolding setting_of told_setting tables_with values_of world_of entry_of
settings_agree t c held said =
    let carries = tale_carried t c held said in
    let ws = worded c.synonyms t.objects in
    let strings = strings_with t c in
    let parents = t.declared.kinds in
    let back : objects_in ws ≡ t.objects = objects_back c.synonyms 0 t.objects in
    let exits : list_all (has_right_exits parents (sorts_in t)) (objects_in ws) ≡ true = ap (list_all (has_right_exits parents (sorts_in t))) back ∙ held.made.exits in
    record {
      count = carries.count;
      name = carries.names;
      article = said_at articles.None article_in (λ object. object.article) refl (λ strings next w. article_back w.object.article) c.synonyms strings 0 0 t.objects;
      is_of = λ o kind. said_at false (is_of_in parents kind) (λ object. is_under parents object.kind kind) refl (λ strings next w. refl) c.synonyms strings 0 0 t.objects o;
      depth = λ kind. refl;
      has_flag = λ o property. said_at false (has_in parents t.declared.flags property) (λ object. has_property parents t.declared.flags object.kind property) refl (λ strings next w. refl) c.synonyms strings 0 0 t.objects o;
      has_number = λ o property. said_at false (has_in parents t.declared.numbers property) (λ object. has_property parents t.declared.numbers object.kind property) refl (λ strings next w. refl) c.synonyms strings 0 0 t.objects o;
      has_value = λ o q. ap (λ (grants : List Granted). has_in parents grants q (slice_get (entries_of strings 0 ws) o)) (tale_grants t c)
          ∙ said_at false (has_in parents (grants_of t.declared) q) (λ object. has_property parents (grants_of t.declared) object.kind q) refl (λ strings next w. refl) c.synonyms strings 0 0 t.objects o;
      value_names = carries.value_names_are;
      room_beyond = carries.ways;
      door_beyond = λ room direction. doors_found parents (sorts_in t) strings ws room direction (slice_get ws room) refl exits ∙ ap (λ (objects : List Object). in_object None (told_door direction) (slice_get objects room)) back;
      has_description = carries.described;
    }

-- ---- the start

-- an object's numbers fit their words
numbers_right : (d : Declared) (object : Object) → suits_kind d object ≡ true → list_all is_number object.numbers ≡ true
unfolding suits_kind
numbers_right d object h = (and_parts _ (list_all is_number object.numbers) (and_parts _ (are_each_below (counts_had d.kinds d.values object.kind) object.values) h).0).1

number_started : (d : Declared) (property : ℕ) (strings : List (List ℕ)) (next : ℕ) (w : Worded) → suits_kind d w.object ≡ true → start_number (world_of d) property (entry_of strings next w) ≡ number_at_start d property w.object
unfolding world_of entry_of
number_started d property strings next w h =
    elim (cases_Bool (has_property d.kinds d.numbers w.object.kind property)) [
      | inl is ↦ rw is (numbers_back w.object.numbers (place_among d.kinds d.numbers w.object.kind property) (numbers_right d w.object h))
      | inr isnt ↦ rw isnt refl
    ]

flags_started : (t : Tale) (c : Contents) → IsHeld t → (property : ℕ) → start_flags (tables_of t c) property ≡ map (is_true_at_start property) t.objects
unfolding tables_with entry_of
flags_started t c held property = said_of_all (suits_kind t.declared) (starts_true property) (is_true_at_start property) (λ strings next w h. refl) c.synonyms (strings_with t c) 0 0 t.objects held.made.suited

numbers_started : (t : Tale) (c : Contents) → IsHeld t → (property : ℕ) → start_numbers (tables_of t c) property ≡ map (number_at_start t.declared property) t.objects
unfolding tables_with
numbers_started t c held property = said_of_all (suits_kind t.declared) (start_number (world_of t.declared) property) (number_at_start t.declared property) (number_started t.declared property) c.synonyms (strings_with t c) 0 0 t.objects held.made.suited

-- no scene has begun
none_begun : (scenes : List Bool) → replicate (length scenes) not_begun ≡ map (λ recurs. not_begun) scenes
none_begun [] = refl
none_begun (recurs ∷ scenes) = ap (λ all. not_begun ∷ all) (none_begun scenes)

one_start : (t : Tale) (c : Contents) → IsHeld t → AreOf t c → start_world (tables_of t c) ≡ start_of t
unfolding start_world start_of tables_with values_of world_of rules_of
one_start t c held of =
    let places = places_back (strings_with t c) 0 (worded c.synonyms t.objects) ∙ ap (λ (objects : List Object). map (λ object. object.place) objects) (objects_back c.synonyms 0 t.objects) in
    let variables = variables_back t.declared.variables (declared_parts t.declared held.made.declared).variables in
    let many : length (scene_entries (described_in (worded c.synonyms t.objects) + codes_of_rules c.rules) c.scenes) ≡ length t.declared.scenes =
    length_scenes c.scenes (described_in (worded c.synonyms t.objects) + codes_of_rules c.rules) ∙ as_many_scenes t c of in
    let begun = ap (λ n. replicate n not_begun) many ∙ none_begun t.declared.scenes in
    λ i. record {
      places = places i;
      flags = map (λ property. flags_started t c held property i) (range_with_len 0 (length t.declared.flags));
      numbers = map (λ property. numbers_started t c held property i) (range_with_len 0 (length t.declared.numbers));
      values = map (λ q. values_started t c q i) (range_with_len 0 (value_kinds_counted t c i));
      variables = variables i;
      scenes = begun i;
      turns = 1;
      ended = None;
    }

-- ---- all of it

pub tables_game : (t : Tale) (c : Contents) → IsHeld t → AreHeld t c → plain_story (tables_of t c) ≡ story_of_script (whole_script t c)
unfolding plain_story whole_script story_of_script
tables_game t c held said =
    let setting = one_setting (setting_of (tables_of t c)) (told_setting t) (settings_agree t c held said) in
    let start = one_start t c held said.are_of in
    let carries = tale_carried t c held said in
    let grammar : grammar_of (tables_of t c) ≡ whole_grammar t c = λ i. record { setting = setting i; words = λ o. carries.words o i; lines = carries.lines_are i } in
    let described : (o : ℕ) (now : ActionNow) (w : World)
    → said_by_code (codes_told (tables_of t c)) (setting_of (tables_of t c)) now w (description_code_of (tables_of t c) o) ≡ says (undescribed (told_setting t)) now w (text_of t c.texts o) =
    λ o now w. carries.descriptions o (setting_of (tables_of t c)) now w ∙ ap (λ s. says (undescribed s) now w (text_of t c.texts o)) setting in
    λ i. record {
      setting = setting i;
      start = start i;
      describes = λ o now w. described o now w i;
      reads = read (grammar i);
    }
