-- The layout of a story's tables, field by field.
use Rattle.std.proofs.Common.{◌≡◌, ℕ, ◌==◌, List, [], length, Option, refl, inl, inr, ◌⊎◌, cond}
use Rattle.world_meaning.specs.declared.exits.Way.{Way}
use Rattle.world_meaning.specs.declared.exits.Exits.{Exits}
use Rattle.story_format.specs.Layouts.{Layout, absent, u8s, u16s, u32s, optionals, optional_bytes, texts, then, as_record, times, list_of, table_of}
use Rattle.world_meaning.specs.declared.declared.Granted.{Granted}
use Rattle.story_format.specs.declared.world_tables.Variable.{Variable}
use Rattle.story_format.specs.declared.world_tables.WorldTables.{WorldTables}
use Rattle.story_format.specs.Choices.{no_sort, nothings, sort}
use Rattle.story_format.specs.declared.rule_entry.Aspect.{Aspect}
use Rattle.story_format.specs.declared.rule_entry.Aspect.TheVariants as aspects
use Rattle.story_format.specs.declared.rule_entry.KindAspect.{KindAspect}
use Rattle.story_format.specs.declared.rule_entry.PropertySide.{PropertySide}
use Rattle.story_format.specs.declared.rule_entry.RuleBody.{RuleBody}
use Rattle.story_format.specs.declared.rule_entry.RuleBody.TheVariants as bodies
use Rattle.story_format.specs.declared.rule_entry.RuleEntry.{RuleEntry}
use Rattle.story_format.specs.declared.rule_tables.ActionEntry.{ActionEntry}
use Rattle.story_format.specs.declared.rule_tables.LineEntry.{LineEntry}
use Rattle.story_format.specs.declared.rule_tables.Book.{Book}
use Rattle.story_format.specs.declared.rule_tables.SceneEntry.{SceneEntry}
use Rattle.story_format.specs.declared.rule_tables.RuleTables.{RuleTables}
use Rattle.story_format.specs.declared.tables.Entry.{Entry}
use Rattle.story_format.specs.declared.tables.Tables.{Tables}
use Rattle.story_format.specs.declared.value_tables.ValueEntry.{ValueEntry}
use Rattle.story_format.specs.declared.value_tables.ValueTables.{ValueTables}

-- table 2: the kind above a kind
unfoldable pub kind_layout : Layout (Option ℕ)
kind_layout = optional_bytes

-- tables 3 and 4: the kinds that have a property
unfoldable pub granted_layout : Layout Granted
granted_layout = as_record (λ p. record { kinds = p }) (λ g. g.kinds) (λ p. refl) (λ g. refl) (list_of u8s)

-- table 5: a variable's start
unfoldable pub variable_layout : Layout Variable
variable_layout = as_record (λ p. record { start = p }) (λ v. v.start) (λ p. refl) (λ v. refl) u32s

-- tables 2 to 5
unfoldable pub world_layout : Layout WorldTables
world_layout = as_record
    (λ p. record { kinds = p.0; flags = p.1.0; numbers = p.1.1.0; variables = p.1.1.1 })
    (λ w. (w.kinds, (w.flags, (w.numbers, w.variables)))) (λ p. refl) (λ w. refl)
    (then (table_of kind_layout) (then (table_of granted_layout) (then (table_of granted_layout) (table_of variable_layout))))

-- table 6: an object's entry
unfoldable pub entry_layout : Layout Entry
entry_layout = as_record
    (λ p. record {
      kind = p.0;
      name = p.1.0;
      article = p.1.1.0;
      description = p.1.1.1.0;
      words = p.1.1.1.1.0;
      relation = p.1.1.1.1.1.0;
      holder = p.1.1.1.1.1.1.0;
      properties = p.1.1.1.1.1.1.1.0;
      numbers = p.1.1.1.1.1.1.1.1;
    })
    (λ e. (e.kind, (e.name, (e.article, (e.description, (e.words, (e.relation, (e.holder, (e.properties, e.numbers))))))))) (λ p. refl) (λ e. refl)
    (then u8s (then u16s (then u8s (then u16s (then (list_of u16s) (then u8s (then u16s (then (list_of u8s) (list_of u32s)))))))))

-- the room beyond, and the door on the way
unfoldable pub way_layout : Layout Way
way_layout = as_record (λ p. record { room = p.0; door = p.1 }) (λ w. (w.room, w.door)) (λ p. refl) (λ w. refl) (then optionals optionals)

-- table 7: a room's twelve ways
unfoldable pub exits_layout : Layout Exits
exits_layout = as_record (λ ways. record { ways = ways }) (λ e. e.ways) (λ p. refl) (λ e. refl) (times 12 way_layout)

-- table 8: an action
unfoldable pub action_layout : Layout ActionEntry
action_layout = as_record
    (λ p. record { nouns = p.0; noun = p.1.0; second = p.1.1.0; marks = p.1.1.1 })
    (λ a. (a.nouns, (a.noun, (a.second, a.marks)))) (λ p. refl) (λ a. refl)
    (then u8s (then u8s (then u8s u8s)))

-- table 9: a line of the grammar
unfoldable pub line_layout : Layout LineEntry
line_layout = as_record (λ p. record { action = p.0; tokens = p.1 }) (λ l. (l.action, l.tokens)) (λ p. refl) (λ l. refl) (then u8s (list_of u16s))

-- a property that an aspect asks, and which of its names
unfoldable pub side_layout : Layout PropertySide
side_layout = as_record (λ p. record { property = p.0; side = p.1 }) (λ s. (s.property, s.side)) (λ p. refl) (λ s. refl) (then u8s u8s)

unfoldable pub kind_aspect_layout : Layout KindAspect
kind_aspect_layout = as_record (λ p. record { kind = p.0; properties = p.1 }) (λ k. (k.kind, k.properties)) (λ p. refl) (λ k. refl) (then u8s (list_of side_layout))

-- what a rule asks of a noun or a place: 0 nothing, 1 an object, 2 a kind
abbrev pub AspectSorts : Type 0
AspectSorts = Unit {0} ⊎ (ℕ ⊎ (KindAspect ⊎ ℕ))

abbrev pub aspect_of : AspectSorts → Aspect
aspect_of (inl u) = aspects.Anything
aspect_of (inr (inl o)) = aspects.Object o
aspect_of (inr (inr (inl k))) = aspects.Kind k
aspect_of (inr (inr (inr tag))) = aspects.Unknown tag

abbrev pub sort_of_aspect : Aspect → AspectSorts
sort_of_aspect aspects.Anything = inl tt
sort_of_aspect (aspects.Object o) = inr (inl o)
sort_of_aspect (aspects.Kind k) = inr (inr (inl k))
sort_of_aspect (aspects.Unknown tag) = inr (inr (inr tag))

pub aspect_back : (s : AspectSorts) → sort_of_aspect (aspect_of s) ≡ s
aspect_back (inl u) = refl
aspect_back (inr (inl o)) = refl
aspect_back (inr (inr (inl k))) = refl
aspect_back (inr (inr (inr tag))) = refl

pub aspect_forth : (a : Aspect) → aspect_of (sort_of_aspect a) ≡ a
aspect_forth aspects.Anything = refl
aspect_forth (aspects.Object o) = refl
aspect_forth (aspects.Kind k) = refl
aspect_forth (aspects.Unknown tag) = refl

unfoldable pub aspect_layout : Layout Aspect
aspect_layout = as_record aspect_of sort_of_aspect aspect_back aspect_forth (sort 0 nothings (sort 1 u16s (sort 2 kind_aspect_layout no_sort))).layout

-- what a rule does: 0 a code, 1 a standard rule
abbrev pub body_of : ℕ ⊎ (ℕ ⊎ ℕ) → RuleBody
body_of (inl code) = bodies.Code code
body_of (inr (inl rule)) = bodies.Standard rule
body_of (inr (inr tag)) = bodies.Unknown tag

abbrev pub sort_of_body : RuleBody → ℕ ⊎ (ℕ ⊎ ℕ)
sort_of_body (bodies.Code code) = inl code
sort_of_body (bodies.Standard rule) = inr (inl rule)
sort_of_body (bodies.Unknown tag) = inr (inr tag)

pub body_back : (s : ℕ ⊎ (ℕ ⊎ ℕ)) → sort_of_body (body_of s) ≡ s
body_back (inl code) = refl
body_back (inr (inl rule)) = refl
body_back (inr (inr tag)) = refl

pub body_forth : (b : RuleBody) → body_of (sort_of_body b) ≡ b
body_forth (bodies.Code code) = refl
body_forth (bodies.Standard rule) = refl
body_forth (bodies.Unknown tag) = refl

unfoldable pub body_layout : Layout RuleBody
body_layout = as_record body_of sort_of_body body_back body_forth (sort 0 u16s (sort 1 u8s no_sort)).layout

-- table 10: a rule
unfoldable pub rule_layout : Layout RuleEntry
rule_layout = as_record
    (λ p. record { book = p.0; action = p.1.0; noun = p.1.1.0; second = p.1.1.1.0; place = p.1.1.1.1.0; scene = p.1.1.1.1.1.0; condition = p.1.1.1.1.1.1.0; body = p.1.1.1.1.1.1.1 })
    (λ r. (r.book, (r.action, (r.noun, (r.second, (r.place, (r.scene, (r.condition, r.body)))))))) (λ p. refl) (λ r. refl)
    (then u16s (then u8s (then aspect_layout (then aspect_layout (then aspect_layout (then u8s (then u16s body_layout)))))))

-- table 11: a book's rules
unfoldable pub book_layout : Layout Book
book_layout = as_record (λ p. record { rules = p }) (λ b. b.rules) (λ p. refl) (λ b. refl) (table_of u16s)

-- table 12: a scene
unfoldable pub scene_layout : Layout SceneEntry
scene_layout = as_record (λ p. record { recurring = p.0; begins = p.1.0; ends = p.1.1 }) (λ s. (s.recurring, (s.begins, s.ends))) (λ p. refl) (λ s. refl) (then u8s (then u16s u16s))

-- tables 8 to 12
unfoldable pub rules_layout : Layout RuleTables
rules_layout = as_record
    (λ p. record { actions = p.0; grammar = p.1.0; rules = p.1.1.0; books = p.1.1.1.0; scenes = p.1.1.1.1 })
    (λ r. (r.actions, (r.grammar, (r.rules, (r.books, r.scenes))))) (λ p. refl) (λ r. refl)
    (then (table_of action_layout) (then (table_of line_layout) (then (table_of rule_layout) (then (table_of book_layout) (table_of scene_layout)))))

-- table 14: a kind of value
unfoldable pub value_layout : Layout ValueEntry
value_layout = as_record (λ p. record { names = p.0; given = p.1 }) (λ v. (v.names, v.given)) (λ p. refl) (λ v. refl) (then (list_of u16s) granted_layout)

-- two tables as tables 14 and 15
abbrev pub as_values : Layout (List ValueEntry) → Layout (List (List ℕ)) → Layout ValueTables
as_values kinds objects = as_record (λ p. record { kinds = p.0; objects = p.1 }) (λ v. (v.kinds, v.objects)) (λ p. refl) (λ v. refl) (then kinds objects)

-- tables 14 and 15
unfoldable pub two_tables_layout : Layout ValueTables
two_tables_layout = as_values (table_of value_layout) (table_of (list_of u8s))

-- neither of them
unfoldable pub no_tables_layout : Layout ValueTables
no_tables_layout = as_values absent absent

abbrev pub no_values : ValueTables
no_values = record { kinds = []; objects = [] }

-- version 1 has neither, version 2 has both
abbrev pub values_layout : ℕ → Layout ValueTables
values_layout version = cond (version == 1) no_tables_layout two_tables_layout

-- tables 1 to 13
abbrev pub FirstTables : Type 0
FirstTables = List (List ℕ) × (WorldTables × (List Entry × (List Exits × (RuleTables × List (List ℕ)))))

abbrev pub first_tables : Tables → FirstTables
first_tables t = (t.strings, (t.world, (t.objects, (t.ways, (t.rules, t.codes)))))

unfoldable pub first_layout : Layout FirstTables
first_layout = then (table_of texts) (then world_layout (then (table_of entry_layout) (then (table_of exits_layout) (then rules_layout (table_of texts)))))

-- with tables 14 and 15
abbrev pub with_values : FirstTables → ValueTables → Tables
with_values p values = record { strings = p.0; world = p.1.0; objects = p.1.1.0; ways = p.1.1.1.0; rules = p.1.1.1.1.0; codes = p.1.1.1.1.1; values = values }

-- the tables of a version
unfoldable pub tables_layout : ℕ → Layout Tables
tables_layout version = as_record (λ p. with_values p.0 p.1) (λ t. (first_tables t, t.values)) (λ p. refl) (λ t. refl) (then first_layout (values_layout version))

-- the version that a file of these tables has
abbrev pub version_of : Tables → ℕ
version_of t = cond (length t.values.kinds == 0) 1 2
