-- Tables 14 and 15 of a tale are right, have room in their bytes, and say what the tale says.
use Rattle.std.proofs.Common.{◌≡◌, ℕ, suc, ◌+◌, ◌<◌, ◌≤◌, Bool, true, false, cond, ◌&&◌, ltb, leb, eqb, List, [], ◌∷◌, ◌++◌, length, map, Option, refl, sym, ap, ◌∙◌, arith, inl, inr}
use Rattle.std.specs.Prelude.{count_by, slice_index_or, take, if◌then◌else◌}
use Rattle.std.specs.List.{list_all}
use Rattle.std.proofs.Math.Dec.{eqb-suc-zero}
use Rattle.std.proofs.lemmas.Bool.{cases_Bool, leb-true, lt-ltb, ltb-true, and_from, and_parts}
use Rattle.std.proofs.lemmas.List.{map-append}
use Rattle.std.proofs.lemmas.List.Folds.{list_all-append}
use Rattle.object_words.proofs.StringLemmas.{length_mapped}
use Rattle.object_words.specs.Mentions.{number_in}
use Rattle.command_grammar.specs.declared.synonym.Synonym.{Synonym}
use Rattle.play_meaning.specs.Tales.{grants_of, value_at_start}
use Rattle.world_meaning.specs.Declarations.{are_each_below, are_right_kinds, are_right_value_kinds, counts_had, has_property, is_had, is_right_grant, is_right_value_kind, suits_kind}
use Rattle.world_meaning.specs.declared.declared.Declared.{Declared}
use Rattle.world_meaning.specs.declared.declared.Granted.{Granted}
use Rattle.world_meaning.specs.declared.declared.ValueKind.{ValueKind}
use Rattle.world_meaning.specs.declared.tale.Object.{Object}
use Rattle.world_meaning.specs.declared.tale.Tale.{Tale}
use Rattle.story_format.specs.Contents.{Contents}
use Rattle.story_format.specs.InPlay.{grants_in, start_value, start_values, start_values_from}
use Rattle.story_format.specs.Layout.{no_tables_layout, two_tables_layout, value_layout, values_layout}
use Rattle.story_format.specs.Making.{Worded, code_count, entries_of, entry_of, names_of_values, object_values, tables_of, tables_with, value_entry, values_of, worded, worded_from, world_of}
use Rattle.story_format.specs.ValueChecks.{are_right_value_entries, counts_in, have_values, is_right_value_entry, strings_in_values}
use Rattle.story_format.specs.declared.tables.Tables.{Tables}
use Rattle.story_format.specs.declared.value_tables.ValueEntry.{ValueEntry}
use Rattle.story_format.proofs.DeclaredLemmas.{few_kinds, grant_fits, own_parts}
use Rattle.story_format.proofs.EntryLemmas.{objects_in}
use Rattle.story_format.proofs.Known.{all_named_small, is_known}
use Rattle.story_format.proofs.GrammarLemmas.{within}

-- ---- the strings that it names are the names of values

pub values_named : (strings : List (List ℕ)) (values : List ValueKind) → strings_in_values (map (value_entry strings) values) ≡ map (number_in strings) (names_of_values values)
values_named strings [] = refl
values_named strings (q ∷ values) =
    ap (λ rest. map (number_in strings) q.names ++ rest) (values_named strings values) ∙ sym (map-append (number_in strings) q.names (names_of_values values))

all_there : (strings texts : List (List ℕ)) → list_all (is_known strings) texts ≡ true → length strings < 65535 → list_all (λ n. ltb n (length strings)) (map (number_in strings) texts) ≡ true
all_there strings [] h few = refl
all_there strings (x ∷ texts) h few =
    let t = and_parts (is_known strings x) (list_all (is_known strings) texts) h in
    and_from (ltb (number_in strings x) (length strings)) (list_all (λ n. ltb n (length strings)) (map (number_in strings) texts)) (lt-ltb _ _ (within strings x t.0 few)) (all_there strings texts t.1 few)

-- ---- a kind of value

-- part by part
pub value_parts : (kinds : ℕ) (q : ValueKind) → is_right_value_kind kinds q ≡ true → (is_right_grant kinds q.given ≡ true) × (leb 1 (length q.names) ≡ true) × (leb (length q.names) 100 ≡ true)
value_parts kinds q h =
    let t = and_parts (is_right_grant kinds q.given && leb 1 (length q.names)) (leb (length q.names) 100) h in
    let u = and_parts (is_right_grant kinds q.given) (leb 1 (length q.names)) t.0 in
    (u.0, u.1, t.1)

entry_right : (kinds : ℕ) (strings : List (List ℕ)) (q : ValueKind) → is_right_value_kind kinds q ≡ true → list_all (is_known strings) q.names ≡ true → length strings < 65535 → is_right_value_entry kinds (length strings) (value_entry strings q) ≡ true
unfolding is_right_value_entry
entry_right kinds strings q h known few =
    let p = value_parts kinds q h in
    rw (p.0, length_mapped (number_in strings) q.names, p.1, p.2) (all_there strings q.names known few)

entries_right : (kinds : ℕ) (strings : List (List ℕ)) (values : List ValueKind) → list_all (is_right_value_kind kinds) values ≡ true → list_all (is_known strings) (names_of_values values) ≡ true → length strings < 65535
    → list_all (is_right_value_entry kinds (length strings)) (map (value_entry strings) values) ≡ true
entries_right kinds strings [] h known few = refl
entries_right kinds strings (q ∷ values) h known few =
    let t = and_parts (is_right_value_kind kinds q) (list_all (is_right_value_kind kinds) values) h in
    let u = and_parts (list_all (is_known strings) q.names) (list_all (is_known strings) (names_of_values values)) (sym (list_all-append (is_known strings) q.names (names_of_values values)) ∙ known) in
    and_from (is_right_value_entry kinds (length strings) (value_entry strings q)) (list_all (is_right_value_entry kinds (length strings)) (map (value_entry strings) values)) (entry_right kinds strings q t.0 u.0 few) (entries_right kinds strings values t.1 u.1 few)

entry_fits : (kinds : ℕ) → kinds ≤ 100 → (strings : List (List ℕ)) (q : ValueKind) → is_right_value_kind kinds q ≡ true → value_layout.format.fits (value_entry strings q) ≡ true
unfolding value_layout
entry_fits kinds le strings q h =
    let p = value_parts kinds q h in
    let few : length q.names ≤ 100 = leb-true _ _ p.2 in
    let count : ltb (length (map (number_in strings) q.names)) 256 ≡ true = lt-ltb _ _ (omega (arith, few, length_mapped (number_in strings) q.names)) in
    rw (count, all_named_small strings q.names) (grant_fits kinds le q.given p.0)

entries_fit : (kinds : ℕ) → kinds ≤ 100 → (strings : List (List ℕ)) (values : List ValueKind) → list_all (is_right_value_kind kinds) values ≡ true → list_all value_layout.format.fits (map (value_entry strings) values) ≡ true
entries_fit kinds le strings [] h = refl
entries_fit kinds le strings (q ∷ values) h =
    let t = and_parts (is_right_value_kind kinds q) (list_all (is_right_value_kind kinds) values) h in
    and_from (value_layout.format.fits (value_entry strings q)) (list_all value_layout.format.fits (map (value_entry strings) values)) (entry_fits kinds le strings q t.0) (entries_fit kinds le strings values t.1)

-- ---- what objects have

counts_same : (parents : List (Option ℕ)) (strings : List (List ℕ)) (values : List ValueKind) (kind : ℕ) → counts_in parents (map (value_entry strings) values) kind ≡ counts_had parents values kind
unfolding counts_had
counts_same parents strings [] kind = refl
counts_same parents strings (q ∷ values) kind =
    let later = counts_same parents strings values kind in
    elim (cases_Bool (is_had parents kind q.given)) [
      | inl is ↦ rw is (λ i. length_mapped (number_in strings) q.names i ∷ later i)
      | inr isnt ↦ rw isnt later
    ]

-- so many at most
few_counts : (parents : List (Option ℕ)) (values : List ValueKind) (kind : ℕ) → length (counts_had parents values kind) ≤ length values
unfolding counts_had
few_counts parents [] kind = omega arith
few_counts parents (q ∷ values) kind =
    let later = few_counts parents values kind in
    elim (cases_Bool (is_had parents kind q.given)) [
      | inl is ↦ rw is (omega (arith, later))
      | inr isnt ↦ rw isnt (omega (arith, later))
    ]

small_counts : (kinds : ℕ) (parents : List (Option ℕ)) (values : List ValueKind) (kind : ℕ) → list_all (is_right_value_kind kinds) values ≡ true → list_all (λ n. leb n 100) (counts_had parents values kind) ≡ true
unfolding counts_had
small_counts kinds parents [] kind h = refl
small_counts kinds parents (q ∷ values) kind h =
    let t = and_parts (is_right_value_kind kinds q) (list_all (is_right_value_kind kinds) values) h in
    let later = small_counts kinds parents values kind t.1 in
    elim (cases_Bool (is_had parents kind q.given)) [
      | inl is ↦ rw (is, (value_parts kinds q t.0).2) later
      | inr isnt ↦ rw isnt later
    ]

as_many : (counts ns : List ℕ) → are_each_below counts ns ≡ true → length ns ≡ length counts
unfolding are_each_below
as_many [] [] h = refl
as_many [] (n ∷ ns) h = absurd cc
as_many (count ∷ counts) [] h = absurd cc
as_many (count ∷ counts) (n ∷ ns) h = ap suc (as_many counts ns (and_parts (ltb n count) (are_each_below counts ns) h).1)

each_a_byte : (counts ns : List ℕ) → are_each_below counts ns ≡ true → list_all (λ n. leb n 100) counts ≡ true → list_all (λ n. ltb n 256) ns ≡ true
unfolding are_each_below
each_a_byte [] [] h small = refl
each_a_byte [] (n ∷ ns) h small = absurd cc
each_a_byte (count ∷ counts) [] h small = absurd cc
each_a_byte (count ∷ counts) (n ∷ ns) h small =
    let t = and_parts (ltb n count) (are_each_below counts ns) h in
    let u = and_parts (leb count 100) (list_all (λ n. leb n 100) counts) small in
    let below : n < count = ltb-true _ _ t.0 in
    let le : count ≤ 100 = leb-true _ _ u.0 in
    and_from (ltb n 256) (list_all (λ n. ltb n 256) ns) (lt-ltb _ _ (omega (arith, below, le))) (each_a_byte counts ns t.1 u.1)

abbrev is_value_list : List ℕ → Bool
is_value_list ns = ltb (length ns) 256 && list_all (λ n. ltb n 256) ns

own_fits : (kinds : ℕ) (parents : List (Option ℕ)) (values : List ValueKind) (kind : ℕ) (own : List ℕ) → length values ≤ 100 → list_all (is_right_value_kind kinds) values ≡ true → are_each_below (counts_had parents values kind) own ≡ true → is_value_list own ≡ true
own_fits kinds parents values kind own few right h =
    let counts = counts_had parents values kind in
    and_from (ltb (length own) 256) (list_all (λ n. ltb n 256) own) (lt-ltb _ _ (omega (arith, few, few_counts parents values kind, as_many counts own h))) (each_a_byte counts own h (small_counts kinds parents values kind right))

abbrev own_values : List Worded → List (List ℕ)
own_values ws = map (λ w. w.object.values) ws

all_own_fit : (d : Declared) (ws : List Worded) → length d.values ≤ 100 → list_all (is_right_value_kind (length d.kinds)) d.values ≡ true → list_all (suits_kind d) (objects_in ws) ≡ true → list_all is_value_list (own_values ws) ≡ true
all_own_fit d [] few right h = refl
all_own_fit d (w ∷ ws) few right h =
    let t = and_parts (suits_kind d w.object) (list_all (suits_kind d) (objects_in ws)) h in
    and_from (is_value_list w.object.values) (list_all is_value_list (own_values ws)) (own_fits (length d.kinds) d.kinds d.values w.object.kind w.object.values few right (own_parts d w.object t.0).3) (all_own_fit d ws few right t.1)

all_have : (d : Declared) (strings : List (List ℕ)) (next : ℕ) (ws : List Worded) → list_all (suits_kind d) (objects_in ws) ≡ true → have_values d.kinds (map (value_entry strings) d.values) (entries_of strings next ws) (own_values ws) ≡ true
unfolding have_values entries_of entry_of
all_have d strings next [] h = refl
all_have d strings next (w ∷ ws) h =
    let t = and_parts (suits_kind d w.object) (list_all (suits_kind d) (objects_in ws)) h in
    let kinds = map (value_entry strings) d.values in
    let after = next + code_count w.object.description in
    let own = ap (λ counts. are_each_below counts w.object.values) (counts_same d.kinds strings d.values w.object.kind) ∙ (own_parts d w.object t.0).3 in
    and_from (are_each_below (counts_in d.kinds kinds w.object.kind) w.object.values) (have_values d.kinds kinds (entries_of strings after ws) (own_values ws)) own (all_have d strings after ws t.1)

-- ---- both tables

-- where there is a kind of value, and where there is none
right_by : (parents : List (Option ℕ)) (strings : List (List ℕ)) (values : List ValueKind) (ws : List Worded) → are_right_value_entries (length parents) (length strings) (map (value_entry strings) values) ≡ true
    → have_values parents (map (value_entry strings) values) (entries_of strings 0 ws) (own_values ws) ≡ true
    → (if eqb (length (map (value_entry strings) values)) 0 then eqb (length (object_values values ws)) 0
    else (are_right_value_entries (length parents) (length strings) (map (value_entry strings) values) && have_values parents (map (value_entry strings) values) (entries_of strings 0 ws) (object_values values ws))) ≡ true
right_by parents strings [] ws h k = refl
right_by parents strings (q ∷ values) ws h k =
    let some : eqb (length (map (value_entry strings) (q ∷ values))) 0 ≡ false = eqb-suc-zero (length (map (value_entry strings) values)) in
    rw some (and_from (are_right_value_entries (length parents) (length strings) (map (value_entry strings) (q ∷ values))) (have_values parents (map (value_entry strings) (q ∷ values)) (entries_of strings 0 ws) (own_values ws)) h k)

-- as the check of tables 14 and 15 asks
pub values_right : (d : Declared) (strings : List (List ℕ)) (ws : List Worded) → are_right_value_kinds (length d.kinds) d.values ≡ true → list_all (is_known strings) (names_of_values d.values) ≡ true → length strings < 65535 → list_all (suits_kind d) (objects_in ws) ≡ true
    → (if eqb (length (map (value_entry strings) d.values)) 0 then eqb (length (object_values d.values ws)) 0
    else (are_right_value_entries (length d.kinds) (length strings) (map (value_entry strings) d.values) && have_values d.kinds (map (value_entry strings) d.values) (entries_of strings 0 ws) (object_values d.values ws))) ≡ true
values_right d strings ws h known few suited =
    let t = and_parts (leb (length d.values) 100) (list_all (is_right_value_kind (length d.kinds)) d.values) h in
    let count : leb (length (map (value_entry strings) d.values)) 100 ≡ true = ap (λ n. leb n 100) (length_mapped (value_entry strings) d.values) ∙ t.0 in
    let all = list_all (is_right_value_entry (length d.kinds) (length strings)) (map (value_entry strings) d.values) in
    right_by d.kinds strings d.values ws (and_from (leb (length (map (value_entry strings) d.values)) 100) all count (entries_right (length d.kinds) strings d.values t.1 known few)) (all_have d strings 0 ws suited)

fit_by : (strings : List (List ℕ)) (values : List ValueKind) (ws : List Worded) → length values ≤ 100 → length ws ≤ 1000 → list_all value_layout.format.fits (map (value_entry strings) values) ≡ true → list_all is_value_list (own_values ws) ≡ true
    → (values_layout (cond (eqb (length (map (value_entry strings) values)) 0) 1 2)).format.fits (record { kinds = map (value_entry strings) values; objects = object_values values ws }) ≡ true
unfolding no_tables_layout two_tables_layout
fit_by strings [] ws few many h k = refl
fit_by strings (q ∷ values) ws few many h k =
    let kinds = map (value_entry strings) (q ∷ values) in
    let some : eqb (length kinds) 0 ≡ false = eqb-suc-zero (length (map (value_entry strings) values)) in
    let count : ltb (length kinds) 65536 ≡ true = lt-ltb _ _ (omega (arith, few, length_mapped (value_entry strings) (q ∷ values))) in
    let all : ltb (length (own_values ws)) 65536 ≡ true = lt-ltb _ _ (omega (arith, many, length_mapped (λ (w : Worded). w.object.values) ws)) in
    rw (some, count, h, all) k

pub values_fit : (d : Declared) (strings : List (List ℕ)) (ws : List Worded) → are_right_kinds d.kinds ≡ true → are_right_value_kinds (length d.kinds) d.values ≡ true → length ws ≤ 1000 → list_all (suits_kind d) (objects_in ws) ≡ true
    → (values_layout (cond (eqb (length (map (value_entry strings) d.values)) 0) 1 2)).format.fits (values_of strings d ws) ≡ true
unfolding values_of
values_fit d strings ws kinds h many suited =
    let t = and_parts (leb (length d.values) 100) (list_all (is_right_value_kind (length d.kinds)) d.values) h in
    let few : length d.values ≤ 100 = leb-true _ _ t.0 in
    fit_by strings d.values ws few many (entries_fit (length d.kinds) (few_kinds d.kinds kinds) strings d.values t.1) (all_own_fit d ws few t.1 suited)

-- ---- who has them, and what objects begin with

grants_made : (strings : List (List ℕ)) (values : List ValueKind) → map (λ (v : ValueEntry). v.given) (map (value_entry strings) values) ≡ map (λ q. q.given) values
grants_made strings [] = refl
grants_made strings (q ∷ values) = ap (λ (more : List Granted). q.given ∷ more) (grants_made strings values)

pub tale_grants : (t : Tale) (c : Contents) → grants_in (tables_of t c).values ≡ grants_of t.declared
unfolding tables_with values_of
tale_grants t c = grants_made _ t.declared.values

-- an object's value, by what of the tables tells it
abbrev value_told : List (Option ℕ) → List Granted → ℕ → ℕ → List ℕ → ℕ
value_told parents grants q kind own = if has_property parents grants kind q then slice_index_or own (count_by (is_had parents kind) (take q grants)) 0 else 0

module _ (tables : Tables) (d : Declared) (q : ℕ) (kinds : tables.world.kinds ≡ d.kinds) (grants : grants_in tables.values ≡ grants_of d) where
  started : (strings : List (List ℕ)) (synonyms : List Synonym) (next from : ℕ) (objects : List Object)
      → start_values_from tables q (entries_of strings next (worded_from synonyms from objects)) (own_values (worded_from synonyms from objects)) ≡ map (value_at_start d q) objects
  unfolding entries_of entry_of start_value
  started strings synonyms next from [] = refl
  started strings synonyms next from (object ∷ objects) =
      λ i. value_told (kinds i) (grants i) q object.kind object.values ∷ started strings synonyms (next + code_count object.description) (from + 1) objects i

  none_started : grants_of d ≡ [] → (strings : List (List ℕ)) (synonyms : List Synonym) (next from : ℕ) (objects : List Object)
      → start_values_from tables q (entries_of strings next (worded_from synonyms from objects)) [] ≡ map (value_at_start d q) objects
  unfolding entries_of entry_of start_value
  none_started none strings synonyms next from [] = refl
  none_started none strings synonyms next from (object ∷ objects) =
      let nothing : (own : List ℕ) → value_told d.kinds (grants_of d) q object.kind own ≡ 0 = λ own. ap (λ (g : List Granted). value_told d.kinds g q object.kind own) none in
      let here = (λ i. value_told (kinds i) (grants i) q object.kind []) ∙ nothing [] ∙ sym (nothing object.values) in
      λ i. here i ∷ none_started none strings synonyms (next + code_count object.description) (from + 1) objects i

  all_started : (values : List ValueKind) → map (λ (v : ValueKind). v.given) values ≡ grants_of d → (strings : List (List ℕ)) (synonyms : List Synonym) (objects : List Object)
      → start_values_from tables q (entries_of strings 0 (worded synonyms objects)) (object_values values (worded synonyms objects)) ≡ map (value_at_start d q) objects
  all_started [] same strings synonyms objects = none_started (sym same) strings synonyms 0 0 objects
  all_started (v ∷ values) same strings synonyms objects = started strings synonyms 0 0 objects

pub values_started : (t : Tale) (c : Contents) (q : ℕ) → start_values (tables_of t c) q ≡ map (value_at_start t.declared q) t.objects
unfolding tables_with values_of world_of
values_started t c q = all_started (tables_of t c) t.declared q refl (tale_grants t c) t.declared.values refl _ c.synonyms t.objects

-- there are as many
pub value_kinds_counted : (t : Tale) (c : Contents) → length (tables_of t c).values.kinds ≡ length t.declared.values
unfolding tables_with values_of
value_kinds_counted t c = length_mapped (value_entry _) t.declared.values
