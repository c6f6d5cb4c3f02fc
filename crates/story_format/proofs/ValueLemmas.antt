-- Values of objects, told once for each kind.
use Rattle.std.proofs.Common.{◌≡◌, ℕ, zero, suc, ◌+◌, ◌<◌, ◌≤◌, Bool, true, false, ◌&&◌, eqb, leb, ltb, List, [], ◌∷◌, length, map, Option, None, Some, refl, sym, ap, ◌∙◌, arith, inl, inr, ◌⊎◌}
use Rattle.std.specs.Prelude.{min, slice_get, slice_index_or, take, if◌then◌else◌}
use Rattle.std.specs.List.{list_all}
use Rattle.std.proofs.Math.Dec.{eqb-suc-zero}
use Rattle.std.proofs.lemmas.Bool.{and_parts, leb-true}
use Rattle.std.proofs.lemmas.List.{length-map}
use Rattle.world_meaning.specs.Declarations.{are_each_below, is_right_grant}
use Rattle.world_meaning.specs.declared.declared.Granted.{Granted}
use Rattle.story_format.specs.Checks.{are_first_right, are_right, are_right_objects, are_right_ways, is_right_frame, stand_rightly, are_distinct, are_in_place, are_named_in_order, has_small_words, have_words, heads_named, is_small, strings_in_tables}
use Rattle.story_format.specs.Placed.{sorts_in}
use Rattle.story_format.specs.Sizes.{is_right_entry, sizes_of}
use Rattle.story_format.specs.Facts.{text_at}
use Rattle.story_format.specs.InPlay.{names_in, value_names}
use Rattle.story_format.specs.Spells.{IsStory}
use Rattle.story_format.specs.ValueChecks.{all_counts, are_right_value_entries, are_right_values, counts_from, counts_in, have_told_values, have_values, is_right_value_entry}
use Rattle.story_format.specs.WorldChecks.{suits_kind}
use Rattle.story_format.specs.declared.row.Sizes.{Sizes}
use Rattle.story_format.specs.declared.tables.Entry.{Entry}
use Rattle.story_format.specs.declared.tables.Tables.{Tables}
use Rattle.story_format.specs.declared.value_tables.ValueEntry.{ValueEntry}
use Rattle.story_format.proofs.KindLemmas.{entry_kind, frame_few}
use Rattle.story_format.proofs.StoryLemmas.{all_at, four, last_of_five}

counted_from : (parents : List (Option ℕ)) (values : List ValueEntry) (k : ℕ) (left : List (Option ℕ)) (i n : ℕ) → k + i ≡ n → i < length left → slice_index_or (counts_from parents values k left) i [] ≡ counts_in parents values n
counted_from parents values k [] i n e lt = absurd (omega (arith, lt))
counted_from parents values k (x ∷ left) zero n e lt = let same : k ≡ n = omega (arith, e) in ap (counts_in parents values) same
counted_from parents values k (x ∷ left) (suc i) n e lt = counted_from parents values (k + 1) left i n (omega (arith, e)) (omega (arith, lt))

counted_by : (parents : List (Option ℕ)) (values : List ValueEntry) (kind : ℕ) → kind < length parents → slice_index_or (all_counts parents values) kind [] ≡ counts_in parents values kind
counted_by parents values kind lt = counted_from parents values 0 parents kind kind (omega arith) lt

told_values : (sizes : Sizes) (parents : List (Option ℕ)) (values : List ValueEntry) (es : List Entry) (all : List (List ℕ)) → sizes.kinds ≡ length parents → list_all (is_right_entry sizes) es ≡ true
    → have_told_values (all_counts parents values) es all ≡ have_values parents values es all
unfolding have_told_values have_values
told_values sizes parents values [] [] same h = refl
told_values sizes parents values [] (own ∷ others) same h = refl
told_values sizes parents values (e ∷ es) [] same h = refl
told_values sizes parents values (e ∷ es) (own ∷ others) same h =
    let t = and_parts (is_right_entry sizes e) (list_all (is_right_entry sizes) es) h in
    let counts = counted_by parents values e.kind (omega (arith, same, entry_kind sizes e t.0)) in
    ap (λ counts. are_each_below counts own && have_told_values (all_counts parents values) es others) counts
    ∙ ap (λ b. are_each_below (counts_in parents values e.kind) own && b) (told_values sizes parents values es others same t.1)

-- the kinds that the first so many kinds of value are given to
pub given_before : (values : List ValueEntry) (n : ℕ) → map (λ v. v.given) (take (min n (length values)) values) ≡ take n (map (λ v. v.given) values)
given_before values zero = let same : min 0 (length values) ≡ 0 = omega arith in ap (λ m. map (λ (v : ValueEntry). v.given) (take m values)) same
given_before [] (suc n) = let same : min (suc n) 0 ≡ 0 = omega arith in ap (λ m. map (λ (v : ValueEntry). v.given) (take m [])) same
given_before (v ∷ values) (suc n) =
    let same : min (suc n) (length (v ∷ values)) ≡ suc (min n (length values)) = omega arith in
    ap (λ m. map (λ (v : ValueEntry). v.given) (take m (v ∷ values))) same ∙ ap (λ (given : List Granted). v.given ∷ given) (given_before values n)

-- what tables 1 to 12 say, part by part
abbrev pub FirstParts : Tables → Type 0
FirstParts t = (is_right_frame t ≡ true) × (are_distinct t.strings ≡ true) × (are_right_objects t ≡ true) × (stand_rightly t ≡ true) × (are_right_ways t ≡ true)

first_parts : (t : Tables) → are_first_right t ≡ true → FirstParts t
unfolding are_first_right
first_parts t h = last_of_five (is_right_frame t) (are_distinct t.strings) (are_right_objects t) (stand_rightly t) (are_right_ways t) h

pub checked_parts : (t : Tables) → are_right t ≡ true → FirstParts t
unfolding are_right
checked_parts t h = first_parts t (and_parts (are_first_right t) (are_right_values t) h).0

entries_right : (t : Tables) → are_right_objects t ≡ true → list_all (is_right_entry (sizes_of t)) t.objects ≡ true
unfolding are_right_objects
entries_right t h =
    let entries = list_all (is_right_entry (sizes_of t)) t.objects in
    let place = are_in_place t.strings t.world.kinds (sorts_in t).rooms t.objects in
    let words = have_words t.strings 0 t.objects in
    let small = list_all (has_small_words (map is_small t.strings)) t.objects in
    let texts = are_named_in_order 0 (strings_in_tables t) in
    let heads = are_named_in_order 0 (heads_named t) in
    let a = and_parts (entries && place && words && small && texts && heads) (list_all (suits_kind t.world) t.objects) h in
    let b = and_parts (entries && place && words && small && texts) heads a.0 in
    (last_of_five entries place words small texts b.0).0

-- ---- how many there are

values_of_story : (t : Tables) → IsStory t → are_right_values t ≡ true
unfolding are_right
values_of_story t story = (and_parts (are_first_right t) (are_right_values t) story.right).1

-- whether there are kinds of value or not
if_any : {A : Type 0} (xs : List A) (a b : Bool) → (if eqb (length xs) 0 then a else b) ≡ true → (xs ≡ []) ⊎ (b ≡ true)
if_any [] a b h = inl refl
if_any (x ∷ xs) a b h = let some : eqb (length (x ∷ xs)) 0 ≡ false = eqb-suc-zero (length xs) in let there : b ≡ true = rw some at h in inr there

no_kind_or_right : (t : Tables) → IsStory t → (t.values.kinds ≡ []) ⊎ (are_right_value_entries (length t.world.kinds) (length t.strings) t.values.kinds ≡ true)
unfolding are_right_values
no_kind_or_right t story =
    let kinds = t.values.kinds in
    let entries = are_right_value_entries (length t.world.kinds) (length t.strings) kinds in
    let have = have_values t.world.kinds kinds t.objects t.values.objects in
    elim (if_any kinds (eqb (length t.values.objects) 0) (entries && have) (values_of_story t story)) [
      | inl none ↦ inl none
      | inr there ↦ inr (and_parts entries have there).0
    ]

pub few_value_kinds : (t : Tables) → IsStory t → length t.values.kinds ≤ 100
few_value_kinds t story =
    elim (no_kind_or_right t story) [
      | inl none ↦ omega (arith, ap length none)
      | inr right ↦ leb-true _ _ (and_parts (leb (length t.values.kinds) 100) (list_all (is_right_value_entry (length t.world.kinds) (length t.strings)) t.values.kinds) right).0
    ]

each_few : (kinds strings : ℕ) (values : List ValueEntry) (q : ℕ) (v : ValueEntry) → list_all (is_right_value_entry kinds strings) values ≡ true → slice_get values q ≡ Some v → length v.names ≤ 100
unfolding is_right_value_entry
each_few kinds strings values q v h at =
    let right = all_at (is_right_value_entry kinds strings) values q v h at in
    leb-true _ _ (four (is_right_grant kinds v.given) (leb 1 (length v.names)) (leb (length v.names) 100) (list_all (λ n. ltb n strings) v.names) right).2

none_at : (values : List ValueEntry) (q : ℕ) (v : ValueEntry) → values ≡ [] → slice_get values q ≡ Some v → ⊥
none_at values q v none at = let z = sym at ∙ ap (λ (vs : List ValueEntry). slice_get vs q) none in absurd cc

few_at : (t : Tables) → IsStory t → (q : ℕ) (v : ValueEntry) → slice_get t.values.kinds q ≡ Some v → length v.names ≤ 100
few_at t story q v at =
    elim (no_kind_or_right t story) [
      | inl none ↦ absurd (none_at t.values.kinds q v none at)
      | inr right ↦ each_few (length t.world.kinds) (length t.strings) t.values.kinds q v (and_parts (leb (length t.values.kinds) 100) (list_all (is_right_value_entry (length t.world.kinds) (length t.strings)) t.values.kinds) right).1 at
    ]

few_in : (t : Tables) → IsStory t → (q : ℕ) (found : Option ValueEntry) → slice_get t.values.kinds q ≡ found → length (names_in t.strings found) ≤ 100
few_in t story q None at = omega arith
few_in t story q (Some v) at = omega (arith, few_at t story q v at, length-map v.names (text_at t.strings))

pub few_values : (t : Tables) (q : ℕ) → IsStory t → length (value_names t q) ≤ 100
few_values t q story = few_in t story q (slice_get t.values.kinds q) refl

-- ---- told once

pub first_few : (t : Tables) → are_first_right t ≡ true → length t.world.kinds ≤ 100
first_few t h = frame_few t (first_parts t h).0

pub values_told : (t : Tables) → are_first_right t ≡ true → have_told_values (all_counts t.world.kinds t.values.kinds) t.objects t.values.objects ≡ have_values t.world.kinds t.values.kinds t.objects t.values.objects
values_told t h = told_values (sizes_of t) t.world.kinds t.values.kinds t.objects t.values.objects refl (entries_right t (first_parts t h).2)
