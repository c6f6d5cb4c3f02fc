-- Each object has one of the values of each kind of value that its kind has: as its story begins, and behind a change that gives it one.
use Rattle.std.proofs.Common.{◌≡◌, ◌∙◌, ◌≢◌, ◌⊎◌, sym, ap, refl, subst, ℕ, zero, suc, ◌+◌, ◌<◌, ◌&&◌, Bool, true, false, cond, List, [], ◌∷◌, length, map, take, inl, inr, arith, eqb-true}
use Rattle.std.specs.Prelude.{◌==◌, Option, Some, None, nat_lt, slice_get, slice_index_or, if◌then◌else◌}
use Rattle.std.specs.List.{count_by, filter, range_with_len}
use Rattle.std.proofs.Math.Dec.{eqb-suc-zero}
use Rattle.std.proofs.lemmas.Bool.{and_from, and_parts, cases_Bool, ltb-true}
use Rattle.std.proofs.lemmas.Bool.Decides.{Decides-eqb}
use Rattle.std.proofs.lemmas.List.{length-map}
use Rattle.world_meaning.specs.Declarations.{are_each_below, has_property, is_had}
use Rattle.world_meaning.specs.declared.declared.Granted.{Granted}
use Rattle.play_meaning.specs.Values.{is_value}
use Rattle.play_meaning.specs.Worlds.{World, set_value, value_of}
use Rattle.story_format.specs.Checks.{are_first_right, are_right}
use Rattle.story_format.specs.Facts.{text_at}
use Rattle.story_format.specs.InPlay.{grants_in, has_in, has_value, names_in, start_value, start_values, start_values_from, value_names}
use Rattle.story_format.specs.Spells.{IsStory}
use Rattle.story_format.specs.ValueChecks.{are_right_value_entries, are_right_values, counts_in, have_values}
use Rattle.story_format.specs.declared.tables.Entry.{Entry}
use Rattle.story_format.specs.declared.tables.Tables.{Tables}
use Rattle.story_format.specs.declared.value_tables.ValueEntry.{ValueEntry}
use Rattle.story_format.proofs.EntryLemmas.{counted_more, counted_same}
use Rattle.world_store.specs.StartWorlds.{start_world}
use Rattle.world_store.specs.StorySettings.{setting_of}
use Rattle.world_store.specs.StoryWorlds.{HasChoices, IsKept}
use Rattle.world_store.proofs.LawLemmas.{had_there, value_read, values_left}

-- how many values a kind of value has
abbrev count_at : Option ValueEntry → ℕ
count_at None = 0
count_at (Some v) = length v.names

named_so : (strings : List (List ℕ)) (found : Option ValueEntry) → length (names_in strings found) ≡ count_at found
named_so strings None = refl
named_so strings (Some v) = length-map v.names (text_at strings)

-- ---- the values of one object, as tables say them

first_below : (count : ℕ) (counts own : List ℕ) → are_each_below (count ∷ counts) own ≡ true → slice_index_or own 0 0 < count
unfolding are_each_below
first_below count counts [] each = absurd cc
first_below count counts (n ∷ ns) each = ltb-true n count (and_parts (nat_lt n count) (are_each_below counts ns) each).0

behind_first : (count : ℕ) (counts own : List ℕ) (i most : ℕ) → are_each_below (count ∷ counts) own ≡ true
    → ((others : List ℕ) → are_each_below counts others ≡ true → slice_index_or others i 0 < most) → slice_index_or own (suc i) 0 < most
unfolding are_each_below
behind_first count counts [] i most each on = absurd cc
behind_first count counts (n ∷ ns) i most each on = on ns (and_parts (nat_lt n count) (are_each_below counts ns) each).1

module _ (parents : List (Option ℕ)) (kind : ℕ) where
  abbrev has : ValueEntry → Bool
  has v = is_had parents kind v.given

  abbrev grants : List ValueEntry → List Granted
  grants values = map (λ v. v.given) values

  -- where the values of an object have that of kind of value q
  abbrev place : ℕ → List ValueEntry → ℕ
  place q values = count_by (is_had parents kind) (take q (grants values))

  abbrev counts_with : ValueEntry → List ValueEntry → Bool → List ℕ
  counts_with v vs is = map (λ v. length v.names) (cond is (v ∷ filter has vs) (filter has vs))

  own_below : (values : List ValueEntry) (own : List ℕ) (q : ℕ) → are_each_below (counts_in parents values kind) own ≡ true → has_property parents (grants values) kind q ≡ true
      → slice_index_or own (place q values) 0 < count_at (slice_get values q)
  own_below [] own q each is = absurd cc
  own_below (v ∷ vs) own zero each is = first_below (length v.names) (counts_in parents vs kind) own (subst (λ (b : Bool). are_each_below (counts_with v vs b) own ≡ true) is each)
  own_below (v ∷ vs) own (suc q) each is =
      let others = counts_in parents vs kind in
      let most = count_at (slice_get vs q) in
      elim (cases_Bool (has v)) [
        | inl had ↦
            let whole : are_each_below (length v.names ∷ others) own ≡ true = subst (λ (b : Bool). are_each_below (counts_with v vs b) own ≡ true) had each in
            let more : place (suc q) (v ∷ vs) ≡ suc (place q vs) = counted_more (is_had parents kind) v.given (take q (grants vs)) had in
            subst (λ (i : ℕ). slice_index_or own i 0 < most) (sym more) (behind_first (length v.names) others own (place q vs) most whole (λ left all. own_below vs left q all is))
        | inr lacks ↦
            let rest : are_each_below others own ≡ true = subst (λ (b : Bool). are_each_below (counts_with v vs b) own ≡ true) lacks each in
            let same : place (suc q) (v ∷ vs) ≡ place q vs = counted_same (is_had parents kind) v.given (take q (grants vs)) lacks in
            subst (λ (i : ℕ). slice_index_or own i 0 < most) (sym same) (own_below vs own q rest is)
      ]

-- ---- the start

start_below : (t : Tables) (q : ℕ) (entries : List Entry) (all : List (List ℕ)) (o : ℕ) → have_values t.world.kinds t.values.kinds entries all ≡ true
    → has_in t.world.kinds (grants_in t.values) q (slice_get entries o) ≡ true → slice_index_or (start_values_from t q entries all) o 0 < count_at (slice_get t.values.kinds q)
unfolding have_values start_value
start_below t q [] all o have is = absurd cc
start_below t q (e ∷ es) [] o have is = absurd cc
start_below t q (e ∷ es) (own ∷ others) zero have is =
    let parts = and_parts (are_each_below (counts_in t.world.kinds t.values.kinds e.kind) own) (have_values t.world.kinds t.values.kinds es others) have in
    rw is (own_below t.world.kinds e.kind t.values.kinds own q parts.0 is)
start_below t q (e ∷ es) (own ∷ others) (suc o) have is =
    let parts = and_parts (are_each_below (counts_in t.world.kinds t.values.kinds e.kind) own) (have_values t.world.kinds t.values.kinds es others) have in
    start_below t q es others o parts.1 is

if_some : (n : ℕ) (a b : Bool) → 0 < n → (if n == 0 then a else b) ≡ true → b ≡ true
if_some zero a b some h = absurd (omega (arith, some))
if_some (suc n) a b some h = let some_more : (suc n == 0) ≡ false = eqb-suc-zero n in rw some_more at h

values_right : (t : Tables) → IsStory t → 0 < length t.values.kinds → have_values t.world.kinds t.values.kinds t.objects t.values.objects ≡ true
unfolding are_right are_right_values
values_right t story some =
    let kinds = t.values.kinds in
    let entries = are_right_value_entries (length t.world.kinds) (length t.strings) kinds in
    let have = have_values t.world.kinds kinds t.objects t.values.objects in
    let right = (and_parts (are_first_right t) (are_right_values t) story.right).1 in
    (and_parts entries have (if_some (length kinds) (length t.values.objects == 0) (entries && have) some right)).1

column_at : {A : Type 0} (column : ℕ → List A) (a n i : ℕ) → i < n → slice_index_or (map column (range_with_len a n)) i [] ≡ column (a + i)
column_at column a zero i below = absurd (omega (arith, below))
column_at column a (suc n) zero below = let same : a ≡ a + 0 = omega arith in ap column same
column_at column a (suc n) (suc i) below = let same : (a + 1) + i ≡ a + suc i = omega arith in column_at column (a + 1) n i (omega (arith, below)) ∙ ap column same

pub choices_at_start : (t : Tables) → IsStory t → HasChoices t (start_world t)
unfolding start_world value_of
choices_at_start t story q o is =
    let there = had_there t.world.kinds (grants_in t.values) q t.objects o is in
    let many : length (grants_in t.values) ≡ length t.values.kinds = length-map t.values.kinds (λ v. v.given) in
    let at : 0 + q ≡ q = omega arith in
    let most = count_at (slice_get t.values.kinds q) in
    let below = start_below t q t.objects t.values.objects o (values_right t story (omega (arith, there.1, many))) is in
    let column : slice_index_or (map (start_values t) (range_with_len 0 (length t.values.kinds))) q [] ≡ start_values t q = column_at (start_values t) 0 (length t.values.kinds) q (omega (arith, there.1, many)) ∙ ap (start_values t) at in
    subst (λ (n : ℕ). value_of (start_world t) q o < n) (sym (named_so t.strings (slice_get t.values.kinds q)))
    (subst (λ (values : List ℕ). slice_index_or values o 0 < most) (sym column) below)

-- ---- changes

-- what leaves the values leaves this
pub choices_left : (t : Tables) (w v : World) → v.values ≡ w.values → HasChoices t w → HasChoices t v
unfolding value_of
choices_left t w v same choices q o is =
    subst (λ (values : List (List ℕ)). slice_index_or (slice_index_or values q []) o 0 < length (value_names t q)) (sym same) (choices q o is)

apart : (a b c d : ℕ) → ((a == b) && (c == d)) ≡ false → (a ≢ b) ⊎ (c ≢ d)
apart a b c d h =
    elim (cases_Bool (a == b)) [
      | inl same ↦ inr (λ e. let both : ((a == b) && (c == d)) ≡ true = and_from (a == b) (c == d) same ((Decides-eqb c d).1 e) in absurd cc)
      | inr other ↦ inl (λ e. let same : (a == b) ≡ true = (Decides-eqb a b).1 e in absurd cc)
    ]

-- a value that the kind of value has is given
pub choices_with : (t : Tables) (w : World) (kind o value : ℕ) → IsKept t w → is_value (setting_of t) kind value ≡ true → HasChoices t (set_value kind o value w)
unfolding setting_of
choices_with t w kind o value k fits of x is =
    let after = set_value kind o value w in
    elim (cases_Bool ((kind == of) && (o == x))) [
      | inl here ↦
          let parts = and_parts (kind == of) (o == x) here in
          let one : kind ≡ of = eqb-true kind of parts.0 in
          let same : o ≡ x = eqb-true o x parts.1 in
          let has : has_value t o kind ≡ true = subst (λ (y : ℕ). has_value t y kind ≡ true) (sym same) (subst (λ (f : ℕ). has_value t x f ≡ true) (sym one) is) in
          let given : value_of after kind o < length (value_names t kind) =
          subst (λ (n : ℕ). n < length (value_names t kind)) (sym (value_read t w kind o value k has)) (ltb-true value (length (value_names t kind)) fits) in
          subst (λ (f : ℕ). value_of after f x < length (value_names t f)) one (subst (λ (y : ℕ). value_of after kind y < length (value_names t kind)) same given)
      | inr other ↦ subst (λ (n : ℕ). n < length (value_names t of)) (sym (values_left w kind o of x value (apart kind of o x other))) (k.choices of x is)
    ]
