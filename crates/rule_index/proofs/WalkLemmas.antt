-- Walks over a list of rules, one by one or by the places of a class.
use Rattle.std.proofs.Common.{◌≡◌, ◌∙◌, ap, sym, refl, subst, ℕ, zero, suc, ◌+◌, ◌-◌, ◌<◌, ◌≤◌, Bool, true, false, List, [], ◌∷◌, length, drop, drop-drop, filter, Option, Some, None, arith, ltb, ltb-true, ltb-false}
use Rattle.std.specs.Prelude.{slice_get, slice_index_or, if◌then◌else◌}
use Rattle.std.specs.Iterator.{MakesProgress, item_count}
use Rattle.std.specs.List.Sorted.{IsNonDecreasingBy, IsPartitionPoint}
use Rattle.play_meaning.specs.Admitting.{admits}
use Rattle.story_format.specs.declared.rule_entry.RuleEntry.{RuleEntry}
use Rattle.story_format.specs.declared.tables.Tables.{Tables}
use Rattle.world_store.specs.StorySettings.{setting_of}
use Rattle.rule_index.specs.Buckets.{entry_admits, rule_admits}
use Rattle.rule_index.specs.Classes.{entry_suits, places_where, rule_suits}
use Rattle.rule_index.specs.Walks.{IsFirstFrom, NoneIsLeft, NonePasses, passing}

up : (n : ℕ) → suc (n + 1) ≡ suc n + 1
up n = omega arith

-- ---- what passes at a place

passing_some : (p : ℕ → Bool) (o : Option ℕ) (rule : ℕ) → passing p o ≡ Some rule → (o ≡ Some rule) × (p rule ≡ true)
passing_some p None rule is = absurd cc
passing_some p (Some r) rule is = by (p r) refl is
  where
    by : (b : Bool) → p r ≡ b → ◌≡◌ {A = Option ℕ} (if b then Some r else None) (Some rule) → ◌≡◌ {A = Option ℕ} (Some r) (Some rule) × (p rule ≡ true)
    by true holds is = let same : r ≡ rule = cc in (is, ap p (sym same) ∙ holds)
    by false holds is = absurd cc

passing_none : (p : ℕ → Bool) (o : Option ℕ) (rule : ℕ) → passing p o ≡ None → o ≡ Some rule → p rule ≡ false
passing_none p None rule is there = absurd cc
passing_none p (Some r) rule is there = let same : r ≡ rule = cc in ap p (sym same) ∙ by (p r) refl is
  where
    by : (b : Bool) → p r ≡ b → ◌≡◌ {A = Option ℕ} (if b then Some r else None) None → p r ≡ false
    by true holds is = absurd cc
    by false holds is = holds

-- ---- one by one

module _ (p : ℕ → Bool) (rules : List ℕ) (from place : ℕ) (none : NonePasses p rules from place) where
  pub none_more : passing p (slice_get rules place) ≡ None → NonePasses p rules from (place + 1)
  none_more is n rule low high there = by (ltb n place) refl
    where
      by : (b : Bool) → ltb n place ≡ b → p rule ≡ false
      by true below = none n rule low (ltb-true n place below) there
      by false above =
          let over = ltb-false n place above in
          let same : n ≡ place = omega arith in
          passing_none p (slice_get rules place) rule is (ap (slice_get rules) (sym same) ∙ there)

  pub first_found : (rule : ℕ) → from ≤ place → passing p (slice_get rules place) ≡ Some rule → IsFirstFrom p rules from place rule
  first_found rule low is =
      let parts = passing_some p (slice_get rules place) rule is in
      record { behind = low; there = parts.0; passing = parts.1; others = none }

-- ---- by the places of a class

module _ (t : Tables) (action : ℕ) (noun room : Option ℕ) where
  entry_apart : (entry : Option RuleEntry) → entry_suits action entry ≡ false → entry_admits (setting_of t) action noun room entry ≡ false
  unfolding admits
  entry_apart None not = refl
  entry_apart (Some entry) not = rw not refl

  -- a rule that names another action admits nothing of this one
  pub apart : (rule : ℕ) → rule_suits t action rule ≡ false → rule_admits t action noun room rule ≡ false
  unfolding rule_suits rule_admits
  apart rule not = entry_apart (slice_get t.rules.rules rule) not

-- what begins a class: the first place, of so many behind, and the class of those behind it
pub record Begins (p : ℕ → Bool) (k : ℕ) (ys : List ℕ) (place : ℕ) (after : List ℕ) : Type 0 where
  pub skipped : ℕ
  pub is_place : place ≡ k + skipped
  pub none : NonePasses p ys 0 skipped
  pub more : after ≡ places_where p (place + 1) (drop (skipped + 1) ys)

begins_by : (p : ℕ → Bool) (k y : ℕ) (ys : List ℕ) (place : ℕ) (after : List ℕ) (b : Bool) → p y ≡ b
    → ◌≡◌ {A = List ℕ} (place ∷ after) (if b then k ∷ places_where p (k + 1) ys else places_where p (k + 1) ys)
    → (place ∷ after ≡ places_where p (k + 1) ys → Begins p (k + 1) ys place after) → Begins p k (y ∷ ys) place after
begins_by p k y ys place after true holds is more =
    let same : place ≡ k = cc in
    let rest : after ≡ places_where p (k + 1) ys = cc in
    record { skipped = 0; is_place = omega arith; none = λ n rule low high there. absurd (omega arith); more = rest ∙ ap (λ n. places_where p (n + 1) ys) (sym same) }
begins_by p k y ys place after false not is more =
    let b = more is in
    record {
      skipped = suc b.skipped;
      is_place = omega (arith, b.is_place);
      none = λ n rule low high there. over n rule b high there;
      more = b.more ∙ ap (λ n. places_where p (place + 1) (drop n (y ∷ ys))) (up b.skipped);
    }
  where
    over : (n rule : ℕ) (b : Begins p (k + 1) ys place after) → n < suc b.skipped → slice_get (y ∷ ys) n ≡ Some rule → p rule ≡ false
    over zero rule b high there = let same : y ≡ rule = cc in ap p (sym same) ∙ not
    over (suc n) rule b high there = b.none n rule (omega arith) (omega arith) there

begins : (p : ℕ → Bool) (k : ℕ) (ys : List ℕ) (place : ℕ) (after : List ℕ) → place ∷ after ≡ places_where p k ys → Begins p k ys place after
begins p k [] place after is = absurd cc
begins p k (y ∷ ys) place after is = begins_by p k y ys place after (p y) refl is (λ same. begins p (k + 1) ys place after same)

ends_by : (p : ℕ → Bool) (k y : ℕ) (ys : List ℕ) (b : Bool) → p y ≡ b → ◌≡◌ {A = List ℕ} [] (if b then k ∷ places_where p (k + 1) ys else places_where p (k + 1) ys)
    → ([] ≡ places_where p (k + 1) ys → NoneIsLeft p ys 0) → NoneIsLeft p (y ∷ ys) 0
ends_by p k y ys true holds is more n rule low there = absurd cc
ends_by p k y ys false not is more zero rule low there = let same : y ≡ rule = cc in ap p (sym same) ∙ not
ends_by p k y ys false not is more (suc n) rule low there = more is n rule (omega arith) there

ends : (p : ℕ → Bool) (k : ℕ) (ys : List ℕ) → [] ≡ places_where p k ys → NoneIsLeft p ys 0
ends p k [] is n rule low there = absurd cc
ends p k (y ∷ ys) is n rule low there = ends_by p k y ys (p y) refl is (λ same. ends p (k + 1) ys same) n rule low there

get_behind : (rules : List ℕ) (at n : ℕ) → slice_get (drop at rules) n ≡ slice_get rules (at + n)
get_behind rules zero n = let same : n ≡ 0 + n = omega arith in ap (slice_get rules) same
get_behind [] (suc at) n = refl
get_behind (x ∷ rules) (suc at) n = let same : suc (at + n) ≡ suc at + n = omega arith in get_behind rules at n ∙ ap (slice_get (x ∷ rules)) same

-- of the rules from a place on those of a class are left, and none before them passes
pub record IsLeft (suits passes : ℕ → Bool) (rules : List ℕ) (from : ℕ) (rest : List ℕ) : Type 0 where
  pub at : ℕ
  pub left : rest ≡ places_where suits at (drop at rules)
  pub behind : from ≤ at
  pub none : NonePasses passes rules from at

module _ (suits passes : ℕ → Bool) (apart : (rule : ℕ) → suits rule ≡ false → passes rule ≡ false) (rules : List ℕ) (from : ℕ) where
  module _ (rest : List ℕ) (left : IsLeft suits passes rules from rest) where
    pub left_none : rest ≡ [] → NoneIsLeft passes rules from
    left_none is n rule low there = by (ltb n left.at) refl
      where
        by : (b : Bool) → ltb n left.at ≡ b → passes rule ≡ false
        by true below = left.none n rule low (ltb-true n left.at below) there
        by false above =
            let over = ltb-false n left.at above in
            let same : left.at + (n - left.at) ≡ n = omega arith in
            apart rule (ends suits left.at (drop left.at rules) (sym is ∙ left.left) (n - left.at) rule (omega arith)
            (get_behind rules left.at (n - left.at) ∙ ap (slice_get rules) same ∙ there))

    module _ (place : ℕ) (after : List ℕ) (is : rest ≡ place ∷ after) where
      first : Begins suits left.at (drop left.at rules) place after
      first = begins suits left.at (drop left.at rules) place after (sym is ∙ left.left)

      pub left_low : from ≤ place
      left_low = omega (arith, left.behind, first.is_place)

      pub left_over : NonePasses passes rules from place
      left_over n rule low high there = by (ltb n left.at) refl
        where
          by : (b : Bool) → ltb n left.at ≡ b → passes rule ≡ false
          by true below = left.none n rule low (ltb-true n left.at below) there
          by false above =
              let over = ltb-false n left.at above in
              let is_place = first.is_place in
              let same : left.at + (n - left.at) ≡ n = omega arith in
              apart rule (first.none (n - left.at) rule (omega arith) (omega arith) (get_behind rules left.at (n - left.at) ∙ ap (slice_get rules) same ∙ there))

      pub left_found : (rule : ℕ) → passing passes (slice_get rules place) ≡ Some rule → IsFirstFrom passes rules from place rule
      left_found rule found = first_found passes rules from place left_over rule left_low found

      pub left_more : passing passes (slice_get rules place) ≡ None → IsLeft suits passes rules from after
      left_more not =
          let low = left_low in
          let is_place = first.is_place in
          let same : left.at + (first.skipped + 1) ≡ place + 1 = omega arith in
          record {
            at = place + 1;
            left = first.more ∙ ap (places_where suits (place + 1)) (drop-drop (first.skipped + 1) left.at rules ∙ ap (λ n. drop n rules) same);
            behind = omega arith;
            none = none_more passes rules from place left_over not;
          }

-- ---- a class from a place on

module _ (p : ℕ → Bool) where
  abbrev class_if : ℕ → List ℕ → Bool → List ℕ
  class_if k ys b = if b then k ∷ places_where p (k + 1) ys else places_where p (k + 1) ys

  low_by : (k : ℕ) (ys : List ℕ) (d : ℕ) → ((i : ℕ) → i < length (places_where p (k + 1) ys) → k + 1 ≤ slice_index_or (places_where p (k + 1) ys) i d)
      → (b : Bool) (i : ℕ) → i < length (class_if k ys b) → k ≤ slice_index_or (class_if k ys b) i d
  low_by k ys d more true zero within = omega arith
  low_by k ys d more true (suc i) within = let high = more i (omega arith) in omega arith
  low_by k ys d more false i within = let high = more i within in omega arith

  low_places : (k : ℕ) (ys : List ℕ) (i d : ℕ) → i < length (places_where p k ys) → k ≤ slice_index_or (places_where p k ys) i d
  low_places k [] i d within = absurd (omega arith)
  low_places k (y ∷ ys) i d within = low_by k ys d (λ n. low_places (k + 1) ys n d) (p y) i within

  rises_by : (k : ℕ) (ys : List ℕ) (d : ℕ)
      → ((i j : ℕ) → i ≤ j → j < length (places_where p (k + 1) ys) → slice_index_or (places_where p (k + 1) ys) i d ≤ slice_index_or (places_where p (k + 1) ys) j d)
      → (b : Bool) (i j : ℕ) → i ≤ j → j < length (class_if k ys b) → slice_index_or (class_if k ys b) i d ≤ slice_index_or (class_if k ys b) j d
  rises_by k ys d more true zero zero low within = omega arith
  rises_by k ys d more true zero (suc j) low within = let high = low_places (k + 1) ys j d (omega arith) in omega arith
  rises_by k ys d more true (suc i) zero low within = absurd (omega arith)
  rises_by k ys d more true (suc i) (suc j) low within = more i j (omega arith) (omega arith)
  rises_by k ys d more false i j low within = more i j low within

  pub rising_places : (k : ℕ) (ys : List ℕ) → IsNonDecreasingBy (λ (n : ℕ). n) (places_where p k ys)
  rising_places k [] i j d low within = absurd (omega arith)
  rising_places k (y ∷ ys) i j d low within = rises_by k ys d (λ m n. rising_places (k + 1) ys m n d) (p y) i j low within

  -- where those in front are below, and the others aren't
  record Parts (class : List ℕ) (from m : ℕ) : Type 0 where
    few : m ≤ length class
    low : (i : ℕ) → i < m → slice_index_or class i 0 < from
    high : (i : ℕ) → m ≤ i → i < length class → from ≤ slice_index_or class i 0

  none_cut : (k : ℕ) (ys : List ℕ) (m : ℕ) → Parts (places_where p k ys) k m → m ≡ 0
  none_cut k ys zero parts = refl
  none_cut k ys (suc m) parts =
      let few = parts.few in
      let below = parts.low 0 (omega arith) in
      let above = low_places k ys 0 0 (omega arith) in
      absurd (omega arith)

  cut_by : (gap k from : ℕ) → from ≡ k + suc gap → (ys : List ℕ)
      → ((m : ℕ) → Parts (places_where p (k + 1) ys) from m → drop m (places_where p (k + 1) ys) ≡ places_where p from (drop gap ys))
      → (b : Bool) (m : ℕ) → Parts (class_if k ys b) from m → drop m (class_if k ys b) ≡ places_where p from (drop gap ys)
  cut_by gap k from is ys more true zero parts = let above = parts.high 0 (omega arith) (omega arith) in absurd (omega arith)
  cut_by gap k from is ys more true (suc m) parts = more m (record {
    few = let few = parts.few in omega arith;
    low = λ i below. parts.low (suc i) (omega arith);
    high = λ i above within. parts.high (suc i) (omega arith) (omega arith);
  })
  cut_by gap k from is ys more false m parts = more m parts

  cut : (gap k from : ℕ) → from ≡ k + gap → (ys : List ℕ) (m : ℕ) → Parts (places_where p k ys) from m → drop m (places_where p k ys) ≡ places_where p from (drop gap ys)
  cut zero k from is ys m parts =
      let same : from ≡ k = omega arith in
      let none = none_cut k ys m (subst (λ n. Parts (places_where p k ys) n m) same parts) in
      ap (λ n. drop n (places_where p k ys)) none ∙ ap (λ n. places_where p n ys) (sym same)
  cut (suc gap) k from is [] zero parts = refl
  cut (suc gap) k from is [] (suc m) parts = refl
  cut (suc gap) k from is (y ∷ ys) m parts =
      let next : from ≡ k + 1 + gap = omega arith in
      cut_by gap k from is ys (λ n ps. cut gap (k + 1) from next ys n ps) (p y) m parts

  pub class_behind : (rules : List ℕ) (from m : ℕ) → m ≤ length (places_where p 0 rules)
      → IsPartitionPoint (λ y. ltb y from ≡ true) (λ y. ltb y from ≡ false) (places_where p 0 rules) m
      → drop m (places_where p 0 rules) ≡ places_where p from (drop from rules)
  class_behind rules from m few point = cut from 0 from (omega arith) rules m (record {
    few = few;
    low = λ i below. ltb-true _ from (point.0 i 0 (omega arith) below);
    high = λ i above within. ltb-false _ from (point.1 i 0 above within);
  })

-- ---- the rules that pass

module _ (p : ℕ → Bool) where
  first_kept : (xs : List ℕ) (from gap place rule : ℕ) → place ≡ from + gap → NonePasses p xs from place → slice_get xs place ≡ Some rule → p rule ≡ true
      → filter p (drop from xs) ≡ rule ∷ filter p (drop (place + 1) xs)
  first_kept [] from gap zero rule is none there passes = absurd cc
  first_kept [] from gap (suc place) rule is none there passes = absurd cc
  first_kept (x ∷ xs) zero gap zero rule is none there passes =
      let same : x ≡ rule = cc in
      ap (λ b. if b then x ∷ filter p xs else filter p xs) (ap p same ∙ passes) ∙ ap (λ y. y ∷ filter p xs) same
  first_kept (x ∷ xs) zero zero (suc place) rule is none there passes = absurd (omega arith)
  first_kept (x ∷ xs) zero (suc gap) (suc place) rule is none there passes =
      ap (λ b. if b then x ∷ filter p xs else filter p xs) (none 0 x (omega arith) (omega arith) refl)
      ∙ first_kept xs 0 gap place rule (omega arith) (λ n r low high is. none (suc n) r (omega arith) (omega arith) is) there passes
      ∙ ap (λ n. rule ∷ filter p (drop n (x ∷ xs))) (up place)
  first_kept (x ∷ xs) (suc from) gap zero rule is none there passes = absurd (omega arith)
  first_kept (x ∷ xs) (suc from) gap (suc place) rule is none there passes =
      first_kept xs from gap place rule (omega arith) (λ n r low high is. none (suc n) r (omega arith) (omega arith) is) there passes
      ∙ ap (λ n. rule ∷ filter p (drop n (x ∷ xs))) (up place)

  pub kept_first : (xs : List ℕ) (from place rule : ℕ) → IsFirstFrom p xs from place rule → filter p (drop from xs) ≡ rule ∷ filter p (drop (place + 1) xs)
  kept_first xs from place rule first =
      let low = first.behind in
      first_kept xs from (place - from) place rule (omega arith) first.others first.there first.passing

  pub none_kept : (xs : List ℕ) (from : ℕ) → NoneIsLeft p xs from → filter p (drop from xs) ≡ []
  none_kept [] zero none = refl
  none_kept [] (suc from) none = refl
  none_kept (x ∷ xs) zero none =
      ap (λ b. if b then x ∷ filter p xs else filter p xs) (none 0 x (omega arith) refl) ∙ none_kept xs 0 (λ n r low is. none (suc n) r (omega arith) is)
  none_kept (x ∷ xs) (suc from) none = none_kept xs from (λ n r low is. none (suc n) r (omega arith) is)

-- an item that came was the first of those that were left
pub goes_on : {A : Type 0} (can : List A → Type 0) → ((l : List A) → can l) → (s t : List A) (x : A) → s ≡ x ∷ t → MakesProgress can (item_count (λ rest. rest)) s (Some x) t
goes_on can always s t x e = record {
  on = λ _. (always t, tt, subst (λ l. length t < length l) (sym e) (omega arith));
  keeps = always t;
  rests = λ _. tt;
}
