-- What a tale declares is right in tables 2 to 5 and has room in their bytes, and so have the properties of its objects.
use Rattle.std.proofs.Common.{◌≡◌, ℕ, ◌+◌, ◌<◌, ◌≤◌, Bool, true, false, cond, ◌&&◌, ltb, leb, eqb, List, [], ◌∷◌, ◌++◌, length, map, drop, Option, Some, None, refl, ap, ◌∙◌, arith, inl, inr, ◌⊎◌}
use Rattle.std.specs.Prelude.{count_by, slice_get, ℤ, pos, negsuc}
use Rattle.std.specs.List.{list_all}
use Rattle.std.specs.Int.{w32, cast_unsigned}
use Rattle.std.proofs.lemmas.Bool.{eqb-true, leb-true, lt-ltb, ltb-true, cases_Bool, and_from, and_parts}
use Rattle.std.proofs.lemmas.List.Folds.{list_all-append}
use Rattle.std.proofs.lemmas.List.Sums.{sum_by-cons}
use Rattle.std.proofs.lemmas.Option.{slice_get_within}
use Rattle.world_meaning.specs.Declarations.{are_right_grants, are_right_kinds, are_rising, begin_with_kinds, begin_with_properties, are_each_below, are_right_value_kinds, count_of_numbers, counts_had, has_properties, has_property, is_below, is_had, is_had_at, is_number, is_right_grant, is_rooted, is_same_kind, is_well_declared}
use Rattle.world_meaning.specs.Declarations.{suits_kind as object_suits}
use Rattle.world_meaning.specs.Kinds.{built_in_parents, climb_on, climbs, is_under, is_under_one}
use Rattle.world_meaning.specs.Properties.{built_in_properties}
use Rattle.world_meaning.specs.declared.declared.Declared.{Declared}
use Rattle.world_meaning.specs.declared.declared.Granted.{Granted}
use Rattle.world_meaning.specs.declared.kinds.TheConstants.{ROOTS}
use Rattle.world_meaning.specs.declared.tale.Object.{Object}
use Rattle.object_words.proofs.StringLemmas.{length_mapped}
use Rattle.story_format.specs.Formats.{fits_optional}
use Rattle.story_format.specs.Layout.{kind_layout, granted_layout, variable_layout, world_layout}
use Rattle.command_grammar.specs.declared.synonym.Synonym.{Synonym}
use Rattle.story_format.specs.Making.{Worded, worded_at, worded_from, code_count, entry_of, entries_of, numbers_of, variable_of, world_of}
use Rattle.story_format.specs.WorldChecks.{is_right_world, suits_kind}
use Rattle.story_format.proofs.StoryLemmas.{all_weaker, four, three}

-- what is declared, part by part
pub record Parts (d : Declared) : Type 0 where
  pub kinds : are_right_kinds d.kinds ≡ true
  pub first : begin_with_properties d.flags built_in_properties ≡ true
  pub flags : are_right_grants (length d.kinds) d.flags ≡ true
  pub numbers : are_right_grants (length d.kinds) d.numbers ≡ true
  pub few : leb (length d.variables) 100 ≡ true
  pub variables : list_all is_number d.variables ≡ true
  pub scenes : length d.scenes ≤ 50
  pub rulebooks : d.rulebooks ≤ 100
  pub values : are_right_value_kinds (length d.kinds) d.values ≡ true

pub declared_parts : (d : Declared) → is_well_declared d ≡ true → Parts d
unfolding is_well_declared
declared_parts d h =
    let kinds = are_right_kinds d.kinds in
    let first = begin_with_properties d.flags built_in_properties in
    let flags = are_right_grants (length d.kinds) d.flags in
    let numbers = are_right_grants (length d.kinds) d.numbers in
    let few = leb (length d.variables) 100 in
    let are_numbers = list_all is_number d.variables in
    let q = and_parts (kinds && first && flags && numbers && few && are_numbers && leb (length d.scenes) 50 && leb d.rulebooks 100) (are_right_value_kinds (length d.kinds) d.values) h in
    let r = and_parts (kinds && first && flags && numbers && few && are_numbers && leb (length d.scenes) 50) (leb d.rulebooks 100) q.0 in
    let s = and_parts (kinds && first && flags && numbers && few && are_numbers) (leb (length d.scenes) 50) r.0 in
    let a = and_parts (kinds && first && flags && numbers && few) are_numbers s.0 in
    let b = and_parts (kinds && first && flags && numbers) few a.0 in
    let c = and_parts (kinds && first && flags) numbers b.0 in
    let e = three kinds first flags c.0 in
    record { kinds = e.0; first = e.1; flags = e.2; numbers = c.1; few = b.1; variables = a.1; scenes = leb-true _ _ s.1; rulebooks = leb-true _ _ r.1; values = q.1 }

pub world_right : (d : Declared) → is_well_declared d ≡ true → is_right_world (world_of d) ≡ true
unfolding is_right_world world_of
world_right d h =
    let p = declared_parts d h in
    rw (p.kinds, p.first, p.flags, p.numbers, length_mapped variable_of d.variables) p.few

-- ---- kinds have room in their bytes

-- a kind that lies under another is that kind, or one of those that are declared
climb_below : (parents : List (Option ℕ)) (climb : ℕ → Bool) (k m : ℕ) (found : Option (Option ℕ)) → slice_get parents k ≡ found → climb_on climb found ≡ true → (k ≡ m) ⊎ (k < length parents)
climb_below parents climb k m None e h = absurd cc
climb_below parents climb k m (Some above) e h = inr (slice_get_within parents k above e)

under_below : (left parents : List (Option ℕ)) (k m : ℕ) → climbs left parents k m ≡ true → (k ≡ m) ⊎ (k < length parents)
under_below [] parents k m h = inl (eqb-true k m h)
under_below (x ∷ left) parents k m h =
    elim (cases_Bool (eqb k m)) [
      | inl is ↦ inl (eqb-true k m is)
      | inr isnt ↦
          let up : climb_on (λ p. climbs left parents p m) (slice_get parents k) ≡ true = rw isnt at h in
          climb_below parents (λ p. climbs left parents p m) k m (slice_get parents k) refl up
    ]

pub under_small : (parents : List (Option ℕ)) (k m : ℕ) → is_under parents k m ≡ true → (k ≡ m) ⊎ (k < length parents)
unfolding is_under
under_small parents k m h = under_below parents parents k m h

one_small : (parents : List (Option ℕ)) (others : List ℕ) (k : ℕ) → length parents ≤ 100 → list_all (is_below 100) others ≡ true → is_under_one parents others k ≡ true → k < 100
one_small parents [] k few small h = absurd cc
one_small parents (m ∷ others) k few small h =
    let t = and_parts (is_below 100 m) (list_all (is_below 100) others) small in
    let lt : m < 100 = ltb-true _ _ t.0 in
    elim (cases_Bool (is_under parents k m)) [
      | inl is ↦
          elim (under_small parents k m is) [
            | inl same ↦ omega (arith, same, lt)
            | inr below ↦ omega (arith, below, few)
          ]
      | inr isnt ↦ let later : is_under_one parents others k ≡ true = rw isnt at h in one_small parents others k few t.1 later
    ]

rooted_fits : (parents : List (Option ℕ)) → length parents ≤ 100 → (above : Option ℕ) → is_rooted parents above ≡ true → fits_optional 255 above ≡ true
rooted_fits parents few None h = absurd cc
rooted_fits parents few (Some k) h = lt-ltb _ _ (omega (arith, one_small parents ROOTS k few refl h))

same_kind : (kind other : Option ℕ) → is_same_kind kind other ≡ true → kind ≡ other
same_kind None None h = refl
same_kind None (Some k) h = absurd cc
same_kind (Some k) None h = absurd cc
same_kind (Some j) (Some k) h = ap Some (eqb-true j k h)

begun : (xs ys : List (Option ℕ)) → begin_with_kinds xs ys ≡ true → xs ≡ ys ++ drop (length ys) xs
unfolding begin_with_kinds
begun xs [] h = refl
begun [] (y ∷ ys) h = absurd cc
begun (x ∷ xs) (y ∷ ys) h =
    let t = and_parts (is_same_kind x y) (begin_with_kinds xs ys) h in
    ap (λ k. k ∷ xs) (same_kind x y t.0) ∙ ap (λ (ks : List (Option ℕ)). y ∷ ks) (begun xs ys t.1)

ten : length built_in_parents ≡ 10
unfolding built_in_parents
ten = refl

built_in_fit : list_all (fits_optional 255) built_in_parents ≡ true
unfolding built_in_parents
built_in_fit = refl

pub few_kinds : (parents : List (Option ℕ)) → are_right_kinds parents ≡ true → length parents ≤ 100
unfolding are_right_kinds
few_kinds parents h = leb-true _ _ (three (leb (length parents) 100) (begin_with_kinds parents built_in_parents) (list_all (is_rooted parents) (drop 10 parents)) h).0

kinds_fit : (parents : List (Option ℕ)) → are_right_kinds parents ≡ true → list_all (fits_optional 255) parents ≡ true
unfolding are_right_kinds
kinds_fit parents h =
    let t = three (leb (length parents) 100) (begin_with_kinds parents built_in_parents) (list_all (is_rooted parents) (drop 10 parents)) h in
    let few : length parents ≤ 100 = leb-true _ _ t.0 in
    let split : parents ≡ built_in_parents ++ drop 10 parents = begun parents built_in_parents t.1 ∙ ap (λ n. built_in_parents ++ drop n parents) ten in
    ap (list_all (fits_optional 255)) split ∙ list_all-append (fits_optional 255) built_in_parents (drop 10 parents)
    ∙ and_from (list_all (fits_optional 255) built_in_parents) (list_all (fits_optional 255) (drop 10 parents)) built_in_fit (all_weaker (is_rooted parents) (fits_optional 255) (rooted_fits parents few) (drop 10 parents) t.2)

-- ---- so have the kinds of a property

pub rising_short : (count next : ℕ) (ns : List ℕ) → next ≤ count → are_rising next ns ≡ true → list_all (is_below count) ns ≡ true → length ns + next ≤ count
unfolding are_rising
rising_short count next [] le h k = omega (arith, le)
rising_short count next (n ∷ ns) le h k =
    let t = and_parts (leb next n) (are_rising (n + 1) ns) h in
    let u = and_parts (is_below count n) (list_all (is_below count) ns) k in
    let below : n < count = ltb-true _ _ u.0 in
    let above : next ≤ n = leb-true _ _ t.0 in
    omega (arith, above, rising_short count (n + 1) ns (omega (arith, below)) t.1 u.1)

abbrev pub are_bytes : List ℕ → Bool
are_bytes ns = ltb (length ns) 256 && list_all (λ n. ltb n 256) ns

pub byte_if : (count : ℕ) → count ≤ 100 → (n : ℕ) → is_below count n ≡ true → ltb n 256 ≡ true
byte_if count le n h = let lt : n < count = ltb-true _ _ h in lt-ltb _ _ (omega (arith, lt, le))

pub rising_bytes : (count : ℕ) (ns : List ℕ) → count ≤ 100 → are_rising 0 ns ≡ true → list_all (is_below count) ns ≡ true → are_bytes ns ≡ true
rising_bytes count ns le h k =
    and_from (ltb (length ns) 256) (list_all (λ n. ltb n 256) ns) (lt-ltb _ _ (omega (arith, le, rising_short count 0 ns (omega arith) h k))) (all_weaker (is_below count) (λ n. ltb n 256) (byte_if count le) ns k)

pub grant_fits : (kinds : ℕ) → kinds ≤ 100 → (g : Granted) → is_right_grant kinds g ≡ true → granted_layout.format.fits g ≡ true
unfolding granted_layout
grant_fits kinds le g h = let t = and_parts (are_rising 0 g.kinds) (list_all (is_below kinds) g.kinds) h in rising_bytes kinds g.kinds le t.0 t.1

-- ---- so have numbers

abbrev pub is_word : ℕ → Bool
is_word n = ltb n 4294967296

pub number_fits : (z : ℤ) → is_number z ≡ true → is_word (cast_unsigned w32 z) ≡ true
number_fits (pos n) h = let lt : n < 2147483648 = ltb-true _ _ h in lt-ltb _ _ (omega (arith, lt))
number_fits (negsuc n) h = lt-ltb _ _ (omega arith)

variable_fits : (zs : List ℤ) → list_all is_number zs ≡ true → list_all variable_layout.format.fits (map variable_of zs) ≡ true
unfolding variable_layout
variable_fits [] h = refl
variable_fits (z ∷ zs) h = let t = and_parts (is_number z) (list_all is_number zs) h in and_from (variable_layout.format.fits (variable_of z)) (list_all variable_layout.format.fits (map variable_of zs)) (number_fits z t.0) (variable_fits zs t.1)

numbers_fit : (zs : List ℤ) → list_all is_number zs ≡ true → list_all is_word (numbers_of zs) ≡ true
numbers_fit [] h = refl
numbers_fit (z ∷ zs) h = let t = and_parts (is_number z) (list_all is_number zs) h in and_from (is_word (cast_unsigned w32 z)) (list_all is_word (numbers_of zs)) (number_fits z t.0) (numbers_fit zs t.1)

-- ---- so have tables 2 to 5

few_fit : (n : ℕ) → n ≤ 100 → ltb n 65536 ≡ true
few_fit n le = lt-ltb _ _ (omega (arith, le))

pub few_grants : (kinds : ℕ) (granted : List Granted) → are_right_grants kinds granted ≡ true → length granted ≤ 100
few_grants kinds granted h = leb-true _ _ (and_parts (leb (length granted) 100) (list_all (is_right_grant kinds) granted) h).0

grants_fit : (kinds : ℕ) (granted : List Granted) → kinds ≤ 100 → are_right_grants kinds granted ≡ true → (ltb (length granted) 65536 ≡ true) × (list_all granted_layout.format.fits granted ≡ true)
grants_fit kinds granted le h =
    let t = and_parts (leb (length granted) 100) (list_all (is_right_grant kinds) granted) h in
    (few_fit (length granted) (leb-true _ _ t.0), all_weaker (is_right_grant kinds) granted_layout.format.fits (grant_fits kinds le) granted t.1)

pub world_fits : (d : Declared) → is_well_declared d ≡ true → world_layout.format.fits (world_of d) ≡ true
unfolding world_layout kind_layout world_of
world_fits d h =
    let p = declared_parts d h in
    let few = few_kinds d.kinds p.kinds in
    let flags = grants_fit (length d.kinds) d.flags few p.flags in
    let numbers = grants_fit (length d.kinds) d.numbers few p.numbers in
    let variables : ltb (length (map variable_of d.variables)) 65536 ≡ true = few_fit (length (map variable_of d.variables)) (omega (arith, leb-true (length d.variables) 100 p.few, length_mapped variable_of d.variables)) in
    rw (few_fit (length d.kinds) few, kinds_fit d.kinds p.kinds, flags.0, flags.1, numbers.0, numbers.1, variables) (variable_fits d.variables p.variables)

-- ---- objects have what their kinds have

pub own_parts : (d : Declared) (o : Object) → object_suits d o ≡ true → (has_properties d.kinds d.flags o.kind o.properties ≡ true) × (eqb (length o.numbers) (count_of_numbers d.kinds d.numbers o.kind) ≡ true) × (list_all is_number o.numbers ≡ true) × (are_each_below (counts_had d.kinds d.values o.kind) o.values ≡ true)
unfolding object_suits
own_parts d o h = four (has_properties d.kinds d.flags o.kind o.properties) (eqb (length o.numbers) (count_of_numbers d.kinds d.numbers o.kind)) (list_all is_number o.numbers) (are_each_below (counts_had d.kinds d.values o.kind) o.values) h

entry_suits : (d : Declared) (strings : List (List ℕ)) (next : ℕ) (w : Worded) → object_suits d w.object ≡ true → suits_kind (world_of d) (entry_of strings next w) ≡ true
unfolding suits_kind entry_of world_of
entry_suits d strings next w h =
    let p = own_parts d w.object h in
    rw (p.0, length_mapped (cast_unsigned w32) w.object.numbers) p.1

pub all_suit : (d : Declared) (strings : List (List ℕ)) (synonyms : List Synonym) (objects : List Object) (o next : ℕ) → list_all (object_suits d) objects ≡ true
    → list_all (suits_kind (world_of d)) (entries_of strings next (worded_from synonyms o objects)) ≡ true
unfolding entries_of
all_suit d strings synonyms [] o next h = refl
all_suit d strings synonyms (object ∷ objects) o next h =
    let t = and_parts (object_suits d object) (list_all (object_suits d) objects) h in
    let w = worded_at synonyms o object in
    and_from (suits_kind (world_of d) (entry_of strings next w)) (list_all (suits_kind (world_of d)) (entries_of strings (next + code_count w.object.description) (worded_from synonyms (o + 1) objects))) (entry_suits d strings next w t.0)
    (all_suit d strings synonyms objects (o + 1) (next + code_count w.object.description) t.1)

-- ---- which has room in its bytes

abbrev pub fits_own : Object → Bool
fits_own o = are_bytes o.properties && ltb (length (numbers_of o.numbers)) 256 && list_all is_word (numbers_of o.numbers)

had_below : (parents : List (Option ℕ)) (flags : List Granted) (kind n : ℕ) (found : Option Granted) → slice_get flags n ≡ found → is_had_at parents kind found ≡ true → is_below (length flags) n ≡ true
had_below parents flags kind n None e h = absurd cc
had_below parents flags kind n (Some g) e h = lt-ltb _ _ (slice_get_within flags n g e)

properties_fit : (parents : List (Option ℕ)) (flags : List Granted) (kind : ℕ) (properties : List ℕ) → length flags ≤ 100 → has_properties parents flags kind properties ≡ true → are_bytes properties ≡ true
unfolding has_properties
properties_fit parents flags kind properties le h =
    let t = and_parts (are_rising 0 properties) (list_all (has_property parents flags kind) properties) h in
    let below = all_weaker (has_property parents flags kind) (is_below (length flags)) (λ n k. had_below parents flags kind n (slice_get flags n) refl k) properties t.1 in
    rising_bytes (length flags) properties le t.0 below

pub step_few : (b : Bool) → cond b 1 0 ≤ 1
step_few true = omega arith
step_few false = omega arith

pub counted_few : {A : Type 0} (p : A → Bool) (xs : List A) → count_by p xs ≤ length xs
counted_few p [] = omega arith
counted_few p (x ∷ xs) = omega (arith, sum_by-cons (λ x. cond (p x) 1 0) x xs, step_few (p x), counted_few p xs)

numbers_few : (parents : List (Option ℕ)) (numbers : List Granted) (kind : ℕ) → count_of_numbers parents numbers kind ≤ length numbers
unfolding count_of_numbers
numbers_few parents numbers kind = counted_few (is_had parents kind) numbers

own_fits : (d : Declared) → is_well_declared d ≡ true → (o : Object) → object_suits d o ≡ true → fits_own o ≡ true
own_fits d h o k =
    let p = declared_parts d h in
    let q = own_parts d o k in
    let flags : length d.flags ≤ 100 = leb-true _ _ (and_parts (leb (length d.flags) 100) (list_all (is_right_grant (length d.kinds)) d.flags) p.flags).0 in
    let numbers : length d.numbers ≤ 100 = leb-true _ _ (and_parts (leb (length d.numbers) 100) (list_all (is_right_grant (length d.kinds)) d.numbers) p.numbers).0 in
    let same : length o.numbers ≡ count_of_numbers d.kinds d.numbers o.kind = eqb-true _ _ q.1 in
    let few : ltb (length (numbers_of o.numbers)) 256 ≡ true = lt-ltb _ _ (omega (arith, same, numbers, numbers_few d.kinds d.numbers o.kind, length_mapped (cast_unsigned w32) o.numbers)) in
    rw (properties_fit d.kinds d.flags o.kind o.properties flags q.0, few) (numbers_fit o.numbers q.2)

pub all_own_fit : (d : Declared) → is_well_declared d ≡ true → (objects : List Object) → list_all (object_suits d) objects ≡ true → list_all fits_own objects ≡ true
all_own_fit d h objects k = all_weaker (object_suits d) fits_own (own_fits d h) objects k
