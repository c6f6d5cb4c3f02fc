-- What the tale that sentences mean declares is what a story may declare, and its objects have what their kinds have.
use Rattle.std.proofs.Common.{◌≡◌, ℕ, ℤ, suc, ◌+◌, ◌≤◌, ◌<◌, Bool, true, ◌&&◌, cond, eqb, leb, ltb, List, [], ◌∷◌, ◌++◌, length, Option, Some, None, refl, sym, ap, subst, arith, ◌∙◌, inl, inr}
use Rattle.std.specs.List.{list_all}
use Rattle.std.specs.Prelude.{count_by, fold, slice_get}
use Rattle.std.proofs.lemmas.Bool.{eq-eqb, le-leb, lt-ltb, ltb-true, cases_Bool, and_from, and_parts}
use Rattle.world_meaning.specs.Declarations.{are_each_below, are_right_value_kinds, counts_had, is_had, is_right_grant, is_right_value_kind, is_had_at, are_right_grants, are_right_kinds, are_rising, begin_with_kinds, count_of_numbers, has_properties, has_property, is_number, is_rooted, is_well_declared, suits_kind}
use Rattle.world_meaning.specs.declared.declared.Declared.{Declared}
use Rattle.world_meaning.specs.declared.declared.Granted.{Granted}
use Rattle.world_meaning.specs.declared.declared.ValueKind.{ValueKind}
use Rattle.world_meaning.specs.Kinds.{built_in_parents}
use Rattle.i7_kinds.specs.KindClaims.{declared_by, givens_by, kind_names, scenes_of, starts_of}
use Rattle.i7_claims.specs.Sorts.{built_in_either_ors, names_as}
use Rattle.i7_claims.specs.declared.sorts.Sort.TheVariants as sort
use Rattle.i7_claims.specs.declared.claim.Claim.{Claim}
use Rattle.i7_claims.specs.declared.claim.Value.{Value}
use Rattle.i7_claims.specs.declared.claim.Value.TheVariants.{Truth, Amount, Choice, Never}
use Rattle.i7_kinds.proofs.Granting.{begin_built_in, either_ors_behind, flag_right, flags_counted, flags_right}
use Rattle.i7_kinds.specs.Grants.{built_in_bases, first_base, flags_from, other_bases}
use Rattle.i7_kinds.specs.declared.grants.Given.{Given}
use Rattle.i7_kinds.proofs.Ranged.{AreRangedValues, numbers_in_range}
use Rattle.i7_kinds.proofs.Rooted.{authors, authors_behind}
use Rattle.i7_kinds.specs.declared.entries.Entry.{Entry}
use Rattle.i7_kinds.specs.ValueKinds.{AreFewValues, choice_or, value_kind_of, value_kinds_from}
use Rattle.i7_kinds.specs.Values.{usual_of}
use Rattle.i7_kinds.specs.Tales.{Made, begins, built_in_truths, choices_from, chosen, kind_at, numbers_from, object_as, object_of, objects_of, properties_from}
use Rattle.i7_kinds.proofs.UnderKinds.{with_others}
use Rattle.i7_kinds.proofs.Valueless.{HaveValues, kinds_counted}

-- what stands behind the built-in kinds and properties, the names of the number properties and of the kinds of value with the claims that list
-- their values, what variables start at, which scenes may
-- happen again, and how many rulebooks there are
pub record Behind : Type 0 where
  pub kinds : List (Option ℕ)
  pub givens : List Given
  pub properties : List (List ℕ)
  pub numbers : List (List ℕ)
  pub value_names : List (List ℕ)
  pub claims : List Claim
  pub starts : List ℤ
  pub scenes : List Bool
  pub rulebooks : ℕ

abbrev pub kinds_with : Behind → List (Option ℕ)
kinds_with b = with_others b.kinds

abbrev pub flags_with : Behind → List Granted
flags_with b = flags_from (kinds_with b) b.givens 0 built_in_bases (built_in_either_ors ++ b.properties)

abbrev pub numbers_with : Behind → List Granted
numbers_with b = flags_from (kinds_with b) b.givens (length (flags_with b)) [] b.numbers

abbrev pub values_with : Behind → List ValueKind
values_with b = value_kinds_from (kinds_with b) b.givens (length (flags_with b) + length (numbers_with b)) b.claims b.value_names

abbrev pub declared_with : Behind → Declared
declared_with b = record { kinds = kinds_with b; flags = flags_with b; numbers = numbers_with b; variables = b.starts; scenes = b.scenes; rulebooks = b.rulebooks; actions = []; values = values_with b }

abbrev pub behind_of : List Claim → Behind
behind_of claims = record {
  kinds = authors (kind_names claims) claims;
  givens = givens_by claims;
  properties = (either_ors_behind claims).0;
  numbers = names_as sort.Number claims;
  value_names = names_as sort.ValueKind claims;
  claims = claims;
  starts = starts_of claims (names_as sort.Variable claims);
  scenes = scenes_of claims (names_as sort.Scene claims);
  rulebooks = length (names_as sort.Rulebook claims);
}

pub declared_is : (claims : List Claim) → declared_with (behind_of claims) ≡ declared_by claims
declared_is claims =
    let kinds = sym (authors_behind claims) in
    let names = sym (either_ors_behind claims).1 in
    let flags = λ (ks : List (Option ℕ)) (ns : List (List ℕ)). flags_from ks (givens_by claims) 0 built_in_bases ns in
    let numbers = λ (ks : List (Option ℕ)) (ns : List (List ℕ)). flags_from ks (givens_by claims) (length (flags ks ns)) [] (names_as sort.Number claims) in
    λ i. record {
      kinds = kinds i;
      flags = flags (kinds i) (names i);
      numbers = numbers (kinds i) (names i);
      variables = starts_of claims (names_as sort.Variable claims);
      scenes = scenes_of claims (names_as sort.Scene claims);
      rulebooks = length (names_as sort.Rulebook claims);
      actions = [];
      values = value_kinds_from (kinds i) (givens_by claims) (length (flags (kinds i) (names i)) + length (numbers (kinds i) (names i))) claims (names_as sort.ValueKind claims);
    }

pub starts_counted : (claims : List Claim) (names : List (List ℕ)) → length (starts_of claims names) ≡ length names
starts_counted claims [] = refl
starts_counted claims (name ∷ names) = ap suc (starts_counted claims names)

others_counted : (others : List (Option ℕ)) → length (built_in_parents ++ others) ≡ 10 + length others
unfolding built_in_parents
others_counted others = omega arith

kinds_right : (others : List (Option ℕ)) → length (built_in_parents ++ others) ≤ 100 → list_all (is_rooted (built_in_parents ++ others)) others ≡ true → are_right_kinds (built_in_parents ++ others) ≡ true
unfolding are_right_kinds begin_with_kinds built_in_parents
kinds_right others few roots = rw (le-leb _ _ few) roots

pub kinds_many : (b : Behind) → 10 ≤ length (kinds_with b)
kinds_many b = omega (arith, others_counted b.kinds)

each_right : (b : Behind) (from : ℕ) (names : List (List ℕ)) → AreFewValues (value_kinds_from (kinds_with b) b.givens from b.claims names)
    → HaveValues (value_kinds_from (kinds_with b) b.givens from b.claims names)
    → list_all (is_right_value_kind (length (kinds_with b))) (value_kinds_from (kinds_with b) b.givens from b.claims names) ≡ true
each_right b from [] few have = refl
each_right b from (name ∷ names) few have =
    let q = value_kind_of (kinds_with b) b.givens from b.claims name in
    let n = length (kinds_with b) in
    and_from (is_right_value_kind n q) _
    (and_from (is_right_grant n q.given && leb 1 (length q.names)) (leb (length q.names) 100)
    (and_from (is_right_grant n q.given) (leb 1 (length q.names)) (flag_right (kinds_with b) (kinds_many b) b.givens from []) (le-leb 1 (length q.names) have.0))
    (le-leb (length q.names) 100 few.0))
    (each_right b (from + 1) names few.1 have.1)

values_right : (b : Behind) → length b.value_names ≤ 100 → AreFewValues (values_with b) → HaveValues (values_with b)
    → are_right_value_kinds (length (kinds_with b)) (values_with b) ≡ true
values_right b few_kinds few have =
    let from = length (flags_with b) + length (numbers_with b) in
    and_from (leb (length (values_with b)) 100) _
    (le-leb (length (values_with b)) 100 (omega (arith, few_kinds, kinds_counted (kinds_with b) b.givens from b.claims b.value_names)))
    (each_right b from b.value_names few have)

pub declared_held : (b : Behind) → length (kinds_with b) ≤ 100 → length (built_in_either_ors ++ b.properties) ≤ 100 → length b.numbers ≤ 100 → length b.starts ≤ 100 → length b.scenes ≤ 50 → b.rulebooks ≤ 100 → list_all is_number b.starts ≡ true → list_all (is_rooted (kinds_with b)) b.kinds ≡ true
    → length b.value_names ≤ 100 → AreFewValues (values_with b) → HaveValues (values_with b) → is_well_declared (declared_with b) ≡ true
unfolding is_well_declared
declared_held b few few_properties few_numbers few_variables few_scenes few_rulebooks ranged roots few_kinds few_values some_values =
    let n = length (kinds_with b) in
    let names = built_in_either_ors ++ b.properties in
    let many = kinds_many b in
    let flags : are_right_grants n (flags_with b) ≡ true = and_from (leb (length (flags_with b)) 100) _ (le-leb _ _ (omega (arith, few_properties, flags_counted (kinds_with b) many b.givens 0 built_in_bases names))) (flags_right (kinds_with b) many b.givens 0 built_in_bases names) in
    let first = length (flags_with b) in
    let numbers : are_right_grants n (numbers_with b) ≡ true = and_from (leb (length (numbers_with b)) 100) _ (le-leb _ _ (omega (arith, few_numbers, flags_counted (kinds_with b) many b.givens first [] b.numbers))) (flags_right (kinds_with b) many b.givens first [] b.numbers) in
    rw (kinds_right b.kinds few roots, begin_built_in (kinds_with b) many b.givens b.properties, flags, numbers, le-leb (length b.starts) 100 few_variables, ranged, le-leb (length b.scenes) 50 few_scenes, le-leb b.rulebooks 100 few_rulebooks)
    (values_right b few_kinds few_values some_values)

-- ---- what an object begins with

-- the properties that it begins with rise
properties_rise : (m : Made) (o kind next n : ℕ) (truths : List (List ℕ)) (flags : List Granted) → next ≤ n → are_rising next (properties_from m o kind n truths flags) ≡ true
unfolding are_rising
properties_rise m o kind next n truths [] le = refl
properties_rise m o kind next n truths (flag ∷ flags) le =
    let others = properties_from m o kind (n + 1) (other_bases truths) flags in
    elim (cases_Bool (begins m o kind n (first_base truths) && is_had m.parents kind flag)) [
      | inl is ↦ rw is (and_from (leb next n) (are_rising (n + 1) others) (le-leb next n le) (properties_rise m o kind (n + 1) (n + 1) (other_bases truths) flags (omega arith)))
      | inr isnt ↦ rw isnt (properties_rise m o kind next (n + 1) (other_bases truths) flags (omega (arith, le)))
    ]

-- and its kind has them
properties_had : (m : Made) (all : List Granted) (o kind n : ℕ) (truths : List (List ℕ)) (flags : List Granted) → ((i j : ℕ) → n + i ≡ j → slice_get all j ≡ slice_get flags i)
    → list_all (has_property m.parents all kind) (properties_from m o kind n truths flags) ≡ true
properties_had m all o kind n truths [] same = refl
properties_had m all o kind n truths (flag ∷ flags) same =
    let later = properties_had m all o kind (n + 1) (other_bases truths) flags (λ i j e. same (suc i) j (omega (arith, e))) in
    elim (cases_Bool (begins m o kind n (first_base truths) && is_had m.parents kind flag)) [
      | inl is ↦
          let has : has_property m.parents all kind n ≡ true = ap (is_had_at m.parents kind) (same 0 n (omega arith)) ∙ (and_parts (begins m o kind n (first_base truths)) (is_had m.parents kind flag) is).1 in
          rw is (and_from (has_property m.parents all kind n) _ has later)
      | inr isnt ↦ rw isnt later
    ]

-- it has as many numbers as its kind has number properties, which are counted from k on
counted_from : (m : Made) (o kind n k : ℕ) (numbers : List Granted) → length (numbers_from m o kind n numbers) + k ≡ fold (λ (count : ℕ) (number : Granted). count + cond (is_had m.parents kind number) 1 0) k numbers
counted_from m o kind n k [] = omega arith
counted_from m o kind n k (number ∷ numbers) =
    elim (cases_Bool (is_had m.parents kind number)) [
      | inl is ↦ let later = counted_from m o kind (n + 1) (k + 1) numbers in rw is (omega (arith, later))
      | inr isnt ↦ let later = counted_from m o kind (n + 1) (k + 0) numbers in rw isnt (omega (arith, later))
    ]

numbers_counted : (m : Made) (o kind n : ℕ) (numbers : List Granted) → length (numbers_from m o kind n numbers) ≡ count_by (is_had m.parents kind) numbers
numbers_counted m o kind n numbers =
    let counted : length (numbers_from m o kind n numbers) + 0 ≡ count_by (is_had m.parents kind) numbers = counted_from m o kind n 0 numbers in
    omega (arith, counted)

-- it has one value of each kind of value that its kind has
choice_below : (count other : ℕ) (value : Option Value) → other < count → choice_or count value other < count
choice_below count other None lt = lt
choice_below count other (Some (Truth truth)) lt = lt
choice_below count other (Some (Amount number)) lt = lt
choice_below count other (Some (Choice place)) lt =
    elim (cases_Bool (ltb place count)) [
      | inl is ↦ rw is (ltb-true place count is)
      | inr isnt ↦ rw isnt lt
    ]
choice_below count other (Some Never) lt = lt

chosen_below : (m : Made) (o kind n count : ℕ) → 1 ≤ count → chosen m o kind n count < count
chosen_below m o kind n count some = choice_below count _ (m.values o n) (choice_below count 0 (usual_of m.parents m.usuals kind n) some)

choices_below : (m : Made) (o kind n : ℕ) (kinds : List ValueKind) → HaveValues kinds → are_each_below (counts_had m.parents kinds kind) (choices_from m o kind n kinds) ≡ true
unfolding counts_had are_each_below
choices_below m o kind n [] have = refl
choices_below m o kind n (q ∷ kinds) have =
    let later = choices_below m o kind (n + 1) kinds have.1 in
    elim (cases_Bool (is_had m.parents kind q.given)) [
      | inl is ↦ rw is (and_from (ltb (chosen m o kind n (length q.names)) (length q.names)) _ (lt-ltb _ _ (chosen_below m o kind n (length q.names) have.0)) later)
      | inr isnt ↦ rw isnt later
    ]

-- what is made of a declaration's kinds and properties, and numbers in range
pub record IsOf (b : Behind) (m : Made) : Type 0 where
  pub parents : m.parents ≡ kinds_with b
  pub flags : m.flags ≡ flags_with b
  pub numbers : m.numbers ≡ numbers_with b
  pub value_kinds : m.value_kinds ≡ values_with b
  pub some_values : HaveValues (values_with b)
  pub values : AreRangedValues m.values
  pub usuals : AreRangedValues m.usuals

object_suits : (b : Behind) (m : Made) (kind o : ℕ) (entry : Entry) → IsOf b m → suits_kind (declared_with b) (object_as m kind o entry) ≡ true
unfolding suits_kind has_properties count_of_numbers object_as
object_suits b m kind o entry same =
    let found = properties_from m o kind 0 built_in_truths m.flags in
    let has = λ (S : List (Option ℕ)) (flags : List Granted). are_rising 0 found && list_all (has_property S flags kind) found in
    let here : has m.parents m.flags ≡ true = and_from (are_rising 0 found) _ (properties_rise m o kind 0 0 built_in_truths m.flags (omega arith)) (properties_had m m.flags o kind 0 built_in_truths m.flags (λ i j e. let at : j ≡ i = omega (arith, e) in ap (slice_get m.flags) at)) in
    let there : has (kinds_with b) (flags_with b) ≡ true = sym (λ i. has (same.parents i) (same.flags i)) ∙ here in
    let numbers = numbers_from m o kind (length m.flags) m.numbers in
    let count = λ (S : List (Option ℕ)) (granted : List Granted). eqb (length numbers) (count_by (is_had S kind) granted) in
    let counted : count m.parents m.numbers ≡ true = eq-eqb _ _ (numbers_counted m o kind (length m.flags) m.numbers) in
    let as_many : count (kinds_with b) (numbers_with b) ≡ true = sym (λ i. count (same.parents i) (same.numbers i)) ∙ counted in
    let from = length m.flags + length m.numbers in
    let below = λ (S : List (Option ℕ)) (kinds : List ValueKind). are_each_below (counts_had S kinds kind) (choices_from m o kind from m.value_kinds) in
    let have : HaveValues m.value_kinds = subst HaveValues (sym same.value_kinds) same.some_values in
    let chosen : below (kinds_with b) (values_with b) ≡ true =
    sym (λ i. below (same.parents i) (same.value_kinds i)) ∙ choices_below m o kind from m.value_kinds have in
    rw (and_from (has (kinds_with b) (flags_with b) && count (kinds_with b) (numbers_with b)) (list_all is_number numbers)
    (and_from (has (kinds_with b) (flags_with b)) (count (kinds_with b) (numbers_with b)) there as_many)
    (numbers_in_range m o kind (length m.flags) m.numbers same.values same.usuals)) chosen

pub suited_held : (b : Behind) (m : Made) (o : ℕ) (entries : List Entry) → IsOf b m → list_all (suits_kind (declared_with b)) (objects_of m o entries) ≡ true
suited_held b m o [] same = refl
suited_held b m o (entry ∷ entries) same =
    and_from (suits_kind (declared_with b) (object_of m o entry)) (list_all (suits_kind (declared_with b)) (objects_of m (o + 1) entries)) (object_suits b m (kind_at m.kinds o) o entry same) (suited_held b m (o + 1) entries same)
