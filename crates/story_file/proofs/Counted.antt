-- What the names of sentences stand for that mean a tale is the tale's, and its rulebooks and scenes are few.
use Rattle.std.proofs.Common.{◌≡◌, ◌∙◌, ap, sym, refl, ℕ, ◌+◌, ◌*◌, ◌≤◌, ◌<◌, subst, List, [], ◌∷◌, length, map, Option, Ok, None, arith}
use Rattle.std.specs.Prelude.{get_or}
use Rattle.std.proofs.lemmas.List.{length-map}
use Rattle.world_meaning.specs.declared.declared.ValueKind.{ValueKind}
use Rattle.world_meaning.specs.declared.declared.Declared.{Declared}
use Rattle.world_meaning.specs.declared.needs.Needs.{Needs}
use Rattle.world_meaning.specs.declared.tale.Tale.{Tale}
use Rattle.i7_claims.specs.Claims.{claims_of}
use Rattle.i7_claims.specs.Sorts.{name_too_many, names_as}
use Rattle.i7_claims.specs.Statements.{named_by, stated_by}
use Rattle.i7_claims.specs.declared.sorts.Sort.TheVariants as sort
use Rattle.i7_claims.specs.declared.claim.Claim.{Claim}
use Rattle.i7_conditions.specs.There.{AreThere, Counts, IsThere}
use Rattle.i7_conditions.specs.declared.meaning.Meaning.{Meaning}
use Rattle.i7_conditions.specs.declared.meaning.Meaning.TheVariants as meaning
use Rattle.i7_kinds.proofs.DescriptionsSaid.{entries_counted}
use Rattle.i7_kinds.proofs.Granting.{flags_counted}
use Rattle.i7_kinds.proofs.KindScans.{kind_names_counted, parents_are_kinds}
use Rattle.i7_kinds.proofs.Bounds.{counted-source, earlier_none, frame_parts}
use Rattle.i7_kinds.specs.Grants.{built_in_bases}
use Rattle.i7_kinds.specs.KindClaims.{declared_by, flags_by, givens_by, is_recurring_by, kind_names, kind_too_many, numbers_by, parents_of}
use Rattle.i7_kinds.specs.ValueKinds.{value_kinds_from}
use Rattle.i7_kinds.specs.declared.grants.Given.{Given}
use Rattle.i7_claims.specs.Listings.{values_listed}
use Rattle.i7_names.specs.Numbering.{counts_listed}
use Rattle.i7_kinds.specs.Knowns.{knowns_of}
use Rattle.i7_kinds.specs.Suits.{first_room}
use Rattle.i7_kinds.specs.Actions.{actions_said, told_with}
use Rattle.i7_kinds.specs.Tales.{or_refused, entries_of, faults_of, made_of, objects_of, refusal_of, scope_of, tale_said}
use Rattle.i7_names.specs.SourceNames.{names_in, rulebooks_by, rulebooks_in, scene_count, scenes_by}
use Rattle.i7_names.specs.There.{counts_in}
use Rattle.i7_kinds.proofs.PropertiesKept.{parents_many}
use Rattle.i7_names.proofs.Present.{names_there, plurals_there}
use Rattle.i7_sentences.specs.ActionDeclarations.{actions_declared}
use Rattle.i7_sentences.specs.declared.sentence.Sentence.{Sentence}
use Rattle.story_file.proofs.Acted.{acted, actions_counted}
use Rattle.story_file.proofs.Held.{few_by, meant_none}
use Rattle.story_file.proofs.MadeObjects.{objects_counted}

-- what sentences declare: what they claim, and their actions
abbrev declared_of : List Sentence → Declared
declared_of sentences = record (declared_by (claims_of sentences)) { actions = actions_said sentences }

-- not too much is claimed, it is what the tale declares, and the objects are those that are named
claimed : (sentences : List Sentence) (tale : Tale) → tale_said sentences ≡ Ok tale
    → (name_too_many (claims_of sentences) ≡ None) × (declared_of sentences ≡ tale.declared) × (length (named_by sentences).keys ≡ length tale.objects)
claimed sentences tale meant =
    let claims = claims_of sentences in
    let s = scope_of claims (named_by sentences).keys in
    let knowns = knowns_of s claims in
    let statements = stated_by sentences in
    let mentions = (named_by sentences).mentions in
    let whole : Tale = record { declared = declared_by claims; objects = objects_of (made_of s knowns claims statements) 0 (entries_of mentions) } in
    let told = acted (actions_said sentences) (or_refused (refusal_of s knowns claims statements mentions) whole) tale meant in
    let t = meant_none (refusal_of s knowns claims statements mentions) whole told.before told.said_is in
    let faults = faults_of s knowns claims statements in
    let found = first_room s.parents knowns in
    let fine = frame_parts faults mentions found t.0 in
    let made : length whole.objects ≡ 13 + length mentions = objects_counted (made_of s knowns claims statements) 0 (entries_of mentions) ∙ entries_counted mentions in (
      (earlier_none (kind_too_many claims) (name_too_many claims) fine.too_many).1,
      ap (λ (made : Tale). (told_with (actions_said sentences) made).declared) t.1 ∙ ap (λ (made : Tale). made.declared) told.tale_is,
      counted-source sentences ∙ sym made ∙ ap (λ (made : Tale). length made.objects) t.1 ∙ ap (λ (made : Tale). length made.objects) told.tale_is,
    )

pub acts_are : (sentences : List Sentence) (tale : Tale) → tale_said sentences ≡ Ok tale → actions_said sentences ≡ tale.declared.actions
acts_are sentences tale meant = ap (λ (d : Declared). d.actions) (claimed sentences tale meant).1

pub actions_are : (sentences : List Sentence) (tale : Tale) → tale_said sentences ≡ Ok tale → length tale.declared.actions ≡ length (actions_declared sentences)
actions_are sentences tale meant = ap (λ (needs : List Needs). length needs) (sym (acts_are sentences tale meant)) ∙ actions_counted sentences

pub rulebooks_counted : (sentences : List Sentence) (tale : Tale) → tale_said sentences ≡ Ok tale → length (rulebooks_in sentences) ≡ tale.declared.rulebooks
unfolding rulebooks_by
rulebooks_counted sentences tale meant = ap (λ (d : Declared). d.rulebooks) (claimed sentences tale meant).1

pub scenes_counted : (sentences : List Sentence) (tale : Tale) → tale_said sentences ≡ Ok tale → scene_count sentences ≡ length tale.declared.scenes
unfolding scenes_by
scenes_counted sentences tale meant =
    let claims = claims_of sentences in
    sym (length-map (names_as sort.Scene claims) (is_recurring_by claims)) ∙ ap (λ (d : Declared). length d.scenes) (claimed sentences tale meant).1

pub countable : (sentences : List Sentence) (tale : Tale) → tale_said sentences ≡ Ok tale → 8 + 2 * scene_count sentences + length (rulebooks_in sentences) ≤ 65535
unfolding rulebooks_by scenes_by
countable sentences tale meant = let few = few_by (claims_of sentences) (claimed sentences tale meant).0 in omega (arith, few.0, few.1)

-- ---- what names stand for

-- how many values a kind of value has
abbrev pub count_in : List ValueKind → ℕ → ℕ
count_in kinds q = get_or (map (λ kind. length kind.names) kinds) q 0

-- what there is of a tale; its number properties and variables are counted by their names
abbrev pub counts_of : List Sentence → Tale → Counts
counts_of sentences tale = record {
  objects = length tale.objects;
  kinds = length tale.declared.kinds;
  qualities = length tale.declared.flags;
  numbers = (counts_in sentences).numbers;
  variables = (counts_in sentences).variables;
  scenes = length tale.declared.scenes;
  values = λ q. count_in tale.declared.values q;
}

-- so many of each sort, or more
record IsMore (few many : Counts) : Type 0 where
  objects : few.objects ≤ many.objects
  kinds : few.kinds ≤ many.kinds
  qualities : few.qualities ≤ many.qualities
  numbers : few.numbers ≤ many.numbers
  variables : few.variables ≤ many.variables
  scenes : few.scenes ≤ many.scenes
  values : (q : ℕ) → few.values q ≤ many.values q

more_there : (few many : Counts) → IsMore few many → (m : Meaning) → IsThere few m → IsThere many m
more_there few many more (meaning.Object o) is = omega (arith, more.objects, is)
more_there few many more (meaning.Kind kind) is = omega (arith, more.kinds, is)
more_there few many more (meaning.Quality p side) is = omega (arith, more.qualities, is)
more_there few many more (meaning.Number p) is = omega (arith, more.numbers, is)
more_there few many more (meaning.Variable v) is = omega (arith, more.variables, is)
more_there few many more (meaning.Scene scene) is = omega (arith, more.scenes, is)
more_there few many more (meaning.ValueKind q) is = omega (arith, more.values q, is)
more_there few many more (meaning.Value q value) is = omega (arith, more.values q, is)

many_kinds : (claims : List Claim) → length (kind_names claims) ≤ length (declared_by claims).kinds
many_kinds claims = omega (arith, kind_names_counted claims, parents_are_kinds (kind_names claims) claims)

some_kinds : (claims : List Claim) → 0 < length (declared_by claims).kinds
some_kinds claims = omega (arith, parents_many claims)

many_flags : (claims : List Claim) → length (names_as sort.EitherOr claims) ≤ length (declared_by claims).flags
many_flags claims =
    omega (arith, flags_counted (parents_of (kind_names claims) claims) (parents_many claims) (givens_by claims) 0 built_in_bases (names_as sort.EitherOr claims))

counts_kept : (kinds : List (Option ℕ)) (givens : List Given) (from : ℕ) (claims : List Claim) (names : List (List ℕ))
    → map (λ (q : ValueKind). length q.names) (value_kinds_from kinds givens from claims names) ≡ counts_listed claims names
counts_kept kinds givens from claims [] = refl
counts_kept kinds givens from claims (name ∷ names) = ap (λ (counts : List ℕ). length (values_listed claims name) ∷ counts) (counts_kept kinds givens (from + 1) claims names)

same_count : (claims : List Claim) (q : ℕ) → get_or (counts_listed claims (names_as sort.ValueKind claims)) q 0 ≤ count_in (declared_by claims).values q
same_count claims q =
    let same = counts_kept (parents_of (kind_names claims) claims) (givens_by claims) (length (flags_by claims) + length (numbers_by claims)) claims (names_as sort.ValueKind claims) in
    let alike : count_in (declared_by claims).values q ≡ get_or (counts_listed claims (names_as sort.ValueKind claims)) q 0 = ap (λ (counts : List ℕ). get_or counts q 0) same in
    omega (arith, alike)

-- of the tale there is as much as its sentences name
as_much : (sentences : List Sentence) (tale : Tale) → tale_said sentences ≡ Ok tale → IsMore (counts_in sentences) (counts_of sentences tale)
unfolding scenes_by
as_much sentences tale meant =
    let claims = claims_of sentences in
    let is = claimed sentences tale meant in
    record {
      objects = omega (arith, is.2);
      kinds = subst (λ (d : Declared). length (kind_names claims) ≤ length d.kinds) is.1 (many_kinds claims);
      qualities = subst (λ (d : Declared). length (names_as sort.EitherOr claims) ≤ length d.flags) is.1 (many_flags claims);
      numbers = omega arith;
      variables = omega arith;
      scenes = omega (arith, scenes_counted sentences tale meant);
      values = λ q. subst (λ (d : Declared). get_or (counts_listed claims (names_as sort.ValueKind claims)) q 0 ≤ count_in d.values q) is.1 (same_count claims q);
    }

pub names_are_there : (sentences : List Sentence) (tale : Tale) → tale_said sentences ≡ Ok tale → AreThere (counts_of sentences tale) (names_in sentences).meanings (names_in sentences).plurals
names_are_there sentences tale meant =
    let more = as_much sentences tale meant in
    let is = claimed sentences tale meant in
    let claims = claims_of sentences in
    record {
      player = omega (arith, is.2, counted-source sentences);
      things = subst (λ (d : Declared). 0 < length d.kinds) is.1 (some_kinds claims);
      names = λ name m e. more_there (counts_in sentences) (counts_of sentences tale) more m (names_there sentences name m e);
      plural_kinds = λ name kind e. omega (arith, more.kinds, plurals_there sentences name kind e);
    }
