-- In a story no direction is a thing or a room.
use Rattle.std.proofs.Common.{◌≡◌, ap, subst, refl, ℕ, zero, suc, true, false, leb, ltb, List, [], ◌∷◌, drop, length, inl, inr}
use Rattle.std.specs.Prelude.{Option, Some, None, slice_get}
use Rattle.std.specs.List.{list_all}
use Rattle.std.proofs.lemmas.Bool.{cases_Bool, and_parts}
use Rattle.world_meaning.proofs.Climbs.{climbs_decide}
use Rattle.world_meaning.specs.Declarations.{are_right_grants, are_right_kinds, begin_with_kinds, begin_with_properties, is_rooted, is_same_kind}
use Rattle.world_meaning.specs.Kinds.{Under, above, built_in_parents, direction_kind, is_under, itself}
use Rattle.world_meaning.specs.Properties.{built_in_properties}
use Rattle.world_meaning.specs.Sight.{direction}
use Rattle.play_meaning.specs.Seeing.{root_of}
use Rattle.story_format.specs.Counts.{counts_of}
use Rattle.story_format.specs.RuleChecks.{are_right_rules}
use Rattle.story_format.specs.Checks.{are_distinct, are_first_right, are_right, are_right_objects, are_right_ways, is_right_frame, stand_rightly}
use Rattle.story_format.specs.InPlay.{is_of_in}
use Rattle.story_format.specs.Spells.{IsStory}
use Rattle.story_format.specs.ValueChecks.{are_right_values}
use Rattle.story_format.specs.WorldChecks.{is_right_world}
use Rattle.story_format.specs.declared.tables.Entry.{Entry}
use Rattle.story_format.specs.declared.tables.Tables.{Tables}
use Rattle.story_format.proofs.StoryLemmas.{four, last_of_five, three}
use Rattle.world_store.specs.StorySettings.{setting_of}

-- ---- kinds

same_kind : (kind : Option ℕ) → is_same_kind kind None ≡ true → kind ≡ None
same_kind None is = refl
same_kind (Some k) is = absurd cc

-- the kinds begin with these, so each root of these is one
begun_at : (parents others : List (Option ℕ)) (i : ℕ) → begin_with_kinds parents others ≡ true → slice_get others i ≡ Some None → slice_get parents i ≡ Some None
unfolding begin_with_kinds
begun_at parents [] i begun is = absurd cc
begun_at [] (other ∷ others) i begun is = absurd cc
begun_at (parent ∷ parents) (None ∷ others) zero begun is = ap Some (same_kind parent (and_parts (is_same_kind parent None) (begin_with_kinds parents others) begun).0)
begun_at (parent ∷ parents) (Some k ∷ others) zero begun is = absurd cc
begun_at (parent ∷ parents) (other ∷ others) (suc i) begun is = begun_at parents others i (and_parts (is_same_kind parent other) (begin_with_kinds parents others) begun).1 is

frame_right : (t : Tables) → IsStory t → is_right_frame t ≡ true
unfolding are_right are_first_right
frame_right t story =
    (last_of_five (is_right_frame t) (are_distinct t.strings) (are_right_objects t) (stand_rightly t) (are_right_ways t) (and_parts (are_first_right t) (are_right_values t) story.right).0).0

world_right : (t : Tables) → IsStory t → is_right_world t.world ≡ true
unfolding is_right_frame
world_right t story = (four (is_right_world t.world) (are_right_rules (counts_of t) t.rules) (leb (length t.objects) 1000) (ltb (length t.strings) 65535) (frame_right t story)).0

kinds_right : (t : Tables) → IsStory t → are_right_kinds t.world.kinds ≡ true
unfolding is_right_world
kinds_right t story =
    (last_of_five (are_right_kinds t.world.kinds) (begin_with_properties t.world.flags built_in_properties) (are_right_grants (length t.world.kinds) t.world.flags)
    (are_right_grants (length t.world.kinds) t.world.numbers) (leb (length t.world.variables) 100) (world_right t story)).0

kinds_begin : (t : Tables) → IsStory t → begin_with_kinds t.world.kinds built_in_parents ≡ true
unfolding are_right_kinds
kinds_begin t story =
    (three (leb (length t.world.kinds) 100) (begin_with_kinds t.world.kinds built_in_parents) (list_all (is_rooted t.world.kinds) (drop 10 t.world.kinds)) (kinds_right t story)).1

root_is : (t : Tables) (kind : ℕ) → IsStory t → slice_get built_in_parents kind ≡ Some None → slice_get t.world.kinds kind ≡ Some None
root_is t kind story is = begun_at t.world.kinds built_in_parents kind (kinds_begin t story) is

-- a root has no kind above it
root_climbs : (parents : List (Option ℕ)) (kind parent : ℕ) → slice_get parents kind ≡ Some None → slice_get parents kind ≡ Some (Some parent) → ⊥
root_climbs parents kind parent root climbs = let wrong : None ≡ Some parent = cc in absurd cc

same_above : (parents : List (Option ℕ)) (kind p q : ℕ) → slice_get parents kind ≡ Some (Some p) → slice_get parents kind ≡ Some (Some q) → q ≡ p
same_above parents kind p q here there = cc

-- a kind lies under one root alone
one_root : (parents : List (Option ℕ)) (kind a b : ℕ) → slice_get parents a ≡ Some None → slice_get parents b ≡ Some None → Under parents kind a → Under parents kind b → a ≡ b
one_root parents kind a b ra rb itself itself = refl
one_root parents kind a b ra rb itself (above {parent = q} e u) = absurd (root_climbs parents kind q ra e)
one_root parents kind a b ra rb (above {parent = p} e u) itself = absurd (root_climbs parents kind p rb e)
one_root parents kind a b ra rb (above {parent = p} e u) (above {parent = q} f v) = one_root parents p a b ra rb u (subst (λ k. Under parents k b) (same_above parents kind p q e f) v)

-- what lies under a root doesn't lie under another
other_root : (t : Tables) (kind a b : ℕ) → IsStory t → slice_get built_in_parents a ≡ Some None → slice_get built_in_parents b ≡ Some None → (a ≡ b → ⊥)
    → is_under t.world.kinds kind a ≡ true → is_under t.world.kinds kind b ≡ false
other_root t kind a b story ra rb other is = elim (cases_Bool (is_under t.world.kinds kind b)) [
  | inl under ↦ absurd (other (one_root t.world.kinds kind a b (root_is t a story ra) (root_is t b story rb) (lies is) (lies under)))
  | inr not ↦ not
]
  where
    lies : {o : ℕ} → is_under t.world.kinds kind o ≡ true → Under t.world.kinds kind o
    lies {o} under = (climbs_decide t.world.kinds kind o).0 under

-- ---- objects

rooted : (t : Tables) (n : ℕ) (e : Entry) → IsStory t → slice_get t.objects n ≡ Some e → is_under t.world.kinds e.kind direction_kind ≡ true → root_of (setting_of t) n ≡ Some direction
unfolding setting_of built_in_parents
rooted t n e story there is =
    rw (there, other_root t e.kind direction_kind 0 story refl refl (λ same. absurd cc) is, other_root t e.kind direction_kind 1 story refl refl (λ same. absurd cc) is, is) refl

-- what stands behind a number that has an entry
rooted_entry : (t : Tables) (n : ℕ) (found : Option Entry) → IsStory t → slice_get t.objects n ≡ found → is_of_in t.world.kinds direction_kind found ≡ true → root_of (setting_of t) n ≡ Some direction
rooted_entry t n None story there is = absurd cc
rooted_entry t n (Some e) story there is = rooted t n e story there is

pub directions_are : (t : Tables) (n : ℕ) → IsStory t → (setting_of t).is_of n direction_kind ≡ true → root_of (setting_of t) n ≡ Some direction
unfolding setting_of
directions_are t n story is = rooted_entry t n (slice_get t.objects n) story refl is
