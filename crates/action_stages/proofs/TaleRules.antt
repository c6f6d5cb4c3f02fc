-- What a story's entries of actions, rules and scenes tell is what the tale says of them.
use Rattle.std.proofs.Common.{◌≡◌, ◌∙◌, ap, refl, ℕ, zero, suc, ◌≤◌, arith, true, false, eqb, List, [], ◌∷◌, map, Option, Some, None, inl, inr}
use Rattle.std.specs.Prelude.{◌&&◌, slice_get, slice_index_or}
use Rattle.std.specs.List.{AllZip}
use Rattle.std.specs.Option.{option_map}
use Rattle.std.proofs.lemmas.Bool.{eqb-true, ne_eqb, cases_Bool}
use Rattle.play_meaning.specs.CodedStories.{answer_or, begins_by, coded_condition, coded_is_about, ends_by, head_of}
use Rattle.play_meaning.specs.Codes.{Codes}
use Rattle.play_meaning.specs.Rules.{Anything, Aspect, Exactly, OfKind, Rule, is_about, is_action, is_happening, is_met}
use Rattle.play_meaning.specs.Scripts.{Scene, begins_in, condition_holds, ends_in, rule_condition, rule_holds, rule_is_about, undescribed}
use Rattle.play_meaning.specs.Settings.{Setting}
use Rattle.play_meaning.specs.StandardActions.{no_needs}
use Rattle.play_meaning.specs.Trees.{Adjective, Condition}
use Rattle.play_meaning.specs.Worlds.{World, location_of}
use Rattle.play_meaning.specs.declared.action.ActionNow.{ActionNow}
use Rattle.story_format.specs.Carrying.{AsksFor, AsksSo, CarriesRule, CarriesScene, IsAnsweredBy, asked_by, code_if_some, need_told}
use Rattle.story_format.specs.declared.rule_entry.Aspect.{Aspect as Asked}
use Rattle.story_format.specs.declared.rule_entry.Aspect.TheVariants as aspects
use Rattle.story_format.specs.declared.rule_entry.PropertySide.{PropertySide}
use Rattle.story_format.specs.declared.rule_entry.RuleEntry.{RuleEntry}
use Rattle.story_format.specs.declared.rule_tables.ActionEntry.{ActionEntry}
use Rattle.story_format.specs.declared.rule_tables.SceneEntry.{SceneEntry}
use Rattle.world_meaning.specs.declared.needs.Needs.{Needs}
use Rattle.world_meaning.specs.declared.needs.Slot.{Slot}
use Rattle.world_meaning.specs.declared.needs.Slot.TheVariants.{Absent, Carried, Touched, Visible}
use Rattle.world_store.specs.StoryPlay.{adjective_told, aspect_told, needs_in, needs_told, rule_told, scene_told, slot_of}
use Rattle.action_stages.proofs.Asked.{books_listed}

-- ---- by places

-- the same is told of the items at a place of two lists that are alike, place by place
pub at_place : {A B C : Type 0} (R : A → B → Type 0) (f : Option A → C) (g : Option B → C) → f None ≡ g None → (xs : List A) (ys : List B) (n : ℕ)
    → ((a : A) (b : B) → slice_get xs n ≡ Some a → R a b → f (Some a) ≡ g (Some b)) → AllZip R xs ys → f (slice_get xs n) ≡ g (slice_get ys n)
at_place R f g nobody [] [] n alike zip = nobody
at_place R f g nobody [] (y ∷ ys) n alike zip = absurd zip
at_place R f g nobody (x ∷ xs) [] n alike zip = absurd zip
at_place R f g nobody (x ∷ xs) (y ∷ ys) zero alike zip = alike x y refl zip.0
at_place R f g nobody (x ∷ xs) (y ∷ ys) (suc n) alike zip = at_place R f g nobody xs ys n alike zip.1

pub told_at : {A B C : Type 0} (f : A → B) (told : Option B → C) (xs : List A) (n : ℕ) → told (slice_get (map f xs) n) ≡ told (option_map f (slice_get xs n))
told_at f told [] n = refl
told_at f told (x ∷ xs) zero = refl
told_at f told (x ∷ xs) (suc n) = told_at f told xs n

-- ---- actions

-- a number that is one isn't another
other : (n a b : ℕ) → eqb n a ≡ true → eqb a b ≡ false → eqb n b ≡ false
other n a b is apart = let same : n ≡ a = eqb-true n a is in ap (λ m. eqb m b) same ∙ apart

slot_is : (n : ℕ) (slot : Slot) → need_told n ≡ Some slot → slot_of n ≡ slot
slot_is n slot e =
    elim (cases_Bool (eqb n 255)) [
      | inl none ↦ rw (other n 255 0 none refl, other n 255 1 none refl, other n 255 2 none refl) (let told : Some Absent ≡ Some slot = rw none at e in cc)
      | inr some ↦ elim (cases_Bool (eqb n 0)) [
        | inl seen ↦ rw seen (let told : Some Visible ≡ Some slot = rw (some, seen) at e in cc)
        | inr unseen ↦ elim (cases_Bool (eqb n 1)) [
          | inl touched ↦ rw (unseen, touched) (let told : Some Touched ≡ Some slot = rw (some, unseen, touched) at e in cc)
          | inr untouched ↦ elim (cases_Bool (eqb n 2)) [
            | inl carried ↦ rw (unseen, untouched, carried) (let told : Some Carried ≡ Some slot = rw (some, unseen, untouched, carried) at e in cc)
            | inr uncarried ↦ let told : None ≡ Some slot = rw (some, unseen, untouched, uncarried) at e in absurd cc
          ]
        ]
      ]
    ]

needs_are : (entry : ActionEntry) (needs : Needs) → AsksFor entry needs → needs_told entry ≡ needs
needs_are entry needs asks =
    let noun = slot_is entry.noun needs.noun asks.noun in
    let second = slot_is entry.second needs.second asks.second in
    λ i. record { noun = noun i; second = second i; light = asks.light i; out_of_world = asks.out_of_world i }

pub needs_at : (entries : List ActionEntry) (needs : List Needs) (n : ℕ) → AllZip AsksFor entries needs → needs_in (slice_get entries n) ≡ slice_index_or needs n no_needs
needs_at [] [] n zip = refl
needs_at [] (y ∷ ys) n zip = absurd zip
needs_at (x ∷ xs) [] n zip = absurd zip
needs_at (x ∷ xs) (y ∷ ys) zero zip = needs_are x y zip.0
needs_at (x ∷ xs) (y ∷ ys) (suc n) zip = needs_at xs ys n zip.1

-- ---- what rules are about

named_so : (p n : ℕ) (a : Adjective) → asked_by (record { property = p; side = n }) ≡ Some a → adjective_told (record { property = p; side = n }) ≡ a
named_so p zero a e = cc
named_so p (suc zero) a e = cc
named_so p (suc (suc zero)) a e = cc
named_so p (suc (suc (suc zero))) a e = cc
named_so p (suc (suc (suc (suc n)))) a e =
    let not = λ (k : ℕ) (less : k ≤ 3). ne_eqb (suc (suc (suc (suc n)))) k (λ same. omega (arith, same, less)) in
    let told : None ≡ Some a = rw (not 1 (omega arith), not 0 (omega arith), not 3 (omega arith), not 2 (omega arith)) at e in
    absurd cc

adjective_is : (side : PropertySide) (a : Adjective) → asked_by side ≡ Some a → adjective_told side ≡ a
adjective_is side a e = named_so side.property side.side a e

adjectives_are : (sides : List PropertySide) (adjectives : List Adjective) → map asked_by sides ≡ map Some adjectives → map adjective_told sides ≡ adjectives
adjectives_are [] [] e = refl
adjectives_are [] (a ∷ adjectives) e = absurd cc
adjectives_are (side ∷ sides) [] e = absurd cc
adjectives_are (side ∷ sides) (a ∷ adjectives) e =
    let first : asked_by side ≡ Some a = cc in
    let others : map asked_by sides ≡ map Some adjectives = cc in
    λ i. adjective_is side a first i ∷ adjectives_are sides adjectives others i

aspect_is : (asked : Asked) (aspect : Aspect) → AsksSo asked aspect → aspect_told asked ≡ aspect
aspect_is aspects.Anything Anything asks = refl
aspect_is aspects.Anything (Exactly o) asks = absurd asks
aspect_is aspects.Anything (OfKind kind adjectives) asks = absurd asks
aspect_is (aspects.Object n) Anything asks = absurd asks
aspect_is (aspects.Object n) (Exactly o) asks = ap Exactly asks
aspect_is (aspects.Object n) (OfKind kind adjectives) asks = absurd asks
aspect_is (aspects.Kind k) Anything asks = absurd asks
aspect_is (aspects.Kind k) (Exactly o) asks = absurd asks
aspect_is (aspects.Kind k) (OfKind kind adjectives) asks = λ i. OfKind (asks.0 i) (adjectives_are k.properties adjectives asks.1 i)
aspect_is (aspects.Unknown tag) Anything asks = absurd asks
aspect_is (aspects.Unknown tag) (Exactly o) asks = absurd asks
aspect_is (aspects.Unknown tag) (OfKind kind adjectives) asks = absurd asks

-- in two settings that are one
about_same : (c : Codes) (s : Setting) (now : ActionNow) (w : World) (r : RuleEntry) (rule : Rule) → CarriesRule c r rule → is_about s w now (head_of (rule_told r)) ≡ is_about s w now rule
unfolding is_about
about_same c s now w r rule carries =
    let about = carries.about in
    let noun = aspect_is r.noun rule.noun about.noun in
    let second = aspect_is r.second rule.second about.second in
    let place = aspect_is r.place rule.place about.place in
    λ i. is_action (about.action i) now.action && is_met s w (noun i) now.noun && is_met s w (second i) now.second
    && is_met s w (place i) (location_of w) && is_happening w (about.scene i)

pub about_at : (c : Codes) (s : Setting) (now : ActionNow) (w : World) (entries : List RuleEntry) (rules : List Rule) (n : ℕ) → AllZip (CarriesRule c) entries rules
    → coded_is_about s now w (slice_get (map rule_told entries) n) ≡ rule_is_about s now w (slice_get rules n)
about_at c s now w entries rules n zip =
    told_at rule_told (coded_is_about s now w) entries n
    ∙ at_place (CarriesRule c) (λ r. coded_is_about s now w (option_map rule_told r)) (rule_is_about s now w) refl entries rules n (λ r rule there. about_same c s now w r rule) zip

-- ---- conditions

answered : (c : Codes) (s : Setting) (now : ActionNow) (w : World) (code : Option ℕ) (condition : Option Condition) → IsAnsweredBy c code condition
    → answer_or true c s now w code ≡ rule_holds s now w condition
answered c s now w None None is = refl
answered c s now w None (Some condition) is = absurd is
answered c s now w (Some n) None is = absurd is
answered c s now w (Some n) (Some condition) is = is (undescribed s) now w

pub conditions_at : (c : Codes) (s : Setting) (now : ActionNow) (w : World) (entries : List RuleEntry) (rules : List Rule) (n : ℕ) → AllZip (CarriesRule c) entries rules
    → coded_condition c s now w (slice_get (map rule_told entries) n) ≡ rule_condition s now w (slice_get rules n)
conditions_at c s now w entries rules n zip =
    told_at rule_told (coded_condition c s now w) entries n
    ∙ at_place (CarriesRule c) (λ r. coded_condition c s now w (option_map rule_told r)) (rule_condition s now w) refl entries rules n (λ r rule there carries. answered c s now w (code_if_some r.condition) rule.condition carries.condition) zip

-- ---- books

-- ---- scenes

pub scenes_recur : (c : Codes) (entries : List SceneEntry) (scenes : List Scene) → AllZip (CarriesScene c) entries scenes → map (λ scene. scene.recurs) (map scene_told entries) ≡ map (λ scene. scene.recurs) scenes
scenes_recur c [] [] zip = refl
scenes_recur c [] (scene ∷ scenes) zip = absurd zip
scenes_recur c (e ∷ entries) [] zip = absurd zip
scenes_recur c (e ∷ entries) (scene ∷ scenes) zip = λ i. zip.0.recurs i ∷ scenes_recur c entries scenes zip.1 i

holding : (c : Codes) (s : Setting) (now : ActionNow) (w : World) (code : Option ℕ) (condition : Option Condition) → IsAnsweredBy c code condition
    → answer_or false c s now w code ≡ condition_holds s now w condition
holding c s now w None None is = refl
holding c s now w None (Some condition) is = absurd is
holding c s now w (Some n) None is = absurd is
holding c s now w (Some n) (Some condition) is = is (undescribed s) now w

module _ (c : Codes) (s : Setting) (now : ActionNow) (w : World) (entries : List SceneEntry) (scenes : List Scene) (n : ℕ) (zip : AllZip (CarriesScene c) entries scenes) where
  pub begins_at : answer_or false c s now w (begins_by (slice_get (map scene_told entries) n)) ≡ condition_holds s now w (begins_in (slice_get scenes n))
  begins_at =
      told_at scene_told (λ e. answer_or false c s now w (begins_by e)) entries n
      ∙ at_place (CarriesScene c) (λ e. answer_or false c s now w (begins_by (option_map scene_told e))) (λ scene. condition_holds s now w (begins_in scene)) refl entries scenes n
      (λ e scene there carries. holding c s now w (code_if_some e.begins) scene.begins carries.begins) zip

  pub ends_at : answer_or false c s now w (ends_by (slice_get (map scene_told entries) n)) ≡ condition_holds s now w (ends_in (slice_get scenes n))
  ends_at =
      told_at scene_told (λ e. answer_or false c s now w (ends_by e)) entries n
      ∙ at_place (CarriesScene c) (λ e. answer_or false c s now w (ends_by (option_map scene_told e))) (λ scene. condition_holds s now w (ends_in scene)) refl entries scenes n
      (λ e scene there carries. holding c s now w (code_if_some e.ends) scene.ends carries.ends) zip
