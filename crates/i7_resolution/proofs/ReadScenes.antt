-- What is found of the sentences that say when scenes begin and end, with one more, and what is told of all of them.
use Rattle.std.proofs.Common.{◌≡◌, ℕ, zero, suc, ◌+◌, ◌<◌, Bool, true, false, List, [], ◌∷◌, refl, sym, ◌∙◌, ap, subst, inl, inr, arith}
use Rattle.std.specs.Prelude.{Option, None, Some, map, reverse, slice_get}
use Rattle.std.specs.List.{AllZip, enumerate_from}
use Rattle.world_meaning.specs.declared.fault.FaultCode.TheVariants.{TooMany, Twice, UnknownName}
use Rattle.i7_conditions.specs.Clauses.{asks_over, scene_named}
use Rattle.i7_conditions.specs.Conditions.{IsCondition}
use Rattle.i7_conditions.specs.Readings.{IsFoundAs, one}
use Rattle.i7_conditions.specs.Scopes.{Scope}
use Rattle.i7_conditions.specs.Words.{Word}
use Rattle.i7_conditions.specs.declared.found.Found.{Found}
use Rattle.i7_conditions.specs.declared.found.Found.TheVariants as read
use Rattle.i7_rules.proofs.Looked.{IsLookedTo, starts}
use Rattle.i7_rules.proofs.Lows.{low_nothing, low_past, low_with, not_none}
use Rattle.i7_rules.specs.Abouts.{IsScene}
use Rattle.i7_rules.specs.Knowns.{Known, scope_among}
use Rattle.i7_rules.specs.RuleScans.{IsLow}
use Rattle.i7_sentences.specs.Lowest.{IsNowhere}
use Rattle.i7_sentences.specs.declared.scene_change.SceneChange.{SceneChange}
use Rattle.i7_sentences.specs.declared.scene_change.SceneEdge.{SceneEdge}
use Rattle.i7_sentences.specs.declared.scene_change.SceneEdge.TheVariants.{Begins, Ends}
use Rattle.i7_sentences.specs.declared.sentence.Sentence.{Sentence}
use Rattle.play_meaning.specs.Meant.{condition_meant}
use Rattle.play_meaning.specs.ScenesMeant.{scene_meant}
use Rattle.play_meaning.specs.Scripts.{Scene}
use Rattle.play_meaning.specs.Trees.{Condition}
use Rattle.play_meaning.specs.declared.tree.condition.Condition.{Condition as Kept}
use Rattle.play_meaning.specs.declared.tree.scene.MeantScene.{MeantScene}
use Rattle.i7_resolution.specs.SceneChangeList.{ChangeAt, changes_in, placed}
use Rattle.i7_resolution.specs.SceneChanges.{Tells, Told, found_told, told_is_over, told_meant, told_of}
use Rattle.i7_resolution.specs.SceneScans.{IsSoFar, State, edged, refused_or, so_far_told, state_of, untold, with_edge, with_edge_at, with_found}
use Rattle.i7_resolution.specs.SourceScenes.{AreFound, AreScenes, IsEdge, IsOf, IsOver, IsScenesFound, IsTold, IsTwice, IsUnknown}
use Rattle.i7_resolution.specs.declared.scene_change.SceneTold.{SceneTold}
use Rattle.i7_resolution.specs.declared.source_scenes.ScenesFound.{ScenesFound}
use Rattle.i7_resolution.specs.declared.source_scenes.SoFar.{SoFar}

-- words ask one condition at most
abbrev pub IsOneCondition : Type 0
IsOneCondition = (s : Scope) (words : List Word) (c d : Condition) → IsCondition s words c → IsCondition s words d → c ≡ d

pub true_false : true ≡ false → ⊥
true_false e = cc

pub same_scene : (a b : ℕ) → Some a ≡ Some b → a ≡ b
same_scene a b e = cc

-- ---- one sentence

told_found : (k : Known) (said : SceneChange) (scene : ℕ) (condition : Found Condition) → IsScene k said.scene scene → IsFoundAs (IsCondition (scope_among k []) said.condition) asks_over condition
    → IsFoundAs (Tells k said) told_is_over (one (told_of scene) condition)
told_found k said scene (read.Read c) is h = (record { scene = is; condition = h.0 }, h.1)
told_found k said scene read.TooMany is h = (told_of scene h.0, record { scene = is; condition = h.1 }, h.2)
told_found k said scene read.Unread is h = λ told tells. h told.condition tells.condition

-- its words name this scene
pub named : (k : Known) (said : SceneChange) (words asks : List Word) (scene : Option ℕ) (n : ℕ) (condition : Found Condition) (found : Found Told) → words ≡ said.scene → asks ≡ said.condition
    → scene ≡ scene_named (scope_among k []) words → scene ≡ Some n → IsFoundAs (IsCondition (scope_among k []) asks) asks_over condition → found ≡ one (told_of n) condition
    → IsFoundAs (Tells k said) told_is_over found
named k said words asks scene n condition found lends lends_asks names is h e =
    subst (IsFoundAs (Tells k said) told_is_over) (sym e)
    (told_found k said n condition (sym (names ∙ ap (scene_named (scope_among k [])) lends) ∙ is)
    (subst (λ (w : List Word). IsFoundAs (IsCondition (scope_among k []) w) asks_over condition) lends_asks h))

-- ---- scenes, with a sentence more

module _ (k : Known) (c : ChangeAt) (before : List ChangeAt) where
  past : (scene : ℕ) (edge : SceneEdge) (x : Option Condition) → (IsOf k scene edge c → ⊥) → IsEdge k before scene edge x → IsEdge k (c ∷ before) scene edge x
  past scene edge None isnt is = λ either. elim either [
    | inl here ↦ isnt here
    | inr there ↦ is there
  ]
  past scene edge (Some condition) isnt is = inr is

  module _ (kept : SceneTold) (tells : Tells k c.said (told_meant kept)) where
    elsewhere : (n : ℕ) (edge : SceneEdge) → (n ≡ kept.scene → ⊥) → IsOf k n edge c → ⊥
    elsewhere n edge apart is = apart (same_scene n kept.scene (sym is.1 ∙ tells.scene))

    scene_past : (n : ℕ) (recurs : Bool) (s : Scene) → (n ≡ kept.scene → ⊥) → IsTold k before (n, recurs) s → IsTold k (c ∷ before) (n, recurs) s
    scene_past n recurs s apart is = record {
      recurs = is.recurs;
      begins = past n Begins s.begins (elsewhere n Begins apart) is.begins;
      ends = past n Ends s.ends (elsewhere n Ends apart) is.ends;
    }

    all_past : (n : ℕ) (flags : List Bool) (ss : List Scene) → kept.scene < n → AllZip (IsTold k before) (enumerate_from n flags) ss → AllZip (IsTold k (c ∷ before)) (enumerate_from n flags) ss
    all_past n [] [] under is = tt
    all_past n [] (s ∷ ss) under is = absurd is
    all_past n (recurs ∷ flags) [] under is = absurd is
    all_past n (recurs ∷ flags) (s ∷ ss) under is = (scene_past n recurs s (λ e. omega (arith, under, e)) is.0, all_past (n + 1) flags ss (omega (arith, under)) is.1)

    tells_of : (n : ℕ) → n ≡ kept.scene → Tells k c.said (told_of n (condition_meant kept.condition))
    tells_of n e = subst (λ (m : ℕ). Tells k c.said (told_of m (condition_meant kept.condition))) (sym e) tells

    scene_here : (n : ℕ) (recurs : Bool) (s : MeantScene) (edge : SceneEdge) → c.said.edge ≡ edge → n ≡ kept.scene → IsTold k before (n, recurs) (scene_meant s)
        → IsTold k (c ∷ before) (n, recurs) (scene_meant (edged edge kept.condition s))
    scene_here n recurs s Begins is e so = record {
      recurs = so.recurs;
      begins = inl (is, tells_of n e);
      ends = past n Ends (scene_meant s).ends (λ other. let never : Begins ≡ Ends = sym is ∙ other.0 in cc) so.ends;
    }
    scene_here n recurs s Ends is e so = record {
      recurs = so.recurs;
      begins = past n Begins (scene_meant s).begins (λ other. let never : Ends ≡ Begins = sym is ∙ other.0 in cc) so.begins;
      ends = inl (is, tells_of n e);
    }

    behind : (s : MeantScene) (ss : List MeantScene) (m : ℕ) (edge : SceneEdge) (condition : Kept) (at : Option MeantScene)
        → with_edge_at (s ∷ ss) (suc m) edge condition at ≡ s ∷ with_edge_at ss m edge condition at
    behind s ss m edge condition None = refl
    behind s ss m edge condition (Some scene) = refl

    all_with : (n m : ℕ) (flags : List Bool) (ss : List MeantScene) → kept.scene ≡ n + m → AllZip (IsTold k before) (enumerate_from n flags) (map scene_meant ss)
        → AllZip (IsTold k (c ∷ before)) (enumerate_from n flags) (map scene_meant (with_edge ss m c.said.edge kept.condition))
    all_with n m [] [] at is = tt
    all_with n m [] (s ∷ ss) at is = absurd is
    all_with n m (recurs ∷ flags) [] at is = absurd is
    all_with n zero (recurs ∷ flags) (s ∷ ss) at is =
        (scene_here n recurs s c.said.edge refl (omega (arith, at)) is.0, all_past (n + 1) flags (map scene_meant ss) (omega (arith, at)) is.1)
    all_with n (suc m) (recurs ∷ flags) (s ∷ ss) at is =
        subst (λ (all : List MeantScene). AllZip (IsTold k (c ∷ before)) (enumerate_from n (recurs ∷ flags)) (map scene_meant all)) (sym (behind s ss m c.said.edge kept.condition (slice_get ss m)))
        (scene_past n recurs (scene_meant s) (λ e. omega (arith, at, e)) is.0, all_with (n + 1) m flags ss (omega (arith, at)) is.1)

-- ---- what is found, with a sentence more

module _ (law : IsOneCondition) (k : Known) (recurring : List Bool) (c : ChangeAt) (before : List ChangeAt) where
  within_limits : (told : Told) → Tells k c.said told → told_is_over told ≡ false → (line : ℕ) → IsOver k c line → ⊥
  within_limits told tells within line bad =
      true_false (sym bad.over ∙ ap asks_over (law _ _ bad.told.condition told.condition bad.tells.condition tells.condition) ∙ within)

  pub change_further : (found : Found SceneTold) (state : State) → IsFoundAs (Tells k c.said) told_is_over (found_told found) → IsSoFar k recurring before state
      → IsSoFar k recurring (c ∷ before) (with_found state c found)
  change_further (read.Read kept) state is so = record {
    unknown = low_past (IsUnknown k) c before state.unknown (λ line bad. bad.untold (told_meant kept) is.0) so.unknown;
    too_many = low_past (IsOver k) c before state.too_many (within_limits (told_meant kept) is.0 is.1) so.too_many;
    told = λ known within. all_with k c before kept is.0 0 kept.scene recurring state.scenes (omega arith) (so.told known within);
  }
  change_further read.TooMany state is so = record {
    unknown = low_past (IsUnknown k) c before state.unknown (λ line bad. bad.untold is.0 is.1) so.unknown;
    too_many = low_with (IsOver k) c before state.too_many c.line (record { is = record { told = is.0; tells = is.1; over = is.2; line_is = refl }; alone = λ at bad. sym bad.line_is }) so.too_many;
    told = λ known within. absurd (not_none state.too_many c.line within);
  }
  change_further read.Unread state is so = record {
    unknown = low_with (IsUnknown k) c before state.unknown c.line (record { is = record { untold = is; line_is = refl }; alone = λ at bad. sym bad.line_is }) so.unknown;
    too_many = low_past (IsOver k) c before state.too_many (λ line bad. is bad.told bad.tells) so.too_many;
    told = λ known within. absurd (not_none state.unknown c.line known);
  }

all_untold : (k : Known) (n : ℕ) (flags : List Bool) → AllZip (IsTold k []) (enumerate_from n flags) (map scene_meant (map untold flags))
all_untold k n [] = tt
all_untold k n (recurs ∷ flags) = (record { recurs = refl; begins = λ never. never; ends = λ never. never }, all_untold k (n + 1) flags)

pub starts_reading : (k : Known) (recurring : List Bool) (changes : List ChangeAt) (scenes : List MeantScene) → scenes ≡ map untold recurring
    → IsLookedTo (λ before. IsSoFar k recurring before (record { scenes = scenes; unknown = None; too_many = None })) changes changes
starts_reading k recurring changes scenes is = starts (λ before. IsSoFar k recurring before (record { scenes = scenes; unknown = None; too_many = None })) changes (record {
  unknown = low_nothing (IsUnknown k);
  too_many = low_nothing (IsOver k);
  told = λ known within. subst (λ (ss : List MeantScene). AreScenes k [] recurring (map scene_meant ss)) (sym is) (all_untold k 0 recurring);
})

-- ---- what is told of all

module _ (k : Known) (recurring : List Bool) (changes : List ChangeAt) where
  by_over : (line : Option ℕ) (next : ScenesFound) → IsNowhere (IsTwice k) (placed changes) → IsNowhere (IsUnknown k) changes → IsLow (IsOver k) changes line
      → (IsNowhere (IsOver k) changes → line ≡ None → AreFound k recurring changes next) → AreFound k recurring changes (refused_or TooMany line next)
  by_over None next apart known low all = all low refl
  by_over (Some line) next apart known low all = (apart, known, low)

  by_unknown : (line : Option ℕ) (next : ScenesFound) → IsNowhere (IsTwice k) (placed changes) → IsLow (IsUnknown k) changes line
      → (IsNowhere (IsUnknown k) changes → line ≡ None → AreFound k recurring changes next) → AreFound k recurring changes (refused_or UnknownName line next)
  by_unknown None next apart low all = all low refl
  by_unknown (Some line) next apart low all = (apart, low)

  by_twice : (line : Option ℕ) (next : ScenesFound) → IsLow (IsTwice k) (placed changes) line → (IsNowhere (IsTwice k) (placed changes) → AreFound k recurring changes next)
      → AreFound k recurring changes (refused_or Twice line next)
  by_twice None next low all = all low
  by_twice (Some line) next low all = low

  all_told : (twice : Option ℕ) (so_far : SoFar) → IsLow (IsTwice k) (placed changes) twice → IsSoFar k recurring changes (state_of so_far) → AreFound k recurring changes (so_far_told twice so_far)
  all_told twice so_far low so =
      by_twice twice _ low (λ apart.
      by_unknown so_far.unknown _ apart so.unknown (λ known no_unknown.
      by_over so_far.too_many _ apart known so.too_many (λ within no_over.
      record { apart = apart; known = known; within = within; each = so.told no_unknown no_over })))

pub sentences_told : (k : Known) (recurring : List Bool) (sentences : List Sentence) (changes : List ChangeAt) (twice : Option ℕ) (so_far : SoFar) (found : ScenesFound) → changes ≡ changes_in sentences
    → IsLow (IsTwice k) (placed (reverse changes)) twice → IsSoFar k recurring (reverse changes) (state_of so_far) → found ≡ so_far_told twice so_far → IsScenesFound k recurring sentences found
sentences_told k recurring sentences changes twice so_far found said low so told =
    subst (λ (all : List ChangeAt). AreFound k recurring (reverse all) found) said
    (subst (AreFound k recurring (reverse changes)) (sym told) (all_told k recurring (reverse changes) twice so_far low so))
