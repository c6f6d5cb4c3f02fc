-- No sentences have two answers about when scenes begin and end.
use Rattle.std.proofs.Common.{◌≡◌, ℕ, ◌+◌, Bool, List, [], ◌∷◌, refl, sym, ◌∙◌, ap, inl, inr}
use Rattle.std.specs.Prelude.{Option, None, Some, map, reverse}
use Rattle.std.specs.List.{AllZip, enumerate_from}
use Rattle.std.proofs.lemmas.List.Elements.{All-head, All-tail}
use Rattle.world_meaning.specs.declared.fault.FaultCode.{FaultCode}
use Rattle.world_meaning.specs.declared.fault.FaultCode.TheVariants.{TooMany, Twice, UnknownName}
use Rattle.i7_rules.proofs.Lows.{lowest_once}
use Rattle.i7_rules.specs.Knowns.{Known}
use Rattle.i7_sentences.specs.Lowest.{IsLowest, IsNowhere}
use Rattle.i7_sentences.specs.declared.scene_change.SceneEdge.{SceneEdge}
use Rattle.i7_sentences.specs.declared.scene_change.SceneEdge.TheVariants.{Begins, Ends}
use Rattle.i7_sentences.specs.declared.sentence.Sentence.{Sentence}
use Rattle.play_meaning.specs.ScenesMeant.{scene_meant}
use Rattle.play_meaning.specs.Scripts.{Scene}
use Rattle.play_meaning.specs.Trees.{Condition}
use Rattle.i7_resolution.specs.SceneChangeList.{ChangeAt, Placed, changes_in, placed}
use Rattle.i7_resolution.specs.SourceScenes.{All as Whole, AreFound, AreTold, IsEdge, IsOf, IsOn, IsOver, IsScenesFound, IsTold, IsTwice, IsUnknown, OneOf, Refused, ScenesMeant, Stands, scenes_meant}
use Rattle.i7_resolution.specs.declared.source_scenes.ScenesFound.{ScenesFound}
use Rattle.i7_resolution.specs.declared.source_scenes.ScenesFound.TheVariants as found
use Rattle.i7_resolution.proofs.ReadScenes.{IsOneCondition}
use Rattle.i7_sentences.proofs.Lowest.{nowhere_there}

abbrev refusal : FaultCode → ℕ → ScenesMeant
refusal code line = Refused (record { code = code; line = line })

scene_same : (a b : Scene) → a.recurs ≡ b.recurs → a.begins ≡ b.begins → a.ends ≡ b.ends → a ≡ b
scene_same a b recurs begins ends = λ i. record { recurs = recurs i; begins = begins i; ends = ends i }

abbrev Apart : Known → Placed → Type 0
Apart k p = (line : ℕ) → IsTwice k p line → ⊥

one_of : (k : Known) (scene : ℕ) (edge : SceneEdge) (condition : Condition) (changes : List ChangeAt) → OneOf (IsOn k scene edge condition) changes → OneOf (IsOf k scene edge) changes
one_of k scene edge condition [] one = absurd one
one_of k scene edge condition (c ∷ before) (inl here) = inl (here.0, here.1.scene)
one_of k scene edge condition (c ∷ before) (inr there) = inr (one_of k scene edge condition before there)

module _ (law : IsOneCondition) (k : Known) where
  -- ---- conditions

  twice_not : (c : ChangeAt) (before : List ChangeAt) (scene : ℕ) (edge : SceneEdge) → Apart k (record { change = c; before = before }) → IsOf k scene edge c → OneOf (IsOf k scene edge) before → ⊥
  twice_not c before scene edge apart here there = apart c.line (record { scene = scene; edge = edge; is_of = here; one_before = there; line_is = refl })

  condition_once : (changes : List ChangeAt) → IsNowhere (IsTwice k) (placed changes) → (scene : ℕ) (edge : SceneEdge) (a b : Condition) → OneOf (IsOn k scene edge a) changes
      → OneOf (IsOn k scene edge b) changes → a ≡ b
  condition_once [] apart scene edge a b one other = absurd one
  condition_once (c ∷ before) apart scene edge a b (inl one) (inl other) = law _ _ a b one.1.condition other.1.condition
  condition_once (c ∷ before) apart scene edge a b (inl one) (inr other) =
      absurd (twice_not c before scene edge (All-head (Apart k) (record { change = c; before = before }) (placed before) apart) (one.0, one.1.scene) (one_of k scene edge b before other))
  condition_once (c ∷ before) apart scene edge a b (inr one) (inl other) =
      absurd (twice_not c before scene edge (All-head (Apart k) (record { change = c; before = before }) (placed before) apart) (other.0, other.1.scene) (one_of k scene edge a before one))
  condition_once (c ∷ before) apart scene edge a b (inr one) (inr other) =
      condition_once before (All-tail (Apart k) (record { change = c; before = before }) (placed before) apart) scene edge a b one other

  module _ (changes : List ChangeAt) (apart : IsNowhere (IsTwice k) (placed changes)) where
    edge_once : (scene : ℕ) (edge : SceneEdge) (a b : Option Condition) → IsEdge k changes scene edge a → IsEdge k changes scene edge b → a ≡ b
    edge_once scene edge None None one other = refl
    edge_once scene edge None (Some b) one other = absurd (one (one_of k scene edge b changes other))
    edge_once scene edge (Some a) None one other = absurd (other (one_of k scene edge a changes one))
    edge_once scene edge (Some a) (Some b) one other = ap Some (condition_once changes apart scene edge a b one other)

    -- ---- scenes

    scene_once : (n : ℕ) (recurs : Bool) (a b : Scene) → IsTold k changes (n, recurs) a → IsTold k changes (n, recurs) b → a ≡ b
    scene_once n recurs a b one other =
        scene_same a b (one.recurs ∙ sym other.recurs) (edge_once n Begins a.begins b.begins one.begins other.begins) (edge_once n Ends a.ends b.ends one.ends other.ends)

    all_once : (n : ℕ) (flags : List Bool) (a b : List Scene) → AllZip (IsTold k changes) (enumerate_from n flags) a → AllZip (IsTold k changes) (enumerate_from n flags) b → a ≡ b
    all_once n [] [] [] one other = refl
    all_once n [] [] (y ∷ b) one other = absurd other
    all_once n [] (x ∷ a) b one other = absurd one
    all_once n (recurs ∷ flags) [] b one other = absurd one
    all_once n (recurs ∷ flags) (x ∷ a) [] one other = absurd other
    all_once n (recurs ∷ flags) (x ∷ a) (y ∷ b) one other =
        ap (λ (s : Scene). s ∷ a) (scene_once n recurs x y one.0 other.0) ∙ ap (λ (ss : List Scene). y ∷ ss) (all_once (n + 1) flags a b one.1 other.1)

  -- ---- refusals

  twice_once : (cs : List ChangeAt) (c : FaultCode) (a b : ℕ) → IsLowest (IsTwice k) (placed cs) a → Stands k c b cs → refusal Twice a ≡ refusal c b
  twice_once cs Twice a b one other = ap (refusal Twice) (lowest_once (IsTwice k) (placed cs) a b one other)
  twice_once cs UnknownName a b one other = absurd (nowhere_there (IsTwice k) (placed cs) a other.0 one)
  twice_once cs TooMany a b one other = absurd (nowhere_there (IsTwice k) (placed cs) a other.0 one)
  twice_once cs _ a b one other = absurd other

  unknown_once : (cs : List ChangeAt) (c : FaultCode) (a b : ℕ) → IsNowhere (IsTwice k) (placed cs) → IsLowest (IsUnknown k) cs a → Stands k c b cs → refusal UnknownName a ≡ refusal c b
  unknown_once cs Twice a b apart one other = absurd (nowhere_there (IsTwice k) (placed cs) b apart other)
  unknown_once cs UnknownName a b apart one other = ap (refusal UnknownName) (lowest_once (IsUnknown k) cs a b one other.1)
  unknown_once cs TooMany a b apart one other = absurd (nowhere_there (IsUnknown k) cs a other.1 one)
  unknown_once cs _ a b apart one other = absurd other

  over_once : (cs : List ChangeAt) (c : FaultCode) (a b : ℕ) → IsNowhere (IsTwice k) (placed cs) → IsNowhere (IsUnknown k) cs → IsLowest (IsOver k) cs a → Stands k c b cs → refusal TooMany a ≡ refusal c b
  over_once cs Twice a b apart known one other = absurd (nowhere_there (IsTwice k) (placed cs) b apart other)
  over_once cs UnknownName a b apart known one other = absurd (nowhere_there (IsUnknown k) cs b known other.1)
  over_once cs TooMany a b apart known one other = ap (refusal TooMany) (lowest_once (IsOver k) cs a b one other.2)
  over_once cs _ a b apart known one other = absurd other

  refused_once : (cs : List ChangeAt) (c d : FaultCode) (a b : ℕ) → Stands k c a cs → Stands k d b cs → refusal c a ≡ refusal d b
  refused_once cs Twice d a b one other = twice_once cs d a b one other
  refused_once cs UnknownName d a b one other = unknown_once cs d a b one.0 one.1 other
  refused_once cs TooMany d a b one other = over_once cs d a b one.0 one.1 one.2 other
  refused_once cs _ d a b one other = absurd one

  told_or_refused : (recurring : List Bool) (cs : List ChangeAt) (scenes : List Scene) (c : FaultCode) (line : ℕ) → AreTold k recurring cs scenes → Stands k c line cs → ⊥
  told_or_refused recurring cs scenes Twice line is stands = nowhere_there (IsTwice k) (placed cs) line is.apart stands
  told_or_refused recurring cs scenes UnknownName line is stands = nowhere_there (IsUnknown k) cs line is.known stands.1
  told_or_refused recurring cs scenes TooMany line is stands = nowhere_there (IsOver k) cs line is.within stands.2
  told_or_refused recurring cs scenes _ line is stands = stands

  found_once : (recurring : List Bool) (cs : List ChangeAt) (a b : ScenesFound) → AreFound k recurring cs a → AreFound k recurring cs b → scenes_meant a ≡ scenes_meant b
  found_once recurring cs (found.Says a) (found.Says b) one other = ap Whole (all_once cs one.apart 0 recurring (map scene_meant a.items) (map scene_meant b.items) one.each other.each)
  found_once recurring cs (found.Says a) (found.Refused fault) one other = absurd (told_or_refused recurring cs (map scene_meant a.items) fault.code fault.line one other)
  found_once recurring cs (found.Refused fault) (found.Says b) one other = absurd (told_or_refused recurring cs (map scene_meant b.items) fault.code fault.line other one)
  found_once recurring cs (found.Refused fault) (found.Refused other_fault) one other = refused_once cs fault.code other_fault.code fault.line other_fault.line one other

pub scenes_once : IsOneCondition → (k : Known) (recurring : List Bool) (sentences : List Sentence) (a b : ScenesFound) → IsScenesFound k recurring sentences a → IsScenesFound k recurring sentences b
    → scenes_meant a ≡ scenes_meant b
scenes_once law k recurring sentences a b one other = found_once law k recurring (reverse (changes_in sentences)) a b one other
