-- A session whose log lets go of the changes in front of the oldest turn that can be taken back.
use Rattle.std.proofs.Common.{◌≡◌, ◌∙◌, ap, sym, subst, refl, ℕ, zero, suc, ◌+◌, ◌-◌, ◌≤◌, List, [], ◌∷◌, length, map, arith}
use Rattle.std.specs.Prelude.{Some, drop, slice_get, take, true, unwrap_or}
use Rattle.std.proofs.lemmas.List.{length-drop, take_all}
use Rattle.std.proofs.lemmas.Option.{same_Some}
use Rattle.world_store.specs.StoryWorlds.{StoryWorld, let_go}
use Rattle.world_store.proofs.LetGo.{index_behind}
use Rattle.story_player.specs.KeptWorlds.{IsShortened, are_marks, oldest_of, world_at}
use Rattle.story_player.proofs.Keepings.{AreMarks, marks_so, so_marks}

-- none of these places lies in front of the first
abbrev AreFrom : ℕ → List ℕ → Type 0
AreFrom first [] = Unit {0}
AreFrom first (mark ∷ marks) = (first ≤ mark) × AreFrom first marks

none_from : (first : ℕ) (marks : List ℕ) → length marks ≡ 0 → AreFrom first marks
none_from first [] none = tt
none_from first (mark ∷ marks) none = absurd (omega (arith, none))

from_at : (first last otherwise n : ℕ) (marks : List ℕ) → AreMarks last marks → length marks ≡ n + 1 → first ≡ unwrap_or (slice_get marks n) otherwise
    → (first ≤ last) × AreFrom first marks
from_at first last otherwise n [] are long is = absurd (omega (arith, long))
from_at first last otherwise zero (mark ∷ marks) are long is = (omega (arith, is, are.0), (omega (arith, is), none_from first marks (omega (arith, long))))
from_at first last otherwise (suc n) (mark ∷ marks) are long is =
    let rest = from_at first mark otherwise n marks are.1 (omega (arith, long)) is in
    (omega (arith, rest.0, are.0), (rest.0, rest.1))

-- the last of places, the latest in front, lies in front of all
from_oldest : (first last : ℕ) (marks : List ℕ) → AreMarks last marks → first ≡ unwrap_or (slice_get marks (length marks - 1)) last → (first ≤ last) × AreFrom first marks
from_oldest first last [] are is = (omega (arith, is), tt)
from_oldest first last (mark ∷ marks) are is =
    let place : length (mark ∷ marks) - 1 ≡ length marks = omega arith in
    from_at first last last (length marks) (mark ∷ marks) are (omega arith) (is ∙ ap (λ n. unwrap_or (slice_get (mark ∷ marks) n) last) place)

abbrev pub told_from : ℕ → List ℕ → List ℕ
told_from first marks = map (λ mark. mark - first) marks

told_length : (first : ℕ) (marks : List ℕ) → length (told_from first marks) ≡ length marks
told_length first [] = refl
told_length first (mark ∷ marks) = ap suc (told_length first marks)

marks_behind : (first last : ℕ) (marks : List ℕ) → AreMarks last marks → AreMarks (last - first) (told_from first marks)
marks_behind first last [] are = tt
marks_behind first last (mark ∷ marks) are = (omega (arith, are.0), marks_behind first mark marks are.1)

worlds_behind : (s : StoryWorld) (first last : ℕ) (marks : List ℕ) → AreMarks last marks → last ≤ length s.past → AreFrom first marks
    → map (world_at (let_go first s)) (told_from first marks) ≡ map (world_at s) marks
worlds_behind s first last [] are within from = refl
worlds_behind s first last (mark ∷ marks) are within from =
    let here : mark ≤ length s.past = omega (arith, within, are.0) in
    λ i. index_behind first mark s.past s.world from.0 here i ∷ worlds_behind s first mark marks are.1 here from.1 i

-- the last place, told anew, is the first of what is left
told_at : (first last n : ℕ) (marks : List ℕ) → unwrap_or (slice_get (told_from first marks) n) (last - first) ≡ unwrap_or (slice_get marks n) last - first
told_at first last n [] = refl
told_at first last zero (mark ∷ marks) = refl
told_at first last (suc n) (mark ∷ marks) = told_at first last n marks

none_in_front : (first last : ℕ) (marks : List ℕ) → first ≡ oldest_of marks last → oldest_of (told_from first marks) (last - first) ≡ 0
none_in_front first last marks is =
    ap (λ n. unwrap_or (slice_get (told_from first marks) (n - 1)) (last - first)) (told_length first marks) ∙ told_at first last (length marks - 1) marks ∙ omega (arith, is)

module _ (s : StoryWorld) (first : ℕ) (marks : List ℕ) (are : are_marks (length s.past) marks ≡ true) (oldest : first ≡ unwrap_or (slice_get marks (length marks - 1)) (length s.past)) where
  from : (first ≤ length s.past) × AreFrom first marks
  from = from_oldest first (length s.past) marks (marks_so (length s.past) marks are) oldest

  pub first_within : first ≤ length s.past
  first_within = from.0

  pub shortened : (t : StoryWorld) (told : List ℕ) → t ≡ let_go first s → told ≡ told_from first marks → IsShortened s marks t told
  shortened t told so and = subst (λ (u : StoryWorld). IsShortened s marks u told) (sym so) (subst (IsShortened s marks (let_go first s)) (sym and) (record {
    tables = refl;
    world = refl;
    kept = worlds_behind s first (length s.past) marks (marks_so (length s.past) marks are) (omega arith) from.1;
    few = let none = subst (λ (last : ℕ). oldest_of (told_from first marks) last ≡ 0) (sym (length-drop first s.past)) (none_in_front first (length s.past) marks oldest) in omega (arith, none);
    places =
        so_marks (length (let_go first s).past) (told_from first marks)
        (subst (λ (last : ℕ). AreMarks last (told_from first marks)) (sym (length-drop first s.past)) (marks_behind first (length s.past) marks (marks_so (length s.past) marks are)));
  }))

-- a mark that is taken from the front and put back, told anew
pub told_one : (first : ℕ) (marks rest told : List ℕ) (mark back : ℕ) → length marks ≤ 8 → slice_get marks 0 ≡ Some mark → rest ≡ drop 1 marks → told ≡ told_from first rest → back ≡ mark - first
    → take 8 (back ∷ told) ≡ told_from first marks
told_one first [] rest told mark back few is behind so at = absurd cc
told_one first (m ∷ marks) rest told mark back few is behind so at =
    (λ i. take 8 ((at ∙ ap (λ n. n - first) (sym (same_Some m mark is))) i ∷ (so ∙ ap (told_from first) behind) i))
    ∙ take_all 8 (told_from first (m ∷ marks)) (omega (arith, few, told_length first (m ∷ marks)))
