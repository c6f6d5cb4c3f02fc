-- The places of a log to which turns are taken back, where one more is put in front of them or the first is taken away.
use Rattle.std.proofs.Common.{◌≡◌, ◌∙◌, ap, sym, subst, refl, ℕ, zero, suc, ◌+◌, ◌<◌, ◌≤◌, List, [], ◌∷◌, ◌++◌, length, drop, take, map, Some, arith}
use Rattle.std.specs.Prelude.{Err, Ok, OnErr, OnOk, Option, None, Result, is_some, nat_le, true, slice_get, slice_index_or}
use Rattle.std.specs.Option.{ForSome}
use Rattle.std.proofs.lemmas.Bool.{and_parts, le-leb, leb-true}
use Rattle.std.proofs.lemmas.List.{get_or-take, get_or_default, get_or_push, length-take, take-append-le, take_more}
use Rattle.std.proofs.lemmas.Option.{same_Some}
use Rattle.play_meaning.specs.Worlds.{World}
use Rattle.world_meaning.specs.declared.session.Abandon.{Abandon}
use Rattle.story_format.specs.declared.tables.Tables.{Tables}
use Rattle.world_store.specs.StoryWorlds.{StoryWorld, reverted, worlds}
use Rattle.action_stages.specs.Returning.{Back, ComesBehind, back_at, back_to, front_at}
use Rattle.action_stages.proofs.Returning.{back_behind, worlds_long}
use Rattle.story_player.specs.KeptWorlds.{HasGoneOn, are_marks, kept_in, world_at, world_in}

-- ---- the world that is there

-- places up to this one, the latest in front
abbrev pub AreMarks : ℕ → List ℕ → Type 0
AreMarks last [] = Unit {0}
AreMarks last (mark ∷ marks) = (mark ≤ last) × AreMarks mark marks

pub marks_so : (last : ℕ) (marks : List ℕ) → are_marks last marks ≡ true → AreMarks last marks
marks_so last [] are = tt
marks_so last (mark ∷ marks) are = let both = and_parts (nat_le mark last) (are_marks mark marks) are in (leb-true mark last both.0, marks_so mark marks both.1)

pub so_marks : (last : ℕ) (marks : List ℕ) → AreMarks last marks → are_marks last marks ≡ true
so_marks last [] are = refl
so_marks last (mark ∷ marks) are = rw (le-leb mark last are.0, so_marks mark marks are.1) refl

-- a world of the story is there, and its log has these places
pub record IsHome (t : Tables) (world : Option StoryWorld) (marks : List ℕ) : Type 0 where
  pub now : StoryWorld
  pub there : world ≡ Some now
  pub tables : now.tables ≡ t
  pub marks_are : AreMarks (length now.past) marks

pub home_of : (t : Tables) (world : Option StoryWorld) (marks : List ℕ) → is_some world ≡ true → ForSome world (λ now. now.tables ≡ t)
    → ForSome world (λ now. are_marks (length now.past) marks ≡ true) → IsHome t world marks
home_of t None marks there tables are = absurd cc
home_of t (Some now) marks there tables are = record { now = now; there = refl; tables = tables now refl; marks_are = marks_so (length now.past) marks (are now refl) }

pub is_there : (t : Tables) (world : Option StoryWorld) (marks : List ℕ) → IsHome t world marks → is_some world ≡ true
is_there t world marks home = ap is_some home.there

pub is_of : (t : Tables) (world : Option StoryWorld) (marks : List ℕ) → IsHome t world marks → ForSome world (λ now. now.tables ≡ t)
is_of t world marks home = λ now is. ap (λ (s : StoryWorld). s.tables) (sym (same_Some home.now now (sym home.there ∙ is))) ∙ home.tables

pub are_there : (t : Tables) (world : Option StoryWorld) (marks : List ℕ) → IsHome t world marks → ForSome world (λ now. are_marks (length now.past) marks ≡ true)
are_there t world marks home = λ now is.
    ap (λ (s : StoryWorld). are_marks (length s.past) marks) (sym (same_Some home.now now (sym home.there ∙ is))) ∙ so_marks (length home.now.past) marks home.marks_are

-- ---- marks

pub marks_within : (last wider : ℕ) (marks : List ℕ) → last ≤ wider → AreMarks last marks → AreMarks wider marks
marks_within last wider [] less are = tt
marks_within last wider (mark ∷ marks) less are = (omega (arith, less, are.0), are.1)

pub marks_taken : (n last : ℕ) (marks : List ℕ) → AreMarks last marks → AreMarks last (take n marks)
marks_taken zero last marks are = tt
marks_taken (suc n) last [] are = tt
marks_taken (suc n) last (mark ∷ marks) are = (are.0, marks_taken n mark marks are.1)

-- ---- the worlds at places that are there

-- one that comes behind has the same worlds there
pub same_at : (s t : StoryWorld) (mark : ℕ) → ComesBehind s t → mark ≤ length s.past → world_at t mark ≡ world_at s mark
same_at s t mark behind within =
    sym (get_or-take (suc mark) (worlds t) mark t.world (omega arith))
    ∙ ap (λ (front : List World). slice_index_or front mark t.world) (behind mark within).1
    ∙ get_or-take (suc mark) (worlds s) mark t.world (omega arith)
    ∙ get_or_default (worlds s) mark t.world s.world (omega (arith, within, worlds_long s))

pub same_kept : (s t : StoryWorld) (last : ℕ) (marks : List ℕ) → ComesBehind s t → last ≤ length s.past → AreMarks last marks → map (world_at t) marks ≡ map (world_at s) marks
same_kept s t last [] behind within are = refl
same_kept s t last (mark ∷ marks) behind within are =
    let here : mark ≤ length s.past = omega (arith, within, are.0) in
    λ i. same_at s t mark behind here i ∷ same_kept s t mark marks behind here are.1 i

-- a world stands at the last place of its own log
pub at_last : (s : StoryWorld) → world_at s (length s.past) ≡ s.world
at_last s = get_or_push s.past s.world s.world (length s.past) refl

pub map_taken : {A B : Type 0} (f : A → B) (n : ℕ) (xs : List A) → map f (take n xs) ≡ take n (map f xs)
map_taken f zero xs = refl
map_taken f (suc n) [] = refl
map_taken f (suc n) (x ∷ xs) = ap (λ ys. f x ∷ ys) (map_taken f n xs)

-- the place of a world is kept in front of those of earlier ones
pub kept_pushed : (s t : StoryWorld) (n : ℕ) (marks : List ℕ) → ComesBehind s t → AreMarks (length s.past) marks
    → map (world_at t) (take n (length s.past ∷ marks)) ≡ take n (s.world ∷ map (world_at s) marks)
kept_pushed s t n marks behind are =
    let within : length s.past ≤ length s.past = omega arith in
    map_taken (world_at t) n (length s.past ∷ marks)
    ∙ (λ i. take n ((same_at s t (length s.past) behind within ∙ at_last s) i ∷ same_kept s t (length s.past) marks behind within are i))

-- ---- back at a place

-- a world comes behind each to which it may go back
pub reverted_before : (s : StoryWorld) (mark : ℕ) → mark ≤ length s.past → ComesBehind (reverted mark s) s
reverted_before s mark within = λ other less.
    let here : mark < length (worlds s) = omega (arith, within, worlds_long s) in
    let long : length (take mark s.past) ≡ mark = omega (arith, within, length-take mark s.past) in
    let front : worlds (reverted mark s) ≡ take (mark + 1) (worlds s) =
    ap (λ (past : List World). past ++ world_at s mark ∷ []) (sym (take-append-le mark s.past (s.world ∷ []) within)) ∙ sym (take_more (worlds s) mark s.world here) in (
      omega (arith, less, long, within),
      sym (ap (take (suc other)) front ∙ take_front (suc other) (mark + 1) (worlds s) (omega (arith, less, long))),
    )
  where
    take_front : {A : Type 0} (n m : ℕ) (xs : List A) → n ≤ m → take n (take m xs) ≡ take n xs
    take_front zero m xs less = refl
    take_front (suc n) zero xs less = absurd (omega (arith, less))
    take_front (suc n) (suc m) [] less = refl
    take_front (suc n) (suc m) (x ∷ xs) less = ap (λ ys. x ∷ ys) (take_front n m xs (omega (arith, less)))

-- ---- a session's world behind an action

module _ (t : Tables) (before now : Option StoryWorld) (marks : List ℕ) (was : IsHome t before marks) (is : IsHome t now marks) (on : HasGoneOn before now) where
  goes_on : ComesBehind was.now is.now
  goes_on = on was.now is.now was.there is.there

  -- no place was kept
  pub kept_same : kept_in now marks ≡ kept_in before marks
  kept_same =
      ap (λ (world : Option StoryWorld). kept_in world marks) is.there
      ∙ same_kept was.now is.now (length was.now.past) marks goes_on (omega arith) was.marks_are
      ∙ ap (λ (world : Option StoryWorld). kept_in world marks) (sym was.there)

  -- the place where it began was
  module _ (s : StoryWorld) (here : before ≡ Some s) (n mark : ℕ) (pushed : List ℕ) (at : mark ≡ length s.past) (so : pushed ≡ take n (mark ∷ marks)) where
    same : was.now ≡ s
    same = same_Some was.now s (sym was.there ∙ here)

    place : mark ≡ length was.now.past
    place = at ∙ ap (λ (s : StoryWorld). length s.past) (sym same)

    pub home_pushed : IsHome t now pushed
    home_pushed = record {
      now = is.now;
      there = is.there;
      tables = is.tables;
      marks_are =
          subst (AreMarks (length is.now.past)) (sym so)
          (marks_taken n (length is.now.past) (mark ∷ marks) (omega (arith, place, (goes_on (length was.now.past) (omega arith)).0), subst (λ (last : ℕ). AreMarks last marks) (sym place) was.marks_are));
    }

    pub kept_put : kept_in now pushed ≡ take n (world_in before ∷ kept_in before marks)
    kept_put =
        ap (λ (world : Option StoryWorld). kept_in world pushed) is.there
        ∙ ap (map (world_at is.now)) (so ∙ ap (λ (first : ℕ). take n (first ∷ marks)) place)
        ∙ kept_pushed was.now is.now n marks goes_on was.marks_are
        ∙ ap (λ (world : Option StoryWorld). take n (world_in world ∷ kept_in world marks)) (sym was.there)

-- ---- a session's world behind an undo

first_of : (marks rest : List ℕ) (mark : ℕ) → slice_get marks 0 ≡ Some mark → rest ≡ drop 1 marks → marks ≡ mark ∷ rest
first_of [] rest mark is behind = absurd cc
first_of (m ∷ marks) rest mark is behind = λ i. same_Some m mark is i ∷ sym behind i

module _ (t : Tables) (before : Option StoryWorld) (marks rest : List ℕ) (mark : ℕ) (s : StoryWorld) (was : IsHome t before marks) (here : before ≡ Some s)
    (first : slice_get marks 0 ≡ Some mark) (behind : rest ≡ drop 1 marks) where
  are : AreMarks (length s.past) (mark ∷ rest)
  are = subst (AreMarks (length s.past)) (first_of marks rest mark first behind) (subst (λ (s : StoryWorld). AreMarks (length s.past) marks) (same_Some was.now s (sym was.there ∙ here)) was.marks_are)

  pub mark_within : mark ≤ length s.past
  mark_within = are.0

  pub home_undone : IsHome t (Some (reverted mark s)) rest
  home_undone = record {
    now = reverted mark s;
    there = refl;
    tables = ap (λ (s : StoryWorld). s.tables) (sym (same_Some was.now s (sym was.there ∙ here))) ∙ was.tables;
    marks_are = marks_within mark (length (take mark s.past)) rest (omega (arith, are.0, length-take mark s.past)) are.1;
  }

  pub kept_undone : kept_in before marks ≡ world_at s mark ∷ kept_in (Some (reverted mark s)) rest
  kept_undone =
      ap (λ (world : Option StoryWorld). kept_in world marks) here ∙ ap (map (world_at s)) (first_of marks rest mark first behind)
      ∙ ap (λ (kept : List World). world_at s mark ∷ kept)
      (same_kept (reverted mark s) s mark rest (reverted_before s mark are.0) (omega (arith, are.0, length-take mark s.past)) are.1)

-- ---- an action on a session's world

-- a world that play has come to from another, where it is told of
pub told_behind : {A : Type 0} (result : Result A Abandon) (s now : StoryWorld) (mark : ℕ) {back : Back} → OnOk result (back_at mark now ≡ back) → back ≡ back_to s
    → OnOk result (ComesBehind s now)
told_behind (Ok told) s now mark is since = back_behind s now mark (is ∙ since)
told_behind (Err reason) s now mark is since = tt

pub gone_behind : {A : Type 0} (result : Result A Abandon) (s now : StoryWorld) → OnOk result (ComesBehind s now) → OnErr result (now ≡ s) → ComesBehind s now
gone_behind (Ok told) s now behind left = behind
gone_behind (Err reason) s now behind left = λ mark within.
    (subst (λ (t : StoryWorld). mark ≤ length t.past) (sym left) within, ap (front_at mark) left)

pub home_on : (t : Tables) (before : Option StoryWorld) (marks : List ℕ) (s now : StoryWorld) → IsHome t before marks → before ≡ Some s → now.tables ≡ t → ComesBehind s now
    → IsHome t (Some now) marks
home_on t before marks s now was here story behind =
    let same : was.now ≡ s = same_Some was.now s (sym was.there ∙ here) in
    record {
      now = now;
      there = refl;
      tables = story;
      marks_are =
          marks_within (length s.past) (length now.past) marks (behind (length s.past) (omega arith)).0
          (subst (λ (s : StoryWorld). AreMarks (length s.past) marks) same was.marks_are);
    }

gone_on : (before : Option StoryWorld) (s now : StoryWorld) → before ≡ Some s → ComesBehind s now → HasGoneOn before (Some now)
gone_on before s now here behind = λ a b is so.
    subst (λ (a : StoryWorld). ComesBehind a b) (same_Some s a (sym here ∙ is)) (subst (λ (b : StoryWorld). ComesBehind s b) (same_Some now b so) behind)

pub has_gone_on : {A : Type 0} (result : Result A Abandon) (before : Option StoryWorld) (s now : StoryWorld) → before ≡ Some s → OnOk result (ComesBehind s now)
    → OnOk result (HasGoneOn before (Some now))
has_gone_on (Ok told) before s now here behind = gone_on before s now here behind
has_gone_on (Err reason) before s now here behind = tt
