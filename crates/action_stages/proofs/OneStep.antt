-- One step of a body over a loaded story's world.
use Rattle.std.proofs.Common.{◌≡◌, ◌∙◌, ap, sym, refl, subst, ℕ, zero, suc, ◌<◌, ◌≤◌, true, inl, inr, List, [], ◌∷◌, ◌++◌, length, arith}
use Rattle.std.specs.Prelude.{Result, Ok, Err, OnErr, OnOk, Some, slice_get}
use Rattle.std.proofs.lemmas.Option.{same_Some}
use Rattle.play_meaning.specs.Codes.{Codes, code_of, frame_of, test_of}
use Rattle.play_meaning.specs.Doing.{Inner}
use Rattle.play_meaning.specs.Grounds.{Fixed, telling_by}
use Rattle.play_meaning.specs.Machines.{Frame, State, step}
use Rattle.play_meaning.specs.Progress.{most_work}
use Rattle.play_meaning.specs.Settings.{room_kind}
use Rattle.play_meaning.specs.Worlds.{World, value_of}
use Rattle.play_meaning.specs.declared.action.ActionNow.{ActionNow}
use Rattle.story_code.specs.Runs.{AreDescribedBy, MayDo, Standing, code_at, codes_of, state_in}
use Rattle.story_code.specs.Soundness.{Judged}
use Rattle.story_code.specs.Steps.{LeadsBack, StepsSo as PlainlySo, body_frame, stepped}
use Rattle.story_code.specs.declared.step.Step.{Step}
use Rattle.story_code.specs.declared.step.Step.TheVariants.{Done, Failure, Follow, GoesOn, NoDecision, Success, Try}
use Rattle.story_format.specs.InPlay.{has_value, value_names}
use Rattle.story_format.specs.declared.tables.Tables.{Tables}
use Rattle.world_meaning.specs.declared.session.Abandon.{Abandon}
use Rattle.world_store.specs.StorySettings.{fixed_of, setting_of}
use Rattle.world_store.specs.StoryWorlds.{AreKept, IsKept, StoryWorld, worlds}
use Rattle.action_stages.specs.Bodies.{AreCodesIn, StepsSo, frame_in}
use Rattle.action_stages.specs.Lasting.{IsAsLong, Lasts}
use Rattle.action_stages.specs.Measures.{LowersNoWork}
use Rattle.world_store.specs.StoryPlay.{coded_story}
use Rattle.action_stages.proofs.Ending.{Worked, worked}
use Rattle.action_stages.proofs.Lasting.{as_long, step_lasts}

-- ---- the same step of the story's game

module _ (t : Tables) (judged : List Judged) (told : AreCodesIn judged (coded_story t)) (now : ActionNow) where
  codes_are : codes_of (fixed_of t) judged ≡ (coded_story t).codes
  unfolding coded_story
  codes_are = ap (λ codes. record { strings = t.strings; codes = codes }) told.codes

  step_is : (inner : Inner) (n : ℕ) (x : State) → step (body_frame (fixed_of t) judged now inner) (code_at judged n) x ≡ step (frame_in (coded_story t) now inner) (code_of (coded_story
      t).codes n) x
  unfolding coded_story
  step_is inner n x =
      ap (λ (c : Codes). step (frame_of c (telling_by c (fixed_of t).setting (fixed_of t).descriptions) inner (test_of c (telling_by c (fixed_of t).setting (fixed_of t).descriptions)
      now) now) (code_of c n) x) codes_are

  pub steps_so : (w v : World) (s u : Standing) (text said : List ℕ) (result : Result Step Abandon) → PlainlySo (fixed_of t) judged now w s text result v u said
      → StepsSo (coded_story t) now s (record { world = w; text = text; work = s.work }) result u (record { world = v; text = said; work = u.work })
  steps_so w v s u text said (Ok came) so = λ inner. sym (step_is inner s.code (state_in s w text)) ∙ so inner
  steps_so w v s u text said (Err reason) so = λ other inner. sym (step_is inner s.code (state_in s w text)) ∙ so other inner

-- ---- what a step leaves

-- what is tried and followed does nothing
abbrev idle : Inner
idle = record { tries = λ now p. Ok p; follows = λ book now p. Ok p }

idle_lowers : LowersNoWork idle
idle_lowers = record { tries = λ now p within. (omega arith, within); follows = λ book now p within. (omega arith, within) }

module _ (fixed : Fixed) (judged : List Judged) (now : ActionNow) (w v : World) (s u : Standing) (text said : List ℕ) where
  abbrev here : State
  here = state_in s w text

  abbrev frame : Frame
  frame = body_frame fixed judged now idle

  lasts_by : (came : Step) → Lasts w (stepped idle now came (state_in u v said)) → IsAsLong w v
  lasts_by GoesOn lasts = lasts
  lasts_by Done lasts = lasts
  lasts_by NoDecision lasts = lasts
  lasts_by Success lasts = lasts
  lasts_by Failure lasts = lasts
  lasts_by (Try action) lasts = lasts
  lasts_by (Follow book) lasts = lasts

  pub world_lasts : (result : Result Step Abandon) → PlainlySo fixed judged now w s text result v u said → OnErr result (v ≡ w) → IsAsLong w v
  world_lasts (Ok came) so kept = lasts_by came (subst (Lasts w) (so idle) (step_lasts frame here (λ now. refl) (λ book. refl) (code_at judged s.code)))
  world_lasts (Err reason) so kept = subst (λ x. IsAsLong w x) (sym kept) (as_long w)

  works_by : (came : Step) → Worked here (stepped idle now came (state_in u v said)) → u.work ≤ most_work
  works_by GoesOn worked = worked.1
  works_by Done worked = worked.1
  works_by NoDecision worked = worked.1
  works_by Success worked = worked.1
  works_by Failure worked = worked.1
  works_by (Try action) worked = worked.1
  works_by (Follow book) worked = worked.1

  pub work_within : (result : Result Step Abandon) → s.work ≤ most_work → PlainlySo fixed judged now w s text result v u said → OnOk result (u.work ≤ most_work)
  work_within (Ok came) within so = works_by came (subst (Worked here) (so idle) (worked frame (code_at judged s.code) here idle_lowers within))
  work_within (Err reason) within so = tt

-- a world that a step made of one of this story's, which is told to be one again
pub kept_again : (t x : Tables) (w v : World) → IsKept t w → IsKept x v → ◌≡◌ {A = Fixed} (fixed_of x) (fixed_of t) → IsAsLong w v → IsKept t v
unfolding setting_of
kept_again t x w v kept other fixed long =
    let count : length x.objects ≡ length t.objects = ap (λ (f : Fixed). f.setting.count) fixed in
    record {
      story = kept.story;
      objects = other.objects ∙ count;
      flags = record { many = long.flags ∙ kept.flags.many; high = λ i below. other.flags.high i (omega (arith, below, long.flags, kept.flags.many, other.flags.many)) ∙ count };
      numbers = record {
        many = long.numbers ∙ kept.numbers.many;
        high = λ i below. other.numbers.high i (omega (arith, below, long.numbers, kept.numbers.many, other.numbers.many)) ∙
            count;
      };
      values = record {
        many = long.values ∙ kept.values.many;
        high = λ i below. other.values.high i (omega (arith, below, long.values, kept.values.many, other.values.many)) ∙ count;
      };
      choices = λ q o is.
          let has : has_value x o q ≡ true = ap (λ (f : Fixed). f.setting.has_value o q) fixed ∙ is in
          let many : length (value_names x q) ≡ length (value_names t q) = ap (λ (f : Fixed). length (f.setting.value_names q)) fixed in
          subst (λ (n : ℕ). value_of v q o < n) many (other.choices q o has);
      variables = long.variables ∙ kept.variables;
      scenes = long.scenes ∙ kept.scenes;
      here = other.here;
      room = sym (ap (λ (f : Fixed). f.setting.is_of other.here room_kind) fixed) ∙ other.room;
      player = other.player;
      turns = other.turns;
      tree = other.tree;
      holders = other.holders;
    }

-- ---- from a whole world on

pub described_by : (t : Tables) (judged : List Judged) → AreCodesIn judged (coded_story t) → AreDescribedBy judged (fixed_of t)
unfolding coded_story
described_by t judged told o n few is = told.described o n is

module _ (t x b : Tables) (judged : List Judged) (now : ActionNow) (w v : World) (s u : Standing) (text said : List ℕ) (result : Result Step Abandon) (same : ◌≡◌ {A = Tables} b t)
    (so : PlainlySo (fixed_of t) judged now w s text result v u said) where
  pub bound_again : IsKept t w → IsKept x v → ◌≡◌ {A = Fixed} (fixed_of x) (fixed_of t) → OnErr result (v ≡ w) → IsKept b v
  bound_again kept other fixed left = subst (λ (b : Tables). IsKept b v) (sym same) (kept_again t x w v kept other fixed (world_lasts (fixed_of t) judged now w v s u text said result
      so left))

-- ---- the worlds of the log

here_kept : (t : Tables) (xs : List World) (w : World) → AreKept t (xs ++ w ∷ []) → IsKept t w
here_kept t xs w are = are (length xs) w (seam xs w)
  where
    seam : (xs : List World) (w : World) → slice_get (xs ++ w ∷ []) (length xs) ≡ Some w
    seam [] w = refl
    seam (x ∷ xs) w = seam xs w

one_more : (t : Tables) (xs : List World) (w : World) → AreKept t xs → IsKept t w → AreKept t (xs ++ w ∷ [])
one_more t [] w are is zero v e = subst (IsKept t) (same_Some w v e) is
one_more t [] w are is (suc i) v e = absurd cc
one_more t (x ∷ xs) w are is zero v e = are zero v e
one_more t (x ∷ xs) w are is (suc i) v e = one_more t xs w (λ j u there. are (suc j) u there) is i v e

-- on a refusal both stay
first_left : (v w : World) (now past : List World) (result : Result Step Abandon) → OnErr result ((v ≡ w) × (now ≡ past)) → OnErr result (v ≡ w)
first_left v w now past (Ok came) both = tt
first_left v w now past (Err reason) both = both.0

-- all worlds of the log behind a step are the story's, since those before it were and one was remembered at the most
pub all_bound : (s v : StoryWorld) (b : Tables) (judged : List Judged) (now : ActionNow) (from to : Standing) (text said : List ℕ) (result : Result Step Abandon) → ◌≡◌ {A = Tables} b s.tables
    → PlainlySo (fixed_of s.tables) judged now s.world from text result v.world to said → AreKept s.tables (worlds s) → AreKept v.tables (worlds v)
    → ◌≡◌ {A = Fixed} (fixed_of v.tables) (fixed_of s.tables) → OnErr result ((v.world ≡ s.world) × (v.past ≡ s.past)) → LeadsBack s.world s.past v.world v.past
    → AreKept b (worlds v)
all_bound s v b judged now from to text said result same so before behind fixed left (inl both) = λ i w there.
    subst (λ (t : Tables). IsKept t w) (sym same)
    (before i w (sym (λ j. slice_get (both.1 j ++ both.0 j ∷ []) i) ∙ there))
all_bound s v b judged now from to text said result same so before behind fixed left (inr is) =
    let here = bound_again s.tables v.tables b judged now s.world v.world from to text said result same so (here_kept s.tables s.past s.world before) (here_kept v.tables v.past v.world behind)
    fixed (first_left v.world s.world v.past s.past result left) in
    let all : AreKept b (worlds s) = λ i w there. subst (λ (t : Tables). IsKept t w) (sym same) (before i w there) in
    subst (λ (past : List World). AreKept b (past ++ v.world ∷ [])) (sym is) (one_more b (worlds s) v.world all here)

-- a run of a body stands whatever work was done
pub stands_behind : (judged : List Judged) (s : Standing) (work : ℕ) → MayDo judged s → MayDo judged (record s { work = work })
stands_behind judged s work may = record {
  run = record { code = may.run.code; there = may.run.there; few = may.run.few; sound = may.run.sound; stands = may.run.stands };
  does = may.does;
}
