-- Runs of bodies, step by step: they come to what the bodies do.
use Rattle.std.proofs.Common.{◌≡◌, ◌∙◌, ap, sym, subst, ℕ, zero, suc, ◌<◌, ◌≤◌, List, [], ◌∷◌, refl, Some, None, arith}
use Rattle.std.specs.Prelude.{Ok, Err, map, slice_get, slice_index_or}
use Rattle.play_meaning.specs.Acting.{inner_of}
use Rattle.play_meaning.specs.CodedStories.{Coded, CodedStory, RuleBody, Standard, game_of_codes, telling_by_codes}
use Rattle.play_meaning.specs.Codes.{body_done, code_of, left_off, start_at}
use Rattle.play_meaning.specs.Doing.{Inner}
use Rattle.play_meaning.specs.Machines.{Abandons, Frame, Goes, Leaves, Step as Coming}
use Rattle.play_meaning.specs.Progress.{Progress, most_work}
use Rattle.play_meaning.specs.SoundCodes.{IsSound}
use Rattle.play_meaning.specs.Stands.{StandsBy}
use Rattle.play_meaning.specs.declared.action.ActionNow.{ActionNow}
use Rattle.play_meaning.specs.declared.instruction.Instruction.{Instruction}
use Rattle.play_meaning.specs.declared.operand.Use.{Use}
use Rattle.play_meaning.specs.declared.operand.Use.TheVariants.{Body}
use Rattle.play_meaning.specs.declared.outcome.Flow.{Flow}
use Rattle.story_code.specs.Laws.{BodiesBeginStanding}
use Rattle.story_code.specs.Runs.{IsBody, MayDo, Standing, code_told}
use Rattle.story_code.specs.Soundness.{Judged}
use Rattle.world_meaning.specs.declared.session.Abandon.{Abandon}
use Rattle.action_stages.specs.Answering.{done}
use Rattle.action_stages.specs.Bodies.{AreCodesIn, CameTo, IsRunning, at, body_in, frame_in, left_at, step_at}
use Rattle.action_stages.specs.Lowering.{HasSoundBodies, HasSoundBody}
use Rattle.action_stages.specs.Measures.{IsOver, LowersNoWork, outcome_from, steps_left}
use Rattle.action_stages.proofs.Ending.{outcome_behind, outcome_is, outcome_of_start, works}
use Rattle.action_stages.proofs.Falling.{falls}
use Rattle.action_stages.proofs.Lowering.{inner_lowers, stories_lower}

-- the code of a number is the one that is there
pub told_at : (judged : List Judged) (n : ℕ) (j : Judged) → slice_get judged n ≡ Some j → slice_index_or (map code_told judged) n [] ≡ code_told j
told_at [] n j there = absurd cc
told_at (k ∷ judged) zero j there = let same : k ≡ j = cc in ap code_told same
told_at (k ∷ judged) (suc n) j there = told_at judged n j there

module _ (k : CodedStory) (judged : List Judged) (told : AreCodesIn judged k) where
  -- the code in which a run of a body stands
  code_is : (s : Standing) (may : MayDo judged s) → code_told may.run.code ≡ code_of k.codes s.code
  code_is s may = sym (told_at judged s.code may.run.code may.run.there) ∙ ap (λ codes. slice_index_or codes s.code []) told.codes

  abbrev StandsSoundly : (s : Standing) → MayDo judged s → Progress → Use → List Instruction → Type 0
  StandsSoundly s may p role code = (sound : IsSound may.run.code.sizes.counts role code) × StandsBy sound (at s p)

  sound_at : (s : Standing) (may : MayDo judged s) (p : Progress) → StandsSoundly s may p Body (code_of k.codes s.code)
  sound_at s may p =
      let by_role : StandsSoundly s may p Body (code_told may.run.code) = subst (λ role. StandsSoundly s may p role (code_told may.run.code)) may.does (may.run.sound, may.run.stands p) in
      subst (StandsSoundly s may p Body) (code_is s may) by_role

  abbrev first : ℕ → ℕ → Standing
  first n work = record { code = n; place = 0; operands = []; loops = []; work = work }

  -- each rule's body is sound
  pub sound_bodies : BodiesBeginStanding → HasSoundBodies k
  sound_bodies begin n rule there = by rule.body refl
    where
      by : (body : RuleBody) → rule.body ≡ body → HasSoundBody k.codes body
      by (Standard number) is = tt
      by (Coded code) is =
          let may = begin judged code 0 told.sound (told.does n code (ap body_in there ∙ ap Some is)) in
          (may.run.code.sizes.counts, (sound_at (first code 0) may (record { world = k.start; text = []; work = 0 })).0)

  module _ (now : ActionNow) (inner : Inner) (lowers : LowersNoWork inner) (n : ℕ) (start : Progress) where
    abbrev frame : Frame
    frame = frame_in k now inner

    abbrev Running : Standing → Progress → Type 0
    Running s p = IsRunning k judged now inner n start s p

    pub begins : (s : Standing) → s ≡ first n 0 → MayDo judged (first n 0) → start.work ≤ most_work → Running s start
    begins s is may within = subst (λ s. Running s start) (sym is) (record { stands = may; same = refl; within = within; comes = refl })

    -- a step that leads on
    pub goes_on : (s t : Standing) (p q : Progress) → Running s p → CameTo (step_at k now inner s p) (Ok None) (at t q) → MayDo judged t → t.code ≡ s.code
        → Running t q × (left_at k t q < left_at k s p)
    goes_on s t p q runs is may same =
        let there = sound_at s runs.stands p in
        let z = runs.stands.run.code.sizes.counts in
        let code = code_of k.codes s.code in
        let work = works frame code (at s p) (at t q) lowers runs.within is in
        let on = outcome_behind z code there.0 frame lowers (at s p) (at t q) there.1 runs.within is in
        let fewer = (falls z Body code there.0 frame (at s p) (at t q) there.1.place is work.0 work.1).1 in
        let left : steps_left code (at t q) ≡ left_at k t q = ap (λ m. steps_left (code_of k.codes m) (at t q)) (sym same) in (
          record {
            stands = may;
            same = same ∙ runs.same;
            within = work.1;
            comes = runs.comes ∙ subst (λ m. outcome_from frame (code_of k.codes m) (at s p) ≡ outcome_from frame (code_of k.codes m) (at t q)) runs.same on;
          },
          omega (arith, fewer, left),
        )

    -- what a run comes to that has come so far, and then ends or is abandoned
    comes_to : (s : Standing) (p : Progress) (came : Coming) → Running s p → step_at k now inner s p ≡ came → IsOver came → outcome_from frame (code_of k.codes n) (start_at [] start) ≡ came
    comes_to s p came runs is over =
        let there = sound_at s runs.stands p in
        runs.comes
        ∙ subst (λ m. outcome_from frame (code_of k.codes m) (at s p) ≡ came) runs.same (outcome_is runs.stands.run.code.sizes.counts (code_of k.codes s.code) there.0 frame (at s p)
        came there.1 is over)

    -- a body does what its run comes to from its beginning
    done_is : (came : Coming) → MayDo judged (first n 0) → start.work ≤ most_work → outcome_from frame (code_of k.codes n) (start_at [] start) ≡ came
        → body_done k.codes (telling_by_codes k) inner n now start ≡ left_off came start
    unfolding body_done
    done_is came may within is =
        let there = sound_at (first n 0) may start in
        ap (λ st. left_off st start) (outcome_of_start may.run.code.sizes.counts (code_of k.codes n) there.0 frame lowers start within ∙ is)

    pub ends : (s : Standing) (p : Progress) (flow : Flow) (q : Progress) → MayDo judged (first n 0) → start.work ≤ most_work → Running s p → step_at k now inner s p ≡ Leaves flow q
        → body_done k.codes (telling_by_codes k) inner n now start ≡ Ok (done q flow)
    ends s p flow q may within runs is = done_is (Leaves flow q) may within (comes_to s p (Leaves flow q) runs is tt)

    pub breaks : (s : Standing) (p : Progress) (reason : Abandon) → MayDo judged (first n 0) → start.work ≤ most_work → Running s p → step_at k now inner s p ≡ Abandons reason
        → body_done k.codes (telling_by_codes k) inner n now start ≡ Err reason
    breaks s p reason may within runs is = done_is (Abandons reason) may within (comes_to s p (Abandons reason) runs is tt)

-- ---- steps where it is known that play is of the same story

module _ (k kk : CodedStory) (same : kk ≡ k) (judged : List Judged) (told : AreCodesIn judged k) (begin : BodiesBeginStanding) (n : ℕ) (body : IsBody judged n) (now : ActionNow) (depth
    : ℕ) (start : Progress) where
  abbrev inner : Inner
  inner = inner_of (game_of_codes k) depth

  lowers : LowersNoWork inner
  lowers = inner_lowers (game_of_codes k) (stories_lower k (sound_bodies k judged told begin)) depth

  abbrev Runs : Standing → Progress → Type 0
  Runs s p = IsRunning k judged now inner n start s p

  abbrev comes_at : Standing → Progress → Coming
  comes_at s p = step_at kk now (inner_of (game_of_codes kk) depth) s p

  here : (s : Standing) (p : Progress) → step_at k now inner s p ≡ comes_at s p
  here s p = ap (λ k. step_at k now (inner_of (game_of_codes k) depth) s p) (sym same)

  pub steps_on : (s t : Standing) (p q : Progress) → Runs s p → comes_at s p ≡ Goes (at t q) → MayDo judged t → t.code ≡ s.code → Runs t q × (left_at k t q < left_at k s p)
  steps_on s t p q runs is may same = goes_on k judged told now inner lowers n start s t p q runs (here s p ∙ is) may same

  pub steps_end : (s : Standing) (p q : Progress) (flow : Flow) → start.work ≤ most_work → Runs s p → comes_at s p ≡ Leaves flow q → body_done k.codes (telling_by_codes k) inner n now
      start ≡ Ok (done q flow)
  steps_end s p q flow within runs is = ends k judged told now inner lowers n start s p flow q (begin judged n 0 told.sound body) within runs (here s p ∙ is)

  pub steps_break : (s : Standing) (p : Progress) (reason : Abandon) → start.work ≤ most_work → Runs s p → comes_at s p ≡ Abandons reason → body_done k.codes (telling_by_codes k) inner
      n now start ≡ Err reason
  steps_break s p reason within runs is = breaks k judged told now inner lowers n start s p reason (begin judged n 0 told.sound body) within runs (here s p ∙ is)
