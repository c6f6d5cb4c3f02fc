-- What a story's test answers is what its run ends with.
use Rattle.std.proofs.Common.{◌≡◌, ◌∙◌, ap, sym, refl, subst, ℕ, suc, List, [], ◌∷◌, length, Some, ◌⊎◌, inl, inr, arith}
use Rattle.std.specs.Prelude.{Ok, Err, slice_get, true, Bool}
use Rattle.std.proofs.lemmas.List.{length-map}
use Rattle.std.proofs.lemmas.Option.{same_Some}
use Rattle.play_meaning.specs.Attempts.{Attempt}
use Rattle.play_meaning.specs.Codes.{Codes, answered, code_of, frame_of, no_inner, start_at, test_of, test_within}
use Rattle.play_meaning.specs.Grounds.{Fixed}
use Rattle.play_meaning.specs.Instructions.{sizes}
use Rattle.play_meaning.specs.Machines.{Abandons, Answers, Frame, Leaves, Step, run}
use Rattle.play_meaning.specs.Progress.{Progress, fresh}
use Rattle.play_meaning.specs.Scripts.{undescribed}
use Rattle.play_meaning.specs.SoundCodes.{IsSound, loops_around}
use Rattle.play_meaning.specs.Stands.{is_body}
use Rattle.play_meaning.specs.SoundRuns.{AlwaysAnswers}
use Rattle.play_meaning.specs.Worlds.{World}
use Rattle.play_meaning.specs.declared.action.ActionNow.{ActionNow}
use Rattle.play_meaning.specs.declared.instruction.Instruction.{Instruction}
use Rattle.play_meaning.specs.declared.operand.Counts.{Counts}
use Rattle.play_meaning.specs.declared.operand.Use.TheVariants.{Test}
use Rattle.play_meaning.specs.declared.outcome.Flow.{Flow}
use Rattle.story_code.specs.Laws.{RunsBeginStanding}
use Rattle.story_code.specs.Runs.{AreSoundTogether, IsTestAt, MayRead, Standing, code_told, codes_of}
use Rattle.story_code.specs.Soundness.{Judged}
use Rattle.story_code.specs.Testing.{EndsSo, begun}
use Rattle.story_format.specs.Codes.{codes_told}
use Rattle.story_format.specs.declared.tables.Tables.{Tables}
use Rattle.world_meaning.specs.declared.session.Abandon.{Abandon}
use Rattle.world_store.specs.StorySettings.{fixed_of}
use Rattle.action_stages.specs.Applying.{test_answer}
use Rattle.action_stages.specs.Bodies.{AreCodesIn}
use Rattle.world_store.specs.StoryPlay.{coded_story}
use Rattle.action_stages.proofs.Running.{told_at}

-- among codes of which one is this there is one at least
some_there : (judged : List Judged) (n : ℕ) (j : Judged) → slice_get judged n ≡ Some j → (left : ℕ) × (length judged ≡ suc left)
some_there [] n j there = absurd cc
some_there (one ∷ judged) n j there = (length judged, refl)

module _ (fixed : Fixed) (judged : List Judged) (now : ActionNow) (w : World) (n : ℕ) (test : IsTestAt judged n 0) where
  abbrev c : Codes
  c = codes_of fixed judged

  abbrev Ends : Step → Type 0
  Ends end = EndsSo fixed judged now w (begun n []) [] end

  abbrev answer : Attempt Bool
  answer = test_of c (undescribed fixed.setting) now n [] w

  many : (left : ℕ) × (length judged ≡ suc left)
  many = some_there judged n test.0 test.1.0

  abbrev frame : Frame
  frame = frame_of c (undescribed fixed.setting) no_inner (test_within many.0 c (undescribed fixed.setting) now) now

  ends_at : (end : Step) → Ends end → run frame (code_of c n) (sizes (code_of c n)) (start_at [] (fresh w)) ≡ end
  ends_at end ends = ends many.0 (λ o now w. Ok []) (omega (arith, many.1)) (sizes (code_of c n)) (omega arith)

  answer_is : (end : Step) → Ends end → answer ≡ answered end
  unfolding test_within
  answer_is end ends =
      ap (λ depth. test_within depth c (undescribed fixed.setting) now n [] w) (length-map judged code_told ∙ many.1) ∙ ap answered (ends_at end ends)

  pub breaks : (reason : Abandon) → Ends (Abandons reason) → answer ≡ Err reason
  breaks reason ends = answer_is (Abandons reason) ends

  module _ (reads : RunsBeginStanding) (answers : (z : Counts) (loops : ℕ) (code : List Instruction) → IsSound z (Test loops) code → AlwaysAnswers code) (sound : AreSoundTogether
      judged) where
    never_left : (flow : Flow) (q : Progress) → run frame (code_of c n) (sizes (code_of c n)) (start_at [] (fresh w)) ≡ Leaves flow q → ⊥
    never_left flow q is =
        let j = test.0 in
        let may = reads judged n 0 j sound test.1.0 (ap is_body test.1.1) (ap loops_around test.1.1) in
        let there = may.run.there in
        let same : may.run.code ≡ j = same_Some may.run.code j (sym there ∙ test.1.0) in
        let role : may.run.code.sizes.role ≡ Test 0 = ap (λ (j : Judged). j.sizes.role) same ∙ test.1.1 in
        let sound_as : IsSound may.run.code.sizes.counts (Test 0) (code_told may.run.code) = subst (λ role. IsSound may.run.code.sizes.counts role (code_told may.run.code)) role
        may.run.sound in
        let always = subst AlwaysAnswers (sym (told_at judged n may.run.code there)) (answers may.run.code.sizes.counts 0 (code_told may.run.code) sound_as) in
        elim (always frame [] (fresh w)) [
          | inl answers ↦ let no : Leaves flow q ≡ Answers answers.0 = sym is ∙ answers.1 in absurd cc
          | inr breaks ↦ let no : Leaves flow q ≡ Abandons breaks.0 = sym is ∙ breaks.1 in absurd cc
        ]

    pub truth_is : (truth : Bool) (flow : Flow) (q : Progress) → Ends (Answers truth) ⊎ ((truth ≡ true) × Ends (Leaves flow q)) → answer ≡ Ok truth
    truth_is truth flow q (inl ends) = answer_is (Answers truth) ends
    truth_is truth flow q (inr left) = absurd (never_left flow q (ends_at (Leaves flow q) left.1))

-- ---- in a loaded story

module _ (t : Tables) (judged : List Judged) (told : AreCodesIn judged (coded_story t)) (now : ActionNow) (w : World) (n : ℕ) (test : IsTestAt judged n 0) (s : Standing) (text : List
    ℕ) (start : s ≡ begun n []) (empty : text ≡ []) where
  abbrev f : Fixed
  f = fixed_of t

  same_codes : codes_of f judged ≡ codes_told t
  unfolding coded_story
  same_codes = ap (λ codes. record { strings = t.strings; codes = codes }) told.codes

  same_answer : test_of (codes_of f judged) (undescribed f.setting) now n [] w ≡ test_answer t now n w
  same_answer = ap (λ c. test_of c (undescribed f.setting) now n [] w) same_codes

  begun_so : (end : Step) → EndsSo f judged now w s text end → EndsSo f judged now w (begun n []) [] end
  begun_so end ends = subst (λ s. EndsSo f judged now w s [] end) start (subst (λ text. EndsSo f judged now w s text end) empty ends)

  pub breaks_so : (reason : Abandon) → EndsSo f judged now w s text (Abandons reason) → test_answer t now n w ≡ Err reason
  breaks_so reason ends = sym same_answer ∙ breaks f judged now w n test reason (begun_so (Abandons reason) ends)

  pub reads_so : RunsBeginStanding → MayRead judged s
  reads_so reads = subst (MayRead judged) (sym start) (reads judged n 0 test.0 told.sound test.1.0 (ap is_body test.1.1) (ap loops_around test.1.1))

  pub truth_so : RunsBeginStanding → ((z : Counts) (loops : ℕ) (code : List Instruction) → IsSound z (Test loops) code → AlwaysAnswers code) → (truth : Bool) (flow : Flow) (q : Progress)
      → EndsSo f judged now w s text (Answers truth) ⊎ ((truth ≡ true) × EndsSo f judged now w s text (Leaves flow q)) → test_answer t now n w ≡ Ok truth
  truth_so reads answers truth flow q ends = sym same_answer ∙ truth_is f judged now w n test reads answers told.sound truth flow q (so ends)
    where
      so : EndsSo f judged now w s text (Answers truth) ⊎ ((truth ≡ true) × EndsSo f judged now w s text (Leaves flow q))
          → EndsSo f judged now w (begun n []) [] (Answers truth) ⊎ ((truth ≡ true) × EndsSo f judged now w (begun n []) [] (Leaves flow q))
      so (inl ends) = inl (begun_so (Answers truth) ends)
      so (inr left) = inr (left.0, begun_so (Leaves flow q) left.1)
