-- What the bodies of a tale's rules do is what their codes, or the standard rules, do, where nothing that is tried lowers the work.
use Rattle.std.proofs.Common.{◌≡◌, ◌∙◌, ap, refl, sym, subst, ℕ, zero, suc, ◌+◌, ◌-◌, ◌≤◌, List, [], map, Option, Some, None, Ok, Err, arith}
use Rattle.std.specs.Prelude.{slice_get}
use Rattle.std.specs.List.{AllZip}
use Rattle.std.specs.Option.{option_map}
use Rattle.std.proofs.lemmas.Option.{slice_get-map}
use Rattle.play_meaning.specs.Attempts.{Attempt}
use Rattle.play_meaning.specs.CodedStories.{CodedRule, coded_body, done_by}
use Rattle.play_meaning.specs.Codes.{Codes, RunsTo, body_done, code_of, frame_of, leaves_so, left_off, most_steps, start_at, test_of}
use Rattle.play_meaning.specs.Doing.{Inner, do_body}
use Rattle.play_meaning.specs.Machines.{Abandons, Answers, Frame, Goes, Leaves, State, Step, Stuck, run}
use Rattle.play_meaning.specs.Progress.{Done, Progress, most_work}
use Rattle.play_meaning.specs.Rules.{Rule}
use Rattle.play_meaning.specs.Saying.{Telling}
use Rattle.play_meaning.specs.Scripts.{rule_body, scope_of}
use Rattle.play_meaning.specs.SoundCodes.{IsSound}
use Rattle.play_meaning.specs.StandardRules.{standard_rules}
use Rattle.play_meaning.specs.Trees.{Body as Phrases}
use Rattle.play_meaning.specs.declared.action.ActionNow.{ActionNow}
use Rattle.play_meaning.specs.declared.instruction.Instruction.{Instruction}
use Rattle.play_meaning.specs.declared.operand.Counts.{Counts}
use Rattle.play_meaning.specs.declared.operand.Use.TheVariants.{Body}
use Rattle.story_code.proofs.Fetched.{told}
use Rattle.story_code.proofs.Served.{told_at as code_there}
use Rattle.story_code.specs.Soundness.{Judged}
use Rattle.story_format.proofs.LoadedCodes.{loaded_sound, loaded_told}
use Rattle.story_format.proofs.LoadedRules.{loaded_done}
use Rattle.story_format.specs.Carrying.{CarriesRule, IsDoneBy}
use Rattle.story_format.specs.Codes.{codes_told}
use Rattle.story_format.specs.Facts.{body_in, body_of_rule, code_in_body}
use Rattle.story_format.specs.Loaded.{IsLoaded}
use Rattle.story_format.specs.declared.rule_entry.RuleBody.{RuleBody}
use Rattle.story_format.specs.declared.rule_entry.RuleBody.TheVariants as bodies
use Rattle.story_format.specs.declared.rule_entry.RuleEntry.{RuleEntry}
use Rattle.story_format.specs.declared.tables.Tables.{Tables}
use Rattle.action_stages.specs.Measures.{HasEnded, IsOver, LowersNoWork}
use Rattle.action_stages.specs.Lowering.{HasSoundBodies, HasSoundBody}
use Rattle.world_store.specs.StoryPlay.{body_told, coded_story, rule_told}
use Rattle.action_stages.proofs.Ending.{body_ends, longer}
use Rattle.action_stages.proofs.TaleRules.{at_place, told_at}

-- ---- sound codes

-- a body's code is sound for what it is
pub body_sound : (t : Tables) (judged : List Judged) → IsLoaded t judged → (r n : ℕ) → body_of_rule t r ≡ Some n → (z : Counts) × IsSound z Body (code_of (codes_told t) n)
body_sound t judged loaded r n is =
    let there = loaded_done t judged loaded r n is in
    let kept = loaded_sound t judged loaded.codes n there.0 there.1.0 in
    let spelled = told there.0 kept.sound in
    let same = ap (λ (c : Codes). code_of c n) (sym (loaded_told t judged loaded.codes)) ∙ code_there judged n there.0 there.1.0 ∙ spelled in
    (there.0.sizes.counts, subst (λ code. IsSound there.0.sizes.counts Body code) (sym same) (subst (λ role. IsSound there.0.sizes.counts role kept.sound.code) there.1.1 kept.sound.sound))

-- each rule of a loaded story has a sound body, if it has a code
sound_body : (c : Codes) (b : RuleBody) → ((n : ℕ) → code_in_body b ≡ Some n → (z : Counts) × IsSound z Body (code_of c n)) → HasSoundBody c (body_told b)
sound_body c (bodies.Code n) sound = sound n refl
sound_body c (bodies.Standard n) sound = tt
sound_body c (bodies.Unknown tag) sound = tt

pub sound_bodies : (t : Tables) (judged : List Judged) → IsLoaded t judged → HasSoundBodies (coded_story t)
unfolding coded_story
sound_bodies t judged loaded n rule there = by (slice_get t.rules.rules n) refl (sym (slice_get-map rule_told t.rules.rules n) ∙ there)
  where
    by : (o : Option RuleEntry) → slice_get t.rules.rules n ≡ o → option_map rule_told o ≡ Some rule → HasSoundBody (codes_told t) rule.body
    by None is told_so = absurd cc
    by (Some r) is told_so =
        let same : rule_told r ≡ rule = cc in
        subst (λ (x : CodedRule). HasSoundBody (codes_told t) x.body) same (sound_body (codes_told t) r.body (λ code found. body_sound t judged loaded n code (ap body_in is ∙ found)))

-- ---- runs that have left off

over_so : (least : ℕ) (step : Step) → HasEnded least step → IsOver step
over_so least (Leaves flow q) ended = tt
over_so least (Abandons reason) ended = tt
over_so least (Goes s) ended = absurd ended
over_so least (Answers truth) ended = absurd ended
over_so least Stuck ended = absurd ended

left_over : (attempt : Attempt Done) → IsOver (leaves_so attempt)
left_over (Ok done) = tt
left_over (Err reason) = tt

left_again : (attempt : Attempt Done) (p : Progress) → left_off (leaves_so attempt) p ≡ attempt
left_again (Ok done) p = refl
left_again (Err reason) p = refl

-- two runs from one state that have left off are one
one_end : (f : Frame) (code : List Instruction) (n m : ℕ) (s : State) → IsOver (run f code n s) → IsOver (run f code m s) → run f code n s ≡ run f code m s
one_end f code n m s over other =
    let swapped : n + m ≡ m + n = omega arith in
    sym (longer f code n m s over) ∙ ap (λ k. run f code k s) swapped ∙ longer f code m n s other

-- ---- one body

module _ (c : Codes) (t : Telling) (inner : Inner) (lowers : LowersNoWork inner) (now : ActionNow) (p : Progress) (within : p.work ≤ most_work) where
  -- whatever number of steps it takes, it takes no more than it is given
  done_so : (n : ℕ) (attempt : Attempt Done) → (z : Counts) × IsSound z Body (code_of c n) → RunsTo c t inner n now p attempt → body_done c t inner n now p ≡ attempt
  unfolding body_done
  done_so n attempt sound runs =
      let f = frame_of c t inner (test_of c t now) now in
      let code = code_of c n in
      let ended = over_so p.work (run f code (most_steps code) (start_at [] p)) (body_ends sound.0 code sound.1 f lowers p within) in
      let other : IsOver (run f code runs.0 (start_at [] p)) = subst IsOver (sym runs.1) (left_over attempt) in
      ap (λ step. left_off step p) (one_end f code (most_steps code) runs.0 (start_at [] p) ended other ∙ runs.1) ∙ left_again attempt p

  standard_so : (rule : Option Rule) (body : Phrases) → option_map (λ (r : Rule). r.body) rule ≡ Some body → rule_body t inner now p rule ≡ do_body t inner body (scope_of now) p
  standard_so None body is = absurd cc
  standard_so (Some rule) body is = let same : rule.body ≡ body = cc in ap (λ b. do_body t inner b (scope_of now) p) same

  body_so : (rule : RuleBody) (body : Phrases) → ((n : ℕ) → code_in_body rule ≡ Some n → (z : Counts) × IsSound z Body (code_of c n)) → IsDoneBy c rule body
      → done_by c t inner now p (body_told rule) ≡ do_body t inner body (scope_of now) p
  body_so (bodies.Code n) body sound done = done_so n (do_body t inner body (scope_of now) p) (sound n refl) (done t inner now p)
  body_so (bodies.Standard zero) body sound done = absurd cc
  body_so (bodies.Standard (suc n)) body sound done =
      let number : suc n - 1 ≡ n = omega arith in
      ap (λ k. rule_body t inner now p (slice_get standard_rules k)) number ∙ standard_so (slice_get standard_rules n) body done
  body_so (bodies.Unknown tag) body sound done = absurd done

-- ---- of all rules

pub bodies_at : (t : Tables) (judged : List Judged) → IsLoaded t judged → (rules : List Rule) → AllZip (CarriesRule (codes_told t)) t.rules.rules rules
    → (telling : Telling) (inner : Inner) → LowersNoWork inner → (now : ActionNow) (p : Progress) → p.work ≤ most_work → (n : ℕ)
    → coded_body (codes_told t) telling inner now p (slice_get (map rule_told t.rules.rules) n) ≡ rule_body telling inner now p (slice_get rules n)
bodies_at t judged loaded rules zip telling inner lowers now p within n =
    told_at rule_told (coded_body (codes_told t) telling inner now p) t.rules.rules n
    ∙ at_place (CarriesRule (codes_told t)) (λ r. coded_body (codes_told t) telling inner now p (option_map rule_told r)) (rule_body telling inner now p) refl t.rules.rules rules n one zip
  where
    one : (r : RuleEntry) (rule : Rule) → slice_get t.rules.rules n ≡ Some r → CarriesRule (codes_told t) r rule → coded_body (codes_told t) telling inner now p (Some (rule_told r)) ≡ rule_body telling inner now p (Some rule)
    one r rule there carries =
        body_so (codes_told t) telling inner lowers now p within r.body rule.body
        (λ code is. body_sound t judged loaded n code (ap (λ (o : Option RuleEntry). body_in o) there ∙ is)) carries.body
