-- The code of a description, among the codes of a story, says its text.
use Rattle.std.proofs.Common.{◌≡◌, ◌∙◌, ap, sym, subst, refl, ℕ, zero, suc, ◌+◌, Bool, true, false, List, [], ◌∷◌, ◌++◌, inl, inr, ◌⊎◌, Ok, Err, arith}
use Rattle.std.specs.List.{AllByRecursion}
use Rattle.std.proofs.lemmas.List.{append-nil}
use Rattle.play_meaning.specs.AmongCodes.{IsAmong, whole}
use Rattle.play_meaning.specs.Attempts.{Attempt}
use Rattle.play_meaning.specs.Codes.{Codes, code_of, description_said, frame_of, leaves_so, no_inner, start_at, test_of, text_said}
use Rattle.play_meaning.specs.Doing.{do_body}
use Rattle.play_meaning.specs.Instructions.{sizes}
use Rattle.play_meaning.specs.declared.instruction.Instruction.{Instruction}
use Rattle.play_meaning.specs.declared.instruction.Instruction.TheVariants.{Done}
use Rattle.play_meaning.specs.Machines.{Abandons, Answers, Frame, Goes, Leaves, State, Step, Stuck, goes_further, run, step}
use Rattle.play_meaning.specs.Progress.{Progress, fresh}
use Rattle.play_meaning.specs.Saying.{Telling, said_in}
use Rattle.play_meaning.specs.Scripts.{scope_of}
use Rattle.play_meaning.specs.SoundRuns.{AlwaysEnds, IsAbandoned}
use Rattle.play_meaning.specs.Translation.{Emitted, body_part, phrase_part, seq, strings_of_body, strings_of_text, text_part}
use Rattle.play_meaning.specs.TranslatedScripts.{description_part}
use Rattle.play_meaning.specs.Trees.{Body, End, Say, Text, Then}
use Rattle.play_meaning.specs.Worlds.{World}
use Rattle.play_meaning.specs.declared.action.ActionNow.{ActionNow}
use Rattle.play_meaning.specs.declared.operand.Counts.{Counts}
use Rattle.play_meaning.specs.declared.operand.Use.TheVariants.{Describing}
use Rattle.play_meaning.specs.declared.outcome.Flow.{Flow}
use Rattle.play_meaning.proofs.Translated.{body_among}
use Rattle.play_meaning.proofs.Unstuck.{sound_descriptions_end}
use Rattle.story_code.specs.AmongCodes.{IsDescriptionAmong}
use Rattle.story_code.specs.Fitting.{TextFits}
use Rattle.story_code.specs.SoundlyEmitted.{AreNumbered}
use Rattle.story_code.proofs.SoundTrees.{description_sound}
use Rattle.story_code.proofs.Within.{text_within}

-- ---- runs that left off

abbrev goes : Step → Bool
goes (Goes s) = true
goes _ = false

-- with more steps they are the same
over_stays : (f : Frame) (code : List Instruction) (n k : ℕ) (s : State) → goes (run f code n s) ≡ false → run f code (n + k) s ≡ run f code n s
unfolding run
over_stays f code zero k s over = absurd cc
over_stays f code (suc n) k s over = ap (λ m. run f code m s) count ∙ by_step (step f code s) over (over_stays f code n k)
  where
    count : suc n + k ≡ suc (n + k)
    count = omega arith

    by_step : (x : Step) → goes (goes_further (run f code n) x) ≡ false → ((t : State) → goes (run f code n t) ≡ false → run f code (n + k) t ≡ run f code n t)
        → goes_further (run f code (n + k)) x ≡ goes_further (run f code n) x
    by_step (Goes t) over later = later t over
    by_step (Leaves flow p) over later = refl
    by_step (Answers truth) over later = refl
    by_step (Abandons reason) over later = refl
    by_step Stuck over later = refl

same_end : (f : Frame) (code : List Instruction) (m n : ℕ) (s : State) → goes (run f code m s) ≡ false → goes (run f code n s) ≡ false → run f code m s ≡ run f code n s
same_end f code m n s one other =
    let turned : m + n ≡ n + m = omega arith in
    sym (over_stays f code m n s one) ∙ (ap (λ k. run f code k s) turned ∙ over_stays f code n m s other)

leaves_off : (a : Attempt _) → goes (leaves_so a) ≡ false
leaves_off (Ok done) = refl
leaves_off (Err reason) = refl

ends : (x : Step) → ((flow : Flow) × ((q : Progress) × (x ≡ Leaves flow q))) ⊎ IsAbandoned x → goes x ≡ false
ends x (inl left) = ap goes left.1.1
ends x (inr abandoned) = ap goes abandoned.1

-- ---- a description as a body that says its text

abbrev saying : Text → Body
saying text = Then (Say text) End

text_left : (t : Telling) (now : ActionNow) (w : World) (text : Text) → text_said (leaves_so (do_body t no_inner (saying text) (scope_of now) (fresh w))) ≡ said_in t (scope_of now) w text
unfolding do_body
text_left t now w text = by_said (said_in t (scope_of now) w text) refl
  where
    by_said : (said : Attempt (List ℕ)) → said_in t (scope_of now) w text ≡ said → text_said (leaves_so (do_body t no_inner (saying text) (scope_of now) (fresh w))) ≡ said
    by_said (Ok bytes) is = rw is refl
    by_said (Err reason) is = rw is refl

whole_is : (string : List ℕ → ℕ) (first : ℕ) (text : Text) → whole string first (saying text) ≡ description_part string text first 0
unfolding body_part phrase_part seq
whole_is string first text =
    let part = text_part string 0 text first 0 in
    ap (λ (e : Emitted). record { code = e.code ++ Done ∷ []; tests = e.tests ++ [] }) (λ i. record { code = append-nil part.code i; tests = append-nil part.tests i })

strings_are : (text : Text) → strings_of_body (saying text) ≡ strings_of_text text
unfolding strings_of_body
strings_are text = append-nil (strings_of_text text)

among : (c : Codes) (string : List ℕ → ℕ) (n first : ℕ) (text : Text) → IsDescriptionAmong c string n first text → IsAmong c string n first (saying text)
among c string n first text is =
    let same = sym (whole_is string first text) in
    record {
      code = is.code ∙ ap (λ e. e.code) same;
      front = is.front;
      back = is.back;
      tests = is.tests ∙ ap (λ (e : Emitted). is.front ++ (e.tests ++ is.back)) same;
      place = is.place;
      strings = subst (AllByRecursion _) (sym (strings_are text)) is.strings;
    }

pub texts_said : (z : Counts) (c : Codes) (string : List ℕ → ℕ) (n first : ℕ) (text : Text) (t : Telling) (now : ActionNow) (w : World) → TextFits z Describing string 0 text
    → AreNumbered z first (description_part string text first 0).tests → IsDescriptionAmong c string n first text → description_said c t n now w ≡ said_in t (scope_of now) w text
unfolding description_said
texts_said z c string n first text t now w fits numbers is =
    let f = frame_of c t no_inner (test_of c t now) now in
    let s = start_at [] (fresh w) in
    let r = body_among (saying text) c string n first t no_inner now (fresh w) (text_within z 0 Describing string text fits, tt) (among c string n first text is) in
    let always : AlwaysEnds (code_of c n) = subst AlwaysEnds (sym is.code) (sound_descriptions_end _ _ (description_sound z first string text fits numbers).code) in
    let over = ends (run f (code_of c n) (sizes (code_of c n)) s) (always f [] (fresh w)) in
    let left = ap goes r.1 ∙ leaves_off (do_body t no_inner (saying text) (scope_of now) (fresh w)) in
    ap text_said (same_end f (code_of c n) (sizes (code_of c n)) r.0 s over left ∙ r.1) ∙ text_left t now w text
