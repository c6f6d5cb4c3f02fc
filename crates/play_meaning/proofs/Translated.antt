-- The code of a body, by itself, comes to what the body means.
use Rattle.std.proofs.Common.{Some, ◌-◌, ◌≡◌, ◌<◌, ◌∙◌, ap, sym, subst, ℕ, zero, suc, ◌+◌, Bool, true, false, not, List, [], ◌∷◌, ◌++◌, length, append_assoc, length-append, refl, Ok, Err, arith}
use Rattle.std.specs.Prelude.{slice_index_or, if◌then◌else◌}
use Rattle.std.specs.List.{AllByRecursion, position_or_len}
use Rattle.std.specs.Str.{bytes_eq}
use Rattle.std.proofs.lemmas.Slice.Eq.{bytes_eq-Decides}
use Rattle.play_meaning.specs.AmongCodes.{IsAmong, IsTestAmong}
use Rattle.play_meaning.specs.Attempts.{Attempt, next}
use Rattle.play_meaning.specs.Codes.{Codes, RunsTo, answered, code_of, frame_of, leaves_so, no_inner, start_at, test_of, test_within}
use Rattle.play_meaning.specs.Doing.{Inner, do_body}
use Rattle.play_meaning.specs.Instructions as code
use Rattle.play_meaning.specs.Instructions.{Instruction, at_place, sizes}
use Rattle.play_meaning.specs.Machines.{Frame, does, run, truth_number}
use Rattle.play_meaning.specs.Progress.{Done, Progress, fresh}
use Rattle.play_meaning.specs.Saying.{Telling}
use Rattle.play_meaning.specs.Scoping.{BodyIsWithin, ConditionIsWithin}
use Rattle.play_meaning.specs.Scripts.{scope_of}
use Rattle.play_meaning.specs.TranslatedScripts.{test_part}
use Rattle.play_meaning.specs.Translation.{body_part, condition_part, seq, strings_of_body, translated, translated_condition}
use Rattle.play_meaning.specs.Trees.{Body, Condition}
use Rattle.play_meaning.specs.Truth.{truth_in}
use Rattle.play_meaning.specs.Worlds.{World}
use Rattle.play_meaning.specs.declared.action.ActionNow.{ActionNow}
use Rattle.play_meaning.specs.declared.outcome.Flow.{Flow}
use Rattle.play_meaning.specs.declared.outcome.Flow.TheVariants.{GoesOn, NoDecision, Decides}
use Rattle.play_meaning.proofs.Asking.{HasTests, on_top, tests_front}
use Rattle.play_meaning.proofs.Coming.{Comes, stops_at}
use Rattle.play_meaning.proofs.Meaning.{AllStand, body_comes}
use Rattle.play_meaning.proofs.Reckoning.{condition_gives}
use Rattle.play_meaning.proofs.Standing.{HasAt, has_all, has_back, has_front, length-sizes, sizes-append}
use Rattle.play_meaning.proofs.Straight.{St, answer_is, from}

-- ---- strings by their numbers

-- a string of a list stands where it is looked up
found_at : (bytes first : List ℕ) (more : List (List ℕ)) (same : Bool) → bytes_eq bytes first ≡ same → slice_index_or more (position_or_len (bytes_eq bytes) more) [] ≡ bytes
    → slice_index_or (first ∷ more) (if not same then 1 + position_or_len (bytes_eq bytes) more else 0) [] ≡ bytes
found_at bytes first more true is later = sym ((bytes_eq-Decides bytes first).0 is)
found_at bytes first more false is later =
    let next : 1 + position_or_len (bytes_eq bytes) more ≡ suc (position_or_len (bytes_eq bytes) more) = omega arith in
    ap (λ n. slice_index_or (first ∷ more) n []) next ∙ later

found : (front : List (List ℕ)) (bytes : List ℕ) (back : List (List ℕ))
    → slice_index_or (front ++ bytes ∷ back) (position_or_len (bytes_eq bytes) (front ++ bytes ∷ back)) [] ≡ bytes
found [] bytes back = ap (λ b. slice_index_or (bytes ∷ back) (if not b then 1 + position_or_len (bytes_eq bytes) back else 0) []) ((bytes_eq-Decides bytes bytes).1 refl)
found (first ∷ front) bytes back = found_at bytes first (front ++ bytes ∷ back) (bytes_eq bytes first) refl (found front bytes back)

-- each string of a list stands where it is looked up
all_found : (f : Frame) (c : List Instruction) (front back all : List (List ℕ)) → all ≡ front ++ back
    → ((n : ℕ) → f.strings n ≡ slice_index_or all n []) → AllStand f c (λ bytes. position_or_len (bytes_eq bytes) all) back
all_found f c front [] all parts strings = tt
all_found f c front (bytes ∷ back) all parts strings =
    let here : slice_index_or all (position_or_len (bytes_eq bytes) all) []
    ≡ bytes = subst (λ l. slice_index_or l (position_or_len (bytes_eq bytes) l) [] ≡ bytes) (sym parts) (found front bytes back) in
    (strings (position_or_len (bytes_eq bytes) all) ∙ here, all_found f c (front ++ bytes ∷ []) back all (parts ∙ sym (append_assoc front (bytes ∷ []) back)) strings)

-- ---- tests by their numbers

nth_is : (front : List (List Instruction)) (is : List Instruction) (back : List (List Instruction)) → slice_index_or (front ++ is ∷ back) (length front) [] ≡ is
nth_is [] is back = refl
nth_is (first ∷ front) is back = nth_is front is back

-- the tests of a story's codes, behind those in front, where one level is left for them
all_tests : (c : Codes) (t : Telling) (inner : Inner) (now : ActionNow) (levels left : ℕ) (front back : List (List Instruction)) → levels ≡ suc left → c.codes ≡ front ++ back
    → HasTests (frame_of c t inner (test_within levels c t now) now) (length front) back
unfolding test_within
all_tests c t inner now levels left front [] count parts = tt
all_tests c t inner now levels left front (is ∷ back) count parts =
    let size : length (front ++ is ∷ []) ≡ length front + 1 = omega (arith, length-append front (is ∷ [])) in
    let here : code_of c (length front) ≡ is = ap (λ l. slice_index_or l (length front) []) parts ∙ nth_is front is back in
    let g = frame_of c t no_inner (test_within left c t now) now in (
      record {
        frame = g;
        setting = refl;
        now = refl;
        runs = λ ls w. ap (λ n. test_within n c t now (length front) ls w) count ∙ ap (λ l. answered (run g l (sizes l) (start_at ls (fresh w)))) here;
      },
      subst (λ n. HasTests (frame_of c t inner (test_within levels c t now) now) n back) size
          (all_tests c t inner now levels left (front ++ is ∷ []) back count (parts ∙ sym (append_assoc front (is ∷ []) back))),
    )

-- behind one code all others may be tests, with a level for each
later_tests : (c : Codes) (t : Telling) (now : ActionNow) (is : List Instruction) (tests : List (List Instruction)) → c.codes ≡ is ∷ tests
    → HasTests (frame_of c t no_inner (test_within (length tests) c t now) now) 1 tests
later_tests c t now is [] parts = tt
later_tests c t now is (test ∷ tests) parts = all_tests c t no_inner now (length (test ∷ tests)) (length tests) (is ∷ []) (test ∷ tests) refl parts

-- ---- a condition

said_to : (f : Frame) (c : List Instruction) (q m : ℕ) (w : World) (truth : Attempt Bool) → at_place c q ≡ Some code.Answer
    → answered (from f c (suc m) (next (on_top truth_number [] truth) (λ ys. Ok (St q ys [] (fresh w))))) ≡ truth
said_to f c q m w (Ok b) at = ap answered (answer_is f c q m b [] (fresh w) at)
said_to f c q m w (Err reason) at = refl

pub test_means : (condition : Condition) (t : Telling) (now : ActionNow) (w : World) → ConditionIsWithin 0 condition
    → test_of (translated_condition condition) t now 0 [] w ≡ truth_in t.setting (scope_of now) w condition
unfolding translated_condition seq test_within
test_means condition t now w within =
    let part = condition_part 0 condition 1 0 in
    let c = part.code ++ code.Answer ∷ [] in
    let tests = part.tests ++ [] in
    let f = frame_of (translated_condition condition) t no_inner (test_within (length tests) (translated_condition condition) t now) now in
    let m = sizes part.code - length part.code in
    let count : sizes c ≡ length part.code + suc m = omega (arith, sizes-append part.code (code.Answer ∷ []), length-sizes part.code) in
    let has = has_all c in
    let stand = later_tests (translated_condition condition) t now c tests refl in
    let gives = condition_gives f c [] (fresh w) condition 1 0 [] within (tests_front f 1 part.tests [] stand) (has_front c 0 part.code (code.Answer ∷ []) has) (suc m) in
    ap (λ n. answered (run f c n (start_at [] (fresh w)))) count
    ∙ (ap answered gives ∙ said_to f c (0 + sizes part.code) m w (truth_in t.setting (scope_of now) w condition) (has_back c 0 part.code (code.Answer ∷ []) has).0)

-- ---- a body

module _ (f : Frame) (c : List Instruction) where
  -- behind the last phrase the code is done
  ended : (q : ℕ) (p : Progress) (a : Attempt Done) → HasAt c q (code.Done ∷ []) → Comes f c [] 0 p a q → (n : ℕ) × (run f c n (St 0 [] [] p) ≡ leaves_so a)
  unfolding does
  ended q p (Err reason) has comes = comes 0
  ended q p (Ok done) has comes = by_flow done.flow done.progress comes
    where
      by_flow : (flow : Flow) (p' : Progress) → Comes f c [] 0 p (Ok (record { progress = p'; flow = flow })) q
          → (n : ℕ) × (run f c n (St 0 [] [] p) ≡ leaves_so (Ok (record { progress = p'; flow = flow })))
      by_flow GoesOn p' comes = let r = comes 1 in (r.0, r.1 ∙ stops_at f c (St q [] [] p') code.Done GoesOn p' 0 has.0 refl)
      by_flow NoDecision p' comes = comes 0
      by_flow (Decides outcome) p' comes = comes 0

pub body_means : (body : Body) (t : Telling) (inner : Inner) (now : ActionNow) (p : Progress) → BodyIsWithin 0 body
    → RunsTo (translated body) t inner 0 now p (do_body t inner body (scope_of now) p)
unfolding translated seq
body_means body t inner now p within =
    let string : List ℕ → ℕ = λ bytes. position_or_len (bytes_eq bytes) (strings_of_body body) in
    let part = body_part string 0 body 1 0 in
    let c = part.code ++ code.Done ∷ [] in
    let f = frame_of (translated body) t inner (test_of (translated body) t now) now in
    let has = has_all c in
    let tests : HasTests f 1 (part.tests ++ []) = all_tests (translated body) t inner now (length (translated body).codes) (length (part.tests ++ [])) (c ∷ []) (part.tests ++ []) refl refl in
    let comes = body_comes f c string body [] 1 0 p within (all_found f c [] (strings_of_body body) (strings_of_body body) refl (λ n. refl))
    (tests_front f 1 part.tests [] tests) (has_front c 0 part.code (code.Done ∷ []) has) in
    ended f c (0 + sizes part.code) p (do_body t inner body (scope_of now) p) (has_back c 0 part.code (code.Done ∷ []) has) comes

-- ---- a body among the codes of a story

all_stand : (f : Frame) (c : List Instruction) (string : List ℕ → ℕ) (strings all : List (List ℕ)) → ((n : ℕ) → f.strings n ≡ slice_index_or strings n [])
    → AllByRecursion (λ bytes. slice_index_or strings (string bytes) [] ≡ bytes) all → AllStand f c string all
all_stand f c string strings [] is stand = tt
all_stand f c string strings (bytes ∷ all) is stand = (is (string bytes) ∙ stand.0, all_stand f c string strings all is stand.1)

-- tests among a story's codes, with a level for each
some_tests : (c : Codes) (t : Telling) (inner : Inner) (now : ActionNow) (front back : List (List Instruction)) → c.codes ≡ front ++ back → HasTests (frame_of c t inner (test_of c t now) now) (length front) back
some_tests c t inner now front [] parts = tt
some_tests c t inner now front (is ∷ back) parts =
    all_tests c t inner now (length c.codes) (length front + length back) front (is ∷ back) (omega (arith, ap length parts, length-append front (is ∷ back))) parts

pub body_among : (body : Body) (c : Codes) (string : List ℕ → ℕ) (n first : ℕ) (t : Telling) (inner : Inner) (now : ActionNow) (p : Progress) → BodyIsWithin 0 body
    → IsAmong c string n first body → RunsTo c t inner n now p (do_body t inner body (scope_of now) p)
unfolding seq
body_among body c string n first t inner now p within is =
    let part = body_part string 0 body first 0 in
    let all = part.code ++ code.Done ∷ [] in
    let f = frame_of c t inner (test_of c t now) now in
    let has = has_all all in
    let tests : HasTests f first (part.tests ++ []) =
    subst (λ k. HasTests f k (part.tests ++ [])) is.place (tests_front f (length is.front) (part.tests ++ []) is.back (some_tests c t inner now is.front ((part.tests ++ []) ++ is.back) is.tests)) in
    let comes = body_comes f all string body [] first 0 p within (all_stand f all string c.strings (strings_of_body body) (λ n. refl) is.strings)
    (tests_front f first part.tests [] tests) (has_front all 0 part.code (code.Done ∷ []) has) in
    let r = ended f all (0 + sizes part.code) p (do_body t inner body (scope_of now) p) (has_back all 0 part.code (code.Done ∷ []) has) comes in
    (r.0, ap (λ is. run f is r.0 (start_at [] p)) is.code ∙ r.1)

-- ---- a condition among the codes of a story

-- tests behind another code, with a level for each but one
tests_below : (c : Codes) (t : Telling) (now : ActionNow) (left : ℕ) (front back : List (List Instruction)) → 0 < length front → length c.codes ≡ suc left → c.codes ≡ front ++ back
    → HasTests (frame_of c t no_inner (test_within left c t now) now) (length front) back
tests_below c t now left front [] some count parts = tt
tests_below c t now left front (is ∷ back) some count parts =
    all_tests c t no_inner now left (left - 1) front (is ∷ back) (omega (arith, some, count, ap length parts, length-append front (is ∷ back))) parts

pub test_among : (condition : Condition) (c : Codes) (n first : ℕ) (t : Telling) (now : ActionNow) (w : World) → ConditionIsWithin 0 condition → IsTestAmong c n first condition
    → test_of c t now n [] w ≡ truth_in t.setting (scope_of now) w condition
unfolding seq test_within
test_among condition c n first t now w within is = by_levels (length c.codes) refl
  where
    by_levels : (levels : ℕ) → length c.codes ≡ levels → test_within levels c t now n [] w ≡ truth_in t.setting (scope_of now) w condition
    by_levels zero count = absurd (omega (arith, count, ap length is.tests, length-append is.front ((test_part condition first 0).tests ++ is.back), is.place, is.behind))
    by_levels (suc left) count =
        let part = condition_part 0 condition first 0 in
        let all = part.code ++ code.Answer ∷ [] in
        let f = frame_of c t no_inner (test_within left c t now) now in
        let m = sizes part.code - length part.code in
        let size : sizes all ≡ length part.code + suc m = omega (arith, sizes-append part.code (code.Answer ∷ []), length-sizes part.code) in
        let has = has_all all in
        let below = tests_below c t now left is.front ((part.tests ++ []) ++ is.back) (omega (arith, is.place, is.behind)) count is.tests in
        let tests : HasTests f first (part.tests ++ []) = subst (λ k. HasTests f k (part.tests ++ [])) is.place (tests_front f (length is.front) (part.tests ++ []) is.back below) in
        let gives = condition_gives f all [] (fresh w) condition first 0 [] within (tests_front f first part.tests [] tests) (has_front all 0 part.code (code.Answer ∷ []) has) (suc m) in
        ap (λ l. answered (run f l (sizes l) (start_at [] (fresh w)))) is.code ∙ ap (λ n. answered (run f all n (start_at [] (fresh w)))) size
        ∙ (ap answered gives ∙ said_to f all (0 + sizes part.code) m w (truth_in t.setting (scope_of now) w condition) (has_back all 0 part.code (code.Answer ∷ []) has).0)
