-- Runs of tests come to their answers, and the objects that pass are counted.
use Rattle.std.proofs.Common.{◌≡◌, ◌∙◌, ap, sym, subst, ℕ, zero, suc, ◌+◌, ◌-◌, ◌<◌, ◌≤◌, Bool, true, false, List, [], ◌∷◌, ◌++◌, length, take, refl, Option, Some, Ok, Err, ℤ, pos, of_z, to_z, w32, arith}
use lib.Signed.{mag}
use mir.ValLaws.{to_z-of_z}
use Rattle.std.specs.List.{range_with_len}
use Rattle.std.specs.Prelude.{◌≢◌, OnOk, Result, slice_get}
use Rattle.play_meaning.specs.Attempts.{Attempt, next}
use Rattle.play_meaning.specs.Codes.{answered, no_inner, test_within}
use Rattle.play_meaning.specs.Grounds.{Fixed}
use Rattle.play_meaning.specs.Instructions.{at_place, sizes}
use Rattle.play_meaning.specs.Machines.{Abandons, Answers, Frame, Goes, Leaves, State, Step, Stuck, does, does_at, goes_further, joined_if, passing, pushes, run, unless_abandoned}
use Rattle.play_meaning.specs.Operands.{gives}
use Rattle.play_meaning.specs.SoundCodes.{IsSound, loops_around}
use Rattle.play_meaning.specs.Stands.{GivesObject, is_body}
use Rattle.play_meaning.specs.Worlds.{World}
use Rattle.play_meaning.specs.declared.action.ActionNow.{ActionNow}
use Rattle.play_meaning.specs.declared.instruction.Instruction.{Instruction}
use Rattle.play_meaning.specs.declared.operand.Counts.{Counts}
use Rattle.play_meaning.specs.declared.instruction.Instruction.TheVariants.{Count}
use Rattle.play_meaning.specs.declared.outcome.Flow.TheVariants.{GoesOn}
use Rattle.play_meaning.proofs.States.{begins, within}
use Rattle.world_meaning.specs.declared.session.Abandon.{Abandon}
use Rattle.world_meaning.specs.declared.session.Abandon.TheVariants.{Memory}
use Rattle.story_code.specs.Laws.{BodiesBeginStanding, RunsBeginStanding, RunsStandBehindAnyWork}
use Rattle.story_code.specs.Runs.{AreSoundTogether, BreaksOff, CameTo, Describes, DoesSo, IsFetched, IsStanding, IsTestAt, Leads, LeadsOn, MayRead, LoopsSuit, Standing, TestIs, behind, code_at, code_told, codes_of, count_passing, counted_if, frame_in, over, passes_in, state_in, telling_in}
use Rattle.story_code.specs.Soundness.{Judged}
use Rattle.story_code.specs.declared.came.Came.{Came}
use Rattle.story_code.specs.declared.came.Came.TheVariants.{Answered, Left, On}
use Rattle.story_code.specs.Testing.{EndsSo, IsLast, IsRunning, begun}
use Rattle.story_code.proofs.Fetched.{told}
use Rattle.story_code.proofs.Served.{leads_on, told_at}

pub there_long : (judged : List Judged) (n : ℕ) (j : Judged) → slice_get judged n ≡ Some j → n < length judged
there_long [] n j there = absurd cc
there_long (k ∷ judged) zero j there = omega arith
there_long (k ∷ judged) (suc n) j there = omega (arith, there_long judged n j there)

pub test_there : (judged : List Judged) (number loops : ℕ) → IsTestAt judged number loops → number < length judged
test_there judged number loops there = there_long judged number there.0 there.1.0

-- ---- a run of a test or a description

module _ (fixed : Fixed) (judged : List Judged) (now : ActionNow) (w : World) (start : Standing) (from : List ℕ) where
  abbrev Running : Standing → List ℕ → Type 0
  Running s text = IsRunning fixed judged now w start from s text

  abbrev frame : ℕ → Describes → Frame
  frame depth describes = frame_in fixed judged now depth describes no_inner

  abbrev code : List Instruction
  code = code_at judged start.code

  pub stays : MayRead judged start → Running start from
  stays may = record {
    stands = may;
    same = refl;
    comes = λ depth describes enough. (0, (omega arith, λ n. let none : 0 + n ≡ n = omega arith in ap (λ m. run (frame depth describes) code m (state_in start w from)) none));
  }

  -- one instruction of the code
  one_step : (s : Standing) (text : List ℕ) (i : Instruction) → Running s text → IsFetched judged s i → (depth : ℕ) (describes : Describes) (n : ℕ) (st : Step)
      → does (frame depth describes) (state_in s w text) i ≡ st → run (frame depth describes) code (suc n) (state_in s w text) ≡ goes_further (run (frame depth describes) code n) st
  unfolding run
  one_step s text i runs fetched depth describes n st does_so =
      let at : at_place code s.place ≡ Some i = ap (λ c. at_place (code_at judged c) s.place) (sym runs.same) ∙ fetched.at in
      ap (λ o. goes_further (run (frame depth describes) code n) (does_at (frame depth describes) (state_in s w text) o)) at ∙ ap (goes_further (run (frame depth describes) code n)) does_so

  enough_here : (s : Standing) (text : List ℕ) → Running s text → (depth : ℕ) → length judged ≤ start.code + suc depth → length judged ≤ s.code + suc depth
  enough_here s text runs depth enough = omega (arith, runs.same, enough)

  unsaid : Describes
  unsaid o n v = Ok []

  leads_so : (s t : Standing) (text said : List ℕ) (i : Instruction) → Running s text → IsFetched judged s i → DoesSo fixed judged now w i s text (Goes (state_in t w said))
      → ((z : Counts) → GivesObject (gives z i) t.operands) → t.code ≡ s.code → LeadsOn judged s t
  leads_so s t text said i runs fetched does_so small same =
      let may = runs.stands in
      let at : at_place (code_told may.run.code) s.place ≡ Some i = ap (λ is. at_place is s.place) (sym (told_at judged s.code may.run.code may.run.there)) ∙ fetched.at in
      let enough : length judged ≤ s.code + suc (length judged) = omega arith in
      leads_on judged s t i may (frame (length judged) unsaid) (state_in s w text).progress (state_in t w said).progress at (does_so (length judged) unsaid no_inner enough) (small may.run.code.sizes.counts) same

  goes_on : (s t : Standing) (text said : List ℕ) (i : Instruction) → Running s text → IsFetched judged s i → LeadsOn judged s t → DoesSo fixed judged now w i s text (Goes (state_in t w said)) → Running t said
  goes_on s t text said i runs fetched leads does_so = record {
    stands = leads.stands;
    same = leads.same ∙ runs.same;
    comes = λ depth describes enough.
        let before = runs.comes depth describes enough in
        let step = does_so depth describes no_inner (enough_here s text runs depth enough) in (
          suc before.0,
          (
            omega (arith, before.1.0, leads.further),
            λ n.
                let count : suc before.0 + n ≡ before.0 + suc n = omega arith in
                ap (λ m. run (frame depth describes) code m (state_in start w from)) count
                ∙ before.1.1 (suc n) ∙ one_step s text i runs fetched depth describes n (Goes (state_in t w said)) step,
          ),
        );
  }

  last_stays : (more : State → Step) (st : Step) → IsLast st → goes_further more st ≡ st
  last_stays more (Goes s) last = absurd last
  last_stays more (Leaves flow p) last = refl
  last_stays more (Answers truth) last = refl
  last_stays more (Abandons reason) last = refl
  last_stays more Stuck last = refl

  comes_to_end : (s : Standing) (text : List ℕ) (i : Instruction) (st : Step) → Running s text → IsFetched judged s i → IsLast st → DoesSo fixed judged now w i s text st → EndsSo fixed judged now w start from st
  comes_to_end s text i st runs fetched last does_so depth describes enough steps many =
      let before = runs.comes depth describes enough in
      let step = does_so depth describes no_inner (enough_here s text runs depth enough) in
      let may = runs.stands.run in
      let inside : s.place < sizes (code_told may.code) = within may.sound (state_in s w text) (may.stands (state_in s w text).progress) in
      let whole : code ≡ code_told may.code = ap (code_at judged) (sym runs.same) ∙ told_at judged s.code may.code may.there in
      let n = steps - suc before.0 in
      let count : steps ≡ before.0 + suc n = omega (arith, before.1.0, inside, ap sizes whole, many) in
      ap (λ m. run (frame depth describes) code m (state_in start w from)) count ∙ before.1.1 (suc n) ∙ one_step s text i runs fetched depth describes n st step
      ∙ last_stays (run (frame depth describes) code n) st last

  abbrev Came_to : Standing → List ℕ → Instruction → Standing → List ℕ → Result Came Abandon → Type 0
  Came_to s text i t said result = CameTo fixed judged now w i s text result t said

  pub on_step : (s t : Standing) (text said : List ℕ) (i : Instruction) (result : Result Came Abandon) → Running s text → IsFetched judged s i → Came_to s text i t said result
      → ((z : Counts) → OnOk result (GivesObject (gives z i) t.operands)) → t.code ≡ s.code → result ≡ Ok On → Running t said × (65536 - t.place < 65536 - s.place)
  on_step s t text said i result runs fetched step small same is =
      let leads : Leads fixed judged now w i s text On t said = subst (Came_to s text i t said) is step in
      let given : (z : Counts) → GivesObject (gives z i) t.operands = λ z. subst (λ r. OnOk r (GivesObject (gives z i) t.operands)) is (small z) in
      let on = leads_so s t text said i runs fetched leads given same in
      (goes_on s t text said i runs fetched on leads, omega (arith, on.further, fetched.served.place))

  pub left_step : (s t : Standing) (text said : List ℕ) (i : Instruction) (result : Result Came Abandon) → Running s text → IsFetched judged s i → Came_to s text i t said result → result ≡ Ok Left
      → EndsSo fixed judged now w start from (Leaves GoesOn (state_in t w said).progress)
  left_step s t text said i result runs fetched step is = comes_to_end s text i (Leaves GoesOn (state_in t w said).progress) runs fetched tt (subst (Came_to s text i t said) is step)

  pub answered_step : (s t : Standing) (text said : List ℕ) (i : Instruction) (result : Result Came Abandon) (truth : Bool) → Running s text → IsFetched judged s i → Came_to s text i t said result
      → result ≡ Ok (Answered truth) → EndsSo fixed judged now w start from (Answers truth)
  answered_step s t text said i result truth runs fetched step is = comes_to_end s text i (Answers truth) runs fetched tt (subst (Came_to s text i t said) is step)

  pub broken_step : (s t : Standing) (text said : List ℕ) (i : Instruction) (result : Result Came Abandon) (reason : Abandon) → Running s text → IsFetched judged s i → Came_to s text i t said result
      → result ≡ Err reason → reason ≢ Memory → EndsSo fixed judged now w start from (Abandons reason)
  broken_step s t text said i result reason runs fetched step is granted = comes_to_end s text i (Abandons reason) runs fetched tt (subst (Came_to s text i t said) is step granted)

-- ---- tests

abbrev at_first : ℕ → ℕ → List (Option ℕ) → Standing
at_first number work loops = record { code = number; place = 0; operands = []; loops = loops; work = work }

-- a code begins standing, inside the loops that are open around it
pub stands_at_first : (judged : List Judged) (number work : ℕ) (loops : List (Option ℕ)) (j : Judged) → AreSoundTogether judged → slice_get judged number ≡ Some j
    → length loops ≡ loops_around j.sizes.role → (may : IsStanding judged (at_first number work loops)) × (may.code ≡ j)
stands_at_first judged number work loops j together there around =
    let kept = (together number j there).sound in
    let whole : IsSound j.sizes.counts j.sizes.role (code_told j) = subst (λ is. IsSound j.sizes.counts j.sizes.role is) (sym (told j kept)) kept.sound in (
      record {
        code = j;
        there = there;
        few = (together number j there).few;
        sound = whole;
        stands = λ p. begins whole loops p around;
      },
      refl,
    )

reads_at_first : (judged : List Judged) (number work : ℕ) (loops : List (Option ℕ)) (j : Judged) → AreSoundTogether judged → slice_get judged number ≡ Some j → is_body j.sizes.role ≡ false
    → length loops ≡ loops_around j.sizes.role → MayRead judged (at_first number work loops)
reads_at_first judged number work loops j together there reads around =
    let may = stands_at_first judged number work loops j together there around in
    record { run = may.0; reads = ap (λ (k : Judged). is_body k.sizes.role) may.1 ∙ reads }

pub begins_outside : RunsBeginStanding
begins_outside judged number work j together there reads outside = reads_at_first judged number work [] j together there reads (sym outside)

pub body_begins : BodiesBeginStanding
body_begins judged number work together is =
    let may = stands_at_first judged number work [] is.0 together is.1.0 (sym (ap loops_around is.1.1)) in
    record { run = may.0; does = ap (λ (k : Judged). k.sizes.role) may.1 ∙ is.1.1 }

pub behind_any_work : RunsStandBehindAnyWork
behind_any_work judged s work may = record {
  run = record { code = may.run.code; there = may.run.there; few = may.run.few; sound = may.run.sound; stands = may.run.stands };
  does = may.does;
}

begun_is : (judged : List Judged) (number : ℕ) (loops : List (Option ℕ)) → AreSoundTogether judged → IsTestAt judged number (length loops) → MayRead judged (begun number loops)
begun_is judged number loops together there = reads_at_first judged number 0 loops there.0 together there.1.0 (ap is_body there.1.1) (sym (ap loops_around there.1.1))

module _ (fixed : Fixed) (judged : List Judged) (now : ActionNow) (w : World) (number : ℕ) (loops : List (Option ℕ)) where
  pub begins_so : AreSoundTogether judged → IsTestAt judged number (length loops) → IsRunning fixed judged now w (begun number loops) [] (begun number loops) []
  begins_so together there = stays fixed judged now w (begun number loops) [] (begun_is judged number loops together there)

  -- a test answers what its run ends in
  pub answers_so : (st : Step) → IsTestAt judged number (length loops) → EndsSo fixed judged now w (begun number loops) [] st → TestIs fixed judged now w number loops (answered st)
  unfolding test_within
  answers_so st there ends zero describes enough = absurd (omega (arith, enough, test_there judged number (length loops) there))
  answers_so st there ends (suc depth) describes enough = ap answered (ends depth describes enough (sizes (code_at judged number)) (omega arith))

-- ---- objects that pass

module _ (f : ℕ → Attempt Bool) (all : ℕ) (whole : Attempt ℕ) where
  -- so many are counted before this number
  abbrev pub Counted : ℕ → ℕ → Type 0
  Counted count n = next (count_passing f (all - n) n) (λ m. Ok (count + m)) ≡ whole

  left_is : (n : ℕ) → n < all → count_passing f (all - n) n ≡ next (f n) (λ is. next (count_passing f (all - suc n) (n + 1)) (λ m. Ok (counted_if is m)))
  left_is n less = let left : all - n ≡ suc (all - suc n) = omega (arith, less) in ap (λ k. count_passing f k n) left

  one_more : (truth : Bool) (count : ℕ) (rest : Attempt ℕ) → next (next rest (λ m. Ok (counted_if truth m))) (λ m. Ok (count + m)) ≡ next rest (λ m. Ok (counted_if truth count + m))
  one_more truth count (Err reason) = refl
  one_more true count (Ok m) = let same : count + suc m ≡ suc count + m = omega arith in ap Ok same
  one_more false count (Ok m) = refl

  pub counted_on : (truth : Bool) (count n : ℕ) → n < all → f n ≡ Ok truth → Counted count n → Counted (counted_if truth count) (suc n)
  counted_on truth count n less is so_far =
      let next_one : n + 1 ≡ suc n = omega arith in
      ap (λ k. next (count_passing f (all - suc n) k) (λ m. Ok (counted_if truth count + m))) (sym next_one)
      ∙ sym (one_more truth count (count_passing f (all - suc n) (n + 1)))
      ∙ ap (λ a. next (next a (λ is. next (count_passing f (all - suc n) (n + 1)) (λ m. Ok (counted_if is m)))) (λ m. Ok (count + m))) (sym is)
      ∙ ap (λ a. next a (λ m. Ok (count + m))) (sym (left_is n less)) ∙ so_far

  pub counted_next : (truth : Bool) (count n after : ℕ) → after ≡ counted_if truth count → n < all → f n ≡ Ok truth → Counted count n → Counted after (n + 1)
  counted_next truth count n after e less is so_far =
      let next_one : suc n ≡ n + 1 = omega arith in
      subst (λ k. Counted after k) next_one (subst (λ k. Counted k (suc n)) (sym e) (counted_on truth count n less is so_far))

  pub counted_broken : (reason : Abandon) (count n : ℕ) → n < all → f n ≡ Err reason → Counted count n → whole ≡ Err reason
  counted_broken reason count n less is so_far =
      sym so_far ∙ ap (λ a. next a (λ m. Ok (count + m))) (left_is n less)
      ∙ ap (λ a. next (next a (λ is. next (count_passing f (all - suc n) (n + 1)) (λ m. Ok (counted_if is m)))) (λ m. Ok (count + m))) is

  pub counted_all : (count n : ℕ) → all ≤ n → Counted count n → whole ≡ Ok count
  counted_all count n over so_far =
      let none : all - n ≡ 0 = omega (arith, over) in
      let same : count + 0 ≡ count = omega arith in
      sym so_far ∙ ap (λ k. next (count_passing f k n) (λ m. Ok (count + m))) none ∙ ap Ok same

pub counted_least : (truth : Bool) (count n after : ℕ) → after ≡ counted_if truth count → count ≤ n → after ≤ n + 1
counted_least true count n after e le = omega (arith, e, le)
counted_least false count n after e le = omega (arith, e, le)

-- counting is taking the length of the list
pub counts_passing : (f : ℕ → Attempt Bool) (left o : ℕ) → count_passing f left o ≡ next (passing f (range_with_len o left)) (λ objects. Ok (length objects))
counts_passing f zero o = refl
counts_passing f (suc left) o =
    ap (λ a. next (f o) (λ is. next a (λ n. Ok (counted_if is n)))) (counts_passing f left (o + 1)) ∙ by (f o) (passing f (range_with_len (o + 1) left))
  where
    long : (is : Bool) (objects : List ℕ) → counted_if is (length objects) ≡ length (joined_if is o objects)
    long true objects = refl
    long false objects = refl

    by : (a : Attempt Bool) (rest : Attempt (List ℕ)) → next a (λ is. next (next rest (λ objects. Ok (length objects))) (λ n. Ok (counted_if is n)))
        ≡ next (next a (λ is. next rest (λ passed. Ok (joined_if is o passed)))) (λ objects. Ok (length objects))
    by (Err reason) rest = refl
    by (Ok is) (Err reason) = refl
    by (Ok is) (Ok objects) = ap Ok (long is objects)

-- ---- counting as an instruction

pub read_back : (z : ℤ) → mag z < 2147483648 → to_z w32 (of_z w32 z) ≡ z
read_back z small = to_z-of_z w32 z (record { sfits = small })

pub take_all : {A : Type 0} (xs : List A) → take (length xs) xs ≡ xs
take_all [] = refl
take_all (x ∷ xs) = ap (λ l. x ∷ l) (take_all xs)

module _ (fixed : Fixed) (judged : List Judged) (now : ActionNow) (w : World) (s : Standing) (k test : ℕ) (runs : LoopsSuit judged s (Count k test)) where
  abbrev Passes : ℕ → Describes → ℕ → Attempt Bool
  Passes depth describes o = passes_in fixed judged now w depth describes test s.loops o

  deep_enough : (depth : ℕ) → length judged ≤ s.code + suc depth → length judged ≤ test + depth
  deep_enough depth enough = omega (arith, enough, runs.1.later)

  same_loops : (depth : ℕ) (describes : Describes)
      → passing (λ o. test_within depth (codes_of fixed judged) (telling_in fixed describes) now test (take k s.loops ++ Some o ∷ []) w) (range_with_len 0 fixed.setting.count)
      ≡ passing (Passes depth describes) (range_with_len 0 fixed.setting.count)
  same_loops depth describes =
      let all : take k s.loops ≡ s.loops = ap (λ n. take n s.loops) runs.0 ∙ take_all s.loops in
      ap (λ outer. passing (λ o. test_within depth (codes_of fixed judged) (telling_in fixed describes) now test (outer ++ Some o ∷ []) w) (range_with_len 0 fixed.setting.count)) all

  number_pushed : (state : State) (count : ℕ) (objects : Attempt (List ℕ)) → next objects (λ os. Ok (length os)) ≡ Ok count
      → unless_abandoned objects (λ os. pushes (Count k test) state state.operands (pos (length os))) ≡ pushes (Count k test) state state.operands (pos count)
  number_pushed state count (Err reason) is = absurd cc
  number_pushed state count (Ok os) is = let same : length os ≡ count = cc in ap (λ n. pushes (Count k test) state state.operands (pos n)) same

  abandoned_with : (state : State) (reason : Abandon) (objects : Attempt (List ℕ)) → next objects (λ os. Ok (length os)) ≡ Err reason
      → unless_abandoned objects (λ os. pushes (Count k test) state state.operands (pos (length os))) ≡ Abandons reason
  abandoned_with state reason (Err other) is = let same : other ≡ reason = cc in ap Abandons same
  abandoned_with state reason (Ok os) is = absurd cc

  abbrev Counts_to : Attempt ℕ → Type 0
  Counts_to whole = (depth : ℕ) (describes : Describes) → length judged ≤ test + depth → count_passing (Passes depth describes) fixed.setting.count 0 ≡ whole

  counted_there : (whole : Attempt ℕ) → Counts_to whole → (depth : ℕ) (describes : Describes) → length judged ≤ s.code + suc depth
      → next (passing (λ o. test_within depth (codes_of fixed judged) (telling_in fixed describes) now test (take k s.loops ++ Some o ∷ []) w) (range_with_len 0 fixed.setting.count)) (λ os. Ok (length os)) ≡ whole
  counted_there whole counts depth describes enough =
      ap (λ objects. next objects (λ os. Ok (length os))) (same_loops depth describes) ∙ sym (counts_passing (Passes depth describes) fixed.setting.count 0) ∙ counts depth describes (deep_enough depth enough)

  pub count_step : (t : Standing) (count : ℕ) (a : ℤ) → a ≡ pos count → t ≡ behind (Count k test) (over a s) → Counts_to (Ok count) → (text : List ℕ)
      → Leads fixed judged now w (Count k test) s text On t text
  unfolding does
  count_step t count a is there counts text depth describes inner enough =
      number_pushed (state_in s w text) count _ (counted_there (Ok count) counts depth describes enough)
      ∙ ap (λ n. Goes (state_in (behind (Count k test) (over n s)) w text)) (sym is) ∙ ap (λ x. Goes (state_in x w text)) (sym there)

  pub count_broken : (reason : Abandon) → (reason ≢ Memory → Counts_to (Err reason)) → (text : List ℕ) → BreaksOff fixed judged now w (Count k test) s text reason
  unfolding does
  count_broken reason counts text granted depth describes inner enough =
      abandoned_with (state_in s w text) reason _ (counted_there (Err reason) (counts granted) depth describes enough)
