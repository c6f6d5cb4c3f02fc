-- The first object that passes a test is found, one by one.
use Rattle.std.proofs.Common.{◌≡◌, ◌∙◌, ap, sym, ℕ, suc, ◌+◌, ◌-◌, ◌<◌, ◌≤◌, Bool, true, false, List, Option, None, Some, Ok, Err, length, nat_lt, arith}
use Rattle.std.specs.Prelude.{◌≢◌, if◌then◌else◌, map, take}
use Rattle.std.proofs.lemmas.Bool.{le-ltb, lt-ltb}
use Rattle.play_meaning.specs.Attempts.{Attempt, next}
use Rattle.play_meaning.specs.Doing.{Inner}
use Rattle.play_meaning.specs.Grounds.{Fixed}
use Rattle.play_meaning.specs.Machines.{Abandons, Goes, Step, does, first_passing, or_later, turns_to, unless_abandoned, with_object}
use Rattle.play_meaning.specs.Progress.{Progress, most_work, spend}
use Rattle.play_meaning.specs.Worlds.{World}
use Rattle.play_meaning.specs.declared.action.ActionNow.{ActionNow}
use Rattle.play_meaning.specs.declared.instruction.Instruction.TheVariants.{Next}
use Rattle.world_meaning.specs.declared.session.Abandon.{Abandon}
use Rattle.world_meaning.specs.declared.session.Abandon.TheVariants.{Memory, TooMuchWork}
use Rattle.story_code.specs.Runs.{NextIs, Standing, behind, code_told, state_in}
use Rattle.story_code.specs.Soundness.{Judged}
use Rattle.story_code.specs.Steps.{body_frame}
use Rattle.story_code.proofs.Carried.{by_code, many}

module _ (f : ℕ → Attempt Bool) (all : ℕ) (whole : Attempt (Option ℕ)) where
  -- none before this number passes
  abbrev pub Sought : ℕ → Type 0
  Sought n = first_passing f (all - n) n ≡ whole

  left_is : (n : ℕ) → n < all → first_passing f (all - n) n ≡ next (f n) (λ is. or_later is n (first_passing f (all - suc n) (n + 1)))
  left_is n less = let left : all - n ≡ suc (all - suc n) = omega (arith, less) in ap (λ k. first_passing f k n) left

  asked : (n : ℕ) (a : Attempt Bool) → n < all → f n ≡ a → Sought n → next a (λ is. or_later is n (first_passing f (all - suc n) (n + 1))) ≡ whole
  asked n a less is so_far = ap (λ b. next b (λ is. or_later is n (first_passing f (all - suc n) (n + 1)))) (sym is) ∙ sym (left_is n less) ∙ so_far

  pub sought_on : (n : ℕ) → n < all → f n ≡ Ok false → Sought n → Sought (n + 1)
  sought_on n less is so_far =
      let next_one : all - (n + 1) ≡ all - suc n = omega arith in
      ap (λ k. first_passing f k (n + 1)) next_one ∙ asked n (Ok false) less is so_far

  pub found : (n : ℕ) → n < all → f n ≡ Ok true → Sought n → whole ≡ Ok (Some n)
  found n less is so_far = sym (asked n (Ok true) less is so_far)

  pub sought_broken : (reason : Abandon) (n : ℕ) → n < all → f n ≡ Err reason → Sought n → whole ≡ Err reason
  sought_broken reason n less is so_far = sym (asked n (Err reason) less is so_far)

  pub none_left : (n : ℕ) → all ≤ n → Sought n → whole ≡ Ok None
  none_left n over so_far = let none : all - n ≡ 0 = omega (arith, over) in sym so_far ∙ ap (λ k. first_passing f k n) none

-- ---- a loop of a body

chosen_first : {A : Type 0} (a b : ℕ) (x y : A) → a < b → (if nat_lt a b then x else y) ≡ x
chosen_first a b x y less = ap (λ c. if c then x else y) (lt-ltb a b less)

chosen_last : {A : Type 0} (a b : ℕ) (x y : A) → b ≤ a → (if nat_lt a b then x else y) ≡ y
chosen_last a b x y over = ap (λ c. if c then x else y) (le-ltb a b over)

spent : (p : Progress) → p.work < most_work → spend p ≡ Ok (record p { work = p.work + 1 })
unfolding spend
spent p less = chosen_first p.work most_work (Ok (record p { work = p.work + 1 })) (Err TooMuchWork) less

overspent : (p : Progress) → most_work ≤ p.work → spend p ≡ Err TooMuchWork
unfolding spend
overspent p over = chosen_last p.work most_work (Ok (record p { work = p.work + 1 })) (Err TooMuchWork) over

module _ (fixed : Fixed) (judged : List Judged) (now : ActionNow) (w : World) (s : Standing) (k test exit : ℕ) where
  abbrev Turns_to : Attempt (Option ℕ) → Type 0
  Turns_to answer = NextIs fixed judged now w s.loops k test answer

  -- an instruction does so, whatever trying and following do
  abbrev pub Does : List ℕ → Step → Type 0
  Does text st = (inner : Inner) → does (body_frame fixed judged now inner) (state_in s w text) (Next k test exit) ≡ st

  comes_to : (answer : Attempt (Option ℕ)) → Turns_to answer → (text : List ℕ) → Does text (unless_abandoned answer (turns_to (Next k test exit) (state_in s w text) k exit))
  unfolding does
  comes_to answer is text inner =
      let deep : length judged ≤ test + length (map code_told judged) = omega (arith, many judged) in
      ap (λ a. unless_abandoned a (turns_to (Next k test exit) (state_in s w text) k exit))
      (is (length (map code_told judged)) (by_code fixed judged) deep)

  pub turned : (o : ℕ) (t : Standing) → Turns_to (Ok (Some o)) → s.work < most_work → t ≡ behind (Next k test exit) (record s { loops = with_object s.loops k o; work = s.work + 1 }) → (text : List ℕ) → Does text (Goes (state_in t w text))
  turned o t is less there text inner =
      comes_to (Ok (Some o)) is text inner
      ∙ ap (λ a. unless_abandoned a (λ p. Goes (record (state_in (behind (Next k test exit) s) w text) { loops = with_object s.loops k o; progress = p }))) (spent (state_in s w text).progress less)
      ∙ ap (λ x. Goes (state_in x w text)) (sym there)

  pub too_much : (o : ℕ) → Turns_to (Ok (Some o)) → most_work ≤ s.work → (text : List ℕ) → Does text (Abandons TooMuchWork)
  too_much o is over text inner =
      comes_to (Ok (Some o)) is text inner
      ∙ ap (λ a. unless_abandoned a (λ p. Goes (record (state_in (behind (Next k test exit) s) w text) { loops = with_object s.loops k o; progress = p }))) (overspent (state_in s w text).progress over)

  pub closed : (t : Standing) → Turns_to (Ok None) → t ≡ record s { place = exit; loops = take k s.loops } → (text : List ℕ) → Does text (Goes (state_in t w text))
  closed t is there text inner = comes_to (Ok None) is text inner ∙ ap (λ x. Goes (state_in x w text)) (sym there)

  pub broken_off : (reason : Abandon) → (reason ≢ Memory → Turns_to (Err reason)) → (text : List ℕ) → reason ≢ Memory → Does text (Abandons reason)
  broken_off reason is text granted inner = comes_to (Err reason) (is granted) text inner
