-- The objects that pass a test are kept one by one, and their names said.
use Rattle.std.proofs.Common.{◌≡◌, ◌≢◌, ◌∙◌, ap, sym, ℕ, suc, ◌+◌, ◌-◌, ◌<◌, ◌≤◌, Bool, true, false, List, [], ◌∷◌, ◌++◌, length, append_assoc, take, refl, Some, Ok, Err, arith}
use Rattle.std.specs.List.{range_with_len}
use Rattle.play_meaning.specs.Attempts.{Attempt, next}
use Rattle.play_meaning.specs.Codes.{test_within}
use Rattle.play_meaning.specs.Grounds.{Fixed}
use Rattle.play_meaning.specs.Machines.{Goes, does, joined_if, passing, says, unless_abandoned}
use Rattle.play_meaning.specs.Saying.{listed}
use Rattle.play_meaning.specs.Worlds.{World}
use Rattle.play_meaning.specs.declared.action.ActionNow.{ActionNow}
use Rattle.play_meaning.specs.declared.instruction.Instruction.TheVariants.{Names}
use Rattle.play_meaning.specs.declared.naming.Naming.{Naming}
use Rattle.world_meaning.specs.declared.session.Abandon.{Abandon}
use Rattle.world_meaning.specs.declared.session.Abandon.TheVariants.{Memory}
use Rattle.story_code.specs.Runs.{BreaksOff, Describes, Leads, LoopsSuit, Standing, behind, codes_of, kept_if, passes_in, state_in, telling_in}
use Rattle.story_code.specs.Soundness.{Judged}
use Rattle.story_code.specs.declared.came.Came.TheVariants.{On}
use Rattle.story_code.proofs.Answered.{take_all}

module _ (f : ℕ → Attempt Bool) (all : ℕ) (whole : Attempt (List ℕ)) where
  -- these are kept of those before this number
  abbrev pub Passed : List ℕ → ℕ → Type 0
  Passed kept n = next (passing f (range_with_len n (all - n))) (λ rest. Ok (kept ++ rest)) ≡ whole

  left_is : (n : ℕ) → n < all → passing f (range_with_len n (all - n)) ≡ next (f n) (λ is. next (passing f (range_with_len (n + 1) (all - suc n))) (λ rest. Ok (joined_if is n rest)))
  left_is n less = let left : all - n ≡ suc (all - suc n) = omega (arith, less) in ap (λ k. passing f (range_with_len n k)) left

  one_more : (truth : Bool) (kept : List ℕ) (n : ℕ) (rest : Attempt (List ℕ)) → next (next rest (λ r. Ok (joined_if truth n r))) (λ r. Ok (kept ++ r)) ≡ next rest (λ r. Ok (kept_if truth kept n ++ r))
  one_more truth kept n (Err reason) = refl
  one_more true kept n (Ok r) = ap Ok (sym (append_assoc kept (n ∷ []) r))
  one_more false kept n (Ok r) = refl

  pub passed_on : (truth : Bool) (kept after : List ℕ) (n : ℕ) → after ≡ kept_if truth kept n → n < all → f n ≡ Ok truth → Passed kept n → Passed after (n + 1)
  passed_on truth kept after n e less is so_far =
      let next_one : all - (n + 1) ≡ all - suc n = omega arith in
      ap (λ k. next (passing f (range_with_len (n + 1) k)) (λ r. Ok (after ++ r))) next_one
      ∙ ap (λ l. next (passing f (range_with_len (n + 1) (all - suc n))) (λ r. Ok (l ++ r))) e
      ∙ sym (one_more truth kept n (passing f (range_with_len (n + 1) (all - suc n))))
      ∙ ap (λ a. next (next a (λ is. next (passing f (range_with_len (n + 1) (all - suc n))) (λ r. Ok (joined_if is n r)))) (λ r. Ok (kept ++ r))) (sym is)
      ∙ ap (λ a. next a (λ r. Ok (kept ++ r))) (sym (left_is n less)) ∙ so_far

  pub passed_broken : (reason : Abandon) (kept : List ℕ) (n : ℕ) → n < all → f n ≡ Err reason → Passed kept n → whole ≡ Err reason
  passed_broken reason kept n less is so_far =
      sym so_far ∙ ap (λ a. next a (λ r. Ok (kept ++ r))) (left_is n less)
      ∙ ap (λ a. next (next a (λ is. next (passing f (range_with_len (n + 1) (all - suc n))) (λ r. Ok (joined_if is n r)))) (λ r. Ok (kept ++ r))) is

-- ---- the names of those that pass

module _ (fixed : Fixed) (judged : List Judged) (now : ActionNow) (w : World) (s : Standing) (naming : Naming) (k test : ℕ) (runs : LoopsSuit judged s (Names naming k test)) where
  abbrev Passes : ℕ → Describes → ℕ → Attempt Bool
  Passes depth describes o = passes_in fixed judged now w depth describes test s.loops o

  abbrev Found_to : Attempt (List ℕ) → Type 0
  Found_to whole = (depth : ℕ) (describes : Describes) → length judged ≤ test + depth → passing (Passes depth describes) (range_with_len 0 fixed.setting.count) ≡ whole

  found_there : (whole : Attempt (List ℕ)) → Found_to whole → (depth : ℕ) (describes : Describes) → length judged ≤ s.code + suc depth
      → passing (λ o. test_within depth (codes_of fixed judged) (telling_in fixed describes) now test (take k s.loops ++ Some o ∷ []) w) (range_with_len 0 fixed.setting.count) ≡ whole
  found_there whole found depth describes enough =
      let all : take k s.loops ≡ s.loops = ap (λ n. take n s.loops) runs.0 ∙ take_all s.loops in
      let deep : length judged ≤ test + depth = omega (arith, enough, runs.1.later) in
      ap (λ outer. passing (λ o. test_within depth (codes_of fixed judged) (telling_in fixed describes) now test (outer ++ Some o ∷ []) w) (range_with_len 0 fixed.setting.count)) all ∙ found depth describes deep

  pub listed_step : (t : Standing) (text said objects : List ℕ) → t ≡ behind (Names naming k test) s → said ≡ text ++ listed fixed.setting naming objects → Found_to (Ok objects)
      → Leads fixed judged now w (Names naming k test) s text On t said
  unfolding does
  listed_step t text said objects there e found depth describes inner enough =
      ap (λ a. unless_abandoned a (λ os. says (Names naming k test) (state_in s w text) s.operands (listed fixed.setting naming os))) (found_there (Ok objects) found depth describes enough)
      ∙ ap (λ x. Goes (state_in (behind (Names naming k test) s) w x)) (sym e) ∙ ap (λ x. Goes (state_in x w said)) (sym there)

  pub listed_broken : (reason : Abandon) (text : List ℕ) → (reason ≢ Memory → Found_to (Err reason)) → BreaksOff fixed judged now w (Names naming k test) s text reason
  unfolding does
  listed_broken reason text found granted depth describes inner enough =
      ap (λ a. unless_abandoned a (λ os. says (Names naming k test) (state_in s w text) s.operands (listed fixed.setting naming os))) (found_there (Err reason) (found granted) depth describes enough)
