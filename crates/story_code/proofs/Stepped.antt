-- Behind a step of a body its run stands again.
use Rattle.std.proofs.Common.{◌≡◌, ◌∙◌, ap, sym, true, List, ℕ, Ok, Some}
use Rattle.play_meaning.specs.Grounds.{Fixed}
use Rattle.play_meaning.specs.Instructions.{at_place}
use Rattle.play_meaning.specs.Machines.{Goes, does}
use Rattle.play_meaning.specs.Operands.{gives}
use Rattle.play_meaning.specs.Stands.{GivesObject}
use Rattle.play_meaning.specs.Worlds.{World}
use Rattle.play_meaning.specs.declared.action.ActionNow.{ActionNow}
use Rattle.play_meaning.specs.declared.instruction.Instruction.{Instruction}
use Rattle.play_meaning.specs.declared.operand.Counts.{Counts}
use Rattle.story_code.specs.Runs.{IsFetched, MayDo, Standing, code_told, state_in}
use Rattle.story_code.specs.Soundness.{Judged}
use Rattle.story_code.specs.Steps.{DoneSo, body_frame, leads_on}
use Rattle.story_code.specs.declared.step.Step.{Step}
use Rattle.story_code.specs.declared.step.Step.TheVariants.{Done, Failure, Follow, GoesOn, NoDecision, Success, Try}
use Rattle.story_code.proofs.Served.{StandsOn, stands_on, told_at}

module _ (fixed : Fixed) (judged : List Judged) (now : ActionNow) (w v : World) (s t : Standing) (text said : List ℕ) (i : Instruction) where
  abbrev Quietly : Type 0
  Quietly = does (body_frame fixed judged now (record { tries = λ action p. Ok p; follows = λ book at p. Ok p })) (state_in s w text) i ≡ Goes (state_in t v said)

  goes_quietly : (came : Step) → leads_on came ≡ true → DoneSo fixed judged now w i s text (Ok came) v t said → Quietly
  goes_quietly GoesOn leads done = done (record { tries = λ action p. Ok p; follows = λ book at p. Ok p })
  goes_quietly (Try action) leads done = done (record { tries = λ action p. Ok p; follows = λ book at p. Ok p })
  goes_quietly (Follow book) leads done = done (record { tries = λ action p. Ok p; follows = λ book at p. Ok p })
  goes_quietly Done leads done = absurd cc
  goes_quietly NoDecision leads done = absurd cc
  goes_quietly Success leads done = absurd cc
  goes_quietly Failure leads done = absurd cc

  pub stands_again : (may : MayDo judged s) → IsFetched judged s i → (came : Step) → leads_on came ≡ true → DoneSo fixed judged now w i s text (Ok came) v t said
      → ((z : Counts) → GivesObject (gives z i) t.operands) → t.code ≡ s.code → MayDo judged t
  stands_again may fetched came leads done small same =
      let at : at_place (code_told may.run.code) s.place ≡ Some i = ap (λ is. at_place is s.place) (sym (told_at judged s.code may.run.code may.run.there)) ∙ fetched.at in
      let frame = body_frame fixed judged now (record { tries = λ action p. Ok p; follows = λ book at p. Ok p }) in
      let on : StandsOn judged s t may.run = stands_on judged s t i may.run frame (state_in s w text).progress (state_in t v said).progress at (goes_quietly came leads done) (small may.run.code.sizes.counts) same in
      record { run = on.run; does = ap (λ (j : Judged). j.sizes.role) on.same ∙ may.does }
