-- The effects of some standard rules, unfolded.
use Rattle.std.proofs.Common.{◌≡◌, ◌∙◌, ap, sym, ℕ, Bool, true, false, [], refl, Some, Ok, Err, codes}
use Rattle.std.proofs.lemmas.List.{append-nil}
use Rattle.play_meaning.specs.Attempts.{Attempt, next}
use Rattle.play_meaning.specs.Codes.{no_inner}
use Rattle.play_meaning.specs.Doing.{Inner, do_body, do_phrase}
use Rattle.play_meaning.specs.Effects.{ByItself, HasEffectOf, changing, ended, refusing, saying, silence, trying}
use Rattle.play_meaning.specs.Progress.{Done, Progress, goes_on, then_do}
use Rattle.play_meaning.specs.Saying.{Telling, said_in}
use Rattle.play_meaning.specs.Scripts.{scope_of}
use Rattle.play_meaning.specs.Settings.{scenery_flag}
use Rattle.play_meaning.specs.StandardRules.{rules_of_closing, rules_of_dropping, rules_of_examining, rules_of_going, rules_of_inserting, rules_of_looking, rules_of_opening, rules_of_putting, rules_of_taking, standard_rules}
use Rattle.play_meaning.specs.Trees.{End, First}
use Rattle.play_meaning.specs.Truth.{of_some, truth_in}
use Rattle.play_meaning.specs.Turns.{look_round}
use Rattle.play_meaning.specs.Values.{has_quality, object_in}
use Rattle.play_meaning.specs.Worlds.{World}
use Rattle.play_meaning.specs.declared.action.ActionNow.{ActionNow}
use Rattle.play_meaning.specs.declared.change.Change.TheVariants.{Put}
use Rattle.play_meaning.specs.declared.outcome.Flow.{Flow}
use Rattle.play_meaning.specs.declared.outcome.Flow.TheVariants.{Decides, GoesOn}
use Rattle.play_meaning.specs.declared.outcome.Outcome.TheVariants.{Failure}
use Rattle.world_meaning.specs.Texts.{said}
use Rattle.world_meaning.specs.declared.place.Rel.TheVariants.{Carried}

abbrev flow_of : Attempt Done → Flow
flow_of (Ok done) = done.flow
flow_of (Err reason) = GoesOn

module _ (t : Telling) (w : World) (now : ActionNow) where
  abbrev IsScenery : Bool → Type 0
  IsScenery is = of_some now.noun (has_quality t.setting w scenery_flag First) ≡ is

  pub hardly_portable : IsScenery true → HasEffectOf 13 t w now (refusing (said (codes "That is hardly portable.")))
  unfolding do_phrase do_body said_in truth_in object_in rules_of_looking rules_of_examining rules_of_taking standard_rules
  hardly_portable is inner text work = rw is refl

  pub portable : IsScenery false → HasEffectOf 13 t w now silence
  unfolding do_phrase do_body said_in truth_in object_in rules_of_looking rules_of_examining rules_of_taking standard_rules
  portable is inner text work = rw (is, append-nil text) refl

  pub taken : (o : ℕ) → now.noun ≡ Some o → HasEffectOf 15 t w now (changing (Put o Carried 0))
  unfolding do_phrase do_body object_in rules_of_looking rules_of_examining rules_of_taking standard_rules
  taken o is inner text work = rw (is, append-nil text) refl

  pub reported : HasEffectOf 16 t w now (saying (said (codes "Taken.")))
  unfolding do_phrase do_body said_in rules_of_looking rules_of_examining rules_of_taking standard_rules
  reported inner text work = refl

  -- an answer that says nothing goes on where the rule refuses
  pub unsaid : IsScenery true → HasEffectOf 13 t w now silence → ⊥
  unsaid is silent =
      let flows : GoesOn ≡ Decides Failure = ap flow_of (silent no_inner [] 0 ∙ sym (hardly_portable is no_inner [] 0)) in
      absurd cc

  tried_on : (inner : Inner) (a : Attempt Progress) → next a (ended ByItself) ≡ then_do (next a (λ p. Ok (goes_on p))) (do_body t inner End (scope_of now))
  unfolding do_body
  tried_on inner (Ok p) = refl
  tried_on inner (Err reason) = refl

  pub looked : HasEffectOf 42 t w now (trying look_round)
  unfolding do_phrase do_body object_in standard_rules rules_of_looking rules_of_examining rules_of_taking rules_of_dropping rules_of_putting rules_of_inserting rules_of_opening rules_of_closing rules_of_going
  looked inner text work = rw (append-nil text) (tried_on inner (inner.tries look_round (record { world = w; text = text; work = work })))
