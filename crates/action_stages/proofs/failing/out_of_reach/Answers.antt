use Rattle.std.proofs.Common.{ap, sym, ◌∙◌, Ok, Some}
use Rattle.std.specs.Prelude.{codes}
use Rattle.play_meaning.specs.Progress.{say}
use Rattle.play_meaning.specs.Saying.{name_in}
use Rattle.play_meaning.specs.declared.naming.Naming.TheVariants.{Definite}
use Rattle.play_meaning.specs.declared.outcome.Outcome.TheVariants.{Failure}
use Rattle.action_stages.specs.Answering.{asked}
use Rattle.world_store.specs.StorySettings.{setting_of}
use Rattle.action_stages.proofs.Saying.{named_said}
use Rattle.action_stages.proofs.failing.out_of_reach.Goals as goal

pub returns-clause-answer : goal.returns-clause-answer
returns-clause-answer g c =
    let tables = g.P.Playing.tables in
    let progress = g.P.Playing.progress in
    let named = c.in_ok-say_name.ensures.said ∙ ap (λ t. say (name_in (setting_of t) Definite c.args.noun.now) (progress c.say.new.self)) c.say.ensures.same in
    sym (ap (λ p. Ok (asked p (Some Failure))) (named_said (codes "You can't reach ") (name_in (setting_of (tables c.args.play.now)) Definite c.args.noun.now) 46 10 (progress
    c.args.play.now) (progress c.say.new.self) (progress c.say_name.new.self) (progress c.say-2.new.self)
    c.in_ok-say.ensures.said named c.in_ok-say-2.ensures.said))
