use Rattle.std.proofs.Common.{ap, ◌∙◌}
use Rattle.std.specs.Prelude.{codes}
use Rattle.play_meaning.specs.Progress.{say}
use Rattle.play_meaning.specs.Saying.{name_in}
use Rattle.play_meaning.specs.declared.naming.Naming.TheVariants.{Definite}
use Rattle.world_store.specs.StorySettings.{setting_of}
use Rattle.action_stages.proofs.Saying.{named_said}
use Rattle.action_stages.proofs.failing.say_first_taking.Goals as goal

pub returns-clause-said : goal.returns-clause-said
returns-clause-said g c =
    let tables = g.P.Playing.tables in
    let progress = g.P.Playing.progress in
    let named = c.in_ok-say_name.ensures.said ∙ ap (λ t. say (name_in (setting_of t) Definite c.args.noun.now) (progress c.say.new.self)) c.say.ensures.same in
    named_said (codes "(first taking ") (name_in (setting_of (tables c.args.play.now)) Definite c.args.noun.now) 41 10 (progress c.args.play.now) (progress c.say.new.self) (progress
    c.say_name.new.self) (progress c.say-2.new.self)
    c.in_ok-say.ensures.said named c.in_ok-say-2.ensures.said
