use Rattle.std.proofs.lemmas.Result.{IfOk-weaker}
use Rattle.i7_rules.specs.Abouts.{Happens, HappensSo, IsGiven}
use Rattle.i7_rules.specs.Knowns.{known_of}
use Rattle.i7_rules.proofs.Subjects.{happens_at, none_asked}
use Rattle.i7_rules.proofs.about.scene_asked.Goals as goal

pub returns-in-None : goal.returns-in-None
returns-in-None c = none_asked (known_of c.args.known.now) c.args.rule.now.scene c.in-None.is

pub returns-in-Some : goal.returns-in-Some
returns-in-Some c =
    IfOk-weaker c.happening_by.result (λ scene. IsGiven (HappensSo (known_of c.args.known.now) c.as_slice.result.now) scene) (λ scene. IsGiven (Happens (known_of c.args.known.now) c.args.rule.now.scene) scene)
    (λ scene h. happens_at (known_of c.args.known.now) c.in-Some.words c.as_slice.result.now c.args.rule.now.scene scene c.in-Some.is c.as_slice.ensures h) c.happening_by.ensures
