use Rattle.i7_patterns.specs.PatternForms.{asked_pattern}
use Rattle.i7_rules.specs.Knowns.{known_of}
use Rattle.i7_rules.proofs.Subjects.{about_found}
use Rattle.i7_rules.proofs.about.about_of.Goals as goal

pub returns : goal.returns
returns c =
    about_found (known_of c.args.known.now) c.args.rule.now (asked_pattern c.in_ok-found.found) c.in_ok-scene.scene (asked_pattern c.happening.result) c.in_ok-found.ensures c.in_ok-scene.ensures
    c.happening.ensures
