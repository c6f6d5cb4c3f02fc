use Rattle.i7_patterns.specs.PatternForms.{asked_aspect, asked_pattern}
use Rattle.i7_rules.specs.Knowns.{known_of}
use Rattle.i7_rules.proofs.Subjects.{place_found}
use Rattle.i7_rules.proofs.about.place_by.Goals as goal

pub returns : goal.returns
returns c = place_found (known_of c.args.known.now) c.args.words.now (asked_aspect c.in_ok-place.place) (asked_pattern c.in_place.result) c.in_place.ensures c.in_ok-place.ensures
