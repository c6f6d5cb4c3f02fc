use Rattle.std.proofs.Common.{[]}
use Rattle.play_meaning.specs.Patterns.{pattern_meant}
use Rattle.std.proofs.lemmas.Result.{IfOk-weaker}
use Rattle.i7_patterns.specs.Asked.{IsAsked as IsFound}
use Rattle.i7_patterns.specs.PatternForms.{asked_pattern}
use Rattle.i7_patterns.specs.Patterns.{IsPattern, pattern_is_over}
use Rattle.i7_rules.specs.Abouts.{IsPlaceOf, IsSubject, is_right_for}
use Rattle.i7_rules.specs.Knowns.{known_of, scope_among}
use Rattle.i7_rules.proofs.Subjects.{nothing_said, pattern_at, place_at}
use Rattle.i7_rules.proofs.about.subject_of.Goals as goal

pub returns-in-Anything : goal.returns-in-Anything
returns-in-Anything c = nothing_said (known_of c.args.known.now) c.args.subject.now (pattern_meant c.anything.result) c.in-Anything.is c.anything.ensures

pub returns-in-Pattern : goal.returns-in-Pattern
returns-in-Pattern c =
    let k = known_of c.args.known.now in
    IfOk-weaker c.pattern_by.result (λ found. IsFound (IsPattern k.actions (scope_among k []) c.as_slice.result.now) (is_right_for k) pattern_is_over (asked_pattern found))
    (λ found. IsFound (IsSubject k c.args.subject.now) (is_right_for k) pattern_is_over (asked_pattern found))
    (λ found h. pattern_at k c.in-Pattern.words c.as_slice.result.now c.args.subject.now (asked_pattern found) c.in-Pattern.is c.as_slice.ensures h) c.pattern_by.ensures

pub returns-in-Place : goal.returns-in-Place
returns-in-Place c =
    let k = known_of c.args.known.now in
    IfOk-weaker c.place_by.result (λ found. IsFound (IsPlaceOf k c.as_slice-in-Place.result.now) (is_right_for k) pattern_is_over (asked_pattern found))
    (λ found. IsFound (IsSubject k c.args.subject.now) (is_right_for k) pattern_is_over (asked_pattern found))
    (λ found h. place_at k c.in-Place.words c.as_slice-in-Place.result.now c.args.subject.now (asked_pattern found) c.in-Place.is c.as_slice-in-Place.ensures h) c.place_by.ensures
