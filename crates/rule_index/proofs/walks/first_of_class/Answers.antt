use Rattle.std.proofs.Common.{◌∙◌, ap, sym, ◌∷◌}
use Rattle.rule_index.specs.Buckets.{rule_admits}
use Rattle.rule_index.specs.Classes.{rule_suits}
use Rattle.rule_index.proofs.WalkLemmas.{apart, left_found, left_more, left_none}
use Rattle.rule_index.proofs.walks.first_of_class.Goals as goal

pub returns-in-Some-admitted-clause-first : goal.returns-in-Some-admitted-clause-first
returns-in-Some-admitted-clause-first c =
    let t = c.args.story.now in
    let asked = c.args.asked.now in
    left_found (rule_suits t asked.action) (rule_admits t asked.action asked.noun asked.room) (apart t asked.action asked.noun asked.room) c.args.listed.now c.args.from
    c.loop-place.rest.now c.loop-place.invariant c.from-place.result c.in-Some.after.now (c.in-Some.ensures ∙ ap (λ n. n ∷ c.in-Some.after.now) (sym c.from-place.ensures))
    c.in-Some-admitted.rule (sym c.admitted.ensures ∙ c.in-Some-admitted.is)

pub loop-place-preserved : goal.loop-place-preserved
loop-place-preserved c =
    let t = c.args.story.now in
    let asked = c.args.asked.now in
    left_more (rule_suits t asked.action) (rule_admits t asked.action asked.noun asked.room) (apart t asked.action asked.noun asked.room) c.args.listed.now c.args.from
    c.loop-place.rest.now c.loop-place.invariant c.from-place.result c.in-Some.after.now (c.in-Some.ensures ∙ ap (λ n. n ∷ c.in-Some.after.now) (sym c.from-place.ensures))
    (sym c.admitted.ensures ∙ c.in_default-admitted.is)

pub returns-clause-first : goal.returns-clause-first
returns-clause-first c =
    let t = c.args.story.now in
    let asked = c.args.asked.now in
    left_none (rule_suits t asked.action) (rule_admits t asked.action asked.noun asked.room) (apart t asked.action asked.noun asked.room) c.args.listed.now c.args.from
    c.loop-place.rest.now c.loop-place.invariant c.in_default.ensures
