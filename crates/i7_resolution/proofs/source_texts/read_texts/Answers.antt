use Rattle.std.proofs.Common.{◌∷◌, subst, sym}
use Rattle.i7_rules.proofs.Looked.{goes_on}
use Rattle.i7_rules.specs.Knowns.{known_of}
use Rattle.i7_resolution.specs.TextList.{text_lent, texts_lent}
use Rattle.i7_resolution.specs.TextScans.{IsSoFar, state_of}
use Rattle.i7_resolution.proofs.ReadTexts.{text_further}
use Rattle.i7_resolution.proofs.source_texts.read_texts.Goals as goal

pub loop-rest-preserved : goal.loop-rest-preserved
loop-rest-preserved c =
    let k = known_of c.args.known.now in
    let t = text_lent c.text-item.result in
    goes_on text_lent (λ before. IsSoFar k before (state_of c.loop-rest.so_far)) (λ before. IsSoFar k before (state_of c.in_ok-so_far.so_far)) (texts_lent c.args.texts.now) c.loop-rest.rest.now c.text-item.result
    c.in-len1-up.len_at_least c.text-item.is c.loop-rest.invariant
    (λ before so. subst (IsSoFar k (t ∷ before)) (sym c.in_ok-so_far.ensures)
    (text_further c.one_text_is_meant.ensures k t before c.in_ok-found.found (state_of c.loop-rest.so_far) c.in_ok-found.ensures so))
