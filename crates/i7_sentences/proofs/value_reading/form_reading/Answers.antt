use Rattle.std.proofs.Common.{◌≡◌, ◌∙◌, suc, length, ap, arith}
use Rattle.i7_sentences.specs.ValueFits.{best_below, fit_at}
use Rattle.i7_sentences.proofs.value_reading.form_reading.Goals as goal

pub returns : goal.returns
returns c =
    let last : c.loop-count.count ≡ suc (length c.args.tokens.now) = omega (arith, c.loop-count.invariant.within, c.loop-count-test.false) in
    c.loop-count.invariant.best
    ∙ ap (best_below (fit_at c.args.kinds.now (record { place = c.args.place; variant = record { form = c.args.form; pieces = c.args.pieces.now } }) c.args.tokens.now)) last
