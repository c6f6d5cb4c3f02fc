use Rattle.story_code.proofs.FitLists.{terms_tell}
use Rattle.story_code.proofs.fitting.number.+terms_fit.Goals as goal

pub returns-then-term_fits : goal.returns-then-term_fits
returns-then-term_fits t c =
    terms_tell _ _ _ c.args.joined.now _ _ _ _ _ c.in-len1-up.len_at_least c.next-item.is c.saturating_sub.ensures c.term_fits-in-len1-up.ensures c.if-term_fits.true c.terms_fit.ensures
