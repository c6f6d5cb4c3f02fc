use Rattle.std.proofs.Common.{◌∙◌}
use Rattle.std.proofs.lemmas.Result.{err_from_is_err_and}
use Rattle.story_format.specs.Layout.{tables_layout}
use Rattle.story_format.proofs.ReadingLemmas.{cut_by_skip, long_by_skip, read_by_skip, whole_by_skip}
use Rattle.story_format.proofs.loading.tables_in.Goals as goal

pub returns-in-None : goal.returns-in-None
returns-in-None c = cut_by_skip c.args.version ((tables_layout c.args.version).format.get c.args.body.now) (c.in-None.ensures ∙ (tables_layout c.args.version).lawful.skips c.args.body.now)

pub returns-in-Some-len1-up : goal.returns-in-Some-len1-up
returns-in-Some-len1-up c =
    long_by_skip c.args.version ((tables_layout c.args.version).format.get c.args.body.now) c.in-Some-len1-up.field-0.now c.in-Some-len1-up.len_at_least (c.in-Some-len1-up.ensures ∙ (tables_layout c.args.version).lawful.skips c.args.body.now)

pub returns-in_err-read : goal.returns-in_err-read
returns-in_err-read c =
    let p = err_from_is_err_and c.from_residual.result c.from_residual.ensures.1 in
    rw (p.1, p.2) (whole_by_skip c.args.version ((tables_layout c.args.version).format.get c.args.body.now) c.in-Some-empty.field-0.now c.in-Some-empty.len_below (c.in-Some-empty.ensures ∙ (tables_layout c.args.version).lawful.skips c.args.body.now))

pub returns-in-Some : goal.returns-in-Some
returns-in-Some c =
    let h = rw c.in-Some.is at c.in_ok-read.ensures in
    read_by_skip c.args.version ((tables_layout c.args.version).format.get c.args.body.now) c.in-Some-empty.field-0.now c.in-Some.tables c.in-Some.field-0-1.now c.in-Some-empty.len_below (c.in-Some-empty.ensures ∙ (tables_layout c.args.version).lawful.skips c.args.body.now) h
