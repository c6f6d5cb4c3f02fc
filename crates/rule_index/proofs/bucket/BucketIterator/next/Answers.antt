use Rattle.std.proofs.Common.{◌∙◌, ◌+◌, sym, drop, filter}
use Rattle.story_format.specs.Facts.{rules_listed}
use Rattle.rule_index.specs.Buckets.{rule_admits}
use Rattle.rule_index.proofs.WalkLemmas.{goes_on, kept_first}
use Rattle.rule_index.proofs.bucket.BucketIterator.next.Goals as goal

pub returns-in-Some-clause-steps : goal.returns-in-Some-clause-steps
returns-in-Some-clause-steps c =
    let b = c.self.inside in
    sym c.self.view_is
    ∙ kept_first (rule_admits b.index.now b.action b.noun b.room) (rules_listed b.index.now b.book) b.from c.in-Some.place c.in-Some.rule c.in-Some.ensures.first

pub returns-in-Some-clause-goes : goal.returns-in-Some-clause-goes
returns-in-Some-clause-goes c =
    let b = c.self.inside in
    goes_on _ (λ _. tt) c.args.self.now (filter (rule_admits b.index.now b.action b.noun b.room) (drop (c.in-Some.place + 1) (rules_listed b.index.now b.book))) c.in-Some.rule
    (returns-in-Some-clause-steps c)
