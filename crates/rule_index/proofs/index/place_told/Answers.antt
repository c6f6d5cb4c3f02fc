use Rattle.std.proofs.Common.{ap, ◌∙◌}
use Rattle.story_format.specs.Facts.{book_of_rule}
use Rattle.rule_index.proofs.ClassLemmas.{place_so}
use Rattle.rule_index.proofs.index.place_told.Goals as goal

pub returns-in-Some : goal.returns-in-Some
returns-in-Some c =
    place_so c.args.story.now c.args.rule c.in-Some.book c.place_in.result c.rules_listed.result.now (c.in-Some.ensures ∙ ap (book_of_rule c.args.story.now) c.from.ensures)
    c.rules_listed.ensures c.place_in.ensures
