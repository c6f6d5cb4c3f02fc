use Rattle.std.proofs.Common.{◌∙◌, sym}
use Rattle.story_format.proofs.OwnBooks.{below_if_own}
use Rattle.story_format.proofs.book_rules.lists_its_own.Goals as goal

pub are_different-requires : goal.are_different-requires
are_different-requires c = below_if_own c.args.rules.now c.args.number c.as_slice-listed.result.now (sym c.each_is_own.ensures ∙ c.if-not-each_is_own.false)
