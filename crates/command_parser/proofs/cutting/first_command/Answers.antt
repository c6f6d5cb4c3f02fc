use Rattle.std.proofs.Common.{sym, ◌∙◌}
use Rattle.command_parser.proofs.Cuts.{command_cut, last_command, no_command, stands_behind, stands_cut, stands_first, stands_word}
use Rattle.command_parser.proofs.cutting.first_command.Goals as goal

pub loop-rest-init : goal.loop-rest-init
loop-rest-init c = rw c.new-command.ensures (stands_first c.args.line.now c.requires)

pub loop-rest-preserved-then-is_blank : goal.loop-rest-preserved-then-is_blank
loop-rest-preserved-then-is_blank c =
    stands_behind c.loop-rest.command c.loop-rest.rest.now c.args.line.now c.in-len1-up.len_at_least (sym c.is_blank.ensures ∙ c.if-is_blank.true) c.loop-rest.invariant

pub loop-rest-preserved : goal.loop-rest-preserved
loop-rest-preserved c =
    rw c.push.ensures (stands_word c.loop-rest.command c.loop-rest.rest.now c.args.line.now _ _ _ c.in-len1-up.len_at_least (sym c.is_blank.ensures ∙ c.if-is_blank.false) c.mark_len.ensures.place c.split_at.ensures.front c.split_at.ensures.back c.loop-rest.invariant (sym c.is_cut.ensures ∙ c.if-is_cut.false))

pub loop-rest-preserved-else-has_words : goal.loop-rest-preserved-else-has_words
loop-rest-preserved-else-has_words c =
    stands_cut c.loop-rest.command c.loop-rest.rest.now c.args.line.now _ _ _ c.in-len1-up.len_at_least (sym c.is_blank.ensures ∙ c.if-is_blank.false) c.mark_len.ensures.place c.split_at.ensures.front c.split_at.ensures.back c.loop-rest.invariant (sym c.is_cut.ensures ∙ c.if-is_cut.true) (sym c.has_words.ensures ∙ c.if-has_words.false)

pub returns-then-has_words : goal.returns-then-has_words
returns-then-has_words c =
    command_cut c.loop-rest.command c.loop-rest.rest.now c.args.line.now _ _ _ c.in-len1-up.len_at_least (sym c.is_blank.ensures ∙ c.if-is_blank.false) c.mark_len.ensures.place c.split_at.ensures.front c.split_at.ensures.back c.loop-rest.invariant (sym c.is_cut.ensures ∙ c.if-is_cut.true) (sym c.has_words.ensures ∙ c.if-has_words.true)

pub returns-then-has_words-2 : goal.returns-then-has_words-2
returns-then-has_words-2 c =
    last_command c.loop-rest.command c.loop-rest.rest.now c.args.line.now c.in_default.len_below (sym c.has_words-2.ensures ∙ c.if-has_words-2.true) c.loop-rest.invariant

pub returns-else-has_words-2 : goal.returns-else-has_words-2
returns-else-has_words-2 c =
    no_command c.loop-rest.command c.loop-rest.rest.now c.args.line.now c.in_default.len_below (sym c.has_words-2.ensures ∙ c.if-has_words-2.false) c.loop-rest.invariant
