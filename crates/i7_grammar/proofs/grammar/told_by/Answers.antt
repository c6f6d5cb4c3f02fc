use Rattle.std.proofs.Common.{◌∙◌, ap}
use Rattle.world_meaning.specs.declared.fault.FaultCode.TheVariants.{UnknownName, WrongKind}
use Rattle.i7_sentences.specs.Lowest.{lowest}
use Rattle.i7_grammar.specs.GrammarScans.{told_within}
use Rattle.i7_grammar.specs.Grammars.{refused_or, unsuited_at}
use Rattle.i7_grammar.specs.Knowns.{known_of}
use Rattle.i7_grammar.specs.Understood.{all_lent}
use Rattle.i7_grammar.proofs.Reaching.{told_is}
use Rattle.i7_grammar.proofs.grammar.told_by.Goals as goal

pub returns : goal.returns
returns c =
    let k = known_of c.args.known.now in
    let us = all_lent c.args.all.now in
    c.refused_or.ensures
    ∙ ap (refused_or UnknownName c.lowest_unknown-unknown.result)
    (c.refused_or-suited.ensures ∙ ap (refused_or WrongKind c.in_ok-unsuited.unsuited) c.in_ok-within.ensures ∙ ap (λ line. refused_or WrongKind line (told_within k.objects us)) c.in_ok-unsuited.ensures)
    ∙ ap (λ line. refused_or UnknownName line (refused_or WrongKind (lowest unsuited_at us) (told_within k.objects us))) c.lowest_unknown-unknown.ensures
    ∙ told_is k us
