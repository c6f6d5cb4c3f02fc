use Rattle.i7_sentences.specs.Classes.{is_body_mark}
use Rattle.i7_sentences.proofs.Parting.{behind_first_mark}
use Rattle.i7_sentences.proofs.rule_head.parted_at_body.Goals as goal

pub returns-in-len1-up-clause-body : goal.returns-in-len1-up-clause-body
returns-in-len1-up-clause-body c =
    behind_first_mark is_body_mark c.args.tokens.now c.args.words.now _ c.head_len.result c.head_len.ensures.place c.requires c.split_at.ensures.back
