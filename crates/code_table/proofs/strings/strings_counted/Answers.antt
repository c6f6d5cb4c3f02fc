use Rattle.std.proofs.Common.{◌∙◌, sym}
use Rattle.code_table.proofs.Counted.{codes_on, codes_stop}
use Rattle.code_table.proofs.strings.strings_counted.Goals as goal

pub returns-in-None : goal.returns-in-None
returns-in-None c =
    codes_stop c.loop-rest.count c.loop-rest.rest.now c.code-item.result _ _ c.in-len1-up.len_at_least c.code-item.is c.verified_code_is_sound.ensures c.bytes.ensures (sym c.in-None.is ∙ c.count_code.ensures) c.loop-rest.invariant

pub loop-rest-preserved : goal.loop-rest-preserved
loop-rest-preserved c =
    codes_on c.loop-rest.count c.in-Some.more c.loop-rest.rest.now c.code-item.result _ _ c.in-len1-up.len_at_least c.code-item.is c.verified_code_is_sound.ensures c.bytes.ensures (sym c.in-Some.is ∙ c.count_code.ensures) c.loop-rest.invariant
