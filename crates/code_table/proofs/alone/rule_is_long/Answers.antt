use Rattle.std.proofs.Common.{[], ◌∷◌, map, subst}
use Rattle.std.specs.Option.{option_map}
use Rattle.std.proofs.lemmas.Result.{IfOk-weaker}
use Rattle.object_words.specs.Mentions.{number_in}
use Rattle.play_meaning.specs.Meant.{body_meant, condition_meant}
use Rattle.play_meaning.specs.TranslatedScripts.{in_list}
use Rattle.code_table.specs.Emitted.{IsToldLong}
use Rattle.code_table.specs.Origins.{Asks, Does}
use Rattle.code_table.proofs.EachAlone.{first_long, second_told}
use Rattle.code_table.proofs.alone.rule_is_long.Goals as goal

pub returns-then-branch : goal.returns-then-branch
returns-then-branch c =
    let string = number_in c.args.strings.now in
    let rule = c.args.rule.now in
    first_long c.args.counts.now string (map Asks (in_list (option_map condition_meant rule.head.condition))) (Does (body_meant rule.body.items) ∷ []) c.in_ok-asked_is_long.field-0
    (c.in_ok-asked_is_long.ensures string) c.if-branch.true

pub returns : goal.returns
returns c =
    let z = c.args.counts.now in
    let string = number_in c.args.strings.now in
    let rule = c.args.rule.now in
    let asked = map Asks (in_list (option_map condition_meant rule.head.condition)) in
    IfOk-weaker c.body_is_long.result _ _
    (λ told is. second_told z string asked (Does (body_meant rule.body.items) ∷ []) c.in_ok-asked_is_long.field-0 told (c.in_ok-asked_is_long.ensures string) c.if-branch.false
    (subst (λ phrases. IsToldLong z string (Does (body_meant phrases) ∷ []) told) c.as_slice.ensures.value is)) c.body_is_long.ensures
