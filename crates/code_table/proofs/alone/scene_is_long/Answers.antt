use Rattle.std.proofs.Common.{map, subst, sym}
use Rattle.std.specs.Option.{option_map}
use Rattle.std.proofs.lemmas.Result.{IfOk-weaker}
use Rattle.play_meaning.specs.Meant.{condition_meant}
use Rattle.play_meaning.specs.TranslatedScripts.{in_list}
use Rattle.code_table.specs.Emitted.{AllShort, IsToldLong}
use Rattle.code_table.specs.Origins.{Asks}
use Rattle.code_table.proofs.EachAlone.{first_long, scene_parts, second_told}
use Rattle.code_table.proofs.alone.scene_is_long.Goals as goal

pub returns-then-branch : goal.returns-then-branch
returns-then-branch c = λ string short.
    let z = c.args.counts.now in
    let scene = c.args.scene.now in
    first_long z string (map Asks (in_list (option_map condition_meant scene.begins))) (map Asks (in_list (option_map condition_meant scene.ends))) c.in_ok-asked_is_long.field-0
    (c.in_ok-asked_is_long.ensures string) c.if-branch.true (subst (AllShort z string) (sym (scene_parts scene)) short)

pub returns : goal.returns
returns c = λ string.
    let z = c.args.counts.now in
    let scene = c.args.scene.now in
    IfOk-weaker c.asked_is_long-2.result _ _
    (λ told is. subst (λ l. IsToldLong z string l told) (scene_parts scene)
    (second_told z string (map Asks (in_list (option_map condition_meant scene.begins))) (map Asks (in_list (option_map condition_meant scene.ends))) c.in_ok-asked_is_long.field-0 told
    (c.in_ok-asked_is_long.ensures string) c.if-branch.false is)) (c.asked_is_long-2.ensures string)
