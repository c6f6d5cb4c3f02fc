use Rattle.std.proofs.Common.{sym, ap, ◌∙◌}
use Rattle.object_words.specs.Mentions.{number_in}
use Rattle.play_meaning.specs.Meant.{condition_meant, pieces_meant}
use Rattle.play_meaning.specs.Translation.{choice, condition_part, text_part}
use Rattle.story_code.specs.Emitting.{emitted, said_part}
use Rattle.story_code.proofs.Aimed.{choice_emitted}
use Rattle.story_code.proofs.emitting.text.emit_said.Goals as goal

pub returns-in_ok-emit_pieces-in-If-2 : goal.returns-in_ok-emit_pieces-in-If-2
returns-in_ok-emit_pieces-in-If-2 c =
    let string = number_in c.args.strings.now in
    let k = c.args.loops in
    let asked = condition_part k (condition_meant c.in-If.condition) in
    choice_emitted _ _ _ _ _ _ _ _ _ _ _ _ _ _ _ c.in_ok-emit_condition-in-If.ensures c.count-branch.ensures c.in_ok-push-in-If.ensures c.in_ok-emit_pieces-in-If.ensures c.count-leap.ensures c.in_ok-push-in-If-2.ensures c.place-second.ensures c.in_ok-emit_pieces-in-If-2.ensures c.place-end.ensures c.aim.ensures c.aim-in-If.ensures
    ∙ ap (λ pieces. emitted c.args.out.now (choice asked (text_part string k (pieces_meant pieces)) (text_part string k (pieces_meant c.as_slice-in-If.result.now)))) c.as_slice.ensures.value
    ∙ ap (λ others. emitted c.args.out.now (choice asked (text_part string k (pieces_meant c.in-If.pieces.items)) (text_part string k (pieces_meant others)))) c.as_slice-in-If.ensures.value
    ∙ ap (λ said. emitted c.args.out.now (said_part string k said)) (sym c.in-If.is)
