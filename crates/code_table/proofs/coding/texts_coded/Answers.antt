use Rattle.std.proofs.Common.{[], map, subst}
use Rattle.object_words.specs.Mentions.{number_in}
use Rattle.play_meaning.specs.Meant.{text_meant}
use Rattle.code_table.specs.Coding.{StopIn}
use Rattle.code_table.specs.Origins.{Describes}
use Rattle.code_table.proofs.Coded.{adds_one}
use Rattle.code_table.proofs.Stopped.{all_texts, grows_on, loop_stops, one_text, stops_first, texts_end}
use Rattle.code_table.proofs.coding.texts_coded.Goals as goal

pub returns-in-Err-clause-none : goal.returns-in-Err-clause-none
returns-in-Err-clause-none c =
    let z = c.args.counts.now in
    let string = number_in c.args.strings.now in
    let texts = map text_meant c.args.texts.now in
    let stop = stops_first z string c.args.heads [] (Describes (text_meant c.text-item.result)) c.loop-rest.out.codes.items c.loop-rest.out.tests.items c.in-Err.fault c.in-Err.ensures.none in
    subst (λ l. StopIn z string c.args.heads l [] [] c.in-Err.fault) (all_texts texts)
    (loop_stops one_text z string c.args.heads texts [] [] text_meant c.loop-rest.out.codes.items c.loop-rest.out.tests.items c.loop-rest.rest.now c.text-item.result c.in-Err.fault c.in-len1-up.len_at_least c.text-item.is stop c.loop-rest.invariant)

pub loop-rest-preserved : goal.loop-rest-preserved
loop-rest-preserved c =
    let z = c.args.counts.now in
    let string = number_in c.args.strings.now in
    let added = adds_one z string c.args.heads (Describes (text_meant c.text-item.result)) c.loop-rest.out.codes.items c.loop-rest.out.tests.items c.add_text.new.out.codes.items c.add_text.new.out.tests.items c.in-Ok.ensures.coded in
    grows_on one_text z string c.args.heads (map text_meant c.args.texts.now) [] [] text_meant c.loop-rest.out.codes.items c.loop-rest.out.tests.items
    c.add_text.new.out.codes.items c.add_text.new.out.tests.items c.loop-rest.rest.now c.text-item.result c.in-len1-up.len_at_least c.text-item.is added c.loop-rest.invariant

pub returns-clause-coded : goal.returns-clause-coded
returns-clause-coded c =
    texts_end c.args.counts.now (number_in c.args.strings.now) c.args.heads (map text_meant c.args.texts.now) c.loop-rest.out.codes.items c.loop-rest.out.tests.items c.loop-rest.rest.now c.in_default.len_below c.loop-rest.invariant
