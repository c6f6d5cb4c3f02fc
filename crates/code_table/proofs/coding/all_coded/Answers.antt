use Rattle.std.proofs.Common.{[], ◌++◌, map, refl}
use Rattle.object_words.specs.Mentions.{number_in}
use Rattle.play_meaning.specs.Meant.{text_meant}
use Rattle.code_table.specs.Origins.{Describes, origins_in_rules, origins_in_scenes, origins_meant}
use Rattle.code_table.proofs.Coded.{all_behind}
use Rattle.code_table.proofs.Stopped.{stops_all, stops_behind, stops_in_front}
use Rattle.code_table.proofs.coding.all_coded.Goals as goal

pub returns-in-Err-clause-none : goal.returns-in-Err-clause-none
returns-in-Err-clause-none c =
    let z = c.args.counts.now in
    let string = number_in c.args.strings.now in
    let texts = map Describes (map text_meant c.args.texts.now) in
    stops_all z string c.args.heads (origins_meant c.args.texts.now c.args.rules.now c.args.scenes.now) c.in-Err.fault
    (stops_in_front z string c.args.heads texts (origins_in_rules c.args.rules.now ++ origins_in_scenes c.args.scenes.now) [] [] c.in-Err.fault c.in-Err.ensures.none [] (refl, refl))

pub returns-in-Err-add_rules-clause-none : goal.returns-in-Err-add_rules-clause-none
returns-in-Err-add_rules-clause-none c =
    let z = c.args.counts.now in
    let string = number_in c.args.strings.now in
    let texts = map Describes (map text_meant c.args.texts.now) in
    let fault = c.in-Err-add_rules.fault in
    stops_all z string c.args.heads (origins_meant c.args.texts.now c.args.rules.now c.args.scenes.now) fault
    (stops_in_front z string c.args.heads (origins_in_rules c.args.rules.now) (origins_in_scenes c.args.scenes.now) c.in-Ok.out.codes.items c.in-Ok.out.tests.items fault c.in-Err-add_rules.ensures.none texts c.in-Ok.ensures.coded)

pub returns-in-Err-add_scenes-clause-none : goal.returns-in-Err-add_scenes-clause-none
returns-in-Err-add_scenes-clause-none c =
    let z = c.args.counts.now in
    let string = number_in c.args.strings.now in
    let texts = map Describes (map text_meant c.args.texts.now) in
    let rules = origins_in_rules c.args.rules.now in
    let scenes = origins_in_scenes c.args.scenes.now in
    let fault = c.in-Err-add_scenes.fault in
    stops_all z string c.args.heads (origins_meant c.args.texts.now c.args.rules.now c.args.scenes.now) fault
    (stops_behind z string c.args.heads rules scenes c.in-Ok.out.codes.items c.in-Ok.out.tests.items c.add_rules.new.out.codes.items c.add_rules.new.out.tests.items fault c.in-Ok-add_rules.ensures.coded
    (c.in-Err-add_scenes.ensures.none string) texts c.in-Ok.ensures.coded)

pub returns-in-Ok-add_scenes-clause-coded : goal.returns-in-Ok-add_scenes-clause-coded
returns-in-Ok-add_scenes-clause-coded c =
    all_behind c.args.counts.now (number_in c.args.strings.now) c.args.heads c.args.texts.now c.args.rules.now c.args.scenes.now c.in-Ok.out.codes.items c.in-Ok.out.tests.items c.add_rules.new.out.codes.items c.add_rules.new.out.tests.items
    c.add_scenes.new.out.codes.items c.add_scenes.new.out.tests.items c.in-Ok.ensures.coded c.in-Ok-add_rules.ensures.coded (c.in-Ok-add_scenes.ensures.coded (number_in c.args.strings.now))
