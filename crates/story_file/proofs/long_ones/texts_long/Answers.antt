use Rattle.std.specs.Prelude.{map}
use Rattle.object_words.specs.Mentions.{number_in}
use Rattle.play_meaning.specs.Meant.{text_meant}
use Rattle.story_file.specs.LongOnes.{one_text}
use Rattle.code_table.specs.Emitted.{IsToldLong}
use Rattle.story_file.proofs.LongLines.{ends, grows}
use Rattle.story_file.proofs.long_ones.texts_long.Goals as goal

pub loop-rest-preserved : goal.loop-rest-preserved
loop-rest-preserved c = let string = number_in c.args.strings.now in
    grows (IsToldLong c.args.counts.now string) (map (λ text. one_text (text_meant text)) c.args.texts.now) (λ text. one_text (text_meant text)) c.loop-rest.rest.now c.text-item.result c.loop-rest.longs.items c.push.new.self.items c.in_ok-text_is_long.field-0 c.in-len1-up.len_at_least c.text-item.is c.in_ok-text_is_long.ensures c.in_ok-push.ensures.items c.loop-rest.invariant

pub returns : goal.returns
returns c = let string = number_in c.args.strings.now in ends (IsToldLong c.args.counts.now string) (map (λ text. one_text (text_meant text)) c.args.texts.now) (λ text. one_text (text_meant text)) c.loop-rest.rest.now c.loop-rest.longs.items c.in_default.len_below c.loop-rest.invariant
