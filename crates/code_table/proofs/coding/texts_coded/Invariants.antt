use Rattle.std.proofs.Common.{[], length}
use Rattle.object_words.specs.Mentions.{number_in}
use Rattle.std.specs.Prelude.{map}
use Rattle.play_meaning.specs.Meant.{text_meant}
use Rattle.code_table.proofs.Stopped.{IsOnWay, one_text}
use Rattle.code_table.proofs.coding.texts_coded.Given as goal

abbrev pub invariant-loop-rest : goal.invariant-loop-rest
invariant-loop-rest l = IsOnWay one_text l.counts (number_in l.strings) l.heads (map text_meant l.fn.texts) [] [] l.out.codes.items l.out.tests.items (map text_meant l.rest)

abbrev pub decreases-loop-rest : goal.decreases-loop-rest
decreases-loop-rest l = length l.rest
