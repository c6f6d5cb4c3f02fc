-- What the parser's readings say as the readings of a game.
use Rattle.std.specs.Prelude.{ℕ, List}
use Rattle.play_meaning.specs.Commands.{asking_text}
use Rattle.play_meaning.specs.Games.{Acts as ActsSo, ActsAll as ActsAllSo, Asks as AsksSo, Quit as QuitSo, Reading as Told, Says as SaysSo, Undo as UndoSo}
use Rattle.play_meaning.specs.Grammar.{Grammar}
use Rattle.world_meaning.specs.Texts.{empty_text, no_verb_text, none_of_all_text, not_seen_text, not_understood_text, too_long_text}
use Rattle.command_parser.specs.declared.reading.Reading.{Reading}
use Rattle.command_parser.specs.declared.reading.Reading.TheVariants as reading
use Rattle.command_parser.specs.declared.reading.Said.{Said}
use Rattle.command_parser.specs.declared.reading.Said.TheVariants.{Empty, NoVerb, NoneOfAll, NotSeen, NotUnderstood, TooLong}

abbrev pub said_text : Said → List ℕ
said_text Empty = empty_text
said_text TooLong = too_long_text
said_text NoVerb = no_verb_text
said_text NotSeen = not_seen_text
said_text NotUnderstood = not_understood_text
said_text NoneOfAll = none_of_all_text

abbrev pub told : Grammar → Reading → Told
told g (reading.Says said) = SaysSo (said_text said)
told g (reading.Asks question) = AsksSo question (asking_text g.setting question.candidates)
told g (reading.Acts now) = ActsSo now
told g (reading.ActsAll action) = ActsAllSo action
told g reading.Undo = UndoSo
told g reading.Quit = QuitSo
