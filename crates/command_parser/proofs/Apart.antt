-- What is told of a reading tells the reading.
use Rattle.std.proofs.Common.{◌≡◌, ℕ, get_or, refl, ap, sym, ◌∙◌}
use Rattle.std.specs.Prelude.{◌==◌, if◌then◌else◌}
use Rattle.play_meaning.specs.Games.{Acts as ActsSo, ActsAll as ActsAllSo, Asks as AsksSo, Quit as QuitSo, Reading as Told, Says as SaysSo, Undo as UndoSo}
use Rattle.play_meaning.specs.Grammar.{Grammar}
use Rattle.command_parser.specs.Readings.{said_text, told}
use Rattle.command_parser.specs.declared.reading.Reading.{Reading}
use Rattle.command_parser.specs.declared.reading.Reading.TheVariants as reading
use Rattle.command_parser.specs.declared.reading.Said.{Said}
use Rattle.command_parser.specs.declared.reading.Said.TheVariants.{Empty, NoVerb, NoneOfAll, NotSeen, NotUnderstood, TooLong}

-- the fourth letters differ
abbrev by_letter : ℕ → Said
by_letter letter =
    if letter == 101 then Empty
    else if letter == 116 then TooLong
    else if letter == 111 then NoVerb
    else if letter == 32 then NotSeen
    else if letter == 114 then NoneOfAll
    else NotUnderstood

said_again : (a : Said) → by_letter (get_or (said_text a) 3 0) ≡ a
said_again Empty = refl
said_again TooLong = refl
said_again NoVerb = refl
said_again NotSeen = refl
said_again NotUnderstood = refl
said_again NoneOfAll = refl

abbrev reading_of : Told → Reading
reading_of (SaysSo text) = reading.Says (by_letter (get_or text 3 0))
reading_of (AsksSo question text) = reading.Asks question
reading_of (ActsSo now) = reading.Acts now
reading_of (ActsAllSo action) = reading.ActsAll action
reading_of UndoSo = reading.Undo
reading_of QuitSo = reading.Quit

told_again : (g : Grammar) (a : Reading) → reading_of (told g a) ≡ a
told_again g (reading.Says a) = ap reading.Says (said_again a)
told_again g (reading.Asks question) = refl
told_again g (reading.Acts now) = refl
told_again g (reading.ActsAll action) = refl
told_again g reading.Undo = refl
told_again g reading.Quit = refl

pub told_apart : (g : Grammar) (a b : Reading) → told g a ≡ told g b → a ≡ b
told_apart g a b same = sym (told_again g a) ∙ ap reading_of same ∙ told_again g b
