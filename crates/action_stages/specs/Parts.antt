-- The parts that an action passes, in order, as data.
use Rattle.std.specs.Prelude.{Bool, true, false, List, [], ◌∷◌}
use Rattle.play_meaning.specs.Attempts.{Attempt}
use Rattle.play_meaning.specs.Acting.{access, carrying, report, visibility}
use Rattle.play_meaning.specs.Consulting.{after_book, before_book, carry_out_book, check_book, consult, instead_book}
use Rattle.play_meaning.specs.Doing.{Inner}
use Rattle.play_meaning.specs.Games.{Game}
use Rattle.play_meaning.specs.Progress.{Asked, Progress}
use Rattle.play_meaning.specs.declared.action.ActionNow.{ActionNow}
use Rattle.action_stages.specs.declared.parts.Part.{Part}
use Rattle.action_stages.specs.declared.parts.Part.TheVariants as part

-- what a part does
unfoldable pub part_of : Game → Inner → ActionNow → Part → Progress → Attempt Asked
part_of g inner now (part.Book book) = consult g inner book now
part_of g inner now part.Light = visibility g now
part_of g inner now part.NounSeen = access g.telling.setting (g.needs now.action).noun now.noun
part_of g inner now part.SecondSeen = access g.telling.setting (g.needs now.action).second now.second
part_of g inner now part.NounHeld = carrying g.telling.setting inner (g.needs now.action).noun now.noun
part_of g inner now part.SecondHeld = carrying g.telling.setting inner (g.needs now.action).second now.second
part_of g inner now part.Report = report g inner now

-- an action out of world is checked, carried out and reported alone
abbrev pub parts : Bool → List Part
parts true = part.Book check_book ∷ part.Book carry_out_book ∷ part.Report ∷ []
parts false =
    part.Book before_book ∷ part.Light ∷ part.NounSeen ∷ part.SecondSeen ∷ part.NounHeld ∷ part.SecondHeld
    ∷ part.Book instead_book ∷ part.Book check_book ∷ part.Book carry_out_book ∷ part.Book after_book ∷ part.Report ∷ []
