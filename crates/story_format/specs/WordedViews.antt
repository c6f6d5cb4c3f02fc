-- The compiler's objects with their words as contracts see them.
use Rattle.std.specs.Prelude.{List, map}
use Rattle.story_format.specs.Making.{Worded as WordedObject}
use Rattle.story_format.specs.declared.making.Worded.{Worded}

abbrev pub worded_of : Worded → WordedObject
worded_of w = record { object = w.object.now; words = w.words }

abbrev pub all_worded : List Worded → List WordedObject
all_worded ws = map worded_of ws
