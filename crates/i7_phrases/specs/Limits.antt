-- What goes beyond the limits of the language: more than 9 adjectives, or more than 8 `from`s within one another.
use Rattle.std.specs.Prelude.{Bool, false, ◌||◌}
use Rattle.play_meaning.specs.Trees as tree
use Rattle.i7_conditions.specs.Predicates.{is_deep}
use Rattle.i7_conditions.specs.Terms.{is_over}
use Rattle.i7_phrases.specs.Texts.{text_is_over}

-- of a phrase that others don't belong to
abbrev pub phrase_is_over : tree.Phrase → Bool
phrase_is_over (tree.Say text) = text_is_over text
phrase_is_over (tree.NowIs o property value) = is_deep o
phrase_is_over (tree.NowHeld o relation holder) = is_deep o || is_deep holder
phrase_is_over (tree.NowNowhere o) = is_deep o
phrase_is_over (tree.Move o holder) = is_deep o || is_deep holder
phrase_is_over (tree.NowNumber property o n) = is_deep o || is_over n
phrase_is_over (tree.NowVariable v n) = is_over n
phrase_is_over (tree.NowValued o q value) = is_deep o
phrase_is_over (tree.Try silently action noun second) = is_deep noun || is_deep second
phrase_is_over _ = false
