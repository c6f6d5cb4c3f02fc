-- What a sentence says that tells on what a scene begins or ends.
use Rattle.std.specs.Prelude.{List, [], ◌∷◌, Option, Some, None, if◌then◌else◌}
use Rattle.i7_lexer.specs.declared.token.Token.{Token}
use Rattle.i7_sentences.specs.Conditions.{is_condition}
use Rattle.i7_sentences.specs.Names.{named_in, words_in}
use Rattle.i7_sentences.specs.declared.scene_change.SceneEdge.{SceneEdge}
use Rattle.i7_sentences.specs.declared.sentence.Assertion.{Assertion}
use Rattle.i7_sentences.specs.declared.sentence.Assertion.TheVariants as assertion

-- the words behind `when` have the shape of a condition
abbrev pub scene_change : SceneEdge → List (List Token) → Option Assertion
scene_change edge (scene ∷ words ∷ []) =
    if is_condition (words_in words) then Some (assertion.SceneChange (record { scene = named_in scene; edge = edge; condition = words_in words })) else None
scene_change edge _ = None
