-- The shape of a condition, which is asked before any name is looked at.
use Rattle.std.specs.Prelude.{ℕ, ◌-◌, Bool, true, ◌||◌, List, drop, length, map, take}
use Rattle.std.specs.List.{list_all, list_any, slice_split}
use Rattle.world_meaning.specs.Spelling.{is_spelled}
use Rattle.i7_sentences.specs.TextPieces.{are_spelled}
use Rattle.i7_sentences.specs.declared.condition.TheConstants.{JOINTS, VERBS, IN_DARKNESS, NOT_IN_DARKNESS}
use Rattle.i7_sentences.specs.declared.text_piece.TextPiece.{TextPiece}
use Rattle.i7_sentences.specs.declared.text_piece.TextPiece.TheVariants as piece

-- `or` and `and`, which part a condition into those that it joins
abbrev pub parts_conditions : List ℕ → Bool
parts_conditions word = list_any (λ joint. is_spelled word joint.now) JOINTS

abbrev pub is_verb : List ℕ → Bool
is_verb word = list_any (λ verb. is_spelled word verb.now) VERBS

-- the words between the first and the last
abbrev pub inner : List (List ℕ) → List (List ℕ)
inner words = take (length words - 2) (drop 1 words)

-- `in darkness`, `not in darkness`
abbrev pub is_of_darkness : List (List ℕ) → Bool
is_of_darkness words =
    are_spelled words (map (λ word. word.now) IN_DARKNESS) || are_spelled words (map (λ word. word.now) NOT_IN_DARKNESS)

-- a condition that joins no others: it has a verb with words on both sides, or it is one of darkness
unfoldable pub is_basic : List (List ℕ) → Bool
is_basic words = is_of_darkness words || list_any is_verb (inner words)

-- words that are a condition by their shape: each part between `or` and `and` is a basic one
abbrev pub is_condition : List (List ℕ) → Bool
is_condition words = list_all is_basic (slice_split parts_conditions words)

-- the ifs among the pieces of a text have conditions
abbrev pub is_piece_read : TextPiece → Bool
is_piece_read (piece.If condition) = is_condition condition
is_piece_read _ = true

abbrev pub are_pieces_read : List TextPiece → Bool
are_pieces_read pieces = list_all is_piece_read pieces
