-- What is read of a text, piece by piece: what is said so far, and the if that is open.
use Rattle.std.specs.Prelude.{◌≡◌, List, [], ◌∷◌, ◌++◌, map, Option, None, Some, option_map}
use Rattle.i7_sentences.specs.declared.text_piece.TextPiece.{TextPiece}
use Rattle.i7_sentences.specs.declared.text_piece.TextPiece.TheVariants as text
use Rattle.play_meaning.specs.Meant.{condition_meant}
use Rattle.play_meaning.specs.Trees as tree
use Rattle.play_meaning.specs.declared.tree.said.Said.{Said as KeptPart}
use Rattle.play_meaning.specs.declared.tree.said.Said.TheVariants as part
use Rattle.i7_conditions.specs.Clauses.{asks_over}
use Rattle.i7_conditions.specs.Conditions.{IsCondition}
use Rattle.i7_conditions.specs.Conjoining.{found_condition}
use Rattle.i7_conditions.specs.Readings.{IsFoundAs}
use Rattle.i7_conditions.specs.Scopes.{Scope}
use Rattle.i7_conditions.specs.declared.found.Found.{Found}
use Rattle.i7_conditions.specs.declared.found.Found.TheVariants.{Read, TooMany, Unread}
use Rattle.i7_phrases.specs.SubstitutionForms.{found_piece, piece_of}
use Rattle.i7_phrases.specs.Substitutions.{Piece, piece_is_over}
use Rattle.i7_phrases.specs.Texts.{Says, said_then}
use Rattle.i7_phrases.specs.declared.draft.Draft.{Draft as Kept}
use Rattle.i7_phrases.specs.declared.draft.Draft.TheVariants as kept
use Rattle.i7_phrases.specs.declared.draft.Place.{Place}
use Rattle.i7_phrases.specs.declared.draft.Place.TheVariants as place
use Rattle.i7_phrases.specs.declared.draft.Sense.{Sense as KeptSense}
use Rattle.i7_phrases.specs.declared.draft.Sense.TheVariants as sense

-- ---- what a piece says or opens, as far as the names allow

pub data Sense : Type 0 where
  Said : Found Piece → Sense
  If : Found tree.Condition → Sense
  Otherwise : Sense
  EndIf : Sense

abbrev pub sense_of : KeptSense → Sense
sense_of (sense.Said found) = Said (found_piece found)
sense_of (sense.If found) = If (found_condition found)
sense_of sense.Otherwise = Otherwise
sense_of sense.EndIf = EndIf

abbrev pub IsSense : Scope → TextPiece → Sense → Type 0
IsSense s (text.Printed bytes) (Said found) = IsFoundAs (Says s (text.Printed bytes)) piece_is_over found
IsSense s (text.Substitution words) (Said found) = IsFoundAs (Says s (text.Substitution words)) piece_is_over found
IsSense s (text.If words) (If found) = IsFoundAs (IsCondition s words) asks_over found
IsSense s text.Otherwise Otherwise = Unit {0}
IsSense s text.EndIf EndIf = Unit {0}
IsSense s _ _ = ⊥

-- ---- what is said so far

-- a piece, or an if with the pieces of its two branches
pub data Part : Type 0 where
  Plain : Piece → Part
  Chosen : tree.Condition → List Piece → List Piece → Part

abbrev pub run_then : List Piece → tree.Text → tree.Text
run_then [] more = more
run_then (piece ∷ pieces) more = said_then piece (run_then pieces more)

abbrev pub part_then : Part → tree.Text → tree.Text
part_then (Plain piece) more = said_then piece more
part_then (Chosen c run others) more = tree.IfSaid c (run_then run tree.Silence) (run_then others tree.Silence) more

abbrev pub parts_then : List Part → tree.Text → tree.Text
parts_then [] more = more
parts_then (part ∷ parts) more = part_then part (parts_then parts more)

pub data Draft : Type 0 where
  -- outside ifs
  Outside : List Part → Draft
  -- behind `[if C]`, and behind its `[otherwise]`
  Then : List Part → tree.Condition → List Piece → Draft
  Else : List Part → tree.Condition → List Piece → List Piece → Draft
  -- with more than the language allows, here
  Over : Place → Draft

abbrev pub place_of : Draft → Place
place_of (Outside parts) = place.Outside
place_of (Then parts c run) = place.Then
place_of (Else parts c run others) = place.Else
place_of (Over place) = place

-- ---- one more piece

abbrev pub with_piece : Draft → Piece → Draft
with_piece (Outside parts) piece = Outside (parts ++ Plain piece ∷ [])
with_piece (Then parts c run) piece = Then parts c (run ++ piece ∷ [])
with_piece (Else parts c run others) piece = Else parts c run (others ++ piece ∷ [])
with_piece (Over place) piece = Over place

abbrev pub with_found : Draft → Found Piece → Option Draft
with_found draft (Read piece) = Some (with_piece draft piece)
with_found draft TooMany = Some (Over (place_of draft))
with_found draft Unread = None

abbrev pub opened : List Part → Found tree.Condition → Option Draft
opened parts (Read c) = Some (Then parts c [])
opened parts TooMany = Some (Over place.Then)
opened parts Unread = None

abbrev pub opened_over : Found tree.Condition → Option Draft
opened_over (Read c) = Some (Over place.Then)
opened_over TooMany = Some (Over place.Then)
opened_over Unread = None

-- `[if C]` stands outside ifs alone
abbrev pub with_if : Draft → Found tree.Condition → Option Draft
with_if (Outside parts) found = opened parts found
with_if (Over place.Outside) found = opened_over found
with_if (Over place.Then) found = None
with_if (Over place.Else) found = None
with_if (Then parts c run) found = None
with_if (Else parts c run others) found = None

abbrev pub with_otherwise : Draft → Option Draft
with_otherwise (Then parts c run) = Some (Else parts c run [])
with_otherwise (Over place.Then) = Some (Over place.Else)
with_otherwise (Over place.Outside) = None
with_otherwise (Over place.Else) = None
with_otherwise (Outside parts) = None
with_otherwise (Else parts c run others) = None

abbrev pub with_end : Draft → Option Draft
with_end (Then parts c run) = Some (Outside (parts ++ Chosen c run [] ∷ []))
with_end (Else parts c run others) = Some (Outside (parts ++ Chosen c run others ∷ []))
with_end (Over place.Then) = Some (Over place.Outside)
with_end (Over place.Else) = Some (Over place.Outside)
with_end (Over place.Outside) = None
with_end (Outside parts) = None

abbrev pub after : Draft → Sense → Option Draft
after draft (Said found) = with_found draft found
after draft (If found) = with_if draft found
after draft Otherwise = with_otherwise draft
after draft EndIf = with_end draft

-- behind one more piece
abbrev pub IsReadOn : Scope → TextPiece → Draft → Option Draft → Type 0
IsReadOn s piece draft next = (sense : Sense) × IsSense s piece sense × (next ≡ after draft sense)

-- ---- where the text ends

abbrev pub ended : Draft → Found tree.Text
ended (Outside parts) = Read (parts_then parts tree.Silence)
ended (Over place.Outside) = TooMany
ended (Over place.Then) = Unread
ended (Over place.Else) = Unread
ended (Then parts c run) = Unread
ended (Else parts c run others) = Unread

-- ---- as it is kept

abbrev pub part_of : KeptPart → Part
part_of (part.Plain piece) = Plain (piece_of piece)
part_of (part.If c pieces others) = Chosen (condition_meant c) (map piece_of pieces.items) (map piece_of others.items)

abbrev pub draft_of : Kept → Draft
draft_of (kept.Outside parts) = Outside (map part_of parts.items)
draft_of (kept.Then parts c pieces) = Then (map part_of parts.items) (condition_meant c) (map piece_of pieces.items)
draft_of (kept.Else parts c pieces others) = Else (map part_of parts.items) (condition_meant c) (map piece_of pieces.items) (map piece_of others.items)
draft_of (kept.Over place) = Over place

abbrev pub next_of : Option Kept → Option Draft
next_of next = option_map draft_of next
