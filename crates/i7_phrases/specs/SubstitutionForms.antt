-- What a substitution says, by its words: one form after the other is tried.
use Rattle.std.specs.Prelude.{ℕ, List, Option, None, Some, codes}
use Rattle.play_meaning.specs.Meant.{description_meant, number_meant, object_meant}
use Rattle.play_meaning.specs.declared.tree.said.Piece.{Piece as Kept}
use Rattle.play_meaning.specs.declared.tree.said.Piece.TheVariants as kept
use Rattle.i7_conditions.specs.Descriptions.{description_said}
use Rattle.i7_conditions.specs.Joining.{number_said}
use Rattle.i7_conditions.specs.Predicates.{object_said}
use Rattle.i7_conditions.specs.Readings.{one, or_else}
use Rattle.i7_conditions.specs.Scopes.{Scope}
use Rattle.i7_conditions.specs.Values.{kind_and_object}
use Rattle.i7_conditions.specs.Words.{Word}
use Rattle.i7_conditions.specs.declared.found.Found.{Found}
use Rattle.i7_conditions.specs.declared.found.Found.TheVariants.{Read, TooMany, Unread}
use Rattle.i7_phrases.specs.Substitutions.{Bytes, DescriptionOf, Figure, Listing, Name, Piece, Telling, ValueName, behind_of, listing_in, telling_in}

abbrev pub figure_said : Scope → List Word → Found Piece
figure_said s words = one Figure (number_said s words)

abbrev pub name_said : Scope → Option Telling → Found Piece
name_said s None = Unread
name_said s (Some t) = one (Name t.0) (object_said s t.1)

abbrev pub listing_said : Scope → Option Telling → Found Piece
listing_said s None = Unread
listing_said s (Some t) = one (Listing t.0) (description_said s t.1)

abbrev pub description_by : Scope → Option (List Word) → Found Piece
description_by s None = Unread
description_by s (Some words) = one DescriptionOf (object_said s words)

abbrev pub value_name_by : Scope → Option (ℕ × List Word) → Found Piece
value_name_by s None = Unread
value_name_by s (Some parts) = one (ValueName parts.0) (object_said s parts.1)

-- the forms from one of the list on
abbrev pub from_description : Scope → List Word → Found Piece
from_description s words = or_else (description_by s (behind_of (codes "description") words)) (value_name_by s (kind_and_object s words))

abbrev pub from_listing : Scope → List Word → Found Piece
from_listing s words = or_else (listing_said s (listing_in words)) (from_description s words)

abbrev pub from_name : Scope → List Word → Found Piece
from_name s words = or_else (name_said s (telling_in words)) (from_listing s words)

unfoldable pub substitution_said : Scope → List Word → Found Piece
substitution_said s words = or_else (figure_said s words) (from_name s words)

-- ---- as it is kept

abbrev pub piece_of : Kept → Piece
piece_of (kept.Bytes bytes) = Bytes bytes
piece_of (kept.Figure number) = Figure (number_meant number)
piece_of (kept.Name naming o) = Name naming (object_meant o)
piece_of (kept.Listing naming description) = Listing naming (description_meant description)
piece_of (kept.DescriptionOf o) = DescriptionOf (object_meant o)
piece_of (kept.ValueName q o) = ValueName q (object_meant o)

abbrev pub found_piece : Found Kept → Found Piece
found_piece (Read piece) = Read (piece_of piece)
found_piece TooMany = TooMany
found_piece Unread = Unread
