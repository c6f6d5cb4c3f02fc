-- What a text says, by its pieces (*Writing with Inform*, chapter 5): each if has its own pieces, and none stands in another.
use Rattle.std.specs.Prelude.{◌≡◌, ℕ, Bool, false, ◌||◌, List, [], ◌∷◌, ◌++◌}
use Rattle.i7_sentences.specs.declared.text_piece.TextPiece.{TextPiece}
use Rattle.i7_sentences.specs.declared.text_piece.TextPiece.TheVariants.{EndIf, If, Otherwise, Printed, Substitution}
use Rattle.play_meaning.specs.Meant.{text_meant}
use Rattle.play_meaning.specs.Trees as tree
use Rattle.play_meaning.specs.declared.tree.said.Text.{Text}
use Rattle.i7_conditions.specs.Clauses.{asks_over}
use Rattle.i7_conditions.specs.Conditions.{IsCondition}
use Rattle.i7_conditions.specs.Predicates.{is_deep, is_long}
use Rattle.i7_conditions.specs.Scopes.{Scope}
use Rattle.i7_conditions.specs.Terms.{is_over}
use Rattle.i7_conditions.specs.declared.found.Found.{Found}
use Rattle.i7_conditions.specs.declared.found.Found.TheVariants.{Read, TooMany, Unread}
use Rattle.i7_phrases.specs.Substitutions.{Bytes, DescriptionOf, Figure, Listing, Name, Piece, Substitutes, ValueName}

-- a piece, and what is said behind it
abbrev pub said_then : Piece → tree.Text → tree.Text
said_then (Bytes bytes) more = tree.Bytes bytes more
said_then (Figure number) more = tree.Figure number more
said_then (Name naming o) more = tree.Name naming o more
said_then (Listing naming description) more = tree.Listing naming description more
said_then (DescriptionOf o) more = tree.DescriptionOf o more
said_then (ValueName q o) more = tree.ValueName q o more

-- what a piece says that is no mark of an if
abbrev pub Says : Scope → TextPiece → Piece → Type 0
Says s (Printed bytes) piece = piece ≡ Bytes bytes
Says s (Substitution words) piece = Substitutes s words piece
Says s (If words) piece = ⊥
Says s Otherwise piece = ⊥
Says s EndIf piece = ⊥

-- pieces without an if
pub data IsRun (s : Scope) : List TextPiece → tree.Text → Type 0 where
  none : IsRun s [] tree.Silence
  and_more : {first : TextPiece} {pieces : List TextPiece} {t : tree.Text} → (piece : Piece) → Says s first piece → IsRun s pieces t → IsRun s (first ∷ pieces) (said_then piece t)

pub data IsText (s : Scope) : List TextPiece → tree.Text → Type 0 where
  none : IsText s [] tree.Silence
  and_more : {first : TextPiece} {pieces : List TextPiece} {t : tree.Text} → (piece : Piece) → Says s first piece → IsText s pieces t → IsText s (first ∷ pieces) (said_then piece t)
  -- `[if C]`, what is said if it holds, `[end if]`, and what is said behind
  only_if : {words : List (List ℕ)} {pieces run rest : List TextPiece} {c : tree.Condition} {a t : tree.Text} → IsCondition s words c → pieces ≡ run ++ EndIf ∷ rest
      → IsRun s run a → IsText s rest t → IsText s (If words ∷ pieces) (tree.IfSaid c a tree.Silence t)
  -- `[if C]`, what is said if it holds, `[otherwise]`, what is said else, `[end if]`, and what is said behind
  if_else : {words : List (List ℕ)} {pieces run others rest : List TextPiece} {c : tree.Condition} {a b t : tree.Text} → IsCondition s words c
      → pieces ≡ run ++ (Otherwise ∷ others ++ EndIf ∷ rest)
      → IsRun s run a → IsRun s others b → IsText s rest t → IsText s (If words ∷ pieces) (tree.IfSaid c a b t)

-- more than 9 adjectives, or more than 8 `from`s within one another
abbrev pub text_is_over : tree.Text → Bool
text_is_over tree.Silence = false
text_is_over (tree.Bytes bytes more) = text_is_over more
text_is_over (tree.Figure number more) = is_over number || text_is_over more
text_is_over (tree.Name naming o more) = is_deep o || text_is_over more
text_is_over (tree.Listing naming description more) = is_long description || text_is_over more
text_is_over (tree.DescriptionOf o more) = is_deep o || text_is_over more
text_is_over (tree.ValueName q o more) = is_deep o || text_is_over more
text_is_over (tree.IfSaid c a b more) = asks_over c || (text_is_over a || (text_is_over b || text_is_over more))

abbrev pub found_text : Found Text → Found tree.Text
found_text (Read text) = Read (text_meant text)
found_text TooMany = TooMany
found_text Unread = Unread
