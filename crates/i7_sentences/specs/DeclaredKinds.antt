-- Which kinds of value parts declare, said of each part by itself.
use Rattle.std.specs.Prelude.{◌≡◌, ◌⊎◌, List, [], ◌∷◌, ◌++◌}
use Rattle.std.specs.List.{All}
use Rattle.i7_lexer.specs.declared.token.Token.{Token}
use Rattle.i7_sentences.specs.Cuts.{Piece}
use Rattle.i7_sentences.specs.Forms.{Fits, IsUnread, Variant, lower_forms, middle_forms}
use Rattle.i7_sentences.specs.KindsOfValue.{value_itself}
use Rattle.i7_sentences.specs.Names.{named_in, Words}
use Rattle.i7_sentences.specs.declared.part.PartKind.TheVariants.{Sentence}
use Rattle.i7_sentences.specs.declared.value_form.TheConstants.{KIND_OF_VALUE}

-- a sentence says of value itself that it is a kind: one of these variants fits it
pub record SaysItself (part : Piece) : Type 0 where
  pub is_sentence : part.kind ≡ Sentence
  pub before : List Variant
  pub variant : Variant
  pub after : List Variant
  pub place : value_itself ≡ before ++ variant ∷ after
  pub letters : List (List Token)
  pub fits : Fits variant.pieces part.tokens letters

-- a sentence declares a kind of value: no form fits it that is tried before, and it is the kind's name and `is a kind of value`
pub record DeclaresKind (part : Piece) (kind : Words) : Type 0 where
  pub is_sentence : part.kind ≡ Sentence
  pub unread : IsUnread lower_forms part.tokens × IsUnread middle_forms part.tokens
  pub name : List Token
  pub fits : Fits KIND_OF_VALUE.now part.tokens (name ∷ [])
  pub kind_is : kind ≡ named_in name

abbrev pub SaysNot : Piece → Type 0
SaysNot part = SaysItself part → ⊥

abbrev pub DeclaresNone : Piece → Type 0
DeclaresNone part = (kind : Words) → DeclaresKind part kind → ⊥

-- the parts declare these kinds, in order
pub data AreDeclared : List Piece → List Words → Type 0 where
  nothing : AreDeclared [] []
  one_more : (part : Piece) (parts : List Piece) (kind : Words) (kinds : List Words) → DeclaresKind part kind → AreDeclared parts kinds → AreDeclared (part ∷ parts) (kind ∷ kinds)
  no_more : (part : Piece) (parts : List Piece) (kinds : List Words) → DeclaresNone part → AreDeclared parts kinds → AreDeclared (part ∷ parts) kinds

-- one of the parts says it of value itself
pub record IsSaidItself (parts : List Piece) : Type 0 where
  pub before : List Piece
  pub part : Piece
  pub after : List Piece
  pub place : parts ≡ before ++ part ∷ after
  pub says : SaysItself part

-- the kinds of value of parts: none where one says it of value itself, and else those that they declare
abbrev pub AreKinds : List Piece → List Words → Type 0
AreKinds parts kinds = (IsSaidItself parts × (kinds ≡ [])) ⊎ (All SaysNot parts × AreDeclared parts kinds)
