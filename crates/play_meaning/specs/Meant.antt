-- The trees that the words of a source mean: lists joined one by one as the language joins them.
use Rattle.std.specs.Prelude.{ℕ, Bool, true, false, List, [], ◌∷◌, Option, None, Some, map, fold}
use Rattle.play_meaning.specs.Trees as tree
use Rattle.play_meaning.specs.declared.tree.object.Adjective.{Adjective}
use Rattle.play_meaning.specs.declared.tree.object.Description.{Description}
use Rattle.play_meaning.specs.declared.tree.object.Held.{Held}
use Rattle.play_meaning.specs.declared.tree.object.Quality.{Quality}
use Rattle.play_meaning.specs.declared.tree.object.Quality.TheVariants as quality
use Rattle.play_meaning.specs.declared.tree.object.Referent.{Referent}
use Rattle.play_meaning.specs.declared.tree.object.Referent.TheVariants as referent
use Rattle.play_meaning.specs.declared.tree.object.Side.{Side}
use Rattle.play_meaning.specs.declared.tree.object.Side.TheVariants as side
use Rattle.play_meaning.specs.declared.tree.number.Joined.{Joined}
use Rattle.play_meaning.specs.declared.tree.number.Number.{Number}
use Rattle.play_meaning.specs.declared.tree.number.Operator.{Operator}
use Rattle.play_meaning.specs.declared.tree.number.Operator.TheVariants.{Plus, Minus, Times}
use Rattle.play_meaning.specs.declared.tree.number.Term.{Term}
use Rattle.play_meaning.specs.declared.tree.number.Term.TheVariants as term
use Rattle.play_meaning.specs.declared.tree.condition.Basic.{Basic}
use Rattle.play_meaning.specs.declared.tree.condition.Basic.TheVariants as basic
use Rattle.play_meaning.specs.declared.tree.condition.Clause.{Clause}
use Rattle.play_meaning.specs.declared.tree.condition.Condition.{Condition}
use Rattle.play_meaning.specs.declared.tree.condition.Conjunction.{Conjunction}
use Rattle.play_meaning.specs.declared.tree.said.Piece.{Piece}
use Rattle.play_meaning.specs.declared.tree.said.Piece.TheVariants as piece
use Rattle.play_meaning.specs.declared.tree.said.Said.{Said}
use Rattle.play_meaning.specs.declared.tree.said.Said.TheVariants as said
use Rattle.play_meaning.specs.declared.tree.said.Text.{Text}
use Rattle.play_meaning.specs.declared.tree.phrase.Branch.{Branch}
use Rattle.play_meaning.specs.declared.tree.phrase.Phrase.{Phrase, Row_of-Branch, Row_of-Phrase, end_of-Branch, end_of-Phrase, more_of-Branch, more_of-Phrase}
use Rattle.play_meaning.specs.declared.tree.phrase.Phrase.TheVariants as phrase
use Rattle.play_meaning.specs.declared.tree.phrase.Simple.{Simple}
use Rattle.play_meaning.specs.declared.tree.phrase.Simple.TheVariants as simple

-- ---- objects and descriptions

abbrev pub object_meant : Referent → tree.Object
object_meant (referent.The o) = tree.The o
object_meant referent.Noun = tree.Noun
object_meant referent.SecondNoun = tree.SecondNoun
object_meant referent.Location = tree.Location
object_meant referent.Nothing = tree.Nothing
object_meant (referent.Turning k) = tree.Turning k
object_meant (referent.RoomFrom' p direction q room) = tree.RoomFrom (object_meant direction) (object_meant room)
object_meant (referent.DoorFrom' p direction q room) = tree.DoorFrom (object_meant direction) (object_meant room)

abbrev pub side_meant : Side → tree.Side
side_meant side.First = tree.First
side_meant side.Second = tree.Second

abbrev pub quality_meant : Quality → tree.Adjective
quality_meant (quality.Is property side) = tree.Quality property (side_meant side)
quality_meant (quality.Valued q value) = tree.Valued q value
quality_meant quality.Visible = tree.Visible
quality_meant quality.Touchable = tree.Touchable

abbrev pub denied_if : Bool → tree.Adjective → tree.Adjective
denied_if false adjective = adjective
denied_if true adjective = tree.NotSo adjective

abbrev pub adjective_meant : Adjective → tree.Adjective
adjective_meant a = denied_if a.denied (quality_meant a.quality)

abbrev pub held_meant : List tree.Adjective → Option ℕ → Option Held → tree.Description
held_meant adjectives kind None = tree.Those adjectives kind
held_meant adjectives kind (Some held) = tree.ThoseHeld adjectives kind held.relation (object_meant held.holder)

abbrev pub description_meant : Description → tree.Description
description_meant d = held_meant (map adjective_meant d.adjectives) d.kind d.held

-- ---- numbers

abbrev pub term_meant : Term → tree.Number
term_meant (term.Literal n) = tree.Literal n
term_meant (term.Variable v) = tree.Variable v
term_meant (term.PropertyOf p o) = tree.PropertyOf p (object_meant o)
term_meant (term.CountOf description) = tree.CountOf (description_meant description)
term_meant term.TurnCount = tree.TurnCount

abbrev pub by_operator : Operator → tree.Number → tree.Number → tree.Number
by_operator Plus = tree.Plus
by_operator Minus = tree.Minus
by_operator Times = tree.Times

-- an operator takes all that stands behind it
abbrev pub joined_meant : Term → List Joined → tree.Number
joined_meant first [] = term_meant first
joined_meant first (joined ∷ rest) = by_operator joined.operator (term_meant first) (joined_meant joined.term rest)

abbrev pub number_meant : Number → tree.Number
number_meant n = joined_meant n.first n.rest.items

-- ---- conditions

abbrev pub basic_meant : Basic → tree.Condition
basic_meant (basic.IsSo o adjective) = tree.IsSo (object_meant o) (adjective_meant adjective)
basic_meant (basic.IsOne o description) = tree.IsOne (object_meant o) (description_meant description)
basic_meant (basic.IsSame a b) = tree.IsSame (object_meant a) (object_meant b)
basic_meant (basic.IsHeld o relation holder) = tree.IsHeld (object_meant o) relation (object_meant holder)
basic_meant (basic.IsHeldByOne o relation description) = tree.IsHeldByOne (object_meant o) relation (description_meant description)
basic_meant (basic.Has holder o) = tree.Has (object_meant holder) (object_meant o)
basic_meant (basic.Encloses holder o) = tree.Encloses (object_meant holder) (object_meant o)
basic_meant (basic.HasDescription o) = tree.HasDescription (object_meant o)
basic_meant (basic.Equals a b) = tree.Equals (number_meant a) (number_meant b)
basic_meant (basic.IsLess a b) = tree.IsLess (number_meant a) (number_meant b)
basic_meant (basic.IsAtMost a b) = tree.IsAtMost (number_meant a) (number_meant b)
basic_meant (basic.Happens scene) = tree.Happens scene
basic_meant basic.InDarkness = tree.InDarkness

abbrev pub not_if : Bool → tree.Condition → tree.Condition
not_if false condition = condition
not_if true condition = tree.Not condition

abbrev pub clause_meant : Clause → tree.Condition
clause_meant clause = not_if clause.denied (basic_meant clause.basic)

-- what is joined by one word is looked at from left to right
abbrev pub conjunction_meant : Conjunction → tree.Condition
conjunction_meant c = fold (λ all clause. tree.And all (clause_meant clause)) (clause_meant c.first) c.rest.items

abbrev pub condition_meant : Condition → tree.Condition
condition_meant c = fold (λ any conjunction. tree.Or any (conjunction_meant conjunction)) (conjunction_meant c.first) c.rest.items

-- ---- texts

-- a piece, and what follows it
abbrev pub piece_meant : Piece → tree.Text → tree.Text
piece_meant (piece.Bytes bytes) more = tree.Bytes bytes more
piece_meant (piece.Figure number) more = tree.Figure (number_meant number) more
piece_meant (piece.Name naming o) more = tree.Name naming (object_meant o) more
piece_meant (piece.Listing naming description) more = tree.Listing naming (description_meant description) more
piece_meant (piece.DescriptionOf o) more = tree.DescriptionOf (object_meant o) more
piece_meant (piece.ValueName q o) more = tree.ValueName q (object_meant o) more

abbrev pub pieces_meant : List Piece → tree.Text
pieces_meant [] = tree.Silence
pieces_meant (piece ∷ pieces) = piece_meant piece (pieces_meant pieces)

abbrev pub said_meant : Said → tree.Text → tree.Text
said_meant (said.Plain piece) more = piece_meant piece more
said_meant (said.If condition pieces others) more = tree.IfSaid (condition_meant condition) (pieces_meant pieces.items) (pieces_meant others.items) more

abbrev pub parts_meant : List Said → tree.Text
parts_meant [] = tree.Silence
parts_meant (part ∷ parts) = said_meant part (parts_meant parts)

abbrev pub text_meant : Text → tree.Text
text_meant text = parts_meant text.parts.items

-- ---- phrases

abbrev pub simple_meant : Simple → tree.Phrase
simple_meant (simple.Say text) = tree.Say (text_meant text)
simple_meant (simple.NowIs o property value) = tree.NowIs (object_meant o) property value
simple_meant (simple.NowHeld o relation holder) = tree.NowHeld (object_meant o) relation (object_meant holder)
simple_meant (simple.NowNowhere o) = tree.NowNowhere (object_meant o)
simple_meant (simple.Move o holder) = tree.Move (object_meant o) (object_meant holder)
simple_meant (simple.NowNumber property o number) = tree.NowNumber property (object_meant o) (number_meant number)
simple_meant (simple.NowVariable v number) = tree.NowVariable v (number_meant number)
simple_meant (simple.NowValued o q value) = tree.NowValued (object_meant o) q value
simple_meant (simple.Try silent action noun second) = tree.Try silent action (object_meant noun) (object_meant second)
simple_meant (simple.Follow book) = tree.Follow book
simple_meant (simple.Leave flow) = tree.Leave flow
simple_meant (simple.EndStory text) = tree.EndStory text

abbrev mutual
  pub phrase_meant : Phrase → tree.Phrase
  phrase_meant (phrase.Plain simple) = simple_meant simple
  phrase_meant (phrase.Instead simple) = tree.Instead (simple_meant simple)
  phrase_meant (phrase.If' condition _ phrases _ branches _ others) = tree.If (condition_meant condition) (row_meant phrases) (branch_row_meant branches (row_meant others))
  phrase_meant (phrase.Repeat' description _ phrases) = tree.Repeat (description_meant description) (row_meant phrases)

  -- branches, each looked at where none in front of it was done, and what is done otherwise
  pub branch_row_meant : {n : _} → Row_of-Branch n → tree.Body → tree.Body
  branch_row_meant end_of-Branch others = others
  branch_row_meant (more_of-Branch condition _ phrases branches) others = tree.Then (tree.If (condition_meant condition) (row_meant phrases) (branch_row_meant branches others)) tree.End

  -- phrases one behind the other
  pub row_meant : {n : _} → Row_of-Phrase n → tree.Body
  row_meant end_of-Phrase = tree.End
  row_meant (more_of-Phrase phrase phrases) = tree.Then (phrase_meant phrase) (row_meant phrases)

abbrev pub body_meant : List Phrase → tree.Body
body_meant [] = tree.End
body_meant (phrase ∷ phrases) = tree.Then (phrase_meant phrase) (body_meant phrases)

abbrev pub branches_meant : List Branch → tree.Body → tree.Body
branches_meant [] others = others
branches_meant (branch ∷ branches) others = tree.Then (tree.If (condition_meant branch.condition) (body_meant branch.phrases.items) (branches_meant branches others)) tree.End
