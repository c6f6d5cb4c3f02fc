-- What a rule's words are made of: objects, numbers, descriptions, conditions, texts and phrases, as trees
-- (*Writing with Inform*, chapters 5, 6, 8 and 11).
use Rattle.std.specs.Prelude.{ℕ, ℤ, Bool, List, Option}
use Rattle.world_meaning.specs.declared.place.Rel.{Rel}
use Rattle.play_meaning.specs.declared.outcome.Flow.{Flow}
pub use Rattle.play_meaning.specs.declared.naming.Naming.{Naming}
pub use Rattle.play_meaning.specs.declared.naming.Naming.TheVariants.{CapitalDefinite, CapitalIndefinite, Definite, Indefinite, Plain}

pub data Object : Type 0 where
  -- an object by its number
  The : ℕ → Object
  Noun : Object
  SecondNoun : Object
  Location : Object
  Nothing : Object
  -- the object of an open repeat: the outermost is number 0
  Turning : ℕ → Object
  -- `the room DIRECTION from ROOM`, `the door DIRECTION from ROOM`
  RoomFrom : Object → Object → Object
  DoorFrom : Object → Object → Object

-- a property by its first name or its second, as `open` and `closed`
pub data Side : Type 0 where
  First : Side
  Second : Side

-- one word of a description, perhaps behind `not`
pub data Adjective : Type 0 where
  Quality : ℕ → Side → Adjective
  -- a value of a kind of value, by their numbers
  Valued : ℕ → ℕ → Adjective
  Visible : Adjective
  Touchable : Adjective
  NotSo : Adjective → Adjective

-- what objects are, and where: adjectives, perhaps a kind, perhaps what holds them
pub data Description : Type 0 where
  Those : List Adjective → Option ℕ → Description
  ThoseHeld : List Adjective → Option ℕ → Rel → Object → Description

pub data Number : Type 0 where
  Literal : ℤ → Number
  Variable : ℕ → Number
  -- `the PROPERTY of OBJECT`
  PropertyOf : ℕ → Object → Number
  -- `the number of DESCRIPTION`
  CountOf : Description → Number
  TurnCount : Number
  Plus : Number → Number → Number
  Minus : Number → Number → Number
  Times : Number → Number → Number

pub data Condition : Type 0 where
  IsSo : Object → Adjective → Condition
  IsOne : Object → Description → Condition
  IsSame : Object → Object → Condition
  -- held by an object, or by one of these
  IsHeld : Object → Rel → Object → Condition
  IsHeldByOne : Object → Rel → Description → Condition
  -- carries or wears
  Has : Object → Object → Condition
  Encloses : Object → Object → Condition
  HasDescription : Object → Condition
  Equals : Number → Number → Condition
  IsLess : Number → Number → Condition
  IsAtMost : Number → Number → Condition
  Happens : ℕ → Condition
  InDarkness : Condition
  Not : Condition → Condition
  And : Condition → Condition → Condition
  Or : Condition → Condition → Condition

-- a text: pieces one behind the other
pub data Text : Type 0 where
  Silence : Text
  Bytes : List ℕ → Text → Text
  Figure : Number → Text → Text
  Name : Naming → Object → Text → Text
  Listing : Naming → Description → Text → Text
  DescriptionOf : Object → Text → Text
  -- `[KIND OF VALUE of OBJECT]`: the name of the object's value
  ValueName : ℕ → Object → Text → Text
  -- `[if C]..[otherwise]..[end if]`, and what follows
  IfSaid : Condition → Text → Text → Text → Text

mutual
  pub data Phrase : Type 0 where
    Say : Text → Phrase
    -- `now OBJECT is PROPERTY`, or is not
    NowIs : Object → ℕ → Bool → Phrase
    NowHeld : Object → Rel → Object → Phrase
    NowNowhere : Object → Phrase
    -- in, on or carried, by the holder's kind
    Move : Object → Object → Phrase
    NowNumber : ℕ → Object → Number → Phrase
    NowVariable : ℕ → Number → Phrase
    -- `now the KIND OF VALUE of OBJECT is VALUE`, `now OBJECT is VALUE`
    NowValued : Object → ℕ → ℕ → Phrase
    -- silently or not, an action's number and its nouns
    Try : Bool → ℕ → Object → Object → Phrase
    Follow : ℕ → Phrase
    -- `rule succeeds`, `rule fails`, `stop the action`, `make no decision`, `continue the action`
    Leave : Flow → Phrase
    EndStory : List ℕ → Phrase
    If : Condition → Body → Body → Phrase
    Repeat : Description → Body → Phrase
    Instead : Phrase → Phrase

  pub data Body : Type 0 where
    End : Body
    Then : Phrase → Body → Body
