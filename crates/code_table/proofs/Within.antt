-- What fits inside so many loops names the object of no other.
use Rattle.std.proofs.Common.{ℕ, ◌+◌, pos, List, arith}
use Rattle.play_meaning.specs.Scoping.{BodyIsWithin, ConditionIsWithin, DescriptionIsWithin, NumberIsWithin, ObjectIsWithin, PhraseIsWithin}
use Rattle.play_meaning.specs.Trees.{Body, Condition, CountOf, Description, End, EndStory, Figure, Follow, HasDescription, If, IfSaid, Instead, IsAtMost, IsSame, Leave, Literal, Move, NowHeld, NowIs, NowNowhere, NowNumber, NowValued, NowVariable, Number, Object, Phrase, Repeat, Say, Silence, Then, Try}
use Rattle.play_meaning.specs.declared.operand.Counts.{Counts}
use Rattle.play_meaning.specs.declared.operand.Use.TheVariants as role
use Rattle.story_code.specs.Fitting.{BodyFits, ConditionFits, HeldFits, NumberFits, ObjectFits, PhraseFits, TestFits}
use Rattle.story_code.proofs.Within.{text_within}

module _ (z : Counts) (string : List ℕ → ℕ) where
  -- as what a text asks
  pub condition_within : (k : ℕ) (condition : Condition) → ConditionFits z k 0 condition → ConditionIsWithin k condition
  condition_within k condition fits = (text_within z k role.Body string (IfSaid condition Silence Silence Silence) (fits, ((tt, tt), tt))).0

  object_within : (k : ℕ) (o : Object) → ObjectFits z k 0 o → ObjectIsWithin k o
  object_within k o fits = condition_within k (HasDescription o) fits

  objects_within : (k : ℕ) (o holder : Object) → HeldFits z k 0 o holder → ObjectIsWithin k o × ObjectIsWithin k holder
  objects_within k o holder fits = condition_within k (IsSame o holder) fits

  number_within : (k : ℕ) (number : Number) → NumberFits z k 0 number → NumberIsWithin k number
  number_within k number fits = (text_within z k role.Body string (Figure number Silence) (fits, tt)).0

  -- behind an operand
  second_within : (k : ℕ) (number : Number) → NumberFits z k 1 number → NumberIsWithin k number
  second_within k number fits = (condition_within k (IsAtMost (Literal (pos 0)) number) (omega arith, fits)).1

  test_within : (k : ℕ) (description : Description) → TestFits z k description → DescriptionIsWithin k description
  test_within k description fits = number_within k (CountOf description) (omega arith, fits)

  mutual
    phrase_within : (k : ℕ) (phrase : Phrase) → PhraseFits z string k phrase → PhraseIsWithin k phrase
    phrase_within k (Say text) fits = text_within z k role.Body string text fits
    phrase_within k (NowIs o p value) fits = object_within k o fits.1
    phrase_within k (NowHeld o r holder) fits = objects_within k o holder fits
    phrase_within k (NowNowhere o) fits = object_within k o fits
    phrase_within k (Move o holder) fits = objects_within k o holder fits
    phrase_within k (NowNumber p o number) fits = (object_within k o fits.1.0, second_within k number fits.1.1)
    phrase_within k (NowVariable v number) fits = number_within k number fits.1
    phrase_within k (NowValued o q value) fits = object_within k o fits.1
    phrase_within k (Try silent action noun second) fits = objects_within k noun second fits.1
    phrase_within k (Follow book) fits = tt
    phrase_within k (Leave flow) fits = tt
    phrase_within k (EndStory text) fits = tt
    phrase_within k (If condition a b) fits = (condition_within k condition fits.0, (body_within k a fits.1.0, body_within k b fits.1.1))
    phrase_within k (Repeat description body) fits = (test_within k description fits.0, body_within (k + 1) body fits.1)
    phrase_within k (Instead phrase) fits = phrase_within k phrase fits

    pub body_within : (k : ℕ) (body : Body) → BodyFits z string k body → BodyIsWithin k body
    body_within k End fits = tt
    body_within k (Then phrase body) fits = (phrase_within k phrase fits.0, body_within k body fits.1)
