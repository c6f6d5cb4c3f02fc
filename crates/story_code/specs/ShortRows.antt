-- How many words some trees are said by, and what is short in a small story.
use Rattle.std.specs.Prelude.{◌≡◌, ℕ, suc, zero, pos, false, List, [], ◌∷◌, Some}
use Rattle.play_meaning.specs.Trees.{Adjective, And, Body, Bytes, Condition, CountOf, End, First, If, IfSaid, InDarkness, IsOne, IsSame, IsSo, Leave, Literal, NotSo, Nothing, NowHeld, NowNowhere, NowNumber, NowValued, Object, Or, Plus, PropertyOf, Quality, RoomFrom, Say, Silence, The, Then, Those, ThoseHeld, Try, Valued, ValueName, Visible}
use Rattle.play_meaning.specs.declared.outcome.Flow.TheVariants.{Decides}
use Rattle.play_meaning.specs.declared.outcome.Outcome.TheVariants.{Failure}
use Rattle.world_meaning.specs.declared.place.Rel.TheVariants.{On, Worn}
use Rattle.story_code.specs.FittingRows.{repeats, small, sum_of}
use Rattle.story_code.specs.Sayable.{AdjectiveIsSayable, BodyIsSayable, ConditionIsSayable, NumberIsSayable}
use Rattle.story_code.specs.ShortLaws.{IsShortBody, IsShortCondition}
use Rattle.story_code.specs.Shortness.{words_of_body, words_of_condition, words_of_number, words_of_phrase}

-- so many times `now the ball is nowhere`
abbrev pub going : ℕ → Body
going zero = End
going (suc n) = Then (NowNowhere (The 0)) (going n)

-- `the room D from R`, where D and R are said so again
abbrev pub beyond : ℕ → Object
beyond zero = The 0
beyond (suc n) = RoomFrom (beyond n) (beyond n)

-- so many times `not visible`
abbrev pub unseen : ℕ → List Adjective
unseen zero = []
unseen (suc n) = NotSo Visible ∷ unseen n

-- an object said by 382 words, which is asked about 20 times
abbrev pub hardest : Condition
hardest = IsOne (beyond 7) (Those (unseen 9) (Some 1))

abbrev pub CanSay : Body → Type 0
CanSay body = BodyIsSayable small (λ string. 0) 0 body

pub record ShortRows : Type 0 where
  -- `now Bob wears the hat`
  pub wears : words_of_phrase (NowHeld (The 0) Worn (The 1)) ≡ 4
  -- `try looking`
  pub looks : words_of_phrase (Try false 0 Nothing Nothing) ≡ 2
  -- `if the room north from the Hall is the Garden, rule fails`
  pub stops : words_of_phrase (If (IsSame (RoomFrom (The 0) (The 1)) (The 2)) (Then (Leave (Decides Failure)) End) End) ≡ 9
  -- `the number of not open containers on the table`
  pub number : words_of_number (CountOf (ThoseHeld (NotSo (Quality 0 First) ∷ []) (Some 1) On (The 2))) ≡ 7
  -- `increase the weight of the ball by 1`
  pub increase : words_of_phrase (NowNumber 0 (The 0) (Plus (PropertyOf 0 (The 0)) (Literal (pos 1)))) ≡ 6
  -- `say "It is [if the ball is lit]lit[end if]."`
  pub text : words_of_phrase (Say (Bytes [] (IfSaid (IsSo (The 0) (Quality 0 First)) (Bytes [] Silence) Silence (Bytes [] Silence)))) ≡ 8
  -- `the ball is red`
  pub valued : words_of_condition (IsSo (The 0) (Valued 0 1)) ≡ 3
  -- `say "It is [colour of the ball]."`
  pub value_text : words_of_phrase (Say (Bytes [] (ValueName 0 (The 0) (Bytes [] Silence)))) ≡ 5
  -- `now the ball is red`
  pub now_valued : words_of_phrase (NowValued (The 0) 0 1) ≡ 4
  pub long : words_of_body (going 125) ≡ 500
  pub long_is_short : IsShortBody small (λ string. 0) (going 125)
  pub hard : words_of_condition hardest ≡ 402
  pub hard_is_short : IsShortCondition small hardest
  pub eight_repeats : CanSay (repeats 8)
  pub nine_repeats : CanSay (repeats 9) → ⊥
  pub thirty_three_numbers : NumberIsSayable small 0 (sum_of 32)
  pub thirty_four_numbers : NumberIsSayable small 0 (sum_of 33) → ⊥
  pub denied_once : AdjectiveIsSayable small (NotSo Visible)
  pub denied_twice : AdjectiveIsSayable small (NotSo (NotSo Visible)) → ⊥
  pub and_before_or : ConditionIsSayable small 0 (Or InDarkness (And InDarkness InDarkness))
  pub or_in_or : ConditionIsSayable small 0 (Or InDarkness (Or InDarkness (Or InDarkness InDarkness))) → ⊥
