-- What fits a small story, and what doesn't.
use Rattle.std.specs.Prelude.{ℕ, suc, zero, [], ◌∷◌, None, pos}
use Rattle.play_meaning.specs.Trees.{Body, CountOf, Description, DescriptionOf, End, IsSo, Literal, NowNowhere, NowValued, Number, Plus, Repeat, Silence, The, Then, Those, Turning, Valued, ValueName}
use Rattle.play_meaning.specs.declared.operand.Counts.{Counts}
use Rattle.play_meaning.specs.declared.operand.Use.TheVariants as role
use Rattle.story_code.specs.Fitting.{BodyFits, ConditionFits, NumberFits, ObjectFits, TextFits}

-- three objects, a kind of value that has three values, and one or two of each other sort; the code judged is number 4 of 9
abbrev pub small : Counts
small = record { objects = 3; kinds = 2; flags = 2; numbers = 1; variables = 1; scenes = 1; strings = 1; codes = 9; actions = 1; books = 8; values = 3 ∷ []; own = 4 }

-- so many numbers and one more, added up
abbrev pub sum_of : ℕ → Number
sum_of zero = Literal (pos 1)
sum_of (suc n) = Plus (Literal (pos 1)) (sum_of n)

abbrev pub anything : Description
anything = Those [] None

-- the object of the outermost repeat goes nowhere
abbrev pub it_goes : Body
it_goes = Then (NowNowhere (Turning 0)) End

-- so many repeats, each in the one before
abbrev pub repeats : ℕ → Body
repeats zero = End
repeats (suc n) = Then (Repeat anything (repeats n)) End

abbrev pub Fits : Body → Type 0
Fits body = BodyFits small (λ string. 0) 0 body

pub record FittingRows : Type 0 where
  pub last_object : ObjectFits small 0 0 (The 2)
  pub no_such_object : ObjectFits small 0 0 (The 3) → ⊥
  pub inside_repeat : Fits (Then (Repeat anything it_goes) End)
  pub outside_repeat : Fits it_goes → ⊥
  pub nine_repeats : Fits (repeats 9)
  pub ten_repeats : Fits (repeats 10) → ⊥
  pub sixty_four_numbers : NumberFits small 0 0 (sum_of 63)
  pub sixty_five_numbers : NumberFits small 0 0 (sum_of 64) → ⊥
  pub counted_inside_eight : NumberFits small 8 0 (CountOf anything)
  pub counted_inside_nine : NumberFits small 9 0 (CountOf anything) → ⊥
  pub last_value : ConditionFits small 0 0 (IsSo (The 0) (Valued 0 2))
  pub no_such_value : ConditionFits small 0 0 (IsSo (The 0) (Valued 0 3)) → ⊥
  pub now_last_value : Fits (Then (NowValued (The 0) 0 2) End)
  pub now_no_such_value : Fits (Then (NowValued (The 0) 1 0) End) → ⊥
  pub value_in_description : TextFits small role.Describing (λ string. 0) 0 (ValueName 0 (The 0) Silence)
  pub no_such_kind_of_value : TextFits small role.Body (λ string. 0) 0 (ValueName 1 (The 0) Silence) → ⊥
  pub described_in_body : TextFits small role.Body (λ string. 0) 0 (DescriptionOf (The 0) Silence)
  pub described_in_description : TextFits small role.Describing (λ string. 0) 0 (DescriptionOf (The 0) Silence) → ⊥
