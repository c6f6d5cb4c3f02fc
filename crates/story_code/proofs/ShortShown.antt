-- The rows of what is short hold.
use Rattle.std.proofs.Common.{◌≡◌, refl, ℕ, suc, zero, ◌+◌, ◌*◌, ◌≤◌, length, arith}
use Rattle.play_meaning.specs.Translation.{strings_of_body}
use Rattle.story_code.specs.FittingRows.{repeats, small, sum_of}
use Rattle.story_code.specs.Sayable.{AdjectivesAreSayable, BodyIsSayable, ObjectIsThere, TermsAreSayable, froms, numbers_joined}
use Rattle.story_code.specs.ShortRows.{CanSay, ShortRows, beyond, going, unseen}
use Rattle.story_code.specs.Shortness.{words_of_body}

going_words : (n : ℕ) → words_of_body (going n) ≡ 4 * n
going_words zero = refl
going_words (suc n) = omega (arith, going_words n)

going_sayable : (n : ℕ) → CanSay (going n)
going_sayable zero = tt
going_sayable (suc n) = ((omega arith, omega arith), going_sayable n)

going_silent : (n : ℕ) → length (strings_of_body (going n)) ≤ 0
unfolding strings_of_body
going_silent zero = omega arith
going_silent (suc n) = going_silent n

beyond_there : (n : ℕ) → ObjectIsThere small 0 (beyond n)
beyond_there zero = omega arith
beyond_there (suc n) = (beyond_there n, beyond_there n)

beyond_deep : (n : ℕ) → froms (beyond n) ≡ n
beyond_deep zero = refl
beyond_deep (suc n) = omega (arith, beyond_deep n)

unseen_sayable : (n : ℕ) → AdjectivesAreSayable small (unseen n)
unseen_sayable zero = tt
unseen_sayable (suc n) = (tt, unseen_sayable n)

repeats_sayable : (m k : ℕ) → k + m ≤ 8 → BodyIsSayable small (λ string. 0) k (repeats m)
repeats_sayable zero k low = tt
repeats_sayable (suc m) k low = ((omega (arith, low), ((omega arith, (tt, tt)), repeats_sayable m (k + 1) (omega (arith, low)))), tt)

repeats_are_few : (m k : ℕ) → BodyIsSayable small (λ string. 0) k (repeats (suc m)) → k + suc m ≤ 8
repeats_are_few zero k is = omega (arith, is.0.0)
repeats_are_few (suc m) k is = omega (arith, repeats_are_few m (k + 1) is.0.1.1)

sum_joined : (n : ℕ) → numbers_joined (sum_of n) ≡ n + 1
sum_joined zero = refl
sum_joined (suc n) = omega (arith, sum_joined n)

sum_sayable : (n : ℕ) → TermsAreSayable small 0 (sum_of n)
sum_sayable zero = refl
sum_sayable (suc n) = (refl, sum_sayable n)

pub rows_are_short : ShortRows
rows_are_short = record {
  wears = refl;
  looks = refl;
  stops = refl;
  number = refl;
  increase = refl;
  text = refl;
  valued = refl;
  value_text = refl;
  now_valued = refl;
  long = going_words 125;
  long_is_short = (going_sayable 125, (omega (arith, going_words 125), omega (arith, going_silent 125)));
  hard = refl;
  hard_is_short = ((omega arith, ((beyond_there 7, omega (arith, beyond_deep 7)), (omega arith, (unseen_sayable 9, omega arith)))), omega arith);
  eight_repeats = repeats_sayable 8 0 (omega arith);
  nine_repeats = λ is. let few = repeats_are_few 8 0 is in omega (arith, few);
  thirty_three_numbers = (omega (arith, sum_joined 32), sum_sayable 32);
  thirty_four_numbers = λ is. omega (arith, is.0, sum_joined 33);
  denied_once = tt;
  denied_twice = λ is. is;
  and_before_or = (omega arith, (tt, (tt, tt)));
  or_in_or = λ is. omega (arith, is.0);
}
