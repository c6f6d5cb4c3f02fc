-- The lowest line at which one of several is bad, as a function finds it.
use Rattle.std.proofs.Common.{◌≡◌, ℕ, ◌≤◌, Bool, true, false, List, [], ◌∷◌, refl, ap, sym, ◌∙◌, subst, arith}
use Rattle.std.specs.Prelude.{nat_lt, Option, Some, None, if◌then◌else◌}
use Rattle.std.specs.List.{All}
use Rattle.std.proofs.lemmas.Grind.{common_steps}
use Rattle.std.proofs.lemmas.List.Elements.{All-nil, All-cons, All-head, All-tail}
use Rattle.std.proofs.lemmas.Option.{same_Some}
use Rattle.i7_sentences.specs.Lowest.{IsLowest, IsNowhere, lower_of, lowest}
use Rattle.i7_sentences.proofs.Sameness.{all_there}

pub none-some : {A : Type 0} (x : A) → None ≡ Some x → ⊥
none-some x e = cc

pub less : (a b : ℕ) → nat_lt a b ≡ true → a ≤ b
less a b is = grind (arith, common_steps, is)

pub no_less : (a b : ℕ) → nat_lt a b ≡ false → b ≤ a
no_less a b is = grind (arith, common_steps, is)

less_less : (a b c : ℕ) → nat_lt b a ≡ true → nat_lt c b ≡ true → nat_lt c a ≡ true
less_less a b c one two = grind (arith, common_steps, one, two)

no_less_less : (a b c : ℕ) → nat_lt b a ≡ false → nat_lt c b ≡ false → nat_lt c a ≡ false
no_less_less a b c one two = grind (arith, common_steps, one, two)

pub at_most : (a b c : ℕ) → a ≤ b → b ≤ c → a ≤ c
at_most a b c low high = omega (arith, low, high)

-- the lower of two lines, by whether the second is lower
abbrev picked : ℕ → ℕ → Bool → Option ℕ
picked a b is_less = if is_less then Some b else Some a

three_lower : (a b c : ℕ) → lower_of (lower_of (Some a) (Some b)) (Some c) ≡ lower_of (Some a) (lower_of (Some b) (Some c))
three_lower a b c =
    let Goal : Bool → Type 0 = λ here. nat_lt b a ≡ here → lower_of (if here then Some b else Some a) (Some c) ≡ lower_of (Some a) (lower_of (Some b) (Some c))
    in (elim (nat_lt b a) as Goal [
      | true ↦ λ here.
          let Next : Bool → Type 0 = λ there. nat_lt c b ≡ there → (if there then Some c else Some b) ≡ lower_of (Some a) (if there then Some c else Some b)
          in (elim (nat_lt c b) as Next [
            | true ↦ λ there. rw (less_less a b c here there) refl
            | false ↦ λ there. rw here refl
          ]) refl
      | false ↦ λ here.
          let Next : Bool → Type 0 = λ there. nat_lt c b ≡ there → lower_of (Some a) (Some c) ≡ lower_of (Some a) (if there then Some c else Some b)
          in (elim (nat_lt c b) as Next [
            | true ↦ λ there. refl
            | false ↦ λ there. rw (no_less_less a b c here there) (rw here refl)
          ]) refl
    ]) refl

pub lower_lower : (a b c : Option ℕ) → lower_of (lower_of a b) c ≡ lower_of a (lower_of b c)
lower_lower None b c = refl
lower_lower (Some a) None c = refl
lower_lower (Some a) (Some b) None = no_more (nat_lt b a)
  where
    no_more : (is_less : Bool) → lower_of (picked a b is_less) None ≡ picked a b is_less
    no_more true = refl
    no_more false = refl
lower_lower (Some a) (Some b) (Some c) = three_lower a b c

pub lower_none : (a : Option ℕ) → lower_of a None ≡ a
lower_none None = refl
lower_none (Some a) = refl

pub ruleset lower_steps = (lower_lower, lower_none)

-- a function tells of each the line at which it is bad, if it is
pub record Tells {X : Type 0} (line_at : X → Option ℕ) (Bad : X → ℕ → Type 0) (x : X) : Type 0 where
  pub bad : (line : ℕ) → line_at x ≡ Some line → Bad x line
  pub told : (line : ℕ) → Bad x line → line_at x ≡ Some line

abbrev LowOf : {X : Type 0} → (X → ℕ → Type 0) → List X → Option ℕ → Type 0
LowOf Bad xs None = IsNowhere Bad xs
LowOf Bad xs (Some line) = IsLowest Bad xs line

abbrev pub NoLower : {X : Type 0} → (X → ℕ → Type 0) → ℕ → X → Type 0
NoLower Bad line x = (at : ℕ) → Bad x at → line ≤ at

abbrev pub Good : {X : Type 0} → (X → ℕ → Type 0) → X → Type 0
Good Bad x = (line : ℕ) → Bad x line → ⊥

pub good_no_lower : {X : Type 0} (Bad : X → ℕ → Type 0) (line : ℕ) (xs : List X) → All (Good Bad) xs → All (NoLower Bad line) xs
good_no_lower Bad line [] good = All-nil (NoLower Bad line)
good_no_lower Bad line (x ∷ xs) good = All-cons (NoLower Bad line) x xs (λ at bad. absurd (All-head (Good Bad) x xs good at bad)) (good_no_lower Bad line xs (All-tail (Good Bad) x xs good))

pub lower_yet : {X : Type 0} (Bad : X → ℕ → Type 0) (low line : ℕ) (xs : List X) → low ≤ line → All (NoLower Bad line) xs → All (NoLower Bad low) xs
lower_yet Bad low line [] less' all = All-nil (NoLower Bad low)
lower_yet Bad low line (x ∷ xs) less' all = All-cons (NoLower Bad low) x xs (λ at bad. at_most low line at less' (All-head (NoLower Bad line) x xs all at bad)) (lower_yet Bad low line xs less' (All-tail (NoLower Bad line) x xs all))

good_first : {X : Type 0} (line_at : X → Option ℕ) (Bad : X → ℕ → Type 0) (x : X) → Tells line_at Bad x → line_at x ≡ None → Good Bad x
good_first line_at Bad x tells none line bad = none-some line (sym none ∙ tells.told line bad)

line_first : {X : Type 0} (line_at : X → Option ℕ) (Bad : X → ℕ → Type 0) (x : X) (line : ℕ) → Tells line_at Bad x → line_at x ≡ Some line → (at : ℕ) → Bad x at → line ≡ at
line_first line_at Bad x line tells is at bad = same_Some line at (sym is ∙ tells.told at bad)

lowest_here : {X : Type 0} (line_at : X → Option ℕ) (Bad : X → ℕ → Type 0) (x : X) (xs : List X) (line : ℕ) → Tells line_at Bad x → line_at x ≡ Some line → All (NoLower Bad line) xs → IsLowest Bad (x ∷ xs) line
lowest_here line_at Bad x xs line tells is others = record {
  before = [];
  bad = x;
  behind = xs;
  place = refl;
  is_bad = tells.bad line is;
  lowest = All-cons (NoLower Bad line) x xs (λ at bad. subst (λ n. line ≤ n) (line_first line_at Bad x line tells is at bad) (let e : line ≤ line = omega arith in e)) others;
}

lowest_later : {X : Type 0} (Bad : X → ℕ → Type 0) (x : X) (xs : List X) (line : ℕ) → NoLower Bad line x → IsLowest Bad xs line → IsLowest Bad (x ∷ xs) line
lowest_later Bad x xs line first is = record {
  before = x ∷ is.before;
  bad = is.bad;
  behind = is.behind;
  place = ap (λ ys. x ∷ ys) is.place;
  is_bad = is.is_bad;
  lowest = All-cons (NoLower Bad line) x xs first is.lowest;
}

low_both : {X : Type 0} (line_at : X → Option ℕ) (Bad : X → ℕ → Type 0) (x : X) (xs : List X) (first later : ℕ) → Tells line_at Bad x → line_at x ≡ Some first → IsLowest Bad xs later → LowOf Bad (x ∷ xs) (lower_of (Some first) (Some later))
low_both line_at Bad x xs first later tells is low =
    let Goal : Bool → Type 0 = λ here. nat_lt later first ≡ here → LowOf Bad (x ∷ xs) (if here then Some later else Some first)
    in (elim (nat_lt later first) as Goal [
      | true ↦ λ here. lowest_later Bad x xs later (λ at bad. subst (λ n. later ≤ n) (line_first line_at Bad x first tells is at bad) (less later first here)) low
      | false ↦ λ here. lowest_here line_at Bad x xs first tells is (lower_yet Bad first later xs (no_less later first here) low.lowest)
    ]) refl

low_first : {X : Type 0} (line_at : X → Option ℕ) (Bad : X → ℕ → Type 0) (x : X) (xs : List X) (first later : Option ℕ) → Tells line_at Bad x → line_at x ≡ first → LowOf Bad xs later → LowOf Bad (x ∷ xs) (lower_of first later)
low_first line_at Bad x xs None None tells is low = All-cons (Good Bad) x xs (good_first line_at Bad x tells is) low
low_first line_at Bad x xs None (Some later) tells is low = lowest_later Bad x xs later (λ at bad. absurd (good_first line_at Bad x tells is at bad)) low
low_first line_at Bad x xs (Some first) None tells is low = lowest_here line_at Bad x xs first tells is (good_no_lower Bad first xs low)
low_first line_at Bad x xs (Some first) (Some later) tells is low = low_both line_at Bad x xs first later tells is low

low_is : {X : Type 0} (line_at : X → Option ℕ) (Bad : X → ℕ → Type 0) → ((x : X) → Tells line_at Bad x) → (xs : List X) → LowOf Bad xs (lowest line_at xs)
low_is line_at Bad tells [] = All-nil (Good Bad)
low_is line_at Bad tells (x ∷ xs) = low_first line_at Bad x xs (line_at x) (lowest line_at xs) (tells x) refl (low_is line_at Bad tells xs)

pub none_found : {X : Type 0} (line_at : X → Option ℕ) (Bad : X → ℕ → Type 0) → ((x : X) → Tells line_at Bad x) → (xs : List X) → lowest line_at xs ≡ None → IsNowhere Bad xs
none_found line_at Bad tells xs is = subst (LowOf Bad xs) is (low_is line_at Bad tells xs)

pub lowest_found : {X : Type 0} (line_at : X → Option ℕ) (Bad : X → ℕ → Type 0) → ((x : X) → Tells line_at Bad x) → (xs : List X) (line : ℕ) → lowest line_at xs ≡ Some line → IsLowest Bad xs line
lowest_found line_at Bad tells xs line is = subst (LowOf Bad xs) is (low_is line_at Bad tells xs)

pub nowhere_there : {X : Type 0} (Bad : X → ℕ → Type 0) (xs : List X) (line : ℕ) → IsNowhere Bad xs → IsLowest Bad xs line → ⊥
nowhere_there Bad xs line nowhere is = all_there (Good Bad) is.before is.bad is.behind (subst (All (Good Bad)) is.place nowhere) line is.is_bad

pub below : {X : Type 0} (Bad : X → ℕ → Type 0) (xs : List X) (a b : ℕ) → IsLowest Bad xs a → IsLowest Bad xs b → a ≤ b
below Bad xs a b one two = all_there (NoLower Bad a) two.before two.bad two.behind (subst (All (NoLower Bad a)) two.place one.lowest) b two.is_bad

pub both_ways : (a b : ℕ) → a ≤ b → b ≤ a → a ≡ b
both_ways a b low high = omega (arith, low, high)

pub nowhere_none : {X : Type 0} (line_at : X → Option ℕ) (Bad : X → ℕ → Type 0) → ((x : X) → Tells line_at Bad x) → (xs : List X) → IsNowhere Bad xs → lowest line_at xs ≡ None
nowhere_none line_at Bad tells xs nowhere =
    let Goal : Option ℕ → Type 0 = λ found. LowOf Bad xs found → found ≡ None
    in (elim (lowest line_at xs) as Goal [
      | None ↦ λ is. refl
      | Some line ↦ λ is. absurd (nowhere_there Bad xs line nowhere is)
    ]) (low_is line_at Bad tells xs)

pub lowest_line : {X : Type 0} (line_at : X → Option ℕ) (Bad : X → ℕ → Type 0) → ((x : X) → Tells line_at Bad x) → (xs : List X) (line : ℕ) → IsLowest Bad xs line → lowest line_at xs ≡ Some line
lowest_line line_at Bad tells xs line is =
    let Goal : Option ℕ → Type 0 = λ found. LowOf Bad xs found → found ≡ Some line
    in (elim (lowest line_at xs) as Goal [
      | None ↦ λ none. absurd (nowhere_there Bad xs line none is)
      | Some other ↦ λ found. ap (λ n. Some n) (both_ways other line (below Bad xs other line found is) (below Bad xs line other is found))
    ]) (low_is line_at Bad tells xs)

-- what a function finds to be the lowest is so, of one list among others
pub lowest_tells : {X : Type 0} {Y : Type 0} (line_at : X → Option ℕ) (Bad : X → ℕ → Type 0) → ((x : X) → Tells line_at Bad x) → (list_of : Y → List X) (y : Y) → Tells (λ it. lowest line_at (list_of it)) (λ it. IsLowest Bad (list_of it)) y
lowest_tells line_at Bad tells list_of y = record {
  bad = λ line is. lowest_found line_at Bad tells (list_of y) line is;
  told = λ line is. lowest_line line_at Bad tells (list_of y) line is;
}
