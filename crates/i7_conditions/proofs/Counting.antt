-- What words are found to be as a number is what they are.
use Rattle.std.proofs.Common.{◌≡◌, ℕ, zero, suc, ◌-◌, ◌<◌, ◌≤◌, min, true, false, ◌||◌, List, [], ◌∷◌, length, take, drop, refl, sym, ap, ◌∙◌, subst, arith, inl, inr}
use Rattle.std.specs.Prelude.{Option, Some, None, is_some, nat_lt}
use Rattle.std.proofs.lemmas.List.{drop_all, take_all}
use Rattle.std.proofs.lemmas.Bool.{ltb-true, ltb-false, cases_Bool, or_right}
use Rattle.std.proofs.lemmas.Bool.Decides.{nat_tests}
use Rattle.play_meaning.specs.Meant.{by_operator}
use Rattle.play_meaning.specs.Trees.{Number}
use Rattle.play_meaning.specs.declared.tree.number.Operator.{Operator}
use Rattle.play_meaning.specs.declared.tree.number.Operator.TheVariants.{Plus, Minus, Times}
use Rattle.i7_conditions.specs.Joining.{Column, Joint, and_part, chain, chained, column_of, first_part, follow, is_read, is_term, joined, looked, number_from, number_said, part_by, part_from}
use Rattle.i7_conditions.specs.Numbers.{CountsAs, IsNumber, IsNumberFound, IsShortestPart}
use Rattle.i7_conditions.specs.Operators.{behind_operator, is_operator, operator_at, operator_of}
use Rattle.i7_conditions.specs.Scopes.{Scope}
use Rattle.i7_conditions.specs.TermForms.{term_said}
use Rattle.i7_conditions.specs.Terms.{IsTermFound, IsTermMeant, is_over}
use Rattle.i7_conditions.specs.Words.{Word}
use Rattle.i7_conditions.specs.declared.found.Found.{Found}
use Rattle.i7_conditions.specs.declared.found.Found.TheVariants.{Read, TooMany, Unread}
use Rattle.i7_conditions.proofs.Alone.{alone_once, term_found}
use Rattle.i7_conditions.proofs.FirstParts.{IsEnd, IsFirstEnd, Tells, column_tells, is_alone, left_behind, part_is, tells_behind, top}

-- ---- a number is parted

-- the word with which words begin
pub record BeginsWith (words : List Word) (operator : Operator) (rest : List Word) : Type 0 where
  pub word : Word
  pub at : words ≡ word ∷ rest
  pub is : operator_of word ≡ Some operator

abbrev operator_in : Option (Operator × List Word) → Operator
operator_in None = Plus
operator_in (Some parts) = parts.0

abbrev rest_in : Option (Operator × List Word) → List Word
rest_in None = []
rest_in (Some parts) = parts.1

begun : (word : Word) (words : List Word) (found : Option Operator) (operator : Operator) (rest : List Word) → operator_of word ≡ found → behind_operator found words ≡ Some (operator, rest) → BeginsWith (word ∷ words) operator rest
begun word words None operator rest e at = absurd cc
begun word words (Some other) operator rest e at = record { word = word; at = ap (λ (more : List Word). word ∷ more) (ap rest_in at); is = e ∙ ap Some (ap operator_in at) }

begins_with : (words : List Word) (operator : Operator) (rest : List Word) → operator_at words ≡ Some (operator, rest) → BeginsWith words operator rest
begins_with [] operator rest e = absurd cc
begins_with (word ∷ words) operator rest e = begun word words (operator_of word) operator rest refl e

joins_by : (word : Word) (operator : Operator) → operator_of word ≡ Some operator → is_operator word ≡ true
joins_by word operator e = ap is_some e

some_part : (s : Scope) (column : Column) (words : List Word) → is_some (part_from s column words 0 words) ≡ true → is_some (first_part s column words) ≡ true
some_part s column words some =
    elim (cases_Bool (is_term s words)) [
      | inl is ↦ rw is refl
      | inr isnt ↦ rw isnt some
    ]

end_is_some : (s : Scope) (column : Column) (words : List Word) (n : ℕ) (found : Option ℕ) → IsFirstEnd s column words 0 found → IsEnd s column words n → is_some found ≡ true
end_is_some s column words n None h end = absurd (h n (omega arith) end)
end_is_some s column words n (Some m) h end = refl

end_of : (s : Scope) (words : List Word) (n : ℕ) (operator : Operator) (rest : List Word) (t : Number) → IsTermMeant s (take n words) t → operator_at (drop n words) ≡ Some (operator, rest) → is_some (top s rest) ≡ true
    → IsEnd s (column_of s words) words n
end_of s words n operator rest t meant e some =
    let begin = begins_with (drop n words) operator rest e in
    let is = joins_by begin.word operator begin.is in
    record { word = begin.word; rest = rest; at = begin.at; joins = is; told = ap is_some (column_tells s words n begin.word rest begin.at is) ∙ some; part = is_alone s (take n words) t meant }

number_begins : (s : Scope) (words : List Word) (m : Number) → IsNumber s words m → is_some (top s words) ≡ true
number_begins s words m (IsNumber.alone {t = t} meant) = let is = is_alone s words t meant in rw is refl
number_begins s words m (IsNumber.joined {rest = rest} {operator = operator} {t = t} {m = more} n meant e number) =
    let end = end_of s words n operator rest t meant e (number_begins s rest more number) in
    some_part s (column_of s words) words (end_is_some s (column_of s words) words n (part_from s (column_of s words) words 0 words) (part_is s (column_of s words) words 0 words refl) end)

-- ---- the parts are followed

-- a number that is meant, perhaps with too much of it
abbrev IsFollowed : Scope → List Word → Found Number → Type 0
IsFollowed s words (Read m) = CountsAs s words m × (is_over m ≡ false)
IsFollowed s words TooMany = (m : Number) × CountsAs s words m × (is_over m ≡ true)
IsFollowed s words Unread = ⊥

follow_skip : (s : Scope) (column : Column) (n : ℕ) (words : List Word) → follow s column n words ≡ follow s column 0 (drop n words)
follow_skip s column zero words = refl
follow_skip s column (suc n) [] = refl
follow_skip s column (suc n) (word ∷ words) =
    let some : nat_lt 0 (suc n) ≡ true = grind (arith, nat_tests) in
    let less : suc n - 1 ≡ n = omega arith in
    rw (some, less) (follow_skip s column n words)

within_words : (words : List Word) (n : ℕ) → n ≤ length words → take (min n (length words)) words ≡ take n words
within_words words n le = let same : min n (length words) ≡ n = omega (arith, le) in ap (λ (m : ℕ). take m words) same

all_words : (words : List Word) (n : ℕ) → length words ≡ n → take (min n (length words)) words ≡ words
all_words words n e = take_all (min n (length words)) words (omega (arith, e))

-- one part that is all the words
whole_found : (s : Scope) (words : List Word) (found : Found Number) → IsTermFound s words found → is_read found ≡ true → IsFollowed s words (chained found (Read []))
whole_found s words (Read t) h is = (CountsAs.alone h.0, h.1)
whole_found s words TooMany h is = (h.0, CountsAs.alone h.1, h.2)
whole_found s words Unread h is = absurd cc

whole_follows : (s : Scope) (column : Column) (words : List Word) (n : ℕ) → length words ≡ n → is_term s words ≡ true → IsFollowed s words (chained (term_said s (take (min n (length words)) words)) (follow s column n words))
whole_follows s column words n e is =
    let none : follow s column n words ≡ Read [] = follow_skip s column n words ∙ ap (follow s column 0) (drop_all n words (omega (arith, e))) in
    rw (all_words words n e, none) (whole_found s words (term_said s words) (term_found s words) is)

-- what is known of a first part, and of the operator and the number behind it
pub record IsJoined (s : Scope) (words rest : List Word) (n : ℕ) (operator : Operator) : Type 0 where
  pub none : (t : Number) → IsTermMeant s words t → ⊥
  pub at : operator_at (drop n words) ≡ Some (operator, rest)
  pub shortest : IsShortestPart s words n

over_joined : (operator : Operator) (a b : Number) → is_over (by_operator operator a b) ≡ (is_over a || is_over b)
over_joined Plus a b = refl
over_joined Minus a b = refl
over_joined Times a b = refl

some_follows : (s : Scope) (words : List Word) (found : Found Number) → IsFollowed s words found → (m : Number) × CountsAs s words m
some_follows s words (Read m) h = (m, h.0)
some_follows s words TooMany h = (h.0, h.1)
some_follows s words Unread h = absurd h

is_joined : (s : Scope) (words rest : List Word) (n : ℕ) (operator : Operator) (t m : Number) → IsJoined s words rest n operator → IsTermMeant s (take n words) t → CountsAs s rest m → CountsAs s words (by_operator operator t m)
is_joined s words rest n operator t m h meant counts = CountsAs.joined n h.none meant h.at h.shortest counts

first_over : (s : Scope) (words rest : List Word) (n : ℕ) (operator : Operator) (t m : Number) → IsJoined s words rest n operator → IsTermMeant s (take n words) t → is_over t ≡ true → CountsAs s rest m → IsFollowed s words TooMany
first_over s words rest n operator t m h meant over counts =
    let is : is_over (by_operator operator t m) ≡ true = over_joined operator t m ∙ rw over refl in
    (by_operator operator t m, is_joined s words rest n operator t m h meant counts, is)

rest_over : (s : Scope) (words rest : List Word) (n : ℕ) (operator : Operator) (t m : Number) → IsJoined s words rest n operator → IsTermMeant s (take n words) t → CountsAs s rest m → is_over m ≡ true → IsFollowed s words TooMany
rest_over s words rest n operator t m h meant counts over =
    let is : is_over (by_operator operator t m) ≡ true = over_joined operator t m ∙ or_right (is_over t) (is_over m) over in
    (by_operator operator t m, is_joined s words rest n operator t m h meant counts, is)

none_over : (s : Scope) (words rest : List Word) (n : ℕ) (operator : Operator) (t m : Number) → IsJoined s words rest n operator → IsTermMeant s (take n words) t → is_over t ≡ false → CountsAs s rest m → is_over m ≡ false
    → IsFollowed s words (Read (by_operator operator t m))
none_over s words rest n operator t m h meant a counts b =
    let is : is_over (by_operator operator t m) ≡ false = over_joined operator t m ∙ rw (a, b) refl in
    (is_joined s words rest n operator t m h meant counts, is)

joined_follows : (s : Scope) (words rest : List Word) (n : ℕ) (operator : Operator) → IsJoined s words rest n operator → (first : Found Number) → IsTermFound s (take n words) first → is_read first ≡ true
    → (second : Found Number) (others : Found (List Joint)) → IsFollowed s rest (chained second others) → IsFollowed s words (chained first (joined operator second others))
joined_follows s words rest n operator h Unread first is second others more = absurd cc
joined_follows s words rest n operator h TooMany first is second others more =
    let some = some_follows s rest (chained second others) more in
    first_over s words rest n operator first.0 some.0 h first.1 first.2 some.1
joined_follows s words rest n operator h (Read t) first is (Read u) (Read joints) more = none_over s words rest n operator t (chain u joints) h first.0 first.1 more.0 more.1
joined_follows s words rest n operator h (Read t) first is (Read u) TooMany more = rest_over s words rest n operator t more.0 h first.0 more.1 more.2
joined_follows s words rest n operator h (Read t) first is (Read u) Unread more = absurd more
joined_follows s words rest n operator h (Read t) first is TooMany others more = rest_over s words rest n operator t more.0 h first.0 more.1 more.2
joined_follows s words rest n operator h (Read t) first is Unread others more = absurd more

-- ---- the column is followed

abbrev number_by : Scope → Column → ℕ → List Word → Found Number
number_by s column n words = chained (term_said s (take (min n (length words)) words)) (follow s column n words)

shortest_so : (s : Scope) (words : List Word) (n : ℕ) → ((m : ℕ) → 0 ≤ m → m < n → IsEnd s (column_of s words) words m → ⊥) → IsShortestPart s words n
shortest_so s words n none k lt t m operator rest meant e number = none k (omega arith) lt (end_of s words k operator rest t meant e (number_begins s rest m number))

none_alone : (s : Scope) (words : List Word) → is_term s words ≡ false → (t : Number) → IsTermMeant s words t → ⊥
none_alone s words never t meant = let is = is_alone s words t meant in absurd cc

-- an operator, and of how many words the part behind it is
pub record IsBehind (s : Scope) (word : Word) (rest : List Word) : Type 0 where
  pub operator : Operator
  pub count : ℕ
  pub is : operator_of word ≡ Some operator
  pub told : top s rest ≡ Some count

some_there : {X : Type 0} (found : Option X) → is_some found ≡ true → (x : X) × (found ≡ Some x)
some_there None e = absurd cc
some_there (Some x) e = (x, refl)

behind_end : (s : Scope) (words : List Word) (n : ℕ) (end : IsEnd s (column_of s words) words n) → IsBehind s end.word end.rest
behind_end s words n end =
    let by = some_there (operator_of end.word) end.joins in
    let some : is_some (top s end.rest) ≡ true = sym (ap is_some (column_tells s words n end.word end.rest end.at end.joins)) ∙ end.told in
    let count = some_there (top s end.rest) some in
    record { operator = by.0; count = count.0; is = by.1; told = count.1 }

follow_end : (s : Scope) (column : Column) (words rest : List Word) (n : ℕ) (word : Word) (behind : IsBehind s word rest) → Tells s column words → drop n words ≡ word ∷ rest → is_operator word ≡ true
    → follow s column n words ≡ joined behind.operator (term_said s (take (min behind.count (length rest)) rest)) (follow s column behind.count rest)
follow_end s column words rest n word behind tells at is =
    let told : looked column (length rest) ≡ Some behind.count = tells n word rest at is ∙ behind.told in
    let part : part_by (operator_of word) (looked column (length rest)) ≡ Some (behind.operator, behind.count) = rw (behind.is, told) refl in
    follow_skip s column n words ∙ ap (follow s column 0) at ∙ ap (λ found. and_part s found rest (λ count. follow s column count rest)) part

at_operator : (s : Scope) (words rest : List Word) (n : ℕ) (word : Word) (behind : IsBehind s word rest) → drop n words ≡ word ∷ rest → operator_at (drop n words) ≡ Some (behind.operator, rest)
at_operator s words rest n word behind at = ap operator_at at ∙ ap (λ found. behind_operator found rest) behind.is

part_follows : (s : Scope) (column : Column) (words : List Word) (n : ℕ) → Tells s column words → is_term s words ≡ false → IsFirstEnd s (column_of s words) words 0 (Some n)
    → ((rest : List Word) (k : ℕ) → length rest < length words → Tells s column rest → top s rest ≡ Some k → IsFollowed s rest (number_by s column k rest)) → IsFollowed s words (number_by s column n words)
part_follows s column words n tells never h next =
    let end = h.1 in
    let behind = behind_end s words n end in
    let long = left_behind words end.rest n end.word end.at in
    let more = next end.rest behind.count (omega (arith, long)) (tells_behind s column words end.rest n end.word end.at tells) behind.told in
    let is : IsJoined s words end.rest n behind.operator = record { none = none_alone s words never; at = at_operator s words end.rest n end.word behind end.at; shortest = shortest_so s words n h.2 } in
    let all = joined_follows s words end.rest n behind.operator is (term_said s (take n words)) (term_found s (take n words)) end.part (term_said s (take (min behind.count (length end.rest)) end.rest)) (follow s column behind.count end.rest) more in
    rw (within_words words n (omega (arith, long)), follow_end s column words end.rest n end.word behind tells end.at end.joins) all

by_top : (s : Scope) (column : Column) (words : List Word) (n : ℕ) → Tells s column words → top s words ≡ Some n
    → ((rest : List Word) (k : ℕ) → length rest < length words → Tells s column rest → top s rest ≡ Some k → IsFollowed s rest (number_by s column k rest)) → IsFollowed s words (number_by s column n words)
by_top s column words n tells e next =
    elim (cases_Bool (is_term s words)) [
      | inl is ↦ let all : Some (length words) ≡ Some n = rw is at e in let same : length words ≡ n = cc in whole_follows s column words n same is
      | inr isnt ↦
          let first : part_from s (column_of s words) words 0 words ≡ Some n = rw isnt at e in
          part_follows s column words n tells isnt (subst (IsFirstEnd s (column_of s words) words 0) first (part_is s (column_of s words) words 0 words refl)) next
    ]

follow_means : (fuel : ℕ) (s : Scope) (column : Column) (words : List Word) (n : ℕ) → length words ≤ fuel → Tells s column words → top s words ≡ Some n → IsFollowed s words (number_by s column n words)
follow_means zero s column words n le tells e = by_top s column words n tells e (λ rest k lt tells_rest told. absurd (omega (arith, le, lt)))
follow_means (suc fuel) s column words n le tells e = by_top s column words n tells e (λ rest k lt tells_rest told. follow_means fuel s column rest k (omega (arith, le, lt)) tells_rest told)

-- ---- what is found

followed_found : (s : Scope) (words : List Word) (found : Found Number) → IsFollowed s words found → IsNumberFound s words found
followed_found s words (Read m) h = h
followed_found s words TooMany h = h
followed_found s words Unread h = absurd h

never_begun : (s : Scope) (words : List Word) → top s words ≡ None → (m : Number) → IsNumber s words m → ⊥
never_begun s words e m number = let some = number_begins s words m number in let none : is_some (top s words) ≡ false = ap is_some e in absurd cc

by_first : (s : Scope) (words : List Word) (first : Option ℕ) → top s words ≡ first → IsNumberFound s words (number_from s (column_of s words) first words)
by_first s words None e = never_begun s words e
by_first s words (Some n) e = followed_found s words (number_by s (column_of s words) n words) (follow_means (length words) s (column_of s words) words n (omega arith) (column_tells s words) e)

pub numbers_found : (s : Scope) (words : List Word) (found : Found Number) → found ≡ number_said s words → IsNumberFound s words found
unfolding number_said
numbers_found s words found e = subst (IsNumberFound s words) (sym e) (by_first s words (top s words) refl)

-- ---- one reading

pub counted : (s : Scope) (words : List Word) (m : Number) → CountsAs s words m → IsNumber s words m
counted s words m (CountsAs.alone meant) = IsNumber.alone meant
counted s words m (CountsAs.joined {rest = rest} {m = more} n none meant at shortest counts) = IsNumber.joined n meant at (counted s rest more counts)

pub counted_once : (s : Scope) (words : List Word) (m p : Number) → CountsAs s words m → CountsAs s words p → m ≡ p
counted_once s words m p (CountsAs.alone {t = t} a) (CountsAs.alone {t = u} b) = alone_once s words t u a b
counted_once s words m p (CountsAs.alone {t = t} a) (CountsAs.joined n none meant at shortest counts) = absurd (none t a)
counted_once s words m p (CountsAs.joined n none meant at shortest counts) (CountsAs.alone {t = t} a) = absurd (none t a)
counted_once s words m p (CountsAs.joined {rest = rest} {operator = operator} {t = t} {m = more} n none meant at shortest counts) (CountsAs.joined {rest = rest2} {operator = operator2} {t = u} {m = other} k none2 meant2 at2 shortest2 counts2) =
    elim (cases_Bool (nat_lt n k)) [
      | inl lt ↦ absurd (shortest2 n (ltb-true _ _ lt) t more operator rest meant at (counted s rest more counts))
      | inr ge ↦ elim (cases_Bool (nat_lt k n)) [
        | inl lt ↦ absurd (shortest k (ltb-true _ _ lt) u other operator2 rest2 meant2 at2 (counted s rest2 other counts2))
        | inr le ↦
            let same : k ≡ n = omega (arith, ltb-false _ _ ge, ltb-false _ _ le) in
            let one : t ≡ u = alone_once s (take n words) t u meant (subst (λ (i : ℕ). IsTermMeant s (take i words) u) same meant2) in
            let parts : Some (operator, rest) ≡ Some (operator2, rest2) = sym at ∙ ap (λ (i : ℕ). operator_at (drop i words)) (sym same) ∙ at2 in
            let by : operator ≡ operator2 = ap operator_in parts in
            let end : rest2 ≡ rest = sym (ap rest_in parts) in
            let tail : more ≡ other = counted_once s rest more other counts (subst (λ (words : List Word). CountsAs s words other) end counts2) in
            ap (λ (o : Operator). by_operator o t more) by ∙ ap (λ (first : Number). by_operator operator2 first more) one ∙ ap (by_operator operator2 u) tail
      ]
    ]
