-- What is found of words behind `follow` is the rulebook that they name.
use Rattle.std.proofs.Common.{◌≡◌, ℕ, ◌+◌, ◌<◌, ◌≤◌, Bool, true, false, List, [], ◌∷◌, drop, refl, sym, ap, ◌∙◌, subst, arith, inl, inr}
use Rattle.std.specs.Prelude.{Option, Some, None, nat_lt}
use Rattle.std.specs.List.{position_from, slice_get}
use Rattle.std.specs.Option.{option_or}
use Rattle.std.proofs.lemmas.Bool.{ltb-true, ltb-false, cases_Bool}
use Rattle.world_meaning.specs.Spelling.{is_spelled}
use Rattle.i7_conditions.specs.Readings.{FirstOf}
use Rattle.i7_conditions.specs.Words.{Word, key_of}
use Rattle.i7_actions.specs.BookForms.{book_said, own_said, stage_said}
use Rattle.i7_actions.specs.Books.{IsAlone, IsBookFound, IsFollowed, IsOwn, IsOwnFound, IsStage, book_alone, first_own, is_action, stage_at}
use Rattle.i7_actions.specs.declared.action.Action.{Action}
use Rattle.i7_actions.proofs.Chosen.{at_place, next_place, none_further, one_at}

-- ---- one of two

-- whether a rulebook is told, and which
abbrev IsTold : (ℕ → Type 0) → Option ℕ → Type 0
IsTold Is (Some book) = Is book
IsTold Is None = (book : ℕ) → Is book → ⊥

told_first : (First Second : ℕ → Type 0) (a b : Option ℕ) → IsTold First a → IsTold Second b → IsTold (FirstOf First Second) (option_or a b)
told_first First Second (Some book) b h k = inl h
told_first First Second None (Some book) h k = inr (h, k)
told_first First Second None None h k = λ book either. elim either [
  | inl first ↦ h book first
  | inr second ↦ k book second.1
]

told_after : (First Second Third : ℕ → Type 0) (a b c : Option ℕ) → IsTold First a → IsTold Second b → IsTold Third c → IsTold (FirstOf First (FirstOf Second Third)) (option_or (option_or a b) c)
told_after First Second Third (Some book) b c h k l = inl h
told_after First Second Third None b c h k l = told_first First (FirstOf Second Third) None (option_or b c) h (told_first Second Third b c k l)

-- ---- built-in ones

alone_told : (words : List Word) (found : Option ℕ) → book_alone words ≡ found → IsTold (IsAlone words) found
alone_told words (Some book) e = e
alone_told words None e = λ book is. let same : None ≡ Some book = sym e ∙ is in absurd cc

stage_told : (actions : List Action) (words : List Word) (found : Option (ℕ × List Word)) → stage_at words ≡ found → IsTold (IsStage actions words) (stage_said actions found)
stage_told actions words None e = λ book is. let same : None ≡ Some is.0 = sym e ∙ is.1 in absurd cc
stage_told actions words (Some parts) e =
    elim (cases_Bool (is_action actions parts.1)) [
      | inl is ↦ rw is (parts, e, (is, refl))
      | inr isnt ↦ rw isnt (λ book stage.
          let both : Some stage.0 ≡ Some parts = sym stage.1 ∙ e in
          let same : stage.0 ≡ parts = cc in
          let is : is_action actions parts.1 ≡ true = ap (λ (p : ℕ × List Word). is_action actions p.1) (sym same) ∙ stage.2.0 in
          absurd cc)
    ]

-- ---- the author's

-- the first that passes the test, of those behind k
record IsFirst (test : List ℕ → Bool) (names : List (List ℕ)) (base k book : ℕ) : Type 0 where
  n : ℕ
  name : List ℕ
  from : k ≤ n
  at : slice_get names n ≡ Some name
  passes : test name ≡ true
  first : (m : ℕ) (other : List ℕ) → k ≤ m → m < n → slice_get names m ≡ Some other → test other ≡ true → ⊥
  numbered : book ≡ base + n

abbrev Passes : (List ℕ → Bool) → List (List ℕ) → ℕ → Type 0
Passes test names m = (name : List ℕ) × (slice_get names m ≡ Some name) × (test name ≡ true)

abbrev IsPlace : (List ℕ → Bool) → List (List ℕ) → ℕ → ℕ → Option ℕ → Type 0
IsPlace test names base k (Some book) = IsFirst test names base k book
IsPlace test names base k None = (m : ℕ) (name : List ℕ) → k ≤ m → slice_get names m ≡ Some name → test name ≡ true → ⊥

not_at : (test : List ℕ → Bool) (names rest : List (List ℕ)) (k m : ℕ) (name other : List ℕ) → drop k names ≡ name ∷ rest → test name ≡ false → k ≤ m → slice_get names m ≡ Some other
    → test other ≡ true → k + 1 ≤ m
not_at test names rest k m name other e isnt le at is =
    elim (cases_Bool (nat_lt k m)) [
      | inl lt ↦ omega (arith, ltb-true _ _ lt)
      | inr ge ↦
          let here : m ≡ k = omega (arith, le, ltb-false _ _ ge) in
          let same : other ≡ name = one_at names m k other name here at (at_place names rest k name e) in
          let does : test name ≡ true = ap test (sym same) ∙ is in
          absurd cc
    ]

place_later : (test : List ℕ → Bool) (names rest : List (List ℕ)) (base k : ℕ) (name : List ℕ) (found : Option ℕ) → drop k names ≡ name ∷ rest → test name ≡ false
    → IsPlace test names base (k + 1) found
    → IsPlace test names base k found
place_later test names rest base k name (Some book) e isnt h =
    record {
      n = h.n;
      name = h.name;
      from = omega (arith, h.from);
      at = h.at;
      passes = h.passes;
      numbered = h.numbered;
      first = λ m other le lt at is. h.first m other (not_at test names rest k m name other e isnt le at is) lt at is;
    }
place_later test names rest base k name None e isnt h = λ m other le at is. h m other (not_at test names rest k m name other e isnt le at is) at is

place_is : (test : List ℕ → Bool) (names : List (List ℕ)) (base k start : ℕ) (rest : List (List ℕ)) → drop k names ≡ rest → start ≡ base + k → IsPlace test names base k (position_from test start rest)
place_is test names base k start [] e at = λ m name le there is. none_further names k m name e le there
place_is test names base k start (name ∷ rest) e at =
    let on : IsPlace test names base (k + 1) (position_from test (start + 1) rest) = place_is test names base (k + 1) (start + 1) rest (next_place names rest k name e) (omega (arith, at)) in
    elim (cases_Bool (test name)) [
      | inl is ↦ rw is (record { n = k; name = name; from = omega arith; at = at_place names rest k name e; passes = is; numbered = at; first = λ m other le lt there passed. absurd (omega (arith, le, lt)) })
      | inr isnt ↦ rw isnt (place_later test names rest base k name (position_from test (start + 1) rest) e isnt on)
    ]

abbrev named_so : List Word → List ℕ → Bool
named_so words name = is_spelled (key_of words) name

own_as : (rulebooks : List (List ℕ)) (scenes : ℕ) (words : List Word) (found : Option ℕ) → IsPlace (named_so words) rulebooks (first_own scenes) 0 found → IsTold (IsOwn rulebooks scenes words) found
own_as rulebooks scenes words (Some book) h =
    record { k = h.n; name = h.name; at = h.at; named = h.passes; first = λ m other lt at is. h.first m other (omega arith) lt at is; numbered = h.numbered }
own_as rulebooks scenes words None h = λ book own. h own.k own.name (omega arith) own.at own.named

own_told : (rulebooks : List (List ℕ)) (scenes : ℕ) (words : List Word) → IsTold (IsOwn rulebooks scenes words) (own_said rulebooks scenes (key_of words))
own_told rulebooks scenes words =
    own_as rulebooks scenes words (own_said rulebooks scenes (key_of words)) (place_is (named_so words) rulebooks (first_own scenes) 0 (first_own scenes) rulebooks refl (omega arith))

own_found_as : (rulebooks : List (List ℕ)) (scenes : ℕ) (words : List Word) (found : Option ℕ) → IsTold (IsOwn rulebooks scenes words) found → IsOwnFound rulebooks scenes words found
own_found_as rulebooks scenes words (Some book) h = h
own_found_as rulebooks scenes words None h = h

pub own_books_found : (rulebooks : List (List ℕ)) (scenes : ℕ) (words : List Word) (found : Option ℕ) → found ≡ own_said rulebooks scenes (key_of words) → IsOwnFound rulebooks scenes words found
own_books_found rulebooks scenes words found e =
    own_found_as rulebooks scenes words found (subst (IsTold (IsOwn rulebooks scenes words)) (sym e) (own_told rulebooks scenes words))

-- ---- all

all_told : (actions : List Action) (rulebooks : List (List ℕ)) (scenes : ℕ) (words : List Word) → IsTold (IsFollowed actions rulebooks scenes words) (book_said actions rulebooks scenes words)
unfolding book_said
all_told actions rulebooks scenes words =
    told_after (IsAlone words) (IsStage actions words) (IsOwn rulebooks scenes words) (book_alone words) (stage_said actions (stage_at words)) (own_said rulebooks scenes (key_of words))
    (alone_told words (book_alone words) refl) (stage_told actions words (stage_at words) refl) (own_told rulebooks scenes words)

found_as : (actions : List Action) (rulebooks : List (List ℕ)) (scenes : ℕ) (words : List Word) (found : Option ℕ) → IsTold (IsFollowed actions rulebooks scenes words) found
    → IsBookFound actions rulebooks scenes words found
found_as actions rulebooks scenes words (Some book) h = h
found_as actions rulebooks scenes words None h = h

pub books_found : (actions : List Action) (rulebooks : List (List ℕ)) (scenes : ℕ) (words : List Word) (found : Option ℕ) → found ≡ book_said actions rulebooks scenes words
    → IsBookFound actions rulebooks scenes words found
books_found actions rulebooks scenes words found e =
    found_as actions rulebooks scenes words found (subst (IsTold (IsFollowed actions rulebooks scenes words)) (sym e) (all_told actions rulebooks scenes words))
