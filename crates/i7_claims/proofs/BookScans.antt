-- The scan for rulebooks whose name is another's finds the lowest line of such a one.
use Rattle.std.proofs.Common.{◌≡◌, ℕ, Bool, true, false, List, [], ◌∷◌, ◌++◌, refl, sym, ap, ◌∙◌, subst, append-nil, append_assoc, ◌||◌, inl, inr}
use Rattle.std.specs.Prelude.{bytes_eq, fold, Decides}
use Rattle.std.proofs.lemmas.List.Folds.{list_any-append}
use Rattle.object_words.specs.Mentions.{mention}
use Rattle.i7_claims.specs.NameScans.{book_twice, is_book_twice, shows_book, with_book, with_book_of}
use Rattle.i7_claims.specs.Scans.{IsLowest, ShownBy}
use Rattle.i7_claims.specs.Standings.{IsBookTwice, books_in, books_of, built_in_books, has_name}
use Rattle.i7_claims.specs.declared.claim.Claim.{Claim}
use Rattle.i7_claims.specs.declared.claim.Fact.{Fact}
use Rattle.i7_claims.specs.declared.claim.Fact.TheVariants.{Rulebook}
use Rattle.std.proofs.lemmas.Slice.Eq.{bytes_eq-Decides}
use Rattle.std.proofs.lemmas.Bool.{cases_Bool}
use Rattle.i7_claims.proofs.Lowest.{lowest_is}
use Rattle.i7_claims.proofs.NameScans.{never}

or_twice : (a b : Bool) → (b ≡ true → a ≡ true) → (a || (b || false)) ≡ a
or_twice true b h = refl
or_twice false true h = sym (h refl)
or_twice false false h = refl

-- a name that is mentioned is among the others as if it stood behind them
pub mention_has : (names : List (List ℕ)) (name other : List ℕ) → has_name (mention names name) other ≡ has_name (names ++ name ∷ []) other
mention_has names name other =
    elim (cases_Bool (has_name names name)) [
      | inl is ↦ rw is (sym (list_any-append (bytes_eq other) names (name ∷ []) ∙ or_twice (has_name names other) (bytes_eq other name) (λ same. ap (has_name names) ((bytes_eq-Decides other name).0 same) ∙ is)))
      | inr isnt ↦ rw isnt refl
    ]

pub has_more : (a b more : List (List ℕ)) (other : List ℕ) → has_name a other ≡ has_name b other → has_name (a ++ more) other ≡ has_name (b ++ more) other
has_more a b more other h = list_any-append (bytes_eq other) a more ∙ ap (λ x. x || has_name more other) h ∙ sym (list_any-append (bytes_eq other) b more)

fact_has : (f : Fact) (books : List (List ℕ)) (other : List ℕ) → has_name (with_book books f) other ≡ has_name (books ++ books_in f) other
fact_has (Rulebook name) books other = mention_has books name other
fact_has _ books other = ap (λ (s : List (List ℕ)). has_name s other) (sym (append-nil books))

fold_books : (claims : List Claim) (books : List (List ℕ)) (other : List ℕ) → has_name (fold with_book_of books claims) other ≡ has_name (books ++ books_of claims) other
fold_books [] books other = ap (λ (s : List (List ℕ)). has_name s other) (sym (append-nil books))
fold_books (c ∷ cs) books other =
    fold_books cs (with_book books c.fact) other
    ∙ has_more (with_book books c.fact) (books ++ books_in c.fact) (books_of cs) other (fact_has c.fact books other)
    ∙ ap (λ (s : List (List ℕ)). has_name s other) (append_assoc books (books_in c.fact) (books_of cs))

pub test_decides : (b : Bool) → Decides b (b ≡ true)
test_decides b = (λ h. h, λ h. h)

book_decides : (before : List Claim) (f : Fact) → Decides (is_book_twice (fold with_book_of built_in_books before) f) (IsBookTwice before f)
book_decides before (Rulebook name) = subst (λ (b : Bool). Decides b (IsBookTwice before (Rulebook name))) (sym (fold_books before built_in_books name)) (test_decides (has_name (built_in_books ++ books_of before) name))
book_decides before _ = never (λ h. h)

pub book_lowest : (claims : List Claim) → IsLowest (ShownBy (λ before c. IsBookTwice before c.fact) claims) (book_twice claims)
book_lowest claims = lowest_is (λ before c. IsBookTwice before c.fact) shows_book with_book_of built_in_books claims (λ before c after split. book_decides before c.fact)
