-- The end of a text: the first quote.
use Rattle.std.proofs.Common.{◌≡◌, ℕ, ◌+◌, ◌-◌, suc, Bool, true, false, not, eqb, cond, List, [], ◌∷◌, ◌++◌, length, Some, None, refl, ap, length-append, arith}
use Rattle.std.specs.List.{list_all}
use Rattle.std.proofs.lemmas.Bool.{eqb-true, not-true}
use Rattle.std.proofs.lemmas.List.{take_at}
use Rattle.i7_lexer.specs.Scans.{behind_quote, front_of}
use Rattle.i7_lexer.proofs.Runs.{and_left, and_right}

-- the front is what stands before the last byte before the rest
pub front_of_is : (front : List ℕ) (b : ℕ) (rest : List ℕ) → front_of (front ++ b ∷ rest) rest ≡ front
front_of_is front b rest =
    let same : length (front ++ b ∷ rest) ≡ length front + suc (length rest) = length-append front (b ∷ rest) in
    let count : length front ≡ length (front ++ b ∷ rest) - length rest - 1 = omega arith in
    take_at front (b ∷ rest) _ count

abbrev pub no_quote : List ℕ → Bool
no_quote bytes = list_all (λ b. not (eqb b 34)) bytes

pub record IsQuoted (bytes rest : List ℕ) : Type 0 where
  pub inner : List ℕ
  pub parts : bytes ≡ inner ++ 34 ∷ rest
  pub inside : no_quote inner ≡ true

quoted_by : (b : ℕ) (bytes rest : List ℕ) (v : Bool) → eqb b 34 ≡ v → (behind_quote bytes ≡ Some rest → IsQuoted bytes rest) → cond v (Some bytes) (behind_quote bytes) ≡ Some rest → IsQuoted (b ∷ bytes) rest
quoted_by b bytes rest true e next h =
    let first : b ≡ 34 = eqb-true b 34 e in
    let same : bytes ≡ rest = cc in
    record { inner = []; parts = cc; inside = refl }
quoted_by b bytes rest false e next h =
    let q = next h in
    record { inner = b ∷ q.inner; parts = ap (λ t. b ∷ t) q.parts; inside = rw e q.inside }

pub quoted : (bytes rest : List ℕ) → behind_quote bytes ≡ Some rest → IsQuoted bytes rest
quoted [] rest h = cc
quoted (b ∷ bytes) rest h = quoted_by b bytes rest (eqb b 34) refl (quoted bytes rest) h

unquoted_by : (b : ℕ) (bytes : List ℕ) (v : Bool) → eqb b 34 ≡ v → (behind_quote bytes ≡ None → no_quote bytes ≡ true) → cond v (Some bytes) (behind_quote bytes) ≡ None → no_quote (b ∷ bytes) ≡ true
unquoted_by b bytes true e next h = cc
unquoted_by b bytes false e next h = rw e (next h)

pub unquoted : (bytes : List ℕ) → behind_quote bytes ≡ None → no_quote bytes ≡ true
unquoted [] h = refl
unquoted (b ∷ bytes) h = unquoted_by b bytes (eqb b 34) refl (unquoted bytes) h

pub behind_quote_at : (inner rest : List ℕ) → no_quote inner ≡ true → behind_quote (inner ++ 34 ∷ rest) ≡ Some rest
behind_quote_at [] rest h = refl
behind_quote_at (b ∷ inner) rest h =
    let first : eqb b 34 ≡ false = not-true (eqb b 34) (and_left _ (no_quote inner) h) in
    rw first (behind_quote_at inner rest (and_right (not (eqb b 34)) _ h))

pub behind_quote_none : (bytes : List ℕ) → no_quote bytes ≡ true → behind_quote bytes ≡ None
behind_quote_none [] h = refl
behind_quote_none (b ∷ bytes) h =
    let first : eqb b 34 ≡ false = not-true (eqb b 34) (and_left _ (no_quote bytes) h) in
    rw first (behind_quote_none bytes (and_right (not (eqb b 34)) _ h))
