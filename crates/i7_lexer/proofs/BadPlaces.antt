-- The first place of bytes where no character of a source stands.
use Rattle.std.proofs.Common.{◌≡◌, ℕ, ◌+◌, ◌<◌, ◌≤◌, zero, suc, min, Bool, true, false, cond, List, [], ◌∷◌, length, drop, refl, inl, inr, ◌⊎◌, ⊎_elim, arith}
use Rattle.std.proofs.lemmas.Bool.{cases_lt}
use Rattle.std.specs.Str.Lossy.{utf8_valid_len}
use Rattle.i7_lexer.proofs.Controls.{begins_from, starts_from}
use Rattle.i7_lexer.specs.Sources.{starts_with_control, plain_len, IsBad, IsFirstBad, IsText}

-- a control character stands no further in front than the count says
plain_len-le : (bytes : List ℕ) (k : ℕ) → starts_with_control (drop k bytes) ≡ true → plain_len bytes ≤ k
plain_len-le [] k h = omega arith
plain_len-le (b ∷ bytes) zero h = rw h (omega arith)
plain_len-le (b ∷ bytes) (suc k) h =
    let ih = plain_len-le bytes k h in
    elim (starts_with_control (b ∷ bytes)) as (λ v. cond v 0 (1 + plain_len bytes) ≤ suc k) [ true ↦ omega arith | false ↦ omega arith ]

stops_at : (b : ℕ) (bytes : List ℕ) (v : Bool) → starts_with_control (b ∷ bytes) ≡ v → (plain_len bytes < length bytes → starts_with_control (drop (plain_len bytes) bytes) ≡ true) → cond v 0 (1 + plain_len bytes) < suc (length bytes) → starts_with_control (drop (cond v 0 (1 + plain_len bytes)) (b ∷ bytes)) ≡ true
stops_at b bytes true e next h = e
stops_at b bytes false e next h = let same : 1 + plain_len bytes ≡ suc (plain_len bytes) = omega arith in rw same (next (omega arith))

-- where the count ends within the bytes, a control character stands
plain_len-stops : (bytes : List ℕ) → plain_len bytes < length bytes → starts_with_control (drop (plain_len bytes) bytes) ≡ true
plain_len-stops [] h = absurd (omega arith)
plain_len-stops (b ∷ bytes) h = stops_at b bytes (starts_with_control (b ∷ bytes)) refl (plain_len-stops bytes) h

pub first_bad : (bytes : List ℕ) (valid plain place : ℕ) → valid ≡ utf8_valid_len bytes → plain ≡ plain_len bytes → place ≡ min valid plain → place < length bytes → IsFirstBad bytes place
first_bad bytes valid plain place v p m h = record {
  within = h;
  bad = bad_at (cases_lt plain valid);
  first = λ k lt bad. ⊎_elim (λ e. omega arith) (λ e. omega (arith, plain_len-le bytes k (starts_from (drop k bytes) e))) bad;
}
  where
    bad_at : (plain < valid) ⊎ (valid ≤ plain) → IsBad bytes place
    bad_at (inr le) = let e : place ≡ valid = omega arith in inl (cc)
    bad_at (inl lt) = let e : place ≡ plain_len bytes = omega arith in inr (rw e (begins_from _ (plain_len-stops bytes (omega arith))))

pub all_text : (bytes : List ℕ) (valid plain place : ℕ) → valid ≡ utf8_valid_len bytes → plain ≡ plain_len bytes → place ≡ min valid plain → length bytes ≤ place → IsText bytes
all_text bytes valid plain place v p m h = λ k lt bad. ⊎_elim (λ e. omega arith) (λ e. omega (arith, plain_len-le bytes k (starts_from (drop k bytes) e))) bad
