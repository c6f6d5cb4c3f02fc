-- Strings that are counted one behind the other.
use Rattle.std.proofs.Common.{◌≡◌, ◌∙◌, ap, sym, refl, ℕ, suc, ◌+◌, ◌-◌, ◌≤◌, nat_le, Bool, true, false, max, if◌then◌else◌, List, [], ◌∷◌, ◌++◌, length, take, drop, get_or, Option, Some, None, arith}
use Rattle.std.specs.Prelude.{map}
use Rattle.std.proofs.lemmas.List.{take_all}
use Rattle.story_code.specs.Fronts.{code_in}
use Rattle.story_code.specs.Runs.{code_told}
use Rattle.story_code.specs.Soundness.{IsSoundCode, Judged}
use Rattle.story_code.proofs.Exact.{spells_in}
use Rattle.story_code.proofs.Fetched.{told}
use Rattle.code_table.specs.Growing.{count_code}
use Rattle.code_table.specs.Strings.{counted_on, strings_in, strings_of}

pub strings_then : (next more : ℕ) (a b : List ℕ) → counted_on next a ≡ Some more → counted_on next (a ++ b) ≡ counted_on more b
strings_then next more [] b is = let same : next ≡ more = cc in ap (λ n. counted_on n b) same
strings_then next more (s ∷ a) b is = by (nat_le s next) is (λ later. strings_then (max next (s + 1)) more a b later)
  where
    by : (x : Bool) → (if x then counted_on (max next (s + 1)) a else None) ≡ Some more → (counted_on (max next (s + 1)) a ≡ Some more → counted_on (max next (s + 1)) (a ++ b) ≡ counted_on more b)
        → (if x then counted_on (max next (s + 1)) (a ++ b) else None) ≡ counted_on more b
    by true is later = later is
    by false is later = absurd cc

pub strings_stop : (next : ℕ) (a b : List ℕ) → counted_on next a ≡ None → counted_on next (a ++ b) ≡ None
strings_stop next [] b is = absurd cc
strings_stop next (s ∷ a) b is = by (nat_le s next) is (λ later. strings_stop (max next (s + 1)) a b later)
  where
    by : (x : Bool) → (if x then counted_on (max next (s + 1)) a else None) ≡ None → (counted_on (max next (s + 1)) a ≡ None → counted_on (max next (s + 1)) (a ++ b) ≡ None)
        → (if x then counted_on (max next (s + 1)) (a ++ b) else None) ≡ None
    by true is later = later is
    by false is later = refl

-- ---- code by code

-- what is told of a sound code's bytes is told of the code
counted_code : (next : ℕ) (j : Judged) → IsSoundCode j.sizes j.bytes → count_code next (code_in j.bytes) ≡ counted_on next (strings_in (code_told j))
counted_code next j sound = ap (count_code next) (spells_in j.bytes sound.code sound.spells) ∙ ap (λ code. counted_on next (strings_in code)) (sym (told j sound))

pub codes_on : (next more : ℕ) (rest : List Judged) (j : Judged) (bytes : List ℕ) (whole : Option ℕ) → 1 ≤ length rest → j ≡ get_or rest 0 j → IsSoundCode j.sizes j.bytes → bytes ≡ j.bytes → Some more ≡ count_code next (code_in bytes)
    → counted_on next (strings_of (map code_told rest)) ≡ whole → counted_on more (strings_of (map code_told (take (length rest - 1) (drop 1 rest)))) ≡ whole
codes_on next more [] j bytes whole some at sound own is so_far = absurd (omega (arith, some))
codes_on next more (k ∷ rest) j bytes whole some at sound own is so_far =
    let whole_rest : take (suc (length rest) - 1) rest ≡ rest = take_all _ rest (omega arith) in
    let first : counted_on next (strings_in (code_told k)) ≡ Some more = ap (λ x. counted_on next (strings_in (code_told x))) (sym at) ∙ sym (counted_code next j sound) ∙ ap (λ b. count_code next (code_in b)) (sym own) ∙ sym is in
    ap (λ l. counted_on more (strings_of (map code_told l))) whole_rest ∙ sym (strings_then next more (strings_in (code_told k)) (strings_of (map code_told rest)) first) ∙ so_far

pub codes_stop : (next : ℕ) (rest : List Judged) (j : Judged) (bytes : List ℕ) (whole : Option ℕ) → 1 ≤ length rest → j ≡ get_or rest 0 j → IsSoundCode j.sizes j.bytes → bytes ≡ j.bytes → None ≡ count_code next (code_in bytes)
    → counted_on next (strings_of (map code_told rest)) ≡ whole → None ≡ whole
codes_stop next [] j bytes whole some at sound own is so_far = absurd (omega (arith, some))
codes_stop next (k ∷ rest) j bytes whole some at sound own is so_far =
    let first : counted_on next (strings_in (code_told k)) ≡ None = ap (λ x. counted_on next (strings_in (code_told x))) (sym at) ∙ sym (counted_code next j sound) ∙ ap (λ b. count_code next (code_in b)) (sym own) ∙ sym is in
    sym (strings_stop next (strings_in (code_told k)) (strings_of (map code_told rest)) first) ∙ so_far
