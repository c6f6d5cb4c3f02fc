-- A spelling that begins with another letter isn't the word's.
use Rattle.std.proofs.Common.{◌≡◌, ℕ, zero, suc, Bool, true, false, List, [], ◌∷◌, ◌<◌, length, get_or, map, refl, ap, ◌∙◌, arith}
use Rattle.std.specs.Prelude.{◌&&◌, ◌==◌}
use Rattle.std.specs.Char.{to_ascii_lowercase}
use Rattle.std.specs.List.{list_all}
use Rattle.std.proofs.lemmas.Bool.{eqb-true, and_parts}
use Rattle.world_meaning.specs.Spelling.{is_spelled}
use Rattle.i7_sentences.specs.Keywords.{Row}
use Rattle.i7_sentences.specs.SmallRows.{are_small, begins_with, begins_small, small_first}

twice : (here later : Bool) → (here && (here && later)) ≡ (here && later)
twice true later = refl
twice false later = refl

pub first_tells : (word spelling : List ℕ) → begins_small spelling ≡ true → (begins_with (small_first word) spelling && is_spelled word spelling) ≡ is_spelled word spelling
first_tells word [] small = refl
first_tells [] (letter ∷ more) small = none (0 == letter)
  where
    none : (here : Bool) → (here && false) ≡ false
    none true = refl
    none false = refl
first_tells (first ∷ others) (letter ∷ more) small =
    rw (eqb-true (to_ascii_lowercase letter) letter small)
    (twice (to_ascii_lowercase first == letter) (is_spelled others more))

pub small_parts : (row : Row) (rows : List Row) → are_small (row ∷ rows) ≡ true → (begins_small row.spelling ≡ true) × (are_small rows ≡ true)
small_parts row rows is = and_parts (begins_small row.spelling) (are_small rows) is

got_small : {R : Type 0} (rows_of : R → List Row) (table : List R) (i : ℕ) (d : R) → list_all are_small (map rows_of table) ≡ true → i < length table → are_small (rows_of (get_or table i d)) ≡ true
got_small rows_of [] i d is lt = absurd (omega (arith, lt))
got_small rows_of (first ∷ table) zero d is lt = (and_parts (are_small (rows_of first)) (list_all are_small (map rows_of table)) is).0
got_small rows_of (first ∷ table) (suc i) d is lt = got_small rows_of table i d (and_parts (are_small (rows_of first)) (list_all are_small (map rows_of table)) is).1 (omega (arith, lt))

pub small_at : {R : Type 0} (rows_of : R → List Row) (table : List R) (i : ℕ) (rows : R) → list_all are_small (map rows_of table) ≡ true → i < length table → rows ≡ get_or table i rows → are_small (rows_of rows) ≡ true
small_at rows_of table i rows is lt got = ap (λ these. are_small (rows_of these)) got ∙ got_small rows_of table i rows is lt
