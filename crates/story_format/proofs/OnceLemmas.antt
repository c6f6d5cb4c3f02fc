-- Numbers below a count stand once exactly where none is marked when it comes.
use Rattle.std.proofs.Common.{◌≡◌, ◌∙◌, ap, sym, refl, ℕ, zero, suc, ◌<◌, Bool, true, false, not, ◌&&◌, ltb, eqb, List, [], ◌∷◌, length, inl, inr, arith}
use Rattle.std.specs.Prelude.{replicate, slice_index_or, slice_set}
use Rattle.std.specs.List.{list_all}
use Rattle.std.proofs.lemmas.Bool.{eqb-true, eqb-false, ltb-true, ne_eqb, cases_Bool, and_parts}
use Rattle.std.proofs.Math.Bool.{and-false, and-true}
use Rattle.world_meaning.specs.Declarations.{is_among}
use Rattle.story_format.specs.Once.{are_unmarked}
use Rattle.story_format.specs.Sizes.{are_different}

-- ---- what is marked

set_length : (marks : List Bool) (n : ℕ) → length (slice_set marks n true) ≡ length marks
set_length [] n = refl
set_length (m ∷ marks) zero = refl
set_length (m ∷ marks) (suc n) = ap suc (set_length marks n)

set_same : (marks : List Bool) (n : ℕ) → n < length marks → slice_index_or (slice_set marks n true) n false ≡ true
set_same [] n lt = absurd (omega (arith, lt))
set_same (m ∷ marks) zero lt = refl
set_same (m ∷ marks) (suc n) lt = set_same marks n (omega (arith, lt))

set_other : (marks : List Bool) (n m : ℕ) → eqb n m ≡ false → slice_index_or (slice_set marks n true) m false ≡ slice_index_or marks m false
set_other [] n m h = refl
set_other (x ∷ marks) zero zero h = absurd cc
set_other (x ∷ marks) zero (suc m) h = refl
set_other (x ∷ marks) (suc n) zero h = refl
set_other (x ∷ marks) (suc n) (suc m) h = set_other marks n m (ne_eqb n m (λ e. eqb-false (suc n) (suc m) h (ap suc e)))

abbrev none_marked : List Bool → List ℕ → Bool
none_marked marks ns = list_all (λ n. not (slice_index_or marks n false)) ns

swapped : (a b c : Bool) → (a && (b && c)) ≡ (b && (a && c))
swapped true b c = refl
swapped false b c = sym (and-false b)

-- a number that is marked too
none_marked_too : (marks : List Bool) (n : ℕ) (ns : List ℕ) → n < length marks → none_marked (slice_set marks n true) ns ≡ (not (is_among n ns) && none_marked marks ns)
none_marked_too marks n [] lt = refl
none_marked_too marks n (m ∷ ns) lt =
    elim (cases_Bool (eqb n m)) [
      | inl same ↦
          let here : slice_index_or (slice_set marks n true) m false ≡ true = ap (λ k. slice_index_or (slice_set marks n true) k false) (sym (eqb-true n m same)) ∙ set_same marks n lt in
          rw (here, same) refl
      | inr other ↦
          rw (set_other marks n m other, other, none_marked_too marks n ns lt) (swapped (not (slice_index_or marks m false)) (not (is_among n ns)) (none_marked marks ns))
    ]

-- ---- all of it

regroup : (among different unmarked : Bool) → (different && (not among && unmarked)) ≡ ((not among && different) && unmarked)
regroup true true unmarked = refl
regroup true false unmarked = refl
regroup false true unmarked = refl
regroup false false unmarked = refl

marked_scan : (marks : List Bool) (ns : List ℕ) → list_all (λ n. ltb n (length marks)) ns ≡ true → are_unmarked marks ns ≡ (are_different ns && none_marked marks ns)
unfolding are_unmarked are_different
marked_scan marks [] h = refl
marked_scan marks (n ∷ ns) h =
    let t = and_parts (ltb n (length marks)) (list_all (λ m. ltb m (length marks)) ns) h in
    elim (cases_Bool (slice_index_or marks n false)) [
      | inl marked ↦ rw marked (sym (and-false (not (is_among n ns) && are_different ns)))
      | inr unmarked ↦
          let below : list_all (λ m. ltb m (length (slice_set marks n true))) ns ≡ true = ap (λ k. list_all (λ m. ltb m k) ns) (set_length marks n) ∙ t.1 in
          rw unmarked (
          marked_scan (slice_set marks n true) ns below ∙ ap (λ b. are_different ns && b) (none_marked_too marks n ns (ltb-true n (length marks) t.0))
          ∙ regroup (is_among n ns) (are_different ns) (none_marked marks ns)
          )
    ]

unmarked_at : (count n : ℕ) → slice_index_or (replicate count false) n false ≡ false
unmarked_at zero n = refl
unmarked_at (suc count) zero = refl
unmarked_at (suc count) (suc n) = unmarked_at count n

none_at_first : (count : ℕ) (ns : List ℕ) → none_marked (replicate count false) ns ≡ true
none_at_first count [] = refl
none_at_first count (n ∷ ns) = rw (unmarked_at count n) (none_at_first count ns)

as_long : (count : ℕ) → length (replicate count false) ≡ count
as_long zero = refl
as_long (suc count) = ap suc (as_long count)

pub unmarked_are_different : (count : ℕ) (ns : List ℕ) → list_all (λ n. ltb n count) ns ≡ true → are_unmarked (replicate count false) ns ≡ are_different ns
unmarked_are_different count ns h =
    marked_scan (replicate count false) ns (ap (λ k. list_all (λ n. ltb n k) ns) (as_long count) ∙ h)
    ∙ ap (λ b. are_different ns && b) (none_at_first count ns) ∙ and-true (are_different ns)
