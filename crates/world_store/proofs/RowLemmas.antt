-- What stands in columns of one height, in the list of all.
use Rattle.std.proofs.Common.{◌≡◌, ℕ, zero, suc, ◌+◌, ◌-◌, ◌*◌, ◌<◌, ◌≤◌, List, [], ◌∷◌, ◌++◌, length, map, take, drop, refl, sym, ap, ◌∙◌, arith, append_assoc, inl, inr}
use Rattle.std.specs.Prelude.{nat_lt, slice_index_or, slice_set}
use Rattle.std.specs.List.{flat_map, range_with_len}
use Rattle.std.proofs.Math.Nat.{suc-mul}
use Rattle.std.proofs.Math.Seq.{drop-append_seam, take-append_seam, take-set-lt}
use Rattle.std.proofs.lemmas.Bool.{ltb-false, ltb-true, cases_Bool}
use Rattle.std.proofs.lemmas.List.{get_or-drop, get_or-take, drop-set-add, drop-set-lt, take-set-le}
use Rattle.world_store.specs.Rows.{place_in, read_at, rows, write_at}

-- ---- what is read

-- how far behind the front an object's value stands
abbrev far : ℕ → ℕ → ℕ → ℕ
far h zero o = o
far h (suc p) o = h + far h p o

far_is : (h p o : ℕ) → far h p o ≡ p * h + o
far_is h zero o = omega arith
far_is h (suc p) o =
    let more : h + (p * h + o) ≡ (p * h + h) + o = omega arith in
    ap (λ n. h + n) (far_is h p o) ∙ more ∙ ap (λ n. n + o) (sym (suc-mul p h))

module _ {T : Type 0} where
  read_inside : (h n : ℕ) (vs : List T) (p o : ℕ) (d : T) → p < n → o < h → slice_index_or (slice_index_or (rows h n vs) p []) o d ≡ slice_index_or vs (far h p o) d
  unfolding rows
  read_inside h zero vs p o d inside at = absurd (omega (arith, inside))
  read_inside h (suc n) vs zero o d inside at = get_or-take h vs o d at
  read_inside h (suc n) vs (suc p) o d inside at = read_inside h n (drop h vs) p o d (omega (arith, inside)) at ∙ get_or-drop h vs (far h p o) d

  none_behind : (h n : ℕ) (vs : List T) (p : ℕ) → n ≤ p → slice_index_or (rows h n vs) p [] ≡ []
  unfolding rows
  none_behind h zero vs p behind = refl
  none_behind h (suc n) vs zero behind = absurd (omega (arith, behind))
  none_behind h (suc n) vs (suc p) behind = none_behind h n (drop h vs) p (omega (arith, behind))

  none_above : (h : ℕ) (vs : List T) (o : ℕ) (d : T) → h ≤ o → slice_index_or (take h vs) o d ≡ d
  none_above zero vs o d above = refl
  none_above (suc h) [] o d above = refl
  none_above (suc h) (v ∷ vs) zero d above = absurd (omega (arith, above))
  none_above (suc h) (v ∷ vs) (suc o) d above = none_above h vs o d (omega (arith, above))

  none_in : (h n : ℕ) (vs : List T) (p o : ℕ) (d : T) → h ≤ o → slice_index_or (slice_index_or (rows h n vs) p []) o d ≡ d
  unfolding rows
  none_in h zero vs p o d above = refl
  none_in h (suc n) vs zero o d above = none_above h vs o d above
  none_in h (suc n) vs (suc p) o d above = none_in h n (drop h vs) p o d above

  pub rows_read : (h n : ℕ) (vs : List T) (p o : ℕ) (d : T) → slice_index_or (slice_index_or (rows h n vs) p []) o d ≡ read_at vs (place_in h n p o) d
  rows_read h n vs p o d =
      elim (cases_Bool (nat_lt p n)) [
        | inr behind ↦ rw (behind, none_behind h n vs p (ltb-false p n behind)) refl
        | inl inside ↦ elim (cases_Bool (nat_lt o h)) [
          | inr above ↦ rw (inside, above) (none_in h n vs p o d (ltb-false o h above))
          | inl at ↦ rw (inside, at) (read_inside h n vs p o d (ltb-true p n inside) (ltb-true o h at) ∙ ap (λ k. slice_index_or vs k d) (far_is h p o))
        ]
      ]

  -- ---- what is written

  write_inside : (h n : ℕ) (vs : List T) (p o : ℕ) (x : T) → p < n → o < h → slice_set (rows h n vs) p (slice_set (slice_index_or (rows h n vs) p []) o x) ≡ rows h n (slice_set vs (far h p o) x)
  unfolding rows
  write_inside h zero vs p o x inside at = absurd (omega (arith, inside))
  write_inside h (suc n) vs zero o x inside at = λ i. sym (take-set-lt h vs o x at) i ∷ rows h n (sym (drop-set-lt h vs o x at) i)
  write_inside h (suc n) vs (suc p) o x inside at =
      let past : h ≤ h + far h p o = omega arith in
      let later = write_inside h n (drop h vs) p o x (omega (arith, inside)) at ∙ ap (λ values. rows h n values) (sym (drop-set-add h vs (far h p o) x)) in
      λ i. sym (take-set-le h vs (h + far h p o) x past) i ∷ later i

  write_behind : (h n : ℕ) (vs : List T) (p : ℕ) (column : List T) → n ≤ p → slice_set (rows h n vs) p column ≡ rows h n vs
  unfolding rows
  write_behind h zero vs p column behind = refl
  write_behind h (suc n) vs zero column behind = absurd (omega (arith, behind))
  write_behind h (suc n) vs (suc p) column behind = ap (λ columns. take h vs ∷ columns) (write_behind h n (drop h vs) p column (omega (arith, behind)))

  no_write : (h : ℕ) (vs : List T) (o : ℕ) (x : T) → h ≤ o → slice_set (take h vs) o x ≡ take h vs
  no_write zero vs o x above = refl
  no_write (suc h) [] o x above = refl
  no_write (suc h) (v ∷ vs) zero x above = absurd (omega (arith, above))
  no_write (suc h) (v ∷ vs) (suc o) x above = ap (λ column. v ∷ column) (no_write h vs o x (omega (arith, above)))

  write_above : (h n : ℕ) (vs : List T) (p o : ℕ) (x : T) → h ≤ o → slice_set (rows h n vs) p (slice_set (slice_index_or (rows h n vs) p []) o x) ≡ rows h n vs
  unfolding rows
  write_above h zero vs p o x above = refl
  write_above h (suc n) vs zero o x above = ap (λ column. column ∷ rows h n (drop h vs)) (no_write h vs o x above)
  write_above h (suc n) vs (suc p) o x above = ap (λ columns. take h vs ∷ columns) (write_above h n (drop h vs) p o x above)

  pub rows_written : (h n : ℕ) (vs : List T) (p o : ℕ) (x : T) → rows h n (write_at vs (place_in h n p o) x) ≡ slice_set (rows h n vs) p (slice_set (slice_index_or (rows h n vs) p []) o x)
  rows_written h n vs p o x =
      elim (cases_Bool (nat_lt p n)) [
        | inr behind ↦ rw behind (sym (write_behind h n vs p (slice_set (slice_index_or (rows h n vs) p []) o x) (ltb-false p n behind)))
        | inl inside ↦ elim (cases_Bool (nat_lt o h)) [
          | inr above ↦ rw (inside, above) (sym (write_above h n vs p o x (ltb-false o h above)))
          | inl at ↦ rw (inside, at) (ap (λ k. rows h n (slice_set vs k x)) (sym (far_is h p o)) ∙ sym (write_inside h n vs p o x (ltb-true p n inside) (ltb-true o h at)))
        ]
      ]

  -- ---- columns that are made one behind the other

  pub rows_made : (f : ℕ → List T) (h a n : ℕ) → ((i : ℕ) → length (f i) ≡ h) → rows h n (flat_map f (range_with_len a n)) ≡ map f (range_with_len a n)
  unfolding rows
  rows_made f h a zero high = refl
  rows_made f h a (suc n) high =
      let rest = flat_map f (range_with_len (a + 1) n) in
      let first : take h (f a ++ rest) ≡ f a = ap (λ k. take k (f a ++ rest)) (sym (high a)) ∙ take-append_seam (f a) rest in
      let behind : drop h (f a ++ rest) ≡ rest = ap (λ k. drop k (f a ++ rest)) (sym (high a)) ∙ drop-append_seam (f a) rest in
      λ i. first i ∷ (ap (λ values. rows h n values) behind ∙ rows_made f h (a + 1) n high) i

  -- one more behind those that are there
  pub column_added : (f : ℕ → List T) (values : List T) (p n : ℕ) → p < n → (values ++ f p) ++ flat_map f (range_with_len (p + 1) (n - (p + 1))) ≡ values ++ flat_map f (range_with_len p (n - p))
  column_added f values p n inside =
      let one : n - p ≡ suc (n - (p + 1)) = omega (arith, inside) in
      append_assoc values (f p) (flat_map f (range_with_len (p + 1) (n - (p + 1)))) ∙ ap (λ k. values ++ flat_map f (range_with_len p k)) (sym one)
