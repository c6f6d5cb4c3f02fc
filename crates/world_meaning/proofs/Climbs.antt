-- Steps up a tree of kinds, as many as there are kinds, lead wherever any steps lead.
use Rattle.std.proofs.Common.{◌≡◌, ◌≢◌, ℕ, zero, suc, ◌≤◌, ◌<◌, true, false, eqb, List, [], ◌∷◌, length, Option, refl, sym, ap, ◌∙◌, subst, arith, inl, inr, ◌⊎◌}
use Rattle.std.specs.Prelude.{Some, None, Decides, slice_get}
use Rattle.std.proofs.lemmas.Bool.{eqb-true, eqb-false, eq-eqb, cases_Bool}
use Rattle.world_meaning.specs.Kinds.{Under, itself, above, climb_on, climbs, is_under}

-- the kinds, one of them without the kind above it
abbrev cut : ℕ → List (Option ℕ) → List (Option ℕ)
cut k [] = []
cut zero (x ∷ xs) = None ∷ xs
cut (suc k) (x ∷ xs) = x ∷ cut k xs

-- how many kinds have one above them
abbrev count_of : List (Option ℕ) → ℕ
count_of [] = 0
count_of (None ∷ xs) = count_of xs
count_of (Some p ∷ xs) = suc (count_of xs)

few : (xs : List (Option ℕ)) → count_of xs ≤ length xs
few [] = omega arith
few (None ∷ xs) = omega (arith, few xs)
few (Some p ∷ xs) = omega (arith, few xs)

fewer : (k p : ℕ) (xs : List (Option ℕ)) → slice_get xs k ≡ Some (Some p) → count_of (cut k xs) < count_of xs
fewer k p [] h = absurd cc
fewer zero p (None ∷ xs) h = absurd cc
fewer zero p (Some q ∷ xs) h = omega arith
fewer (suc k) p (None ∷ xs) h = fewer k p xs h
fewer (suc k) p (Some q ∷ xs) h = omega (arith, fewer k p xs h)

kept : (k j p : ℕ) (xs : List (Option ℕ)) → k ≢ j → slice_get xs j ≡ Some (Some p) → slice_get (cut k xs) j ≡ Some (Some p)
kept k j p [] isnt h = absurd cc
kept zero zero p (x ∷ xs) isnt h = absurd (isnt refl)
kept zero (suc j) p (x ∷ xs) isnt h = h
kept (suc k) zero p (x ∷ xs) isnt h = h
kept (suc k) (suc j) p (x ∷ xs) isnt h = kept k j p xs (λ e. isnt (ap suc e)) h

was : (k j p : ℕ) (xs : List (Option ℕ)) → slice_get (cut k xs) j ≡ Some (Some p) → slice_get xs j ≡ Some (Some p)
was k j p [] h = absurd cc
was zero zero p (x ∷ xs) h = absurd cc
was zero (suc j) p (x ∷ xs) h = h
was (suc k) zero p (x ∷ xs) h = h
was (suc k) (suc j) p (x ∷ xs) h = was k j p xs h

same_parent : (o : Option (Option ℕ)) (p q : ℕ) → o ≡ Some (Some p) → o ≡ Some (Some q) → p ≡ q
same_parent o p q h k = cc

-- what leads on without the step from a kind, or behind it
abbrev Around : List (Option ℕ) → ℕ → ℕ → ℕ → Type 0
Around parents k x m = Under (cut k parents) x m ⊎ ((k ≡ m) ⊎ ((p : ℕ) × (slice_get parents k ≡ Some (Some p)) × Under (cut k parents) p m))

around_step : (parents : List (Option ℕ)) (k x p m : ℕ) → slice_get parents x ≡ Some (Some p) → Around parents k p m → Around parents k x m
around_step parents k x p m e (inr behind) = inr behind
around_step parents k x p m e (inl free) =
    elim (cases_Bool (eqb k x)) [
      | inl is ↦ inr (inr (p, ap (slice_get parents) (eqb-true k x is) ∙ e, free))
      | inr isnt ↦ inl (above (kept k x p parents (eqb-false k x isnt) e) free)
    ]

around : (parents : List (Option ℕ)) (k x m : ℕ) → Under parents x m → Around parents k x m
around parents k x m itself = inl itself
around parents k x m (above {parent = p} e u) = around_step parents k x p m e (around parents k p m u)

-- the step from a kind is taken once: without it the way on leads there too
behind_step : (some : List (Option ℕ)) (k p m : ℕ) → slice_get some k ≡ Some (Some p) → eqb k m ≡ false → Around some k p m → Under (cut k some) p m
behind_step some k p m e isnt (inl free) = free
behind_step some k p m e isnt (inr (inl same)) = let z : true ≡ false = sym (eq-eqb k m same) ∙ isnt in absurd cc
behind_step some k p m e isnt (inr (inr (q, f, free))) = subst (λ (o : ℕ). Under (cut k some) o m) (same_parent (slice_get some k) q p f e) free

climbs_itself : (left parents : List (Option ℕ)) (k m : ℕ) → eqb k m ≡ true → climbs left parents k m ≡ true
climbs_itself [] parents k m h = h
climbs_itself (x ∷ left) parents k m h = rw h refl

climbs_all : (left parents some : List (Option ℕ)) (k m : ℕ) → ((j p : ℕ) → slice_get some j ≡ Some (Some p) → slice_get parents j ≡ Some (Some p)) → count_of some ≤ length left → Under some k m → climbs left parents k m ≡ true
climbs_all left parents some k m within bound itself = climbs_itself left parents k k (eq-eqb k k refl)
climbs_all [] parents some k m within bound (above {parent = p} e u) = absurd (omega (arith, fewer k p some e, bound))
climbs_all (x ∷ left) parents some k m within bound (above {parent = p} e u) =
    elim (cases_Bool (eqb k m)) [
      | inl is ↦ climbs_itself (x ∷ left) parents k m is
      | inr isnt ↦
          let rest : climbs left parents p m ≡ true = climbs_all left parents (cut k some) p m (λ j q h. within j q (was k j q some h)) (omega (arith, fewer k p some e, bound)) (behind_step some k p m e isnt (around some k p m u)) in
          rw (isnt, within k p e) rest
    ]

step_under : (left parents : List (Option ℕ)) (k m : ℕ) (found : Option (Option ℕ)) → slice_get parents k ≡ found → ((p : ℕ) → climbs left parents p m ≡ true → Under parents p m)
    → climb_on (λ p. climbs left parents p m) found ≡ true → Under parents k m
step_under left parents k m None e rest h = absurd cc
step_under left parents k m (Some None) e rest h = absurd cc
step_under left parents k m (Some (Some p)) e rest h = above e (rest p h)

climbs_under : (left parents : List (Option ℕ)) (k m : ℕ) → climbs left parents k m ≡ true → Under parents k m
climbs_under [] parents k m h = subst (λ (o : ℕ). Under parents k o) (eqb-true k m h) itself
climbs_under (x ∷ left) parents k m h =
    elim (cases_Bool (eqb k m)) [
      | inl is ↦ subst (λ (o : ℕ). Under parents k o) (eqb-true k m is) itself
      | inr isnt ↦
          let up : climb_on (λ p. climbs left parents p m) (slice_get parents k) ≡ true = rw isnt at h in
          step_under left parents k m (slice_get parents k) refl (λ p c. climbs_under left parents p m c) up
    ]

pub climbs_decide : (parents : List (Option ℕ)) (k m : ℕ) → Decides (is_under parents k m) (Under parents k m)
unfolding is_under
climbs_decide parents k m = (climbs_under parents parents k m, λ u. climbs_all parents parents parents k m (λ j p h. h) (few parents) u)
