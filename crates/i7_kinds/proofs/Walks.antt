-- A walk step by step: through what isn't seen, and each step leaves less.
use Rattle.std.proofs.Common.{◌≡◌, ℕ, zero, suc, ◌+◌, ◌<◌, Bool, true, false, ◌||◌, eqb, List, [], ◌∷◌, ◌++◌, length, refl, sym, ap, ◌∙◌, arith, inl, inr, true≢false, length-append}
use Rattle.std.specs.Prelude.{◌==◌, if◌then◌else◌, replicate, slice_set}
use Rattle.std.proofs.lemmas.Bool.{eq-eqb, eqb-true, cases_Bool}
use Rattle.i7_kinds.specs.Cycles.{Contents, comes_to, emptied, encloses, is_unseen, things_held, things_in, unseen, walk}
use Rattle.i7_kinds.proofs.HolderCycles.{fewer}

-- ---- what isn't seen

pub unseen_first : (contents : Contents) → unseen contents (replicate (length contents) false) ≡ contents
unseen_first [] = refl
unseen_first (things ∷ contents) = ap (λ (rest : Contents). things ∷ rest) (unseen_first contents)

pub unseen_marked : (contents : Contents) (seen : List Bool) (o : ℕ) → unseen contents (slice_set seen o true) ≡ emptied (unseen contents seen) o
unseen_marked [] seen o = refl
unseen_marked (things ∷ contents) [] o = refl
unseen_marked (things ∷ contents) (is ∷ seen) zero = refl
unseen_marked (things ∷ contents) (is ∷ seen) (suc o) = ap (λ (rest : Contents). (if is then [] else things) ∷ rest) (unseen_marked contents seen o)

pub unseen_there : (contents : Contents) (seen : List Bool) (o : ℕ) → is_unseen seen o ≡ true → things_in (unseen contents seen) o ≡ things_in contents o
unseen_there [] seen o h = refl
unseen_there (things ∷ contents) [] o h = absurd (true≢false (sym h))
unseen_there (things ∷ contents) (false ∷ seen) zero h = refl
unseen_there (things ∷ contents) (true ∷ seen) zero h = absurd (true≢false (sym h))
unseen_there (things ∷ contents) (is ∷ seen) (suc o) h = unseen_there contents seen o h

pub unseen_gone : (contents : Contents) (seen : List Bool) (o : ℕ) → is_unseen seen o ≡ false → things_in (unseen contents seen) o ≡ []
unseen_gone [] seen o h = refl
unseen_gone (things ∷ contents) [] o h = refl
unseen_gone (things ∷ contents) (false ∷ seen) zero h = absurd (true≢false h)
unseen_gone (things ∷ contents) (true ∷ seen) zero h = refl
unseen_gone (things ∷ contents) (is ∷ seen) (suc o) h = unseen_gone contents seen o h

emptied_already : (contents : Contents) (o : ℕ) → things_in contents o ≡ [] → contents ≡ emptied contents o
emptied_already [] o h = refl
emptied_already (things ∷ contents) zero h = ap (λ (x : List ℕ). x ∷ contents) h
emptied_already (things ∷ contents) (suc o) h = ap (λ (rest : Contents). things ∷ rest) (emptied_already contents o h)

pub unseen_stays : (contents : Contents) (seen : List Bool) (o : ℕ) → is_unseen seen o ≡ false → unseen contents seen ≡ emptied (unseen contents seen) o
unseen_stays contents seen o h = emptied_already (unseen contents seen) o (unseen_gone contents seen o h)

-- ---- steps

one_step : (contents : Contents) (o : ℕ) (todo : List ℕ) (other : ℕ) → comes_to contents (o ∷ todo) other ≡ (o == other) || comes_to (emptied contents o) (todo ++ things_in contents o) other
one_step contents o todo other =
    let steps : things_held contents + length (o ∷ todo) ≡ suc (things_held (emptied contents o) + length (todo ++ things_in contents o)) = omega (arith, fewer contents o, length-append todo (things_in contents o)) in
    ap (λ (n : ℕ). walk n contents (o ∷ todo) other) steps

pub found : (contents : Contents) (o : ℕ) (todo : List ℕ) (other : ℕ) → o ≡ other → comes_to contents (o ∷ todo) other ≡ true
found contents o todo other e = one_step contents o todo other ∙ ap (λ b. b || comes_to (emptied contents o) (todo ++ things_in contents o) other) (eq-eqb o other e)

pub step_on : (old new : Contents) (o : ℕ) (todo more : List ℕ) (other : ℕ) (answer : Bool) → new ≡ emptied old o → more ≡ todo ++ things_in old o → (o ≡ other → ⊥) → comes_to old (o ∷ todo) other ≡ answer → comes_to new more other ≡ answer
step_on old new o todo more other answer e f isnt h =
    elim (cases_Bool (eqb o other)) [
      | inl is ↦ absurd (isnt (eqb-true o other is))
      | inr not ↦ rw (e, f) (sym (rw not at (one_step old o todo other)) ∙ h)
    ]

pub less_left : (old new : Contents) (o : ℕ) (todo more : List ℕ) → new ≡ emptied old o → more ≡ todo ++ things_in old o → things_held new + length more < things_held old + length (o ∷ todo)
less_left old new o todo more e f = rw (e, f) (omega (arith, fewer old o, length-append todo (things_in old o)))

pub first_step : (contents : Contents) (seen : List Bool) (todo : List ℕ) (o other : ℕ) → seen ≡ replicate (length contents) false → todo ≡ o ∷ [] → comes_to (unseen contents seen) todo other ≡ encloses contents o other
first_step contents seen todo o other e f = rw (e, f, unseen_first) refl
