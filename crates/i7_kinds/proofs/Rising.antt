-- Where what is in each holder ranks above it, no place closes a cycle.
use Rattle.std.proofs.Common.{◌≡◌, ℕ, zero, suc, ◌+◌, ◌≤◌, ◌<◌, true, List, [], ◌∷◌, ◌++◌, length, Option, refl, sym, ap, ◌∙◌, subst, arith, inl, inr, true≢false}
use Rattle.std.specs.Prelude.{None, fold, nat_lt, slice_index_or}
use Rattle.std.proofs.lemmas.Bool.{and_parts, cases_Bool, ltb-true}
use Rattle.i7_claims.specs.Numbers.{number_in}
use Rattle.i7_claims.specs.Scans.{lower, lowest}
use Rattle.i7_claims.specs.declared.claim.Claim.{Claim}
use Rattle.i7_claims.specs.declared.claim.Fact.{Fact}
use Rattle.i7_claims.specs.declared.claim.Fact.TheVariants.{Placed}
use Rattle.i7_kinds.specs.Cycles.{Contents, Leads, Puts, are_above, contents_by, itself, nothing_in, rank_of, rise_from, up, with_put, with_put_of}
use Rattle.i7_kinds.specs.Places.{holder_cycle, is_holder_cycle, shows_holder_cycle}
use Rattle.i7_kinds.proofs.HolderCycles.{IsIn, encloses_decides, led, none_in, nothing_room, put_room, put_there}

abbrev Rises : List ℕ → Contents → Type 0
Rises ranks contents = (thing holder : ℕ) → IsIn contents thing holder → rank_of ranks holder < rank_of ranks thing

above : (ranks : List ℕ) (rank : ℕ) (things : List ℕ) (x k : ℕ) → are_above ranks rank things ≡ true → k < length things → slice_index_or things k x ≡ x → rank < rank_of ranks x
above ranks rank [] x k h lt e = absurd (omega (arith, lt))
above ranks rank (thing ∷ things) x zero h lt e = subst (λ (n : ℕ). rank < rank_of ranks n) e (ltb-true _ _ (and_parts (nat_lt rank (rank_of ranks thing)) (are_above ranks rank things) h).0)
above ranks rank (thing ∷ things) x (suc k) h lt e = above ranks rank things x k (and_parts (nat_lt rank (rank_of ranks thing)) (are_above ranks rank things) h).1 (omega (arith, lt)) e

rise_at : (ranks : List ℕ) (o : ℕ) (contents : Contents) → rise_from ranks o contents ≡ true → (i holder x : ℕ) → o + i ≡ holder → IsIn contents x i → rank_of ranks holder < rank_of ranks x
rise_at ranks o [] h i holder x e in_it = absurd (none_in x in_it)
rise_at ranks o (things ∷ contents) h zero holder x e in_it =
    let same : o ≡ holder = omega (arith, e) in
    subst (λ (n : ℕ). rank_of ranks n < rank_of ranks x) same
    (above ranks (rank_of ranks o) things x in_it.0 (and_parts (are_above ranks (rank_of ranks o) things) (rise_from ranks (o + 1) contents) h).0 in_it.1 in_it.2)
rise_at ranks o (things ∷ contents) h (suc i) holder x e in_it =
    rise_at ranks (o + 1) contents (and_parts (are_above ranks (rank_of ranks o) things) (rise_from ranks (o + 1) contents) h).1 i holder x (omega (arith, e)) in_it

no_lower : (ranks : List ℕ) (contents : Contents) → Rises ranks contents → (a b : ℕ) → Leads (IsIn contents) a b → rank_of ranks b ≤ rank_of ranks a
no_lower ranks contents rises a b itself = omega arith
no_lower ranks contents rises a b (up {holder = h} s way) = omega (arith, rises a h s, no_lower ranks contents rises h b way)

module _ (objects : List (List ℕ)) (ranks : List ℕ) where
  closes_none : (f : Fact) (contents whole : Contents) → Rises ranks whole → ((x h : ℕ) → IsIn contents x h → IsIn whole x h) → ((x h : ℕ) → Puts objects f x h → IsIn whole x h) → is_holder_cycle objects contents f ≡ true → ⊥
  closes_none (Placed p) contents whole rises kept put h =
      let thing = number_in objects p.thing in
      let holder = number_in objects p.holder in
      let way = led (IsIn contents) (IsIn whole) kept holder thing ((encloses_decides contents thing holder).0 h) in
      omega (arith, no_lower ranks whole rises holder thing way, rises thing holder (put thing holder (refl, refl)))
  closes_none _ contents whole rises kept put h = true≢false (sym h)

  quiet : (claims : List Claim) (contents : Contents) → length objects < length contents → Rises ranks (fold (with_put_of objects) contents claims) → lowest (shows_holder_cycle objects) (with_put_of objects) contents claims None ≡ None
  quiet [] contents room rises = refl
  quiet (c ∷ claims) contents room rises =
      let whole = fold (with_put_of objects) contents (c ∷ claims) in
      elim (cases_Bool (is_holder_cycle objects contents c.fact)) [
        | inl is ↦
            absurd (closes_none c.fact contents whole rises (λ x h i. put_there objects (c ∷ claims) contents room x h (inl i)) (λ x h puts. put_there objects (c ∷ claims) contents room x h (inr (inl puts))) is)
        | inr isnt ↦ rw isnt (quiet claims (with_put objects contents c.fact) (put_room objects c.fact contents room) rises)
      ]

  pub no_cycle : (claims : List Claim) → rise_from ranks 0 (contents_by objects claims) ≡ true → holder_cycle objects claims ≡ None
  no_cycle claims h = quiet claims (nothing_in (length objects)) (nothing_room objects) (λ x holder i. rise_at ranks 0 (contents_by objects claims) h holder holder x (omega arith) i)

-- ---- a front of which no claim closes a cycle

module _ (objects : List (List ℕ)) where
  split : (front claims : List Claim) (contents : Contents) (found : Option ℕ) → lowest (shows_holder_cycle objects) (with_put_of objects) contents (front ++ claims) found
      ≡ lowest (shows_holder_cycle objects) (with_put_of objects) (fold (with_put_of objects) contents front) claims (lowest (shows_holder_cycle objects) (with_put_of objects) contents front found)
  split [] claims contents found = refl
  split (c ∷ front) claims contents found = split front claims (with_put objects contents c.fact) (lower (is_holder_cycle objects contents c.fact) c.line found)

  pub behind : (front claims : List Claim) → holder_cycle objects front ≡ None → lowest (shows_holder_cycle objects) (with_put_of objects) (contents_by objects front) claims None ≡ holder_cycle objects (front ++ claims)
  behind front claims none = sym (split front claims (nothing_in (length objects)) None ∙ ap (λ (found : Option ℕ). lowest (shows_holder_cycle objects) (with_put_of objects) (contents_by objects front) claims found) none)
