-- The walk through contents tells whether an object's holders lead to another, and in holders is what claims put there.
use Rattle.std.proofs.Common.{◌≡◌, ℕ, zero, suc, ◌+◌, ◌≤◌, ◌<◌, true, eqb, List, [], ◌∷◌, ◌++◌, length, refl, sym, ◌∙◌, subst, arith, inl, inr, ◌⊎◌, ⊎_elim, true≢false, length-append}
use Rattle.std.specs.Prelude.{Decides, fold, replicate, slice_index_or}
use Rattle.std.specs.List.{Contains}
use Rattle.std.proofs.lemmas.Bool.{cases_Bool, cases_eq, eqb-false, eqb-true}
use Rattle.std.proofs.lemmas.List.{get_or-set_other, get_or-set_same, length-replicate, length-set}
use Rattle.std.proofs.lemmas.List.Elements.{Contains-append_cases, Contains-append_left, Contains-append_right, Contains-push, Contains-push_cases}
use Rattle.i7_claims.specs.Numbers.{number_in}
use Rattle.i7_claims.specs.declared.claim.Claim.{Claim}
use Rattle.i7_claims.specs.declared.claim.Fact.{Fact}
use Rattle.i7_claims.specs.declared.claim.Fact.TheVariants.{Placed}
use Rattle.i7_kinds.specs.Cycles.{Contents, IsPut, Leads, Puts, contents_by, emptied, encloses, itself, nothing_in, things_held, things_in, up, walk, with_put, with_put_of, with_thing}
use Rattle.i7_kinds.proofs.Bounds.{number-within}

-- a thing is in a holder
abbrev pub IsIn : Contents → ℕ → ℕ → Type 0
IsIn contents thing holder = Contains (things_in contents holder) thing

-- ---- ways up

pub led : (P Q : ℕ → ℕ → Type 0) → ((thing holder : ℕ) → P thing holder → Q thing holder) → (a b : ℕ) → Leads P a b → Leads Q a b
led P Q f a b itself = itself
led P Q f a b (up {holder = h} s way) = up (f a h s) (led P Q f h b way)

led_on : (P : ℕ → ℕ → Type 0) (a b c : ℕ) → Leads P a b → P b c → Leads P a c
led_on P a b c itself s = up s itself
led_on P a b c (up {holder = h} first way) s = up first (led_on P h b c way s)

last_step : (P : ℕ → ℕ → Type 0) (a b : ℕ) → Leads P a b → (a ≡ b) ⊎ ((thing : ℕ) × P thing b)
last_step P a b itself = inl refl
last_step P a b (up {holder = h} s way) = ⊎_elim (λ e. inr (a, subst (P a) e s)) (λ t. inr t) (last_step P h b way)

-- ---- one of the contents is emptied

emptied_itself : (contents : Contents) (o : ℕ) → things_in (emptied contents o) o ≡ []
emptied_itself [] o = refl
emptied_itself (things ∷ contents) zero = refl
emptied_itself (things ∷ contents) (suc o) = emptied_itself contents o

emptied_other : (contents : Contents) (o h : ℕ) → (h ≡ o → ⊥) → things_in (emptied contents o) h ≡ things_in contents h
emptied_other contents o h other = get_or-set_other contents o h [] [] other

pub none_in : (thing : ℕ) → Contains [] thing → ⊥
none_in thing t = omega (arith, t.1)

none_there : (contents : Contents) (o thing : ℕ) → IsIn (emptied contents o) thing o → ⊥
none_there contents o thing i = none_in thing (subst (λ (things : List ℕ). Contains things thing) (emptied_itself contents o) i)

not_emptied : (contents : Contents) (o thing holder : ℕ) → IsIn (emptied contents o) thing holder → IsIn contents thing holder
not_emptied contents o thing holder i =
    elim (cases_eq holder o) [
      | inl e ↦ absurd (none_there contents o thing (subst (λ (h : ℕ). IsIn (emptied contents o) thing h) e i))
      | inr other ↦ subst (λ (things : List ℕ). Contains things thing) (emptied_other contents o holder other) i
    ]

-- a way up comes by no object, or one goes from a thing in it to where the way began
aside : (contents : Contents) (o a b : ℕ) → Leads (IsIn contents) a b → Leads (IsIn (emptied contents o)) a b ⊎ ((thing : ℕ) × Contains (things_in contents o) thing × Leads (IsIn (emptied contents o)) a thing)
aside contents o a b itself = inl itself
aside contents o a b (up {holder = h} s way) =
    elim (cases_eq h o) [
      | inl e ↦ inr (a, subst (λ (n : ℕ). IsIn contents a n) e s, itself)
      | inr other ↦
          let still : IsIn (emptied contents o) a h = subst (λ (things : List ℕ). Contains things a) (sym (emptied_other contents o h other)) s in
          ⊎_elim (λ more. inl (up still more)) (λ t. inr (t.0, t.1, up still t.2)) (aside contents o h b way)
    ]

pub fewer : (contents : Contents) (o : ℕ) → things_held contents ≡ things_held (emptied contents o) + length (things_in contents o)
fewer [] o = omega arith
fewer (things ∷ contents) zero = omega arith
fewer (things ∷ contents) (suc o) = omega (arith, fewer contents o)

-- ---- the walk

here : (x : ℕ) (xs : List ℕ) → Contains (x ∷ xs) x
here x xs = (0, omega arith, refl)

here_or : (x : ℕ) (xs : List ℕ) (o k : ℕ) → k < length (x ∷ xs) → slice_index_or (x ∷ xs) k o ≡ o → (x ≡ o) ⊎ Contains xs o
here_or x xs o zero lt e = inl e
here_or x xs o (suc k) lt e = inr (k, omega (arith, lt), e)

come_from : (most : ℕ) (contents : Contents) (todo : List ℕ) (other : ℕ) → walk most contents todo other ≡ true → (o : ℕ) × Contains todo o × Leads (IsIn contents) other o
come_from zero contents todo other h = absurd (true≢false (sym h))
come_from (suc most) contents [] other h = absurd (true≢false (sym h))
come_from (suc most) contents (x ∷ todo) other h =
    elim (cases_Bool (eqb x other)) [
      | inl is ↦ (x, here x todo, subst (λ (n : ℕ). Leads (IsIn contents) n x) (eqb-true x other is) itself)
      | inr isnt ↦
          let later : walk most (emptied contents x) (todo ++ things_in contents x) other ≡ true = rw isnt at h in
          let t = come_from most (emptied contents x) (todo ++ things_in contents x) other later in
          let way = led (IsIn (emptied contents x)) (IsIn contents) (not_emptied contents x) other t.0 t.2 in
          ⊎_elim
          (λ i. (t.0, Contains-append_right (x ∷ []) todo t.0 i, way))
          (λ i. (x, here x todo, led_on (IsIn contents) other t.0 x way i))
          (Contains-append_cases todo (things_in contents x) t.0 t.1)
    ]

-- a way that doesn't begin at the first comes from another, or from what is in the first
next : (contents : Contents) (x : ℕ) (todo : List ℕ) (other o : ℕ) → (x ≡ other → ⊥) → Contains (x ∷ todo) o → Leads (IsIn contents) other o
    → (n : ℕ) × Contains (todo ++ things_in contents x) n × Leads (IsIn (emptied contents x)) other n
next contents x todo other o isnt i way =
    ⊎_elim
    (λ still. ⊎_elim
    (λ e. ⊎_elim
    (λ same. absurd (isnt (sym (same ∙ sym e))))
    (λ t. absurd (none_there contents x t.0 (subst (λ (n : ℕ). IsIn (emptied contents x) t.0 n) (sym e) t.1)))
    (last_step (IsIn (emptied contents x)) other o still))
    (λ there. (o, Contains-append_left todo (things_in contents x) o there, still))
    (here_or x todo o i.0 i.1 i.2))
    (λ t. (t.0, Contains-append_right todo (things_in contents x) t.0 t.1, t.2))
    (aside contents x other o way)

come_to : (most : ℕ) (contents : Contents) (todo : List ℕ) (other o : ℕ) → things_held contents + length todo ≤ most → Contains todo o → Leads (IsIn contents) other o → walk most contents todo other ≡ true
come_to zero contents todo other o enough i way = absurd (omega (arith, enough, i.1))
come_to (suc most) contents [] other o enough i way = absurd (none_in o i)
come_to (suc most) contents (x ∷ todo) other o enough i way =
    elim (cases_Bool (eqb x other)) [
      | inl is ↦ rw is refl
      | inr isnt ↦
          let t = next contents x todo other o (eqb-false x other isnt) i way in
          let left : things_held (emptied contents x) + length (todo ++ things_in contents x) ≤ most = omega (arith, enough, fewer contents x, length-append todo (things_in contents x)) in
          rw isnt (come_to most (emptied contents x) (todo ++ things_in contents x) other t.0 left t.1 t.2)
    ]

pub encloses_decides : (contents : Contents) (object other : ℕ) → Decides (encloses contents object other) (Leads (IsIn contents) other object)
encloses_decides contents object other = (
  λ h.
      let t = come_from _ contents (object ∷ []) other h in
      ⊎_elim (λ e. subst (λ (n : ℕ). Leads (IsIn contents) other n) (sym e) t.2) (λ none. absurd (none_in t.0 none)) (here_or object [] t.0 t.1.0 t.1.1 t.1.2),
  λ way. come_to _ contents (object ∷ []) other object (omega arith) (here object []) way,
)

-- ---- one thing more

added : (contents : Contents) (thing holder : ℕ) → holder < length contents → things_in (with_thing contents thing holder) holder ≡ things_in contents holder ++ thing ∷ []
added contents thing holder lt = get_or-set_same contents holder (things_in contents holder ++ thing ∷ []) [] lt

others : (contents : Contents) (thing holder h : ℕ) → (h ≡ holder → ⊥) → things_in (with_thing contents thing holder) h ≡ things_in contents h
others contents thing holder h other = get_or-set_other contents holder h (things_in contents holder ++ thing ∷ []) [] other

in_or_added : (contents : Contents) (thing holder x h : ℕ) → holder < length contents → IsIn (with_thing contents thing holder) x h → IsIn contents x h ⊎ ((thing ≡ x) × (holder ≡ h))
in_or_added contents thing holder x h lt i =
    elim (cases_eq h holder) [
      | inl e ↦
          let at : IsIn (with_thing contents thing holder) x holder = subst (λ (n : ℕ). IsIn (with_thing contents thing holder) x n) e i in
          ⊎_elim (λ old. inl (subst (λ (n : ℕ). IsIn contents x n) (sym e) old)) (λ same. inr (same, sym e))
          (Contains-push_cases (things_in contents holder) thing x (subst (λ (things : List ℕ). Contains things x) (added contents thing holder lt) at))
      | inr other ↦ inl (subst (λ (things : List ℕ). Contains things x) (others contents thing holder h other) i)
    ]

still_in : (contents : Contents) (thing holder x h : ℕ) → holder < length contents → IsIn contents x h → IsIn (with_thing contents thing holder) x h
still_in contents thing holder x h lt i =
    elim (cases_eq h holder) [
      | inl e ↦
          let old : IsIn contents x holder = subst (λ (n : ℕ). IsIn contents x n) e i in
          let more = Contains-append_left (things_in contents holder) (thing ∷ []) x old in
          subst (λ (n : ℕ). IsIn (with_thing contents thing holder) x n) (sym e) (subst (λ (things : List ℕ). Contains things x) (sym (added contents thing holder lt)) more)
      | inr other ↦ subst (λ (things : List ℕ). Contains things x) (sym (others contents thing holder h other)) i
    ]

added_in : (contents : Contents) (thing holder : ℕ) → holder < length contents → IsIn (with_thing contents thing holder) thing holder
added_in contents thing holder lt = subst (λ (things : List ℕ). Contains things thing) (sym (added contents thing holder lt)) (Contains-push (things_in contents holder) thing)

-- ---- what a fact puts

module _ (objects : List (List ℕ)) where
  room_for : (name : List ℕ) (contents : Contents) → length objects < length contents → number_in objects name < length contents
  room_for name contents room = omega (arith, room, number-within objects name)

  put_before : (f : Fact) (contents : Contents) → length objects < length contents → (x h : ℕ) → IsIn (with_put objects contents f) x h → IsIn contents x h ⊎ Puts objects f x h
  put_before (Placed p) contents room x h i = in_or_added contents (number_in objects p.thing) (number_in objects p.holder) x h (room_for p.holder contents room) i
  put_before _ contents room x h i = inl i

  pub still_put : (f : Fact) (contents : Contents) → length objects < length contents → (x h : ℕ) → IsIn contents x h → IsIn (with_put objects contents f) x h
  still_put (Placed p) contents room x h i = still_in contents (number_in objects p.thing) (number_in objects p.holder) x h (room_for p.holder contents room) i
  still_put _ contents room x h i = i

  pub now_put : (f : Fact) (contents : Contents) → length objects < length contents → (x h : ℕ) → Puts objects f x h → IsIn (with_put objects contents f) x h
  now_put (Placed p) contents room x h puts =
      let new = with_put objects contents (Placed p) in
      subst (λ (n : ℕ). IsIn new n h) puts.0 (subst (λ (n : ℕ). IsIn new (number_in objects p.thing) n) puts.1 (added_in contents (number_in objects p.thing) (number_in objects p.holder) (room_for p.holder contents room)))
  now_put _ contents room x h puts = absurd puts

  pub put_room : (f : Fact) (contents : Contents) → length objects < length contents → length objects < length (with_put objects contents f)
  put_room (Placed p) contents room = omega (arith, room, length-set contents (number_in objects p.holder) (things_in contents (number_in objects p.holder) ++ number_in objects p.thing ∷ []))
  put_room _ contents room = room

  -- ---- what claims put

  put_by : (claims : List Claim) (contents : Contents) → length objects < length contents → (x h : ℕ) → IsIn (fold (with_put_of objects) contents claims) x h → IsIn contents x h ⊎ IsPut objects claims x h
  put_by [] contents room x h i = inl i
  put_by (c ∷ claims) contents room x h i =
      ⊎_elim
      (λ before. ⊎_elim (λ old. inl old) (λ now. inr (inl now)) (put_before c.fact contents room x h before))
      (λ later. inr (inr later))
      (put_by claims (with_put objects contents c.fact) (put_room c.fact contents room) x h i)

  pub put_there : (claims : List Claim) (contents : Contents) → length objects < length contents → (x h : ℕ) → IsIn contents x h ⊎ IsPut objects claims x h → IsIn (fold (with_put_of objects) contents claims) x h
  put_there [] contents room x h (inl i) = i
  put_there [] contents room x h (inr none) = absurd none
  put_there (c ∷ claims) contents room x h (inl i) = put_there claims (with_put objects contents c.fact) (put_room c.fact contents room) x h (inl (still_put c.fact contents room x h i))
  put_there (c ∷ claims) contents room x h (inr (inl now)) = put_there claims (with_put objects contents c.fact) (put_room c.fact contents room) x h (inl (now_put c.fact contents room x h now))
  put_there (c ∷ claims) contents room x h (inr (inr later)) = put_there claims (with_put objects contents c.fact) (put_room c.fact contents room) x h (inr later)

  nothing_at : (count o : ℕ) → things_in (replicate count []) o ≡ []
  nothing_at zero o = refl
  nothing_at (suc count) zero = refl
  nothing_at (suc count) (suc o) = nothing_at count o

  pub nothing_room : length objects < length (nothing_in (length objects))
  nothing_room = let none : List ℕ = [] in omega (arith, length-replicate (length objects + 1) none)

  -- what claims put where is in the contents that they leave
  pub put_decides : (claims : List Claim) (x h : ℕ) → (IsIn (contents_by objects claims) x h → IsPut objects claims x h)
      × (IsPut objects claims x h → IsIn (contents_by objects claims) x h)
  put_decides claims x h = (
    λ i. ⊎_elim
        (λ none. absurd (none_in x (subst (λ (things : List ℕ). Contains things x) (nothing_at (length objects + 1) h) none)))
        (λ put. put)
        (put_by claims (nothing_in (length objects)) nothing_room x h i),
    λ put. put_there claims (nothing_in (length objects)) nothing_room x h (inr put),
  )
