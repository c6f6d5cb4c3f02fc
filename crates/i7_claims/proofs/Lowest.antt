-- The lowest line that shows something, found from left to right.
use Rattle.std.proofs.Common.{◌≡◌, ℕ, ◌≤◌, min, Bool, true, false, List, [], ◌∷◌, ◌++◌, Option, refl, sym, ap, ◌∙◌, subst, append_assoc, append-nil, true≢false, arith, inl, inr, ◌⊎◌, ⊎_elim}
use Rattle.std.proofs.lemmas.Bool.{cases_lt, cases_Bool}
use Rattle.std.specs.Prelude.{Some, None, fold, Decides}
use Rattle.i7_claims.specs.declared.claim.Claim.{Claim}
use Rattle.i7_claims.specs.Scans.{IsLowest, ShownBy, lower, lowest}

lowest_of_same : (P Q : ℕ → Type 0) → ((line : ℕ) → P line → Q line) → ((line : ℕ) → Q line → P line) → (found : Option ℕ) → IsLowest P found → IsLowest Q found
lowest_of_same P Q to from None h = λ line q. h line (from line q)
lowest_of_same P Q to from (Some l) h = (to l h.0, λ line q. h.1 line (from line q))

no_line : {X : Type 0} (b : Bool) → b ≡ false → b ≡ true → X
no_line b f t = absurd (true≢false (sym t ∙ f))

-- one claim more
one_more : (Old : ℕ → Type 0) (Here : Type 0) (line : ℕ) (b : Bool) (found : Option ℕ) → Decides b Here → IsLowest Old found → IsLowest (λ l. Old l ⊎ (Here × (l ≡ line))) (lower b line found)
one_more Old Here line false None d h = λ l s. ⊎_elim (h l) (λ here. true≢false (sym (d.1 here.0))) s
one_more Old Here line false (Some f) d h = (inl h.0, λ l s. ⊎_elim (h.1 l) (λ here. absurd (true≢false (sym (d.1 here.0)))) s)
one_more Old Here line true None d h = (inr (d.0 refl, refl), λ l s. ⊎_elim (λ old. absurd (h l old)) (λ here. omega (arith, here.1)) s)
one_more Old Here line true (Some f) d h = (
  ⊎_elim
      (λ lt. let e : min f line ≡ line = omega (arith, lt) in inr (d.0 refl, e))
      (λ le. let e : min f line ≡ f = omega (arith, le) in inl (subst Old (sym e) h.0))
      (cases_lt line f),
  λ l s. ⊎_elim (λ old. let le : f ≤ l = h.1 l old in omega (arith, le)) (λ here. omega (arith, here.1)) s,
)

fold_push : {S : Type 0} (next : S → Claim → S) (start : S) (before : List Claim) (c : Claim) → fold next start (before ++ c ∷ []) ≡ next (fold next start before) c
fold_push next start [] c = refl
fold_push next start (x ∷ xs) c = fold_push next (next start x) xs c

module _ (Here : List Claim → Claim → Type 0) where
  -- some claim of those to come shows it, behind those before
  pub ShownFrom : List Claim → List Claim → ℕ → Type 0
  ShownFrom before [] line = ⊥
  ShownFrom before (c ∷ cs) line = (Here before c × (line ≡ c.line)) ⊎ ShownFrom (before ++ c ∷ []) cs line

  shown_to : (before rest : List Claim) (line : ℕ) → ShownFrom before rest line → ShownBy Here (before ++ rest) line
  unfolding ShownFrom
  shown_to before [] line h = elim h [ ]
  shown_to before (c ∷ cs) line (inl h) = record { before = before; claim = c; after = cs; split = refl; here = h.0; on = h.1 }
  shown_to before (c ∷ cs) line (inr h) = subst (λ (s : List Claim). ShownBy Here s line) (append_assoc before (c ∷ []) cs) (shown_to (before ++ c ∷ []) cs line h)

  shown_at : (before some : List Claim) (c : Claim) (after : List Claim) (line : ℕ) → Here (before ++ some) c → line ≡ c.line → ShownFrom before (some ++ c ∷ after) line
  unfolding ShownFrom
  shown_at before [] c after line h e = inl (subst (λ (s : List Claim). Here s c) (append-nil before) h, e)
  shown_at before (x ∷ xs) c after line h e = inr (shown_at (before ++ x ∷ []) xs c after line (subst (λ (s : List Claim). Here s c) (sym (append_assoc before (x ∷ []) xs)) h) e)

  module _ {S : Type 0} (shows : S → Claim → Bool) (next : S → Claim → S) (start : S) where
    lowest_from : (Old : ℕ → Type 0) (before rest : List Claim) (found : Option ℕ) → ((some : List Claim) (c : Claim) (after : List Claim) → rest ≡ some ++ c ∷ after → Decides (shows (fold next start (before ++ some)) c) (Here (before ++ some) c))
        → IsLowest Old found → IsLowest (λ l. Old l ⊎ ShownFrom before rest l) (lowest shows next (fold next start before) rest found)
    unfolding ShownFrom
    lowest_from Old before [] found d h = lowest_of_same Old (λ l. Old l ⊎ ⊥) (λ l old. inl old) (λ l s. ⊎_elim (λ old. old) (λ none. absurd none) s) found h
    lowest_from Old before (c ∷ cs) found d h =
        let here : Decides (shows (fold next start before) c) (Here before c) = subst (λ (s : List Claim). Decides (shows (fold next start s) c) (Here s c)) (append-nil before) (d [] c cs refl) in
        let more = lowest_from (λ l. Old l ⊎ (Here before c × (l ≡ c.line))) (before ++ c ∷ []) cs (lower (shows (fold next start before) c) c.line found)
        (λ some x after e. subst (λ (s : List Claim). Decides (shows (fold next start s) x) (Here s x)) (sym (append_assoc before (c ∷ []) some)) (d (c ∷ some) x after (ap (λ (s : List Claim). c ∷ s) e)))
        (one_more Old (Here before c) c.line (shows (fold next start before) c) found here h) in
        lowest_of_same _ _
        (λ l s. ⊎_elim (λ o. ⊎_elim (λ old. inl old) (λ now. inr (inl now)) o) (λ later. inr (inr later)) s)
        (λ l s. ⊎_elim (λ old. inl (inl old)) (λ o. ⊎_elim (λ now. inl (inr now)) (λ later. inr later) o) s)
        _
        (subst (λ (state : S). IsLowest (λ l. (Old l ⊎ (Here before c × (l ≡ c.line))) ⊎ ShownFrom (before ++ c ∷ []) cs l) (lowest shows next state cs (lower (shows (fold next start before) c) c.line found))) (fold_push next start before c) more)

    -- a pass whose test decides, at each claim, what the claim shows finds the lowest line
    pub lowest_is : (claims : List Claim) → ((before : List Claim) (c : Claim) (after : List Claim) → claims ≡ before ++ c ∷ after → Decides (shows (fold next start before) c) (Here before c))
        → IsLowest (ShownBy Here claims) (lowest shows next start claims None)
    lowest_is claims d =
        lowest_of_same (λ l. ⊥ ⊎ ShownFrom [] claims l) (ShownBy Here claims)
        (λ l s. ⊎_elim (λ none. absurd none) (λ shown. shown_to [] claims l shown) s)
        (λ l s. inr (subst (λ (cs : List Claim). ShownFrom [] cs l) (sym s.split) (shown_at [] s.before s.claim s.after l s.here s.on)))
        (lowest shows next start claims None)
        (lowest_from (λ l. ⊥) [] claims None d (λ l none. none))

-- a line that is found stays, or a lower one does
pub found_stays : {S : Type 0} (shows : S → Claim → Bool) (next : S → Claim → S) (s : S) (claims : List Claim) (line : ℕ) → lowest shows next s claims (Some line) ≡ None → ⊥
found_stays shows next s [] line h = absurd cc
found_stays shows next s (c ∷ cs) line h =
    elim (cases_Bool (shows s c)) [
      | inl is ↦ let later : lowest shows next (next s c) cs (Some (min line c.line)) ≡ None = rw is at h in found_stays shows next (next s c) cs (min line c.line) later
      | inr isnt ↦ let later : lowest shows next (next s c) cs (Some line) ≡ None = rw isnt at h in found_stays shows next (next s c) cs line later
    ]

-- where nothing is found, the first shows nothing, and nothing is found behind it
pub none_shown : {S : Type 0} (shows : S → Claim → Bool) (next : S → Claim → S) (s : S) (c : Claim) (cs : List Claim) → lowest shows next s (c ∷ cs) None ≡ None → (shows s c ≡ false) × (lowest shows next (next s c) cs None ≡ None)
none_shown shows next s c cs h =
    elim (cases_Bool (shows s c)) [
      | inl is ↦ let later : lowest shows next (next s c) cs (Some c.line) ≡ None = rw is at h in absurd (found_stays shows next (next s c) cs c.line later)
      | inr isnt ↦ let later : lowest shows next (next s c) cs None ≡ None = rw isnt at h in (isnt, later)
    ]
