-- What is told of doors is what some claim tells, and the scan for rooms that are told again finds the lowest line.
use Rattle.std.proofs.Common.{◌≡◌, ℕ, Bool, true, false, ◌||◌, List, [], ◌∷◌, ◌++◌, Option, refl, sym, ap, ◌∙◌, subst, inl, inr, ◌⊎◌, ⊎_elim, true≢false}
use Rattle.std.specs.Prelude.{Some, None, Decides, bytes_eq, fold}
use Rattle.std.proofs.lemmas.List.Folds.{list_any-append}
use Rattle.std.proofs.lemmas.Slice.Eq.{bytes_eq-Decides}
use Rattle.std.proofs.lemmas.Bool.{cases_Bool, and_from, and_parts, or_cases, or_left, or_right}
use Rattle.world_meaning.proofs.Climbs.{climbs_decide}
use Rattle.world_meaning.specs.Kinds.{door_kind, is_under}
use Rattle.i7_kinds.specs.Doors.{DemandsDoor, IsDoorDemanded, IsTold, IsToldAgain, all_told, door_demanded, door_told, door_twice, doors_of, is_door_kind, is_told_again, shows_told_again, with_told}
use Rattle.i7_claims.specs.Numbers.{has_name, number_in}
use Rattle.i7_claims.specs.Scans.{IsLowest, ShownBy}
use Rattle.i7_claims.specs.Sorts.{with_name}
use Rattle.i7_claims.specs.declared.claim.Claim.{Claim}
use Rattle.i7_claims.specs.declared.claim.Fact.{Fact}
use Rattle.i7_claims.specs.declared.claim.Fact.TheVariants.{Between, Demands}
use Rattle.i7_claims.proofs.BookScans.{mention_has}
use Rattle.i7_claims.proofs.Lowest.{lowest_is}
use Rattle.i7_claims.proofs.NameScans.{never}

one_name : (name other : List ℕ) → (bytes_eq other name || false) ≡ bytes_eq other name
one_name name other = elim (cases_Bool (bytes_eq other name)) [
  | inl is ↦ rw is refl
  | inr isnt ↦ rw isnt refl
]

-- what one more name is among
more_has : (names : List (List ℕ)) (name other : List ℕ) → has_name (with_name names (Some name)) other ≡ (has_name names other || bytes_eq other name)
more_has names name other =
    mention_has names name other ∙ list_any-append (bytes_eq other) names (name ∷ []) ∙ ap (λ (b : Bool). has_name names other || b) (one_name name other)

module _ (told : Fact → Option (List ℕ)) where
  -- one of these claims tells a name
  TellsOne : List Claim → List ℕ → Type 0
  TellsOne [] name = ⊥
  TellsOne (c ∷ cs) name = (told c.fact ≡ Some name) ⊎ TellsOne cs name

  step_to : (names : List (List ℕ)) (found : Option (List ℕ)) (name : List ℕ) → has_name (with_name names found) name ≡ true → (has_name names name ≡ true) ⊎ (found ≡ Some name)
  step_to names None name h = inl h
  step_to names (Some other) name h =
      ⊎_elim (λ old. inl old) (λ same. inr (ap (λ (n : List ℕ). Some n) (sym ((bytes_eq-Decides name other).0 same)))) (or_cases (has_name names name) (bytes_eq name other) (sym (more_has names other name) ∙ h))

  step_old : (names : List (List ℕ)) (found : Option (List ℕ)) (name : List ℕ) → has_name names name ≡ true → has_name (with_name names found) name ≡ true
  step_old names None name h = h
  step_old names (Some other) name h = more_has names other name ∙ or_left (has_name names name) (bytes_eq name other) h

  step_new : (names : List (List ℕ)) (found : Option (List ℕ)) (name : List ℕ) → found ≡ Some name → has_name (with_name names found) name ≡ true
  step_new names None name h = absurd cc
  step_new names (Some other) name h =
      let same : name ≡ other = cc in
      more_has names other name ∙ or_right (has_name names name) (bytes_eq name other) ((bytes_eq-Decides name other).1 same)

  fold_to : (claims : List Claim) (names : List (List ℕ)) (name : List ℕ) → has_name (fold (with_told told) names claims) name ≡ true → (has_name names name ≡ true) ⊎ TellsOne claims name
  unfolding TellsOne
  fold_to [] names name h = inl h
  fold_to (c ∷ cs) names name h =
      ⊎_elim (λ old. ⊎_elim (λ older. inl older) (λ here. inr (inl here)) (step_to names (told c.fact) name old)) (λ later. inr (inr later)) (fold_to cs (with_name names (told c.fact)) name h)

  fold_old : (claims : List Claim) (names : List (List ℕ)) (name : List ℕ) → has_name names name ≡ true → has_name (fold (with_told told) names claims) name ≡ true
  fold_old [] names name h = h
  fold_old (c ∷ cs) names name h = fold_old cs (with_name names (told c.fact)) name (step_old names (told c.fact) name h)

  fold_new : (some : List Claim) (c : Claim) (after : List Claim) (names : List (List ℕ)) (name : List ℕ) → told c.fact ≡ Some name → has_name (fold (with_told told) names (some ++ c ∷ after)) name ≡ true
  fold_new [] c after names name h = fold_old after (with_name names (told c.fact)) name (step_new names (told c.fact) name h)
  fold_new (x ∷ xs) c after names name h = fold_new xs c after (with_name names (told x.fact)) name h

  shown_of : (claims : List Claim) (name : List ℕ) → TellsOne claims name → IsTold told claims name
  unfolding TellsOne
  shown_of [] name h = elim h [ ]
  shown_of (c ∷ cs) name (inl here) = (c.line, record { before = []; claim = c; after = cs; split = refl; here = here; on = refl })
  shown_of (c ∷ cs) name (inr later) =
      let t = shown_of cs name later in
      (t.0, record { before = c ∷ t.1.before; claim = t.1.claim; after = t.1.after; split = ap (λ (s : List Claim). c ∷ s) t.1.split; here = t.1.here; on = t.1.on })

  -- the names that are told are those that some claim tells
  pub told_decides : (claims : List Claim) (name : List ℕ) → Decides (has_name (all_told told claims) name) (IsTold told claims name)
  told_decides claims name = (
    λ h. ⊎_elim (λ none. absurd (true≢false (sym none))) (λ tells. shown_of claims name tells) (fold_to claims [] name h),
    λ t. subst (λ (s : List Claim). has_name (all_told told s) name ≡ true) (sym t.1.split) (fold_new t.1.before t.1.claim t.1.after [] name t.1.here),
  )

-- ---- what is a door

demanded_to : (kinds : List (List ℕ)) (parents : List (Option ℕ)) (object : List ℕ) (f : Fact) → door_demanded kinds parents f ≡ Some object → DemandsDoor kinds parents object f
demanded_to kinds parents object (Demands d) h =
    elim (cases_Bool (is_door_kind kinds parents d.kind)) [
      | inl is ↦
          let t = and_parts (has_name kinds d.kind) (is_under parents (number_in kinds d.kind) door_kind) is in
          let told : Some d.object ≡ Some object = rw is at h in
          (cc, t.0, (climbs_decide parents (number_in kinds d.kind) door_kind).0 t.1)
      | inr isnt ↦ let none : None ≡ Some object = rw isnt at h in absurd cc
    ]
demanded_to kinds parents object _ h = absurd cc

demanded_from : (kinds : List (List ℕ)) (parents : List (Option ℕ)) (object : List ℕ) (f : Fact) → DemandsDoor kinds parents object f → door_demanded kinds parents f ≡ Some object
demanded_from kinds parents object (Demands d) t =
    let is : is_door_kind kinds parents d.kind ≡ true = and_from (has_name kinds d.kind) (is_under parents (number_in kinds d.kind) door_kind) t.1 ((climbs_decide parents (number_in kinds d.kind) door_kind).1 t.2) in
    rw is (ap (λ (n : List ℕ). Some n) t.0)
demanded_from kinds parents object _ t = absurd t

pub doors_decide : (kinds : List (List ℕ)) (parents : List (Option ℕ)) (claims : List Claim) (object : List ℕ) → Decides (has_name (doors_of kinds parents claims) object) (IsDoorDemanded kinds parents claims object)
doors_decide kinds parents claims object =
    let d = told_decides (door_demanded kinds parents) claims object in (
      λ h. let t = d.0 h in (t.0, record { before = t.1.before; claim = t.1.claim; after = t.1.after; split = t.1.split; here = demanded_to kinds parents object t.1.claim.fact t.1.here; on = t.1.on }),
      λ t. d.1 (t.0, record { before = t.1.before; claim = t.1.claim; after = t.1.after; split = t.1.split; here = demanded_from kinds parents object t.1.claim.fact t.1.here; on = t.1.on }),
    )

-- ---- rooms that are told again

again_decides : (before : List Claim) (f : Fact) → Decides (is_told_again (all_told door_told before) f) (IsToldAgain before f)
again_decides before (Between door) = told_decides door_told before door
again_decides before _ = never (λ h. h)

pub again_lowest : (claims : List Claim) → IsLowest (ShownBy (λ before c. IsToldAgain before c.fact) claims) (door_twice claims)
again_lowest claims = lowest_is (λ before c. IsToldAgain before c.fact) shows_told_again (with_told door_told) [] claims (λ before c after split. again_decides before c.fact)
