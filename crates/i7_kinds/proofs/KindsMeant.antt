-- The kind that is known of an object in the end is the kind that is meant for its name, and no other is.
use Rattle.std.proofs.Common.{◌≡◌, ℕ, ◌<◌, Bool, true, false, eqb, List, [], ◌∷◌, ◌++◌, length, Option, refl, sym, ap, ◌∙◌, subst, arith, inl, inr, ◌⊎◌, ⊎_elim, true≢false}
use Rattle.std.specs.Prelude.{Some, None, Decides, codes, slice_get}
use Rattle.std.proofs.lemmas.Bool.{eqb-true, eq-eqb, cases_Bool, not-false}
use Rattle.std.proofs.lemmas.Option.{slice_get_within}
use Rattle.world_meaning.specs.Directions.{direction_name, direction_number}
use Rattle.world_meaning.specs.Kinds.{Under, itself as no_step, above as step, built_in_parents, container_kind, direction_kind, door_kind, person_kind, room_kind, thing_kind}
use Rattle.world_meaning.specs.declared.place.Rel.{Rel}
use Rattle.world_meaning.specs.declared.place.Rel.TheVariants.{In}
use Rattle.i7_claims.specs.KindNames.{kind_names}
use Rattle.i7_claims.specs.Numbers.{has_name, number_in}
use Rattle.i7_claims.specs.Scans.{ShownBy}
use Rattle.i7_claims.specs.Sorts.{built_in_kinds}
use Rattle.i7_claims.specs.Statements.{built_in_keys}
use Rattle.i7_claims.specs.declared.claim.Claim.{Claim}
use Rattle.i7_claims.specs.declared.claim.Demand.{Demand}
use Rattle.i7_claims.specs.declared.claim.Fact.{Fact}
use Rattle.i7_claims.specs.declared.claim.Fact.TheVariants.{Demands, Placed, RoomUnlessDoor}
use Rattle.i7_kinds.specs.Doors.{DemandsDoor}
use Rattle.i7_kinds.specs.KindClaims.{parents_of}
use Rattle.i7_kinds.specs.KindsMeant.{HasKind, HoldsSomething, IsClaimed, IsDemanded, IsSaidDoor, IsThingAtMost, by_claim, by_way, container, deepest, of_direction, of_player, thing}
use Rattle.i7_kinds.specs.Knowns.{first_knowns, kind_by, kind_of, known_at, knowns_of, thing_or_container}
use Rattle.i7_kinds.specs.Tales.{scope_of}
use Rattle.i7_kinds.specs.declared.knowns.Demanded.{Demanded}
use Rattle.i7_kinds.specs.declared.knowns.Demanded.TheVariants.{Nothing, Deepest, Parted}
use Rattle.i7_kinds.specs.declared.knowns.Known.{Known}
use Rattle.i7_kinds.proofs.DemandsSummed.{DemandsKind, IsHeldIn, IsKnown, SomeFact, Sums, claims_known, fact_among, fact_of}
use Rattle.i7_kinds.proofs.DoorScans.{doors_decide}
use Rattle.i7_kinds.proofs.Fines.{IsFine, base}
use Rattle.i7_kinds.proofs.FirstDemands.{IsFirst, direction_is_first, first_are_known, first_named, player_is_first}
use Rattle.i7_kinds.proofs.KindPlaces.{AreNew}
use Rattle.i7_kinds.proofs.NamesOnce.{StandOnce, at_number, number_is, number_past, one_value}
use Rattle.i7_kinds.proofs.ObjectsNamed.{NoneFound}
use Rattle.i7_kinds.proofs.Readiness.{fine_of}
use Rattle.i7_kinds.proofs.Rooted.{authors_behind}
use Rattle.i7_kinds.proofs.UnderNames.{built_in_stands, kind_number, none_unknown, to_numbers, under_named}

-- ---- what is claimed stands somewhere

in_parts : (before : List Claim) (c : Claim) (after : List Claim) → IsClaimed (before ++ c ∷ after) c.fact
in_parts [] c after = inl refl
in_parts (b ∷ before) c after = inr (in_parts before c after)

shown_where : (claims : List Claim) (f : Fact) → IsClaimed claims f → (line : ℕ) × ShownBy (λ before c. c.fact ≡ f) claims line
shown_where [] f h = absurd h
shown_where (c ∷ claims) f (inl here) = (c.line, record { before = []; claim = c; after = claims; split = refl; here = here; on = refl })
shown_where (c ∷ claims) f (inr later) =
    let t = shown_where claims f later in
    (t.0, record { before = c ∷ t.1.before; claim = t.1.claim; after = t.1.after; split = ap (λ (cs : List Claim). c ∷ cs) t.1.split; here = t.1.here; on = t.1.on })

-- nothing lies above a root
at_root : (S : List (Option ℕ)) (x y : ℕ) → slice_get S x ≡ Some None → Under S x y → x ≡ y
at_root S x y h no_step = refl
at_root S x y h (step {parent = p} e u) = absurd (let other : Some None ≡ Some (Some p) = sym h ∙ e in cc)

-- ---- a source that shows no fault

module _ (claims : List Claim) (keys : List (List ℕ)) (new : AreNew built_in_kinds claims) (found : NoneFound claims keys) where
  pub kind_at_number : (i : ℕ) (kind : List ℕ) → slice_get built_in_kinds i ≡ Some kind → slice_get (kind_names claims) i ≡ Some kind
  kind_at_number i kind h = built_in_stands claims new found.known i kind h

  pub numbered : (i : ℕ) (kind : List ℕ) → slice_get built_in_kinds i ≡ Some kind → number_in (kind_names claims) kind ≡ i
  numbered i kind h = kind_number claims new found.known i kind (kind_at_number i kind h)

  pub is_kind : (d : Demand) → IsClaimed claims (Demands d) → has_name (kind_names claims) d.kind ≡ true
  is_kind d h = not-false (has_name (kind_names claims) d.kind) (none_unknown (kind_names claims) claims (Demands d) found.known h)

  -- ---- doors, by their names

  said_door : (name : List ℕ) (f : Fact) → DemandsDoor (kind_names claims) (parents_of (kind_names claims) claims) name f → IsClaimed claims f → IsSaidDoor claims name
  unfolding built_in_kinds
  said_door name (Demands d) t h =
      let N = kind_names claims in
      let here : IsClaimed claims (Demands (record { object = name; kind = d.kind })) = subst (λ (n : List ℕ). IsClaimed claims (Demands (record { object = n; kind = d.kind }))) t.0 h in
      (d.kind, here, under_named claims new found.known (number_in N d.kind) 3 d.kind (codes "door") (at_number N d.kind t.1) (kind_at_number 3 (codes "door") refl) t.2)
  said_door name _ t h = absurd t

  is_said_door : (name : List ℕ) → has_name (scope_of claims keys).doors name ≡ true → IsSaidDoor claims name
  is_said_door name h =
      let t = (doors_decide (kind_names claims) (parents_of (kind_names claims) claims) claims name).0 h in
      let g = t.1 in
      said_door name g.claim.fact g.here (subst (λ (cs : List Claim). IsClaimed cs g.claim.fact) (sym g.split) (in_parts g.before g.claim g.after))

  is_door : (name : List ℕ) → IsSaidDoor claims name → has_name (scope_of claims keys).doors name ≡ true
  unfolding built_in_kinds
  is_door name said =
      let N = kind_names claims in
      let S = parents_of N claims in
      let d : Demand = record { object = name; kind = said.0 } in
      let under : Under S (number_in N said.0) door_kind = subst (λ (n : ℕ). Under S (number_in N said.0) n) (numbered door_kind (codes "door") refl)
      (to_numbers claims new found.known said.0 (codes "door") said.2) in
      let demands : DemandsDoor N S name (Demands d) = (refl, is_kind d said.1, under) in
      let t = shown_where claims (Demands d) said.1 in
      (doors_decide N S claims name).1
      (t.0, record { before = t.1.before; claim = t.1.claim; after = t.1.after; split = t.1.split; here = subst (DemandsDoor N S name) (sym t.1.here) demands; on = t.1.on })

  -- ---- of one object

  module _ (more : List (List ℕ)) (first : keys ≡ built_in_keys ++ more) (once : StandOnce keys) (o : ℕ) (name : List ℕ) (stands : slice_get keys o ≡ Some name) where
    -- the number of a kind that is demanded of it
    abbrev pub IsAsked : ℕ → Type 0
    IsAsked x = (base o ≡ Some x) ⊎ SomeFact (DemandsKind (scope_of claims keys) name x) claims

    abbrev pub IsAskedAs : ℕ → Type 0
    IsAskedAs x = (kind : List ℕ) × IsDemanded claims name kind × (slice_get (kind_names claims) x ≡ Some kind)

    first_asked : (x : ℕ) → IsFirst name x → IsAskedAs x
    unfolding built_in_kinds
    first_asked x (inl player) = (codes "person", of_player player.0 refl, ap (slice_get (kind_names claims)) player.1 ∙ kind_at_number person_kind (codes "person") refl)
    first_asked x (inr t) = (codes "direction", of_direction t.0 t.1 refl, ap (slice_get (kind_names claims)) t.2 ∙ kind_at_number direction_kind (codes "direction") refl)

    claim_asked : (x : ℕ) (f : Fact) → IsClaimed claims f → DemandsKind (scope_of claims keys) name x f → IsAskedAs x
    unfolding built_in_kinds
    claim_asked x (Demands d) h t =
        let N = kind_names claims in
        let here : IsClaimed claims (Demands (record { object = name; kind = d.kind })) = subst (λ (n : List ℕ). IsClaimed claims (Demands (record { object = n; kind = d.kind }))) t.0 h in
        (d.kind, by_claim here, ap (slice_get N) t.2 ∙ at_number N d.kind t.1)
    claim_asked x (RoomUnlessDoor object) h t =
        let here : IsClaimed claims (RoomUnlessDoor name) = subst (λ (n : List ℕ). IsClaimed claims (RoomUnlessDoor n)) t.0 h in
        let none : has_name (scope_of claims keys).doors name ≡ false = ap (has_name (scope_of claims keys).doors) (sym t.0) ∙ t.1 in
        (codes "room", by_way here (λ door. true≢false (sym (is_door name door) ∙ none)) refl, ap (slice_get (kind_names claims)) t.2 ∙ kind_at_number room_kind (codes "room") refl)
    claim_asked x _ h t = absurd t

    asked : (x : ℕ) → IsAsked x → IsAskedAs x
    asked x (inl b) = first_asked x (first_named more o name x (subst (λ (ks : List (List ℕ)). slice_get ks o ≡ Some name) first stands) b)
    asked x (inr h) = let t = fact_of (DemandsKind (scope_of claims keys) name x) claims h in claim_asked x t.0 t.1 t.2

    placed_first : (i : ℕ) (other : List ℕ) (x : ℕ) → slice_get (built_in_keys ++ more) i ≡ Some other → base i ≡ Some x → name ≡ other → base o ≡ Some x
    placed_first i other x h b same =
        let there : slice_get keys i ≡ Some name = subst (λ (ks : List (List ℕ)). slice_get ks i ≡ Some name) (sym first) (h ∙ ap (λ (n : List ℕ). Some n) (sym same)) in
        ap base (once o i name stands there) ∙ b

    -- each demanded kind is there, and its number is asked
    asks : (kind : List ℕ) → IsDemanded claims name kind → IsAsked (number_in (kind_names claims) kind) × (slice_get (kind_names claims) (number_in (kind_names claims) kind) ≡ Some kind)
    unfolding built_in_kinds
    asks kind (of_player is same) =
        let N = kind_names claims in
        let number : number_in N kind ≡ person_kind = ap (number_in N) same ∙ numbered person_kind (codes "person") refl in (
          inl (subst (λ (n : ℕ). base o ≡ Some n) (sym number) (placed_first 0 (codes "yourself") person_kind (player_is_first more) refl is)),
          ap (slice_get N) number ∙ kind_at_number person_kind (codes "person") refl ∙ ap (λ (n : List ℕ). Some n) (sym same),
        )
    asks kind (of_direction d is same) =
        let N = kind_names claims in
        let number : number_in N kind ≡ direction_kind = ap (number_in N) same ∙ numbered direction_kind (codes "direction") refl in
        let t = direction_is_first more d in (
          inl (subst (λ (n : ℕ). base o ≡ Some n) (sym number) (placed_first (direction_number d) (direction_name d) direction_kind t.0 t.1 is)),
          ap (slice_get N) number ∙ kind_at_number direction_kind (codes "direction") refl ∙ ap (λ (n : List ℕ). Some n) (sym same),
        )
    asks kind (by_claim h) =
        let N = kind_names claims in
        let there = is_kind (record { object = name; kind = kind }) h in
        (inr (fact_among (DemandsKind (scope_of claims keys) name (number_in N kind)) claims (Demands (record { object = name; kind = kind })) h (refl, there, refl)), at_number N kind there)
    asks kind (by_way h none same) =
        let N = kind_names claims in
        let doors = (scope_of claims keys).doors in
        let number : number_in N kind ≡ room_kind = ap (number_in N) same ∙ numbered room_kind (codes "room") refl in
        let no_door : has_name doors name ≡ false = ⊎_elim (λ is. absurd (none (is_said_door name is))) (λ isnt. isnt) (cases_Bool (has_name doors name)) in (
          inr (fact_among (DemandsKind (scope_of claims keys) name (number_in N kind)) claims (RoomUnlessDoor name) h (refl, no_door, number)),
          ap (slice_get N) number ∙ kind_at_number room_kind (codes "room") refl ∙ ap (λ (n : List ℕ). Some n) (sym same),
        )

    -- ---- what is in it

    held : (f : Fact) → IsClaimed claims f → IsHeldIn name f → HoldsSomething claims name
    held (Placed p) h t = (
      p.thing,
      subst (λ (n : List ℕ). IsClaimed claims (Placed (record { thing = p.thing; relation = In; holder = n }))) t.1
          (subst (λ (r : Rel). IsClaimed claims (Placed (record { thing = p.thing; relation = r; holder = p.holder }))) t.0 h),
    )
    held _ h t = absurd t

    is_held : SomeFact (IsHeldIn name) claims → HoldsSomething claims name
    is_held h = let t = fact_of (IsHeldIn name) claims h in held t.0 t.1 t.2

    holds : HoldsSomething claims name → SomeFact (IsHeldIn name) claims
    holds t = fact_among (IsHeldIn name) claims (Placed (record { thing = t.0; relation = In; holder = name })) t.1 (refl, refl)

    -- ---- the kind that it is known to have

    abbrev HasKindAt : ℕ → Type 0
    HasKindAt number = (kind : List ℕ) × (slice_get (kind_names claims) number ≡ Some kind) × HasKind claims name kind

    thing_or : (is : Bool) → Decides is (⊥ ⊎ SomeFact (IsHeldIn name) claims) → IsThingAtMost claims name → HasKindAt (thing_or_container is)
    unfolding built_in_kinds
    thing_or true d most = (codes "container", kind_at_number container_kind (codes "container") refl, container most (⊎_elim (λ none. absurd none) is_held (d.0 refl)) refl)
    thing_or false d most = (codes "thing", kind_at_number thing_kind (codes "thing") refl, thing most (λ h. true≢false (sym (d.1 (inr (holds h))))) refl)

    nothing_asked : ((x : ℕ) → IsAsked x → ⊥) → IsThingAtMost claims name
    nothing_asked none kind h = absurd (none (number_in (kind_names claims) kind) (asks kind h).0)

    thing_asked : ((x : ℕ) → IsAsked x → Under (parents_of (kind_names claims) claims) 0 x) → slice_get (parents_of (kind_names claims) claims) 0 ≡ Some None → IsThingAtMost claims name
    unfolding built_in_kinds
    thing_asked all root kind h =
        let N = kind_names claims in
        let t = asks kind h in
        let same : 0 ≡ number_in N kind = at_root (parents_of N claims) 0 (number_in N kind) root (all (number_in N kind) t.0) in
        one_value (slice_get N 0) kind (codes "thing") (ap (slice_get N) same ∙ t.1) (kind_at_number thing_kind (codes "thing") refl)

    deeper : (d : ℕ) → (d ≡ 0 → ⊥) → IsAsked d → ((x : ℕ) → IsAsked x → Under (parents_of (kind_names claims) claims) d x) → HasKindAt d
    unfolding built_in_kinds
    deeper d more_than ask all =
        let N = kind_names claims in
        let t = asked d ask in (
          t.0,
          t.2,
          deepest t.1 (λ same. more_than (sym (kind_number claims new found.known d (codes "thing") (t.2 ∙ ap (λ (n : List ℕ). Some n) same)) ∙ numbered thing_kind (codes "thing") refl))
              (λ other h. let a = asks other h in under_named claims new found.known d (number_in N other) t.0 other t.2 a.1 (all (number_in N other) a.0)),
        )

    meant : (demanded : Demanded) (is : Bool) (b : Option ℕ) (n : ℕ) → IsFine (parents_of (kind_names claims) claims) n b demanded → slice_get (parents_of (kind_names claims) claims) 0 ≡ Some None
        → Sums (parents_of (kind_names claims) claims) IsAsked demanded → Decides is (⊥ ⊎ SomeFact (IsHeldIn name) claims) → HasKindAt (kind_by demanded is)
    meant Nothing is b n fine root sums d = thing_or is d (nothing_asked sums)
    meant (Deepest k) is b n fine root sums d =
        elim (cases_Bool (eqb k 0)) [
          | inl zero_is ↦ rw zero_is (thing_or is d (thing_asked (subst (λ (m : ℕ). (x : ℕ) → IsAsked x → Under (parents_of (kind_names claims) claims) m x) (eqb-true k 0 zero_is) sums.1) root))
          | inr isnt ↦ rw isnt (deeper k (λ same. true≢false (sym (eq-eqb k 0 same) ∙ isnt)) sums.0 sums.1)
        ]
    meant Parted is b n fine root sums d = absurd fine

    kind_meant : (known : Known) (b : Option ℕ) (n : ℕ) → IsFine (parents_of (kind_names claims) claims) n b known.demanded → slice_get (parents_of (kind_names claims) claims) 0 ≡ Some None
        → IsKnown (parents_of (kind_names claims) claims) IsAsked (⊥ ⊎ SomeFact (IsHeldIn name) claims) known → HasKindAt (kind_of known)
    kind_meant known b n fine root h = meant known.demanded known.holds b n fine root h.0 h.1

    thing_is_root : slice_get (parents_of (kind_names claims) claims) 0 ≡ Some None
    unfolding built_in_parents
    thing_is_root = subst (λ (S : List (Option ℕ)). slice_get S 0 ≡ Some None) (sym (authors_behind claims)) refl

    only_it : (other : List ℕ) → o ≡ number_in keys other → other ≡ name
    only_it other same =
        elim (cases_Bool (has_name keys other)) [
          | inl is ↦ one_value (slice_get keys o) other name (ap (slice_get keys) same ∙ at_number keys other is) stands
          | inr isnt ↦ let lt : o < length keys = slice_get_within keys o name stands in let past : number_in keys other ≡ length keys = number_past keys other isnt in absurd (omega (arith, lt, past, same))
        ]

    -- what is known of it by all claims
    pub object_meant : length keys ≡ length (first_knowns (length keys)) → HasKindAt (kind_of (known_at (knowns_of (scope_of claims keys) claims) o))
    object_meant counted =
        let S = parents_of (kind_names claims) claims in
        let s = scope_of claims keys in
        let lt : o < length keys = slice_get_within keys o name stands in
        kind_meant (known_at (knowns_of s claims) o) (base o) (length S) (fine_of claims keys found.known found.on_path o) thing_is_root
        (claims_known s name o only_it (number_is keys once o name stands) claims (λ x. base o ≡ Some x) ⊥ (first_knowns (length keys)) (omega (arith, lt, counted))
        (first_are_known S (length keys) o))
