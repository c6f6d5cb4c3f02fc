-- What the kinds don't allow is found at the first statement, and at the lowest line of a claim, that shows it.
use Rattle.std.proofs.Common.{◌≡◌, ℕ, Bool, true, false, not, ◌&&◌, ◌||◌, List, [], ◌∷◌, Option, refl, sym, ◌∙◌, subst, inl, inr, ◌⊎◌, ⊎_elim, true≢false}
use Rattle.std.specs.Prelude.{◌==◌, Some, None, Decides, fold, option_map, slice_get}
use Rattle.std.specs.List.{Any, list_any}
use Rattle.std.proofs.lemmas.Bool.Decides.{Decides-and, Decides-eqb, Decides-like, Decides-not, Decides-or}
use Rattle.std.proofs.lemmas.List.Folds.{Any-from_list_any, list_any-from_Any}
use Rattle.std.proofs.lemmas.Bool.{cases_Bool}
use Rattle.world_meaning.proofs.Climbs.{climbs_decide}
use Rattle.world_meaning.specs.Kinds.{Under, door_kind, is_under, room_kind}
use Rattle.world_meaning.specs.Placing.{can_be_held, can_hold, keeps_player}
use Rattle.world_meaning.specs.Sight.{is_in}
use Rattle.world_meaning.specs.declared.place.Place.{Place}
use Rattle.world_meaning.specs.declared.place.Rel.{Rel}
use Rattle.world_meaning.specs.declared.place.Rel.TheVariants.{In, On, Carried, Worn, Part}
use Rattle.i7_claims.proofs.Lowest.{lowest_is}
use Rattle.i7_claims.proofs.NameScans.{never}
use Rattle.i7_claims.specs.Numbers.{number_in}
use Rattle.i7_claims.specs.Scans.{IsLowest, ShownBy}
use Rattle.i7_claims.specs.declared.claim.Claim.{Claim}
use Rattle.i7_claims.specs.declared.claim.Value.{Value}
use Rattle.i7_claims.specs.declared.claim.Value.TheVariants.{Truth, Amount, Choice, Never}
use Rattle.i7_claims.specs.declared.claim.Fact.{Fact}
use Rattle.i7_claims.specs.declared.claim.Fact.TheVariants.{Has, Placed, Usually}
use Rattle.i7_claims.specs.declared.statements.Numbered.{Numbered}
use Rattle.i7_claims.specs.declared.statements.Numbered.TheVariants as numbered
use Rattle.i7_claims.specs.declared.statements.NumberedSentence.{NumberedSentence}
use Rattle.i7_kinds.specs.Demands.{is_door, is_no_room, is_room, is_wrong, is_wrong_subject, line_of_statement, subject_of, wrong_after, wrong_kind}
use Rattle.i7_kinds.specs.FirstShown.{IsFirst, IsFound}
use Rattle.i7_kinds.specs.Grants.{built_in_bases}
use Rattle.i7_kinds.specs.Knowns.{Scope, is_parted_at, kind_of, kinds_known, known_at}
use Rattle.i7_kinds.specs.Places.{place_of, thing_of}
use Rattle.i7_kinds.specs.RefusalsShown.{EndsAbout, HasProperty, Holds, IsDoor, IsLacking, IsNoRoom, IsRoom, IsUnsuited, IsWrong, Suits}
use Rattle.i7_kinds.specs.Suits.{can_be, is_never_said, is_unsuited, kinds_in, same_knowns, shows_unsuited, suits, unsuited}
use Rattle.i7_kinds.specs.declared.knowns.Known.{Known}
use Rattle.i7_kinds.proofs.FirstShown.{first_passed, first_same, found_of_first, passed_first}
use Rattle.i7_kinds.proofs.KindsDecided.{about_last, apart_decides, ends_from, ends_to, of_decides, then_about}

neither : {P Q : Type 0} (a b : Bool) → Decides a P → Decides b Q → Decides (not (a || b)) ((P → ⊥) × (Q → ⊥))
neither {P} {Q} a b p q = Decides-like (not (a || b)) (λ none. (λ x. none (inl x), λ y. none (inr y))) (λ none s. ⊎_elim none.0 none.1 s) (Decides-not (a || b) (Decides-or a b p q))

not_both : (a b : Bool) → not (a && b) ≡ (not a || not b)
not_both true b = refl
not_both false b = refl

either_not : {P Q : Type 0} (a b : Bool) → Decides a P → Decides b Q → Decides (not (a && b)) ((P → ⊥) ⊎ (Q → ⊥))
either_not {P} {Q} a b p q = subst (λ (v : Bool). Decides v ((P → ⊥) ⊎ (Q → ⊥))) (sym (not_both a b)) (Decides-or (not a) (not b) (Decides-not a p) (Decides-not b q))

module _ (parents : List (Option ℕ)) (knowns : List Known) where
  room_decides : (o : ℕ) → Decides (is_room parents knowns o) (IsRoom parents knowns o)
  room_decides o = of_decides parents knowns room_kind o

  door_decides : (o : ℕ) → Decides (is_door parents knowns o) (IsDoor parents knowns o)
  door_decides o = of_decides parents knowns door_kind o

  no_room_decides : (o : ℕ) → Decides (is_no_room parents knowns o) (IsNoRoom parents knowns o)
  no_room_decides o = Decides-and (not (is_parted_at knowns o)) (not (is_room parents knowns o)) (Decides-not (is_parted_at knowns o) (apart_decides knowns o))
      (Decides-not (is_room parents knowns o) (room_decides o))

  one_object : (a b : ℕ) → Some a ≡ Some b → a ≡ b
  one_object a b h = cc

  alone_decides : (before : List NumberedSentence) (state : Option ℕ) → about_last before ≡ state
      → Decides (is_wrong_subject parents knowns state) ((o : ℕ) → EndsAbout before o → IsNoRoom parents knowns o)
  alone_decides before None e = (
    λ is o ends. let some : Some o ≡ None = sym (ends_from before o ends) ∙ e in absurd cc,
    λ h. refl,
  )
  alone_decides before (Some o) e = (
    λ is other ends. subst (λ (n : ℕ). IsNoRoom parents knowns n) (one_object o other (sym e ∙ ends_from before other ends)) ((no_room_decides o).0 is),
    λ h. (no_room_decides o).1 (h o (ends_to before o e)),
  )

  wrong_decides : (before : List NumberedSentence) (said : Numbered) → Decides (is_wrong parents knowns (about_last before) said) (IsWrong parents knowns before said)
  wrong_decides before numbered.Aside = never (λ h. h)
  wrong_decides before (numbered.Description text) = alone_decides before (about_last before) refl
  wrong_decides before (numbered.Describes o text) = never (λ h. h)
  wrong_decides before (numbered.Being o) = never (λ h. h)
  wrong_decides before (numbered.Way way) =
      Decides-and _ _
      (neither (is_parted_at knowns way.subject) (is_parted_at knowns way.room) (apart_decides knowns way.subject) (apart_decides knowns way.room))
      (either_not (is_room parents knowns way.subject) (is_room parents knowns way.room) (room_decides way.subject) (room_decides way.room))
  wrong_decides before (numbered.Door d) =
      let first = d.first.room in
      let second = d.second.room in
      Decides-and _ _
      (Decides-like (not (is_parted_at knowns d.door || (is_parted_at knowns first || is_parted_at knowns second)))
      (λ none. (none.0, (λ x. none.1 (inl x), λ y. none.1 (inr y))))
      (λ none. (none.0, λ s. ⊎_elim none.1.0 none.1.1 s))
      (neither (is_parted_at knowns d.door) (is_parted_at knowns first || is_parted_at knowns second) (apart_decides knowns d.door)
      (Decides-or (is_parted_at knowns first) (is_parted_at knowns second) (apart_decides knowns first) (apart_decides knowns second))))
      (subst (λ (v : Bool). Decides v ((IsDoor parents knowns d.door → ⊥) ⊎ ((IsRoom parents knowns first → ⊥) ⊎ (IsRoom parents knowns second → ⊥))))
      (sym (not_both (is_door parents knowns d.door) (is_room parents knowns first && is_room parents knowns second)))
      (Decides-or (not (is_door parents knowns d.door)) (not (is_room parents knowns first && is_room parents knowns second)) (Decides-not (is_door parents knowns d.door) (door_decides d.door))
      (either_not (is_room parents knowns first) (is_room parents knowns second) (room_decides first) (room_decides second))))

  wrong_passed : (before : Option ℕ) (statements : List NumberedSentence)
      → wrong_after parents knowns before statements ≡ option_map line_of_statement (first_passed (λ state s. is_wrong parents knowns state s.said) then_about before statements)
  wrong_passed before [] = refl
  wrong_passed before (s ∷ statements) =
      elim (cases_Bool (is_wrong parents knowns before s.said)) [
        | inl is ↦ rw is refl
        | inr isnt ↦ rw isnt (wrong_passed (subject_of s.said) statements)
      ]

  abbrev WrongHere : List NumberedSentence → NumberedSentence → Type 0
  WrongHere before s = IsWrong parents knowns before s.said

  pub wrong_found : (statements : List NumberedSentence) → IsFound line_of_statement (λ before s. IsWrong parents knowns before s.said) statements (wrong_kind parents knowns statements)
  wrong_found statements =
      found_of_first line_of_statement WrongHere statements (wrong_kind parents knowns statements)
      (first_same line_of_statement (λ before s. is_wrong parents knowns (about_last before) s.said ≡ true) WrongHere statements (wrong_kind parents knowns statements)
      (λ before s after split is. (wrong_decides before s.said).0 is)
      (λ before s after split h. inl ((wrong_decides before s.said).1 h))
      (subst (λ (line : Option ℕ). IsFirst line_of_statement (λ before s. is_wrong parents knowns (about_last before) s.said ≡ true) statements line) (sym (wrong_passed None statements))
      (passed_first line_of_statement (λ state s. is_wrong parents knowns state s.said) then_about None statements)))

  -- ---- places

  holds_decides : (relation : Rel) (holder : ℕ) → Decides (can_hold (kinds_known parents knowns) relation holder) (Holds parents knowns relation holder)
  holds_decides In holder = Decides-or _ _ (room_decides holder) (of_decides parents knowns 4 holder)
  holds_decides On holder = of_decides parents knowns 5 holder
  holds_decides Carried holder = of_decides parents knowns 6 holder
  holds_decides Worn holder = of_decides parents knowns 6 holder
  holds_decides Part holder = of_decides parents knowns 0 holder

  in_decides : (relation : Rel) → Decides (is_in relation) (relation ≡ In)
  in_decides In = (λ h. refl, λ h. refl)
  in_decides On = never (λ h. absurd cc)
  in_decides Carried = never (λ h. absurd cc)
  in_decides Worn = never (λ h. absurd cc)
  in_decides Part = never (λ h. absurd cc)

  implied : {P Q : Type 0} (a b : Bool) → Decides a P → Decides b Q → Decides (not a || b) (P → Q)
  implied true b p q = (λ h x. q.0 h, λ f. q.1 (f (p.0 refl)))
  implied false b p q = (λ h x. absurd (true≢false (sym (p.1 x))), λ f. refl)

  suits_decide : (o : ℕ) (place : Place) → Decides (suits (kinds_known parents knowns) o place) (Suits parents knowns o place)
  suits_decide o place =
      Decides-like (suits (kinds_known parents knowns) o place)
      (λ t. record { thing = t.0.0.0; no_door = t.0.0.1; holds = t.0.1; player = t.1 })
      (λ s. (((s.thing, s.no_door), s.holds), s.player))
      (Decides-and (can_be_held (kinds_known parents knowns) o && can_hold (kinds_known parents knowns) place.relation place.holder) (keeps_player (kinds_known parents knowns) o place)
      (Decides-and _ _ (Decides-and _ _ (of_decides parents knowns 0 o) (Decides-not _ (door_decides o))) (holds_decides place.relation place.holder))
      (implied (o == 0) (is_in place.relation && is_room parents knowns place.holder) (Decides-eqb o 0) (Decides-and _ _ (in_decides place.relation) (room_decides place.holder))))

-- ---- properties

any_decides : {X : Type 0} (test : X → Bool) (P : X → Type 0) → ((x : X) → Decides (test x) (P x)) → (xs : List X) → Decides (list_any test xs) (Any P xs)
any_decides test P each xs = (
  λ h. let t = Any-from_list_any test xs h in (t.0, t.1, t.2, t.3, (each t.1).0 t.4),
  λ a. list_any-from_Any test xs (a.0, a.1, a.2, a.3, (each a.1).1 a.4),
)

pub property_decides : (s : Scope) (kind property : ℕ) → Decides (can_be s kind property) (HasProperty s kind property)
property_decides s kind property =
    Decides-or _ _
    (any_decides (λ base. is_under s.parents kind base) (λ base. Under s.parents kind base) (λ base. climbs_decide s.parents kind base) (kinds_in (slice_get built_in_bases property)))
    (any_decides (λ given. (given.property == property) && is_under s.parents kind given.kind) (λ given. (given.property ≡ property) × Under s.parents kind given.kind)
    (λ given. Decides-and (given.property == property) (is_under s.parents kind given.kind) (Decides-eqb given.property property) (climbs_decide s.parents kind given.kind))
    s.givens)

never_decides : (value : Value) → Decides (is_never_said value) (value ≡ Never)
never_decides Never = (λ h. refl, λ h. refl)
never_decides (Truth truth) = never (λ h. absurd cc)
never_decides (Amount number) = never (λ h. absurd cc)
never_decides (Choice place) = never (λ h. absurd cc)

lacking_decides : (s : Scope) (knowns : List Known) (o property : ℕ) (value : Value)
    → Decides (not (is_parted_at knowns o) && (is_never_said value || not (can_be s (kind_of (known_at knowns o)) property))) (IsLacking s knowns o property value)
lacking_decides s knowns o property value =
    let kind = kind_of (known_at knowns o) in
    Decides-like _ (λ t. record { apart = t.0; lacks = t.1 }) (λ l. (l.apart, l.lacks))
    (Decides-and (not (is_parted_at knowns o)) (is_never_said value || not (can_be s kind property)) (Decides-not (is_parted_at knowns o) (apart_decides knowns o))
    (Decides-or (is_never_said value) (not (can_be s kind property)) (never_decides value) (Decides-not (can_be s kind property) (property_decides s kind property))))

unsuited_decides : (s : Scope) (knowns : List Known) (f : Fact) → Decides (is_unsuited s knowns f) (IsUnsuited s knowns f)
unsuited_decides s knowns (Placed p) =
    let thing = thing_of s.objects p in
    let place = place_of s.objects p in
    Decides-and _ _
    (neither (is_parted_at knowns thing) (is_parted_at knowns place.holder) (apart_decides knowns thing) (apart_decides knowns place.holder))
    (Decides-not (suits (kinds_known s.parents knowns) thing place) (suits_decide s.parents knowns thing place))
unsuited_decides s knowns (Has h) =
    lacking_decides s knowns (number_in s.objects h.object) (number_in s.properties h.property) h.value
unsuited_decides s knowns (Usually u) =
    Decides-or _ _ (never_decides u.value)
    (Decides-not (can_be s (number_in s.kinds u.kind) (number_in s.properties u.property)) (property_decides s (number_in s.kinds u.kind) (number_in s.properties u.property)))
unsuited_decides s knowns _ = never (λ h. h)

same_fold : (claims : List Claim) (knowns : List Known) → fold same_knowns knowns claims ≡ knowns
same_fold [] knowns = refl
same_fold (c ∷ cs) knowns = same_fold cs knowns

pub unsuited_lowest : (s : Scope) (knowns : List Known) (claims : List Claim) → IsLowest (ShownBy (λ before c. IsUnsuited s knowns c.fact) claims) (unsuited s knowns claims)
unsuited_lowest s knowns claims = lowest_is (λ before c. IsUnsuited s knowns c.fact) (shows_unsuited s) same_knowns knowns claims
    (λ before c after split. subst (λ (known : List Known). Decides (is_unsuited s known c.fact) (IsUnsuited s knowns c.fact)) (sym (same_fold before knowns)) (unsuited_decides s knowns c.fact))
