-- What is known of an object by all claims is the deepest of what is demanded of it, and whether something is in it.
use Rattle.std.proofs.Common.{◌≡◌, ℕ, ◌<◌, true, false, List, [], ◌∷◌, length, Option}
use Rattle.std.proofs.Common.{refl, sym, ap, ◌∙◌, subst, arith, inl, inr, ◌⊎◌, ⊎_elim, true≢false, get_or-set_same, get_or-set_other}
use Rattle.std.specs.Prelude.{Decides, bytes_eq, fold, slice_set}
use Rattle.std.proofs.lemmas.Slice.Eq.{bytes_eq-Decides}
use Rattle.std.proofs.lemmas.Bool.{cases_Bool}
use Rattle.i7_kinds.proofs.Rooted.{trans}
use Rattle.world_meaning.proofs.Climbs.{climbs_decide}
use Rattle.world_meaning.specs.Kinds.{Under, itself, is_under, room_kind}
use Rattle.world_meaning.specs.declared.place.Rel.{Rel}
use Rattle.world_meaning.specs.declared.place.Rel.TheVariants.{In, On, Carried, Worn, Part}
use Rattle.i7_claims.specs.Numbers.{has_name, number_in}
use Rattle.i7_claims.specs.declared.claim.Claim.{Claim}
use Rattle.i7_claims.specs.declared.claim.Fact.{Fact}
use Rattle.i7_claims.specs.declared.claim.Fact.TheVariants.{Demands, Placed, RoomUnlessDoor}
use Rattle.i7_claims.specs.declared.claim.Placing.{Placing}
use Rattle.i7_kinds.specs.Knowns.{Scope, deepen, deepened, is_in, known_at, unknown, with_demand, with_holder, with_kind, with_known, with_known_of, with_room}
use Rattle.i7_kinds.specs.KindsMeant.{IsClaimed}
use Rattle.i7_kinds.specs.declared.knowns.Demanded.{Demanded}
use Rattle.i7_kinds.specs.declared.knowns.Demanded.TheVariants.{Nothing, Deepest, Parted}
use Rattle.i7_kinds.specs.declared.knowns.Known.{Known}
use Rattle.i7_kinds.proofs.Fines.{fact_length}

-- ---- what some claim says

-- a fact of one of the claims is so
abbrev pub SomeFact : (Fact → Type 0) → List Claim → Type 0
SomeFact Is [] = ⊥
SomeFact Is (c ∷ claims) = Is c.fact ⊎ SomeFact Is claims

pub fact_of : (Is : Fact → Type 0) (claims : List Claim) → SomeFact Is claims → (f : Fact) × IsClaimed claims f × Is f
fact_of Is [] h = absurd h
fact_of Is (c ∷ claims) (inl here) = (c.fact, inl refl, here)
fact_of Is (c ∷ claims) (inr later) = let t = fact_of Is claims later in (t.0, inr t.1, t.2)

pub fact_among : (Is : Fact → Type 0) (claims : List Claim) (f : Fact) → IsClaimed claims f → Is f → SomeFact Is claims
fact_among Is [] f h is = absurd h
fact_among Is (c ∷ claims) f (inl here) is = inl (subst Is (sym here) is)
fact_among Is (c ∷ claims) f (inr later) is = inr (fact_among Is claims f later is)

-- ---- the deepest of these numbers, if they lie on one path

abbrev pub Sums : List (Option ℕ) → (ℕ → Type 0) → Demanded → Type 0
Sums S Is Nothing = (x : ℕ) → Is x → ⊥
Sums S Is (Deepest d) = Is d × ((x : ℕ) → Is x → Under S d x)
Sums S Is Parted = Unit {0}

pub sums_same : (S : List (Option ℕ)) (P Q : ℕ → Type 0) → ((x : ℕ) → P x → Q x) → ((x : ℕ) → Q x → P x) → (known : Demanded) → Sums S P known → Sums S Q known
sums_same S P Q to from Nothing h = λ x q. h x (from x q)
sums_same S P Q to from (Deepest d) h = (to d h.0, λ x q. h.1 x (from x q))
sums_same S P Q to from Parted h = tt

-- one number more
abbrev pub Or : (ℕ → Type 0) → ℕ → ℕ → Type 0
Or Is k x = Is x ⊎ (x ≡ k)

under_more : (S : List (Option ℕ)) (Is : ℕ → Type 0) (d k : ℕ) → ((x : ℕ) → Is x → Under S d x) → Under S d k → (x : ℕ) → Or Is k x → Under S d x
under_more S Is d k all u x (inl old) = all x old
under_more S Is d k all u x (inr same) = subst (λ (n : ℕ). Under S d n) (sym same) u

pub sums_more : (S : List (Option ℕ)) (Is : ℕ → Type 0) (known : Demanded) (k : ℕ) → Sums S Is known → Sums S (Or Is k) (deepen S known k)
sums_more S Is Nothing k h = (inr refl, under_more S Is k k (λ x is. absurd (h x is)) itself)
sums_more S Is (Deepest d) k h =
    elim (cases_Bool (is_under S d k)) [
      | inl t ↦ rw t (inl h.0, under_more S Is d k h.1 ((climbs_decide S d k).0 t))
      | inr f ↦ elim (cases_Bool (is_under S k d)) [
        | inl t ↦ rw (f, t) (inr refl, under_more S Is k k (λ x is. trans S k d x ((climbs_decide S k d).0 t) (h.1 x is)) itself)
        | inr g ↦ rw (f, g) tt
      ]
    ]
sums_more S Is Parted k h = tt

-- ---- one place of what is known

set_here : (knowns : List Known) (i : ℕ) (known : Known) → i < length knowns → known_at (slice_set knowns i known) i ≡ known
set_here knowns i known lt = get_or-set_same knowns i known unknown lt

set_other : (knowns : List Known) (i o : ℕ) (known : Known) → (o ≡ i → ⊥) → known_at (slice_set knowns i known) o ≡ known_at knowns o
set_other knowns i o known other = get_or-set_other knowns i o known unknown other

other_name : (a b : List ℕ) → bytes_eq a b ≡ false → a ≡ b → ⊥
other_name a b isnt same = true≢false (sym ((bytes_eq-Decides a b).1 same) ∙ isnt)

-- ---- what a fact demands of the object

abbrev pub DemandsKind : Scope → List ℕ → ℕ → Fact → Type 0
DemandsKind s name x (Demands d) = (d.object ≡ name) × (has_name s.kinds d.kind ≡ true) × (x ≡ number_in s.kinds d.kind)
DemandsKind s name x (RoomUnlessDoor object) = (object ≡ name) × (has_name s.doors object ≡ false) × (x ≡ room_kind)
DemandsKind s name x _ = ⊥

-- something is in it
abbrev pub IsHeldIn : List ℕ → Fact → Type 0
IsHeldIn name (Placed p) = (p.relation ≡ In) × (p.holder ≡ name)
IsHeldIn name _ = ⊥

-- so much is known of it
abbrev pub IsKnown : List (Option ℕ) → (ℕ → Type 0) → Type 0 → Known → Type 0
IsKnown S Is Holds known = Sums S Is known.demanded × Decides known.holds Holds

same_known : (S : List (Option ℕ)) (P Q : ℕ → Type 0) (A B : Type 0) → ((x : ℕ) → P x → Q x) → ((x : ℕ) → Q x → P x) → (A → B) → (B → A) → (known : Known) → IsKnown S P A known → IsKnown S Q B known
same_known S P Q A B to from there back known h = (sums_same S P Q to from known.demanded h.0, (λ t. there (h.1.0 t), λ b. h.1.1 (back b)))

-- nothing is demanded besides
nothing_more : (S : List (Option ℕ)) (Is More : ℕ → Type 0) (Holds : Type 0) (known : Known) → ((x : ℕ) → More x → ⊥) → IsKnown S Is Holds known → IsKnown S (λ x. Is x ⊎ More x) Holds known
nothing_more S Is More Holds known none h =
    same_known S Is (λ x. Is x ⊎ More x) Holds Holds (λ x old. inl old) (λ x r. ⊎_elim (λ old. old) (λ m. absurd (none x m)) r) (λ a. a) (λ a. a) known h

nothing_held : (S : List (Option ℕ)) (Is : ℕ → Type 0) (Holds More : Type 0) (known : Known) → (More → ⊥) → IsKnown S Is Holds known → IsKnown S Is (Holds ⊎ More) known
nothing_held S Is Holds More known none h =
    same_known S Is Is Holds (Holds ⊎ More) (λ x a. a) (λ x a. a) (λ a. inl a) (λ r. ⊎_elim (λ old. old) (λ m. absurd (none m)) r) known h

in_is : (r : Rel) → is_in r ≡ true → r ≡ In
in_is In h = refl
in_is On h = absurd cc
in_is Carried h = absurd cc
in_is Worn h = absurd cc
in_is Part h = absurd cc

module _ (s : Scope) (name : List ℕ) (o : ℕ) (once : (other : List ℕ) → o ≡ number_in s.objects other → other ≡ name) (numbered : number_in s.objects name ≡ o) where
  here_is : (object : List ℕ) → bytes_eq object name ≡ true → number_in s.objects object ≡ o
  here_is object is = ap (number_in s.objects) ((bytes_eq-Decides object name).0 is) ∙ numbered

  -- what is set at the object's number is known of it
  set_is : (P : Known → Type 0) (knowns : List Known) (i : ℕ) (known : Known) → i ≡ o → o < length knowns → P known → P (known_at (slice_set knowns i known) o)
  set_is P knowns i known here lt h =
      let e : known_at (slice_set knowns i known) o ≡ known = subst (λ (n : ℕ). known_at (slice_set knowns n known) o ≡ known) (sym here) (set_here knowns o known lt) in
      subst P (sym e) h

  set_aside : (P : Known → Type 0) (knowns : List Known) (object : List ℕ) (known : Known) → bytes_eq object name ≡ false → P (known_at knowns o)
      → P (known_at (slice_set knowns (number_in s.objects object) known) o)
  set_aside P knowns object known isnt h =
      subst P (sym (set_other knowns (number_in s.objects object) o known (λ same. other_name object name isnt (once object same)))) h

  demand_known : (Is : ℕ → Type 0) (Holds : Type 0) (knowns : List Known) (object : List ℕ) (kind : ℕ) → o < length knowns → IsKnown s.parents Is Holds (known_at knowns o)
      → IsKnown s.parents (λ x. Is x ⊎ ((object ≡ name) × (x ≡ kind))) Holds (known_at (with_demand s knowns object kind) o)
  demand_known Is Holds knowns object kind lt h =
      let i = number_in s.objects object in
      let now : Known = record (known_at knowns i) { demanded = deepened s knowns object kind } in
      let Q = λ (x : ℕ). Is x ⊎ ((object ≡ name) × (x ≡ kind)) in
      elim (cases_Bool (bytes_eq object name)) [
        | inl is ↦
            let same : object ≡ name = (bytes_eq-Decides object name).0 is in
            let at_i : IsKnown s.parents Is Holds (known_at knowns i) = subst (λ (n : ℕ). IsKnown s.parents Is Holds (known_at knowns n)) (sym (here_is object is)) h in
            let more : IsKnown s.parents (Or Is kind) Holds now = (sums_more s.parents Is (known_at knowns i).demanded kind at_i.0, at_i.1) in
            set_is (IsKnown s.parents Q Holds) knowns i now (here_is object is) lt
            (same_known s.parents (Or Is kind) Q Holds Holds (λ x r. ⊎_elim (λ old. inl old) (λ k. inr (same, k)) r) (λ x r. ⊎_elim (λ old. inl old) (λ k. inr k.1) r) (λ a. a) (λ a. a) now more)
        | inr isnt ↦
            set_aside (IsKnown s.parents Q Holds) knowns object now isnt
            (nothing_more s.parents Is (λ x. (object ≡ name) × (x ≡ kind)) Holds (known_at knowns o) (λ x k. other_name object name isnt k.0) h)
      ]

  holder_known : (Is : ℕ → Type 0) (Holds : Type 0) (knowns : List Known) (p : Placing) → o < length knowns → IsKnown s.parents Is Holds (known_at knowns o)
      → IsKnown s.parents Is (Holds ⊎ IsHeldIn name (Placed p)) (known_at (with_holder s knowns p) o)
  holder_known Is Holds knowns p lt h =
      let i = number_in s.objects p.holder in
      let now : Known = record (known_at knowns i) { holds = true } in
      let More = IsHeldIn name (Placed p) in
      elim (cases_Bool (is_in p.relation)) [
        | inl is ↦ rw is (elim (cases_Bool (bytes_eq p.holder name)) [
          | inl at ↦
              let same : p.holder ≡ name = (bytes_eq-Decides p.holder name).0 at in
              let at_i : IsKnown s.parents Is Holds (known_at knowns i) = subst (λ (n : ℕ). IsKnown s.parents Is Holds (known_at knowns n)) (sym (here_is p.holder at)) h in
              set_is (IsKnown s.parents Is (Holds ⊎ More)) knowns i now (here_is p.holder at) lt (at_i.0, (λ t. inr (in_is p.relation is, same), λ t. refl))
          | inr isnt ↦
              set_aside (IsKnown s.parents Is (Holds ⊎ More)) knowns p.holder now isnt
              (nothing_held s.parents Is Holds More (known_at knowns o) (λ m. other_name p.holder name isnt m.1) h)
        ])
        | inr isnt ↦ rw isnt (nothing_held s.parents Is Holds More (known_at knowns o) (λ m. true≢false (sym (ap is_in m.0) ∙ isnt)) h)
      ]

  so : (Q : ℕ → Type 0) (Holds : Type 0) (knowns now : List Known) → knowns ≡ now → IsKnown s.parents Q (Holds ⊎ ⊥) (known_at now o) → IsKnown s.parents Q (Holds ⊎ ⊥) (known_at knowns o)
  so Q Holds knowns now e h = subst (λ (ks : List Known). IsKnown s.parents Q (Holds ⊎ ⊥) (known_at ks o)) (sym e) h

  fact_known : (Is : ℕ → Type 0) (Holds : Type 0) (knowns : List Known) (f : Fact) → o < length knowns → IsKnown s.parents Is Holds (known_at knowns o)
      → IsKnown s.parents (λ x. Is x ⊎ DemandsKind s name x f) (Holds ⊎ IsHeldIn name f) (known_at (with_known s knowns f) o)
  fact_known Is Holds knowns (Demands d) lt h =
      let k = number_in s.kinds d.kind in
      let More = λ (x : ℕ). DemandsKind s name x (Demands d) in
      let Q = λ (x : ℕ). Is x ⊎ More x in
      let now = with_demand s knowns d.object k in
      elim (cases_Bool (has_name s.kinds d.kind)) [
        | inl is ↦ let e : with_kind s knowns d ≡ now = rw is refl in so Q Holds (with_kind s knowns d) now e (nothing_held s.parents Q Holds ⊥ (known_at now o) (λ n. n)
            (same_known s.parents (λ x. Is x ⊎ ((d.object ≡ name) × (x ≡ k))) Q Holds Holds (λ x r. ⊎_elim (λ old. inl old) (λ m. inr (m.0, is, m.1)) r)
            (λ x r. ⊎_elim (λ old. inl old) (λ m. inr (m.0, m.2)) r) (λ a. a) (λ a. a) (known_at now o)
            (demand_known Is Holds knowns d.object k lt h)))
        | inr isnt ↦ let e : with_kind s knowns d ≡ knowns = rw isnt refl in so Q Holds (with_kind s knowns d) knowns e (nothing_held s.parents Q Holds ⊥ (known_at knowns o) (λ n. n)
            (nothing_more s.parents Is More Holds (known_at knowns o) (λ x m. true≢false (sym m.1 ∙ isnt)) h))
      ]
  fact_known Is Holds knowns (RoomUnlessDoor object) lt h =
      let More = λ (x : ℕ). DemandsKind s name x (RoomUnlessDoor object) in
      let Q = λ (x : ℕ). Is x ⊎ More x in
      let now = with_demand s knowns object room_kind in
      elim (cases_Bool (has_name s.doors object)) [
        | inl is ↦ let e : with_room s knowns object ≡ knowns = rw is refl in so Q Holds (with_room s knowns object) knowns e (nothing_held s.parents Q Holds ⊥ (known_at knowns o) (λ n. n)
            (nothing_more s.parents Is More Holds (known_at knowns o) (λ x m. true≢false (sym is ∙ m.1)) h))
        | inr isnt ↦ let e : with_room s knowns object ≡ now = rw isnt refl in so Q Holds (with_room s knowns object) now e (nothing_held s.parents Q Holds ⊥ (known_at now o) (λ n. n)
            (same_known s.parents (λ x. Is x ⊎ ((object ≡ name) × (x ≡ room_kind))) Q Holds Holds (λ x r. ⊎_elim (λ old. inl old) (λ m. inr (m.0, isnt, m.1)) r)
            (λ x r. ⊎_elim (λ old. inl old) (λ m. inr (m.0, m.2)) r) (λ a. a) (λ a. a) (known_at now o)
            (demand_known Is Holds knowns object room_kind lt h)))
      ]
  fact_known Is Holds knowns (Placed p) lt h =
      nothing_more s.parents Is (λ x. ⊥) (Holds ⊎ IsHeldIn name (Placed p)) (known_at (with_holder s knowns p) o) (λ x n. n) (holder_known Is Holds knowns p lt h)
  fact_known Is Holds knowns _ lt h =
      nothing_held s.parents (λ x. Is x ⊎ ⊥) Holds ⊥ (known_at knowns o) (λ n. n) (nothing_more s.parents Is (λ x. ⊥) Holds (known_at knowns o) (λ x n. n) h)

  -- of all that is claimed
  pub claims_known : (claims : List Claim) (Is : ℕ → Type 0) (Holds : Type 0) (knowns : List Known) → o < length knowns → IsKnown s.parents Is Holds (known_at knowns o)
      → IsKnown s.parents (λ x. Is x ⊎ SomeFact (DemandsKind s name x) claims) (Holds ⊎ SomeFact (IsHeldIn name) claims) (known_at (fold (with_known_of s) knowns claims) o)
  claims_known [] Is Holds knowns lt h =
      nothing_held s.parents (λ x. Is x ⊎ ⊥) Holds ⊥ (known_at knowns o) (λ n. n) (nothing_more s.parents Is (λ x. ⊥) Holds (known_at knowns o) (λ x n. n) h)
  claims_known (c ∷ claims) Is Holds knowns lt h =
      let now = with_known s knowns c.fact in
      let later = claims_known claims (λ x. Is x ⊎ DemandsKind s name x c.fact) (Holds ⊎ IsHeldIn name c.fact) now (omega (arith, lt, fact_length s c.fact knowns))
      (fact_known Is Holds knowns c.fact lt h) in
      same_known s.parents _ _ _ _
      (λ x r. ⊎_elim (λ a. ⊎_elim (λ old. inl old) (λ here. inr (inl here)) a) (λ after. inr (inr after)) r)
      (λ x r. ⊎_elim (λ old. inl (inl old)) (λ a. ⊎_elim (λ here. inl (inr here)) (λ after. inr after) a) r)
      (λ r. ⊎_elim (λ a. ⊎_elim (λ old. inl old) (λ here. inr (inl here)) a) (λ after. inr (inr after)) r)
      (λ r. ⊎_elim (λ old. inl (inl old)) (λ a. ⊎_elim (λ here. inl (inr here)) (λ after. inr after) a) r)
      _ later
