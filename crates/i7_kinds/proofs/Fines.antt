-- Where no demand lies off a path and each kind is known, each object has a kind, the player that of a person and
-- the directions that of a direction.
use Rattle.std.proofs.Common.{◌≡◌, ℕ, zero, suc, ◌+◌, ◌-◌, ◌<◌, ◌≤◌, Bool, true, false, ◌&&◌, eqb, List, [], ◌∷◌, length, Option, refl, sym, ap, ◌∙◌, subst, arith, inl, inr, true≢false}
use Rattle.std.specs.Prelude.{Some, None, fold, not, replicate, slice_set}
use Rattle.std.proofs.lemmas.Bool.{eqb-true, cases_Bool, not-false}
use Rattle.i7_kinds.proofs.Rooted.{trans}
use Rattle.world_meaning.proofs.Climbs.{climbs_decide}
use Rattle.world_meaning.specs.Kinds.{Under, itself, direction_kind, is_under, person_kind}
use Rattle.i7_kinds.specs.KindClaims.{is_unknown, same_names, shows_unknown, unknown_kind}
use Rattle.i7_kinds.specs.Knowns.{Scope, deepen, deepened, first_knowns, is_in, is_off, is_parted, kind_by, known_at, knowns_of, off_path, shows_off, thing_or_container, unknown, with_demand, with_holder, with_known, with_known_of, with_room}
use Rattle.i7_claims.specs.Numbers.{has_name, number_in}
use Rattle.i7_claims.specs.Scans.{lowest}
use Rattle.i7_claims.specs.declared.claim.Claim.{Claim}
use Rattle.i7_claims.specs.declared.claim.Fact.{Fact}
use Rattle.i7_claims.specs.declared.claim.Fact.TheVariants.{Demands, Placed, RoomUnlessDoor}
use Rattle.i7_claims.specs.declared.claim.Placing.{Placing}
use Rattle.i7_kinds.specs.declared.knowns.Demanded.{Demanded}
use Rattle.i7_kinds.specs.declared.knowns.Demanded.TheVariants.{Nothing, Deepest, Parted}
use Rattle.i7_kinds.specs.declared.knowns.Known.{Known}
use Rattle.i7_claims.proofs.Lowest.{none_shown}

-- the kind that an object has from the beginning
abbrev pub base_in : List (Option ℕ) → ℕ → Option ℕ
base_in [] o = None
base_in (b ∷ bs) zero = b
base_in (b ∷ bs) (suc o) = base_in bs o

abbrev pub base : ℕ → Option ℕ
base o = base_in (Some person_kind ∷ replicate 12 (Some direction_kind)) o

abbrev pub UnderBase : List (Option ℕ) → Option ℕ → ℕ → Type 0
UnderBase parents None kind = Unit {0}
UnderBase parents (Some b) kind = Under parents kind b

-- one of n kinds, under the one from the beginning
abbrev pub IsFine : List (Option ℕ) → ℕ → Option ℕ → Demanded → Type 0
IsFine parents n b Nothing = b ≡ None
IsFine parents n b (Deepest kind) = (kind < n) × UnderBase parents b kind
IsFine parents n b Parted = ⊥

abbrev pub AreFine : List (Option ℕ) → ℕ → List Known → Type 0
AreFine parents n knowns = (o : ℕ) → IsFine parents n (base o) (known_at knowns o).demanded

-- what is kept of one object is known of it, and nothing else changes
set_at : (P : Known → Type 0) (knowns : List Known) (i o : ℕ) (known : Known) → P (known_at knowns o) → (o ≡ i → P known) → P (known_at (slice_set knowns i known) o)
set_at P [] i o known h k = h
set_at P (x ∷ xs) zero zero known h k = k refl
set_at P (x ∷ xs) zero (suc o) known h k = h
set_at P (x ∷ xs) (suc i) zero known h k = h
set_at P (x ∷ xs) (suc i) (suc o) known h k = set_at P xs i o known h (λ e. k (ap suc e))

pub set_length : (knowns : List Known) (i : ℕ) (known : Known) → length (slice_set knowns i known) ≡ length knowns
set_length [] i known = refl
set_length (x ∷ xs) zero known = refl
set_length (x ∷ xs) (suc i) known = ap suc (set_length xs i known)

any_base : (parents : List (Option ℕ)) (b : Option ℕ) (kind : ℕ) → b ≡ None → UnderBase parents b kind
any_base parents None kind h = tt
any_base parents (Some x) kind h = absurd cc

under_base : (parents : List (Option ℕ)) (b : Option ℕ) (kind deepest : ℕ) → Under parents kind deepest → UnderBase parents b deepest → UnderBase parents b kind
under_base parents None kind deepest u v = tt
under_base parents (Some x) kind deepest u v = trans parents kind deepest x u v

deepen_fine : (parents : List (Option ℕ)) (n : ℕ) (b : Option ℕ) (demanded : Demanded) (kind : ℕ) → kind < n → is_parted (deepen parents demanded kind) ≡ false → IsFine parents n b demanded → IsFine parents n b (deepen parents demanded kind)
deepen_fine parents n b Nothing kind lt h fine = (lt, any_base parents b kind fine)
deepen_fine parents n b (Deepest d) kind lt h fine =
    elim (cases_Bool (is_under parents d kind)) [
      | inl is ↦ rw is fine
      | inr isnt ↦ elim (cases_Bool (is_under parents kind d)) [
        | inl up ↦ rw (isnt, up) (lt, under_base parents b kind d ((climbs_decide parents kind d).0 up) fine.1)
        | inr apart ↦ let parted : true ≡ false = rw (isnt, apart) at h in absurd (true≢false parted)
      ]
    ]
deepen_fine parents n b Parted kind lt h fine = absurd fine

-- with more kinds than the built-in ones, and each name of a kind below n
module _ (s : Scope) (n : ℕ) (many : 10 ≤ n) (known_kinds : (kind : List ℕ) → has_name s.kinds kind ≡ true → number_in s.kinds kind < n) where
  abbrev Fine : List Known → Type 0
  Fine knowns = AreFine s.parents n knowns

  holder_fine : (p : Placing) (knowns : List Known) → Fine knowns → Fine (with_holder s knowns p)
  holder_fine p knowns fine o =
      let holder = number_in s.objects p.holder in
      elim (cases_Bool (is_in p.relation)) [
        | inl is ↦ rw is (set_at (λ (k : Known). IsFine s.parents n (base o) k.demanded) knowns holder o (record (known_at knowns holder) { holds = true }) (fine o) (λ e. subst (λ (x : ℕ). IsFine s.parents n (base x) (known_at knowns holder).demanded) (sym e) (fine holder)))
        | inr isnt ↦ rw isnt (fine o)
      ]

  demand_fine : (name : List ℕ) (kind : ℕ) (knowns : List Known) → kind < n → is_parted (deepened s knowns name kind) ≡ false → Fine knowns → Fine (with_demand s knowns name kind)
  demand_fine name kind knowns lt h fine o =
      let object = number_in s.objects name in
      set_at (λ (known : Known). IsFine s.parents n (base o) known.demanded) knowns object o (record (known_at knowns object) { demanded = deepened s knowns name kind }) (fine o)
      (λ e. subst (λ (x : ℕ). IsFine s.parents n (base x) (deepened s knowns name kind)) (sym e) (deepen_fine s.parents n (base object) (known_at knowns object).demanded kind lt h (fine object)))

  room_fine : (name : List ℕ) (knowns : List Known) → (not (has_name s.doors name) && is_parted (deepened s knowns name 1)) ≡ false → Fine knowns → Fine (with_room s knowns name)
  room_fine name knowns h fine =
      elim (cases_Bool (has_name s.doors name)) [
        | inl is ↦ rw is fine
        | inr isnt ↦ let apart : is_parted (deepened s knowns name 1) ≡ false = rw isnt at h in rw isnt (demand_fine name 1 knowns (omega (arith, many)) apart fine)
      ]

  fact_fine : (f : Fact) (knowns : List Known) → is_off s knowns f ≡ false → is_unknown s.kinds f ≡ false → Fine knowns → Fine (with_known s knowns f)
  fact_fine (Demands d) knowns h k fine o =
      let there = not-false (has_name s.kinds d.kind) k in
      let apart : is_parted (deepened s knowns d.object (number_in s.kinds d.kind)) ≡ false = rw there at h in
      rw there (demand_fine d.object (number_in s.kinds d.kind) knowns (known_kinds d.kind there) apart fine o)
  fact_fine (RoomUnlessDoor name) knowns h k fine o = room_fine name knowns h fine o
  fact_fine (Placed p) knowns h k fine o = holder_fine p knowns fine o
  fact_fine _ knowns h k fine o = fine o

  claims_fine : (claims : List Claim) (knowns : List Known) → lowest (shows_off s) (with_known_of s) knowns claims None ≡ None → unknown_kind s.kinds claims ≡ None → Fine knowns → Fine (fold (with_known_of s) knowns claims)
  claims_fine [] knowns h k fine = fine
  claims_fine (c ∷ cs) knowns h k fine =
      let t = none_shown (shows_off s) (with_known_of s) knowns c cs h in
      let u = none_shown shows_unknown same_names s.kinds c cs k in
      claims_fine cs (with_known s knowns c.fact) t.1 u.1 (fact_fine c.fact knowns t.0 u.0 fine)

nothing_later : (m o : ℕ) → (known_at (replicate m unknown) o).demanded ≡ Nothing
nothing_later zero o = refl
nothing_later (suc m) zero = refl
nothing_later (suc m) (suc o) = nothing_later m o

still_nothing : (parents : List (Option ℕ)) (n : ℕ) (demanded : Demanded) → demanded ≡ Nothing → IsFine parents n None demanded
still_nothing parents n demanded e = subst (λ (d : Demanded). IsFine parents n None d) (sym e) refl

first_fine : (parents : List (Option ℕ)) (n count : ℕ) → 10 ≤ n → AreFine parents n (first_knowns count)
first_fine parents n count many zero = (omega (arith, many), itself)
first_fine parents n count many (suc zero) = (omega (arith, many), itself)
first_fine parents n count many (suc (suc zero)) = (omega (arith, many), itself)
first_fine parents n count many (suc (suc (suc zero))) = (omega (arith, many), itself)
first_fine parents n count many (suc (suc (suc (suc zero)))) = (omega (arith, many), itself)
first_fine parents n count many (suc (suc (suc (suc (suc zero))))) = (omega (arith, many), itself)
first_fine parents n count many (suc (suc (suc (suc (suc (suc zero)))))) = (omega (arith, many), itself)
first_fine parents n count many (suc (suc (suc (suc (suc (suc (suc zero))))))) = (omega (arith, many), itself)
first_fine parents n count many (suc (suc (suc (suc (suc (suc (suc (suc zero)))))))) = (omega (arith, many), itself)
first_fine parents n count many (suc (suc (suc (suc (suc (suc (suc (suc (suc zero))))))))) = (omega (arith, many), itself)
first_fine parents n count many (suc (suc (suc (suc (suc (suc (suc (suc (suc (suc zero)))))))))) = (omega (arith, many), itself)
first_fine parents n count many (suc (suc (suc (suc (suc (suc (suc (suc (suc (suc (suc zero))))))))))) = (omega (arith, many), itself)
first_fine parents n count many (suc (suc (suc (suc (suc (suc (suc (suc (suc (suc (suc (suc zero)))))))))))) = (omega (arith, many), itself)
first_fine parents n count many (suc (suc (suc (suc (suc (suc (suc (suc (suc (suc (suc (suc (suc o))))))))))))) = still_nothing parents n _ (nothing_later (count - 13) o)

pub knowns_fine : (s : Scope) (n : ℕ) (claims : List Claim) → ((kind : List ℕ) → has_name s.kinds kind ≡ true → number_in s.kinds kind < n) → 10 ≤ n → off_path s claims ≡ None → unknown_kind s.kinds claims ≡ None → AreFine s.parents n (knowns_of s claims)
knowns_fine s n claims kinds many h k = claims_fine s n many kinds claims (first_knowns (length s.objects)) h k (first_fine s.parents n (length s.objects) many)

-- ---- how many are known

pub fact_length : (s : Scope) (f : Fact) (knowns : List Known) → length (with_known s knowns f) ≡ length knowns
fact_length s (Demands d) knowns =
    elim (cases_Bool (has_name s.kinds d.kind)) [
      | inl is ↦ rw is (set_length knowns (number_in s.objects d.object) _)
      | inr isnt ↦ rw isnt refl
    ]
fact_length s (RoomUnlessDoor name) knowns =
    elim (cases_Bool (has_name s.doors name)) [
      | inl is ↦ rw is refl
      | inr isnt ↦ rw isnt (set_length knowns (number_in s.objects name) _)
    ]
fact_length s (Placed p) knowns =
    elim (cases_Bool (is_in p.relation)) [
      | inl is ↦ rw is (set_length knowns (number_in s.objects p.holder) _)
      | inr isnt ↦ rw isnt refl
    ]
fact_length s _ knowns = refl

claims_length : (s : Scope) (claims : List Claim) (knowns : List Known) → length (fold (with_known_of s) knowns claims) ≡ length knowns
claims_length s [] knowns = refl
claims_length s (c ∷ cs) knowns = claims_length s cs (with_known s knowns c.fact) ∙ fact_length s c.fact knowns

replicated : (m : ℕ) → length (replicate m unknown) ≡ m
replicated zero = refl
replicated (suc m) = ap suc (replicated m)

pub knowns_counted : (s : Scope) (claims : List Claim) (m : ℕ) → length s.objects ≡ 13 + m → length (knowns_of s claims) ≡ 13 + m
knowns_counted s claims m e = omega (arith, e, claims_length s claims (first_knowns (length s.objects)), replicated (length s.objects - 13))

-- ---- the kinds that objects have

holder_few : (n : ℕ) (holds : Bool) → 10 ≤ n → thing_or_container holds < n
holder_few n true many = omega (arith, many)
holder_few n false many = omega (arith, many)

deepest_few : (n kind : ℕ) (holds : Bool) → 10 ≤ n → kind < n → kind_by (Deepest kind) holds < n
deepest_few n kind holds many lt =
    elim (cases_Bool (eqb kind 0)) [
      | inl is ↦ rw is (holder_few n holds many)
      | inr isnt ↦ rw isnt lt
    ]

pub kind_few : (parents : List (Option ℕ)) (n : ℕ) (b : Option ℕ) (demanded : Demanded) (holds : Bool) → 10 ≤ n → IsFine parents n b demanded → kind_by demanded holds < n
kind_few parents n b Nothing holds many fine = holder_few n holds many
kind_few parents n b (Deepest kind) holds many fine = deepest_few n kind holds many fine.0
kind_few parents n b Parted holds many fine = absurd fine

-- an object is of the kind that it has from the beginning
pub kind_based : (parents : List (Option ℕ)) (n b : ℕ) (demanded : Demanded) (holds : Bool) → (Under parents 0 b → ⊥) → IsFine parents n (Some b) demanded → Under parents (kind_by demanded holds) b
kind_based parents n b Nothing holds top fine = absurd cc
kind_based parents n b (Deepest kind) holds top fine =
    elim (cases_Bool (eqb kind 0)) [
      | inl is ↦ absurd (top (subst (λ (k : ℕ). Under parents k b) (eqb-true kind 0 is) fine.1))
      | inr isnt ↦ rw isnt fine.1
    ]
kind_based parents n b Parted holds top fine = absurd fine

pub fine_isnt_parted : (parents : List (Option ℕ)) (n : ℕ) (b : Option ℕ) (demanded : Demanded) → IsFine parents n b demanded → is_parted demanded ≡ false
fine_isnt_parted parents n b Nothing fine = refl
fine_isnt_parted parents n b (Deepest kind) fine = refl
fine_isnt_parted parents n b Parted fine = absurd fine
