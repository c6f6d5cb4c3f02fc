-- The scan for demands off the path of earlier ones finds the lowest line at which two kinds on no one path are demanded of an object.
use Rattle.std.proofs.Common.{◌≡◌, ◌≢◌, ℕ, zero, suc, ◌-◌, ◌≤◌, ◌<◌, true, not, List, [], ◌∷◌, ◌++◌, length, replicate, Option, refl, sym, ap, ◌∙◌, subst, append_assoc, append-nil, arith, length-append, inl, inr, ◌⊎◌, ⊎_elim, true≢false}
use Rattle.std.specs.Prelude.{◌==◌, Decides, fold, slice_index_or, slice_set}
use Rattle.std.proofs.lemmas.Bool.{cases_lt, eqb-true, eqb-false, not-true, not_from_false, cases_Bool, and_from, and_parts}
use Rattle.std.proofs.lemmas.List.{get_or-replicate, get_or-set_other, get_or-set_same, length-replicate, length-set}
use Rattle.std.proofs.Math.ListN.{get_or-append}
use Rattle.std.proofs.Math.Seq.{get_or-append_right}
use Rattle.i7_kinds.proofs.Rooted.{trans}
use Rattle.world_meaning.proofs.Climbs.{climbs_decide}
use Rattle.world_meaning.specs.Kinds.{Under, itself, direction_kind, is_under, person_kind, room_kind}
use Rattle.i7_claims.proofs.Lowest.{lowest_is}
use Rattle.i7_claims.proofs.NameScans.{never}
use Rattle.i7_claims.specs.Numbers.{has_name, number_in}
use Rattle.i7_claims.specs.Scans.{IsLowest, ShownBy}
use Rattle.i7_claims.specs.Statements.{named_by}
use Rattle.i7_claims.specs.declared.claim.Claim.{Claim}
use Rattle.i7_claims.specs.declared.claim.Fact.{Fact}
use Rattle.i7_claims.specs.declared.claim.Fact.TheVariants.{Demands, Placed, RoomUnlessDoor}
use Rattle.i7_sentences.specs.declared.sentence.Sentence.{Sentence}
use Rattle.i7_kinds.specs.FirstShown.{IsShown}
use Rattle.i7_kinds.specs.Knowns.{Scope, deepen, first_knowns, is_in, is_off, is_parted, known_as, known_at, off_path, shows_off, unknown, with_known, with_known_of}
use Rattle.i7_kinds.specs.RefusalsShown.{AreOnOnePath, DemandsKind, IsDemanded, IsOffPath}
use Rattle.i7_kinds.specs.declared.knowns.Demanded.{Demanded}
use Rattle.i7_kinds.specs.declared.knowns.Demanded.TheVariants.{Nothing, Deepest, Parted}
use Rattle.i7_kinds.specs.declared.knowns.Known.{Known}
use Rattle.i7_kinds.proofs.Bounds.{counted-source}
use Rattle.i7_kinds.proofs.FirstShown.{shown_on, two_places}
use Rattle.i7_kinds.proofs.UnderKinds.{comparable}

-- ---- what is demanded of an object, and the deepest of that

module _ (parents : List (Option ℕ)) where
  -- nothing is demanded; or one of the kinds lies under all; or two lie on no one path
  StandsFor : (ℕ → Type 0) → Demanded → Type 0
  StandsFor IsAsked Nothing = (kind : ℕ) → IsAsked kind → ⊥
  StandsFor IsAsked (Deepest d) = IsAsked d × ((kind : ℕ) → IsAsked kind → Under parents d kind)
  StandsFor IsAsked Parted = (a : ℕ) × (b : ℕ) × IsAsked a × IsAsked b × (AreOnOnePath parents a b → ⊥)

  stands_same : (P Q : ℕ → Type 0) → ((kind : ℕ) → P kind → Q kind) → ((kind : ℕ) → Q kind → P kind) → (d : Demanded) → StandsFor P d → StandsFor Q d
  unfolding StandsFor
  stands_same P Q to from Nothing h = λ kind q. h kind (from kind q)
  stands_same P Q to from (Deepest d) h = (to d h.0, λ kind q. h.1 kind (from kind q))
  stands_same P Q to from Parted h = (h.0, h.1, to h.0 h.2, to h.1 h.3, h.4)

  stands_deeper : (P : ℕ → Type 0) (d : Demanded) (asked : ℕ) → StandsFor P d → StandsFor (λ kind. P kind ⊎ (asked ≡ kind)) (deepen parents d asked)
  unfolding StandsFor
  stands_deeper P Nothing asked h = (inr refl, λ kind s. ⊎_elim (λ p. absurd (h kind p)) (λ e. subst (λ (n : ℕ). Under parents asked n) e itself) s)
  stands_deeper P (Deepest d) asked h =
      elim (cases_Bool (is_under parents d asked)) [
        | inl is ↦ rw is (inl h.0, λ kind s. ⊎_elim (λ p. h.1 kind p) (λ e. subst (λ (n : ℕ). Under parents d n) e ((climbs_decide parents d asked).0 is)) s)
        | inr isnt ↦ elim (cases_Bool (is_under parents asked d)) [
          | inl below ↦ rw (isnt, below) (
            inr refl,
            λ kind s. ⊎_elim (λ p. trans parents asked d kind ((climbs_decide parents asked d).0 below) (h.1 kind p))
                (λ e. subst (λ (n : ℕ). Under parents asked n) e itself) s,
          )
          | inr above' ↦ rw (isnt, above') (
            d,
            asked,
            inl h.0,
            inr refl,
            λ s. ⊎_elim (λ u. true≢false (sym ((climbs_decide parents d asked).1 u) ∙ isnt))
                (λ u. true≢false (sym ((climbs_decide parents asked d).1 u) ∙ above')) s,
          )
        ]
      ]
  stands_deeper P Parted asked h = (h.0, h.1, inl h.2, inl h.3, h.4)

  -- where two lie on no one path the demands are parted
  parted_if : (P : ℕ → Type 0) (d : Demanded) (a b : ℕ) → StandsFor P d → P a → P b → (AreOnOnePath parents a b → ⊥) → is_parted d ≡ true
  unfolding StandsFor
  parted_if P Nothing a b h p q apart = absurd (h a p)
  parted_if P (Deepest d) a b h p q apart = absurd (apart (comparable parents d a b (h.1 a p) (h.1 b q)))
  parted_if P Parted a b h p q apart = refl

  parted_pair : (P : ℕ → Type 0) (d : Demanded) → StandsFor P d → is_parted d ≡ true → (a : ℕ) × (b : ℕ) × P a × P b × (AreOnOnePath parents a b → ⊥)
  unfolding StandsFor
  parted_pair P Nothing h is = absurd cc
  parted_pair P (Deepest d) h is = absurd cc
  parted_pair P Parted h is = h

-- ---- before any claim

get_past : {X : Type 0} (xs : List X) (i : ℕ) (d : X) → length xs ≤ i → slice_index_or xs i d ≡ d
get_past [] i d h = refl
get_past (x ∷ xs) zero d h = absurd (omega (arith, h))
get_past (x ∷ xs) (suc i) d h = get_past xs i d (omega (arith, h))

get_same : {X : Type 0} (n i : ℕ) (x : X) → slice_index_or (replicate n x) i x ≡ x
get_same n i x =
    ⊎_elim
    (λ lt. get_or-replicate n i x x lt)
    (λ le. get_past (replicate n x) i x (omega (arith, length-replicate n x, le)))
    (cases_lt i n)

directions : List Known
directions = replicate 12 (known_as direction_kind)

pub first_length : (count : ℕ) → 13 ≤ count → length (first_knowns count) ≡ count
first_length count h =
    omega (arith, h, length-append (replicate 12 (known_as direction_kind)) (replicate (count - 13) unknown), length-replicate 12 (known_as direction_kind), length-replicate (count - 13) unknown)

direction_known : (count i : ℕ) → i < 12 → known_at (first_knowns count) (suc i) ≡ known_as direction_kind
direction_known count i lt =
    let short : i < length (replicate 12 (known_as direction_kind)) = omega (arith, lt, length-replicate 12 (known_as direction_kind)) in
    get_or-append (replicate 12 (known_as direction_kind)) (replicate (count - 13) unknown) unknown i short ∙ get_or-replicate 12 i (known_as direction_kind) unknown lt

author_known : (count i : ℕ) → 12 ≤ i → known_at (first_knowns count) (suc i) ≡ unknown
author_known count i le =
    let long : length (replicate 12 (known_as direction_kind)) ≤ i = omega (arith, le, length-replicate 12 (known_as direction_kind)) in
    get_or-append_right (replicate 12 (known_as direction_kind)) (replicate (count - 13) unknown) i unknown long ∙ get_same (count - 13) (i - length (replicate 12 (known_as direction_kind))) unknown

module _ (s : Scope) where
  abbrev Asked : List Claim → ℕ → ℕ → Type 0
  Asked claims o kind = IsDemanded s claims o kind

  none_claimed : {X : Type 0} (o kind : ℕ) → IsShown (λ before (c : Claim). DemandsKind s o kind c.fact) [] → X
  none_claimed o kind shown = nothing shown.before shown.item shown.after shown.split
    where
      nothing : {X : Type 0} (before : List Claim) (item : Claim) (after : List Claim) → [] ≡ before ++ item ∷ after → X
      nothing [] item after e = absurd cc
      nothing (x ∷ xs) item after e = absurd cc

  at_first : (count o : ℕ) → StandsFor s.parents (Asked [] o) (known_at (first_knowns count) o).demanded
  unfolding StandsFor
  at_first count zero = (
    inl (inl (refl, refl)),
    λ kind d. ⊎_elim (λ b. ⊎_elim (λ t. subst (λ (n : ℕ). Under s.parents person_kind n) t.1 itself) (λ t. absurd (omega (arith, t.0))) b) (λ shown. none_claimed 0 kind shown) d,
  )
  at_first count (suc i) =
      ⊎_elim
      (λ lt. subst (λ (k : Known). StandsFor s.parents (Asked [] (suc i)) k.demanded) (sym (direction_known count i lt)) (
        inl (inr (omega arith, omega (arith, lt), refl)),
        λ kind d. ⊎_elim (λ b. ⊎_elim (λ t. absurd (omega (arith, t.0))) (λ t. subst (λ (n : ℕ). Under s.parents direction_kind n) t.2 itself) b) (λ shown. none_claimed (suc i) kind shown) d,
      ))
      (λ le. subst (λ (k : Known). StandsFor s.parents (Asked [] (suc i)) k.demanded) (sym (author_known count i le))
      (λ kind d. ⊎_elim (λ b. ⊎_elim (λ t. omega (arith, t.0)) (λ t. omega (arith, t.1, le)) b) (λ shown. none_claimed (suc i) kind shown) d))
      (cases_lt i 12)

  -- ---- one claim more

  abbrev set_demand : List Known → ℕ → ℕ → List Known
  set_demand knowns n kind = slice_set knowns n (record (known_at knowns n) { demanded = deepen s.parents (known_at knowns n).demanded kind })

  asked_step : (P : ℕ → Type 0) (knowns : List Known) (n kind o : ℕ) → o < length knowns → StandsFor s.parents P (known_at knowns o).demanded
      → StandsFor s.parents (λ k. P k ⊎ ((n ≡ o) × (kind ≡ k))) (known_at (set_demand knowns n kind) o).demanded
  asked_step P knowns n kind o lt h =
      elim (cases_Bool (n == o)) [
        | inl is ↦
            let here = stands_same s.parents (λ k. P k ⊎ (kind ≡ k)) (λ k. P k ⊎ ((o ≡ o) × (kind ≡ k)))
            (λ k t. ⊎_elim (λ p. inl p) (λ e. inr (refl, e)) t) (λ k t. ⊎_elim (λ p. inl p) (λ e. inr e.1) t) (deepen s.parents (known_at knowns o).demanded kind)
            (stands_deeper s.parents P (known_at knowns o).demanded kind h) in
            subst (λ (m : ℕ). StandsFor s.parents (λ k. P k ⊎ ((m ≡ o) × (kind ≡ k))) (known_at (set_demand knowns m kind) o).demanded) (sym (eqb-true n o is))
            (subst (λ (known : Known). StandsFor s.parents (λ k. P k ⊎ ((o ≡ o) × (kind ≡ k))) known.demanded) (sym (get_or-set_same knowns o _ unknown lt)) here)
        | inr isnt ↦
            let other : n ≢ o = eqb-false n o isnt in
            subst (λ (known : Known). StandsFor s.parents (λ k. P k ⊎ ((n ≡ o) × (kind ≡ k))) known.demanded) (sym (get_or-set_other knowns n o _ unknown (λ e. other (sym e))))
            (stands_same s.parents P (λ k. P k ⊎ ((n ≡ o) × (kind ≡ k))) (λ k p. inl p) (λ k t. ⊎_elim (λ p. p) (λ e. absurd (other e.0)) t) (known_at knowns o).demanded h)
      ]

  -- what holds of an object has nothing to do with its demands
  held_same : (knowns : List Known) (n o : ℕ) → o < length knowns → (known_at (slice_set knowns n (record (known_at knowns n) { holds = true })) o).demanded ≡ (known_at knowns o).demanded
  held_same knowns n o lt =
      elim (cases_Bool (n == o)) [
        | inl is ↦
            subst (λ (m : ℕ). (known_at (slice_set knowns m (record (known_at knowns m) { holds = true })) o).demanded ≡ (known_at knowns o).demanded) (sym (eqb-true n o is))
            (ap (λ (known : Known). known.demanded) (get_or-set_same knowns o _ unknown lt))
        | inr isnt ↦ ap (λ (known : Known). known.demanded) (get_or-set_other knowns n o _ unknown (λ e. eqb-false n o isnt (sym e)))
      ]

  nothing_asked : (P : ℕ → Type 0) (Q : ℕ → Type 0) → ((kind : ℕ) → Q kind → ⊥) → (d : Demanded) → StandsFor s.parents P d → StandsFor s.parents (λ k. P k ⊎ Q k) d
  nothing_asked P Q none d h = stands_same s.parents P (λ k. P k ⊎ Q k) (λ k p. inl p) (λ k t. ⊎_elim (λ p. p) (λ q. absurd (none k q)) t) d h

  fact_step : (P : ℕ → Type 0) (knowns : List Known) (f : Fact) (o : ℕ) → o < length knowns → StandsFor s.parents P (known_at knowns o).demanded
      → StandsFor s.parents (λ k. P k ⊎ DemandsKind s o k f) (known_at (with_known s knowns f) o).demanded
  fact_step P knowns (Demands d) o lt h =
      let Goal : List Known → Type 0 = λ ks. StandsFor s.parents (λ k. P k ⊎ DemandsKind s o k (Demands d)) (known_at ks o).demanded in
      elim (cases_Bool (has_name s.kinds d.kind)) [
        | inl is ↦
            let e : with_known s knowns (Demands d) ≡ set_demand knowns (number_in s.objects d.object) (number_in s.kinds d.kind) = rw is refl in
            subst Goal (sym e) (stands_same s.parents (λ k. P k ⊎ ((number_in s.objects d.object ≡ o) × (number_in s.kinds d.kind ≡ k))) (λ k. P k ⊎ DemandsKind s o k (Demands d))
            (λ k t. ⊎_elim (λ p. inl p) (λ e. inr (is, e.0, e.1)) t) (λ k t. ⊎_elim (λ p. inl p) (λ e. inr (e.1, e.2)) t) _
            (asked_step P knowns (number_in s.objects d.object) (number_in s.kinds d.kind) o lt h))
        | inr isnt ↦
            let e : with_known s knowns (Demands d) ≡ knowns = rw isnt refl in
            subst Goal (sym e) (nothing_asked P (λ k. DemandsKind s o k (Demands d)) (λ k t. true≢false (sym t.0 ∙ isnt)) (known_at knowns o).demanded h)
      ]
  fact_step P knowns (RoomUnlessDoor object) o lt h =
      let Goal : List Known → Type 0 = λ ks. StandsFor s.parents (λ k. P k ⊎ DemandsKind s o k (RoomUnlessDoor object)) (known_at ks o).demanded in
      elim (cases_Bool (has_name s.doors object)) [
        | inl is ↦
            let e : with_known s knowns (RoomUnlessDoor object) ≡ knowns = rw is refl in
            subst Goal (sym e) (nothing_asked P (λ k. DemandsKind s o k (RoomUnlessDoor object)) (λ k t. true≢false (sym is ∙ t.0)) (known_at knowns o).demanded h)
        | inr isnt ↦
            let e : with_known s knowns (RoomUnlessDoor object) ≡ set_demand knowns (number_in s.objects object) room_kind = rw isnt refl in
            subst Goal (sym e) (stands_same s.parents (λ k. P k ⊎ ((number_in s.objects object ≡ o) × (room_kind ≡ k))) (λ k. P k ⊎ DemandsKind s o k (RoomUnlessDoor object))
            (λ k t. ⊎_elim (λ p. inl p) (λ e. inr (isnt, e.0, e.1)) t) (λ k t. ⊎_elim (λ p. inl p) (λ e. inr (e.1, e.2)) t) _
            (asked_step P knowns (number_in s.objects object) room_kind o lt h))
      ]
  fact_step P knowns (Placed p) o lt h =
      elim (cases_Bool (is_in p.relation)) [
        | inl is ↦ rw is (subst (λ (d : Demanded). StandsFor s.parents (λ k. P k ⊎ ⊥) d) (sym (held_same knowns (number_in s.objects p.holder) o lt))
            (nothing_asked P (λ k. ⊥) (λ k none. none) (known_at knowns o).demanded h))
        | inr isnt ↦ rw isnt (nothing_asked P (λ k. ⊥) (λ k none. none) (known_at knowns o).demanded h)
      ]
  fact_step P knowns _ o lt h = nothing_asked P (λ k. ⊥) (λ k none. none) (known_at knowns o).demanded h

  length_step : (knowns : List Known) (f : Fact) → length (with_known s knowns f) ≡ length knowns
  length_step knowns (Demands d) =
      elim (cases_Bool (has_name s.kinds d.kind)) [
        | inl is ↦ rw is (length-set knowns (number_in s.objects d.object) _)
        | inr isnt ↦ rw isnt refl
      ]
  length_step knowns (RoomUnlessDoor object) =
      elim (cases_Bool (has_name s.doors object)) [
        | inl is ↦ rw is refl
        | inr isnt ↦ rw isnt (length-set knowns (number_in s.objects object) _)
      ]
  length_step knowns (Placed p) =
      elim (cases_Bool (is_in p.relation)) [
        | inl is ↦ rw is (length-set knowns (number_in s.objects p.holder) _)
        | inr isnt ↦ rw isnt refl
      ]
  length_step knowns _ = refl

  more_to : (before : List Claim) (c : Claim) (o kind : ℕ) → Asked (before ++ c ∷ []) o kind → Asked before o kind ⊎ DemandsKind s o kind c.fact
  more_to before c o kind (inl built_in) = inl (inl built_in)
  more_to before c o kind (inr shown) =
      ⊎_elim
      (λ t. inl (inr (record { before = shown.before; item = shown.item; after = t.0; split = t.1; here = shown.here })))
      (λ t. ⊎_elim (λ same. inr (subst (λ (x : Claim). DemandsKind s o kind x.fact) (sym same) shown.here)) (λ u. none_behind u.0 shown.item shown.after u.1) t)
      (two_places before c [] shown.before shown.item shown.after shown.split)
    where
      none_behind : {X : Type 0} (between : List Claim) (item : Claim) (after : List Claim) → [] ≡ between ++ item ∷ after → X
      none_behind [] item after e = absurd cc
      none_behind (x ∷ xs) item after e = absurd cc

  more_from : (before : List Claim) (c : Claim) (o kind : ℕ) → Asked before o kind ⊎ DemandsKind s o kind c.fact → Asked (before ++ c ∷ []) o kind
  more_from before c o kind (inl (inl built_in)) = inl built_in
  more_from before c o kind (inl (inr shown)) = inr (shown_on (λ earlier (x : Claim). DemandsKind s o kind x.fact) before (c ∷ []) shown)
  more_from before c o kind (inr here) = inr (record { before = before; item = c; after = []; split = refl; here = here })

  stands_from : (before rest : List Claim) (knowns : List Known) (o : ℕ) → o < length knowns → StandsFor s.parents (Asked before o) (known_at knowns o).demanded
      → StandsFor s.parents (Asked (before ++ rest) o) (known_at (fold (with_known_of s) knowns rest) o).demanded
  stands_from before [] knowns o lt h = subst (λ (cs : List Claim). StandsFor s.parents (Asked cs o) (known_at knowns o).demanded) (sym (append-nil before)) h
  stands_from before (c ∷ cs) knowns o lt h =
      let next = with_known s knowns c.fact in
      let step = stands_same s.parents (λ k. Asked before o k ⊎ DemandsKind s o k c.fact) (Asked (before ++ c ∷ []) o) (λ k t. more_from before c o k t) (λ k t. more_to before c o k t)
      (known_at next o).demanded
      (fact_step (Asked before o) knowns c.fact o lt h) in
      subst (λ (all : List Claim). StandsFor s.parents (Asked all o) (known_at (fold (with_known_of s) next cs) o).demanded) (append_assoc before (c ∷ []) cs)
      (stands_from (before ++ c ∷ []) cs next o (omega (arith, lt, length_step knowns c.fact)) step)

  pub length_from : (claims : List Claim) (knowns : List Known) → length (fold (with_known_of s) knowns claims) ≡ length knowns
  length_from [] knowns = refl
  length_from (c ∷ cs) knowns = length_from cs (with_known s knowns c.fact) ∙ length_step knowns c.fact

  module _ (enough : 13 ≤ length s.objects) where
    abbrev known : List Claim → List Known
    known before = fold (with_known_of s) (first_knowns (length s.objects)) before

    -- what is known of an object stands for what is demanded of it
    stands : (before : List Claim) (o : ℕ) → o < length s.objects → StandsFor s.parents (Asked before o) (known_at (known before) o).demanded
    stands before o lt = stands_from [] before (first_knowns (length s.objects)) o (omega (arith, lt, first_length (length s.objects) enough)) (at_first (length s.objects) o)

    -- an object that isn't there isn't known
    there_if : (before : List Claim) (o kind : ℕ) → is_parted (deepen s.parents (known_at (known before) o).demanded kind) ≡ true → o < length s.objects
    there_if before o kind is =
        ⊎_elim
        (λ lt. lt)
        (λ le.
        let past : length (known before) ≤ o = omega (arith, le, length_from before (first_knowns (length s.objects)), first_length (length s.objects) enough) in
        let none : is_parted (Deepest kind) ≡ true = subst (λ (k : Known). is_parted (deepen s.parents k.demanded kind) ≡ true) (get_past (known before) o unknown past) is in
        absurd (true≢false (sym none)))
        (cases_lt o (length s.objects))

    off_to : (before : List Claim) (c : Claim) (o kind : ℕ) → ((k : ℕ) → kind ≡ k → DemandsKind s o k c.fact) → is_parted (deepen s.parents (known_at (known before) o).demanded kind) ≡ true
        → IsOffPath s before c
    off_to before c o kind demands is =
        let there = there_if before o kind is in
        let t = parted_pair s.parents (λ k. Asked before o k ⊎ (kind ≡ k)) (deepen s.parents (known_at (known before) o).demanded kind)
        (stands_deeper s.parents (Asked before o) (known_at (known before) o).demanded kind (stands before o there)) is in
        record {
          object = o;
          there = there;
          kind = kind;
          demands = demands kind refl;
          first = t.0;
          second = t.1;
          first_demanded = more_from before c o t.0 (⊎_elim (λ p. inl p) (λ e. inr (demands t.0 e)) t.2);
          second_demanded = more_from before c o t.1 (⊎_elim (λ p. inl p) (λ e. inr (demands t.1 e)) t.3);
          apart = t.4;
        }

    off_from : (before : List Claim) (c : Claim) (h : IsOffPath s before c) → ((k : ℕ) → DemandsKind s h.object k c.fact → h.kind ≡ k)
        → is_parted (deepen s.parents (known_at (known before) h.object).demanded h.kind) ≡ true
    off_from before c h one =
        let o = h.object in
        let asked : (k : ℕ) → Asked (before ++ c ∷ []) o k → Asked before o k ⊎ (h.kind ≡ k) = λ k d. ⊎_elim (λ p. inl p) (λ q. inr (one k q)) (more_to before c o k d) in
        parted_if s.parents (λ k. Asked before o k ⊎ (h.kind ≡ k)) (deepen s.parents (known_at (known before) o).demanded h.kind) h.first h.second
        (stands_deeper s.parents (Asked before o) (known_at (known before) o).demanded h.kind (stands before o h.there))
        (asked h.first h.first_demanded)
        (asked h.second h.second_demanded)
        h.apart

    off_decides : (before : List Claim) (c : Claim) (f : Fact) → c.fact ≡ f → Decides (is_off s (known before) f) (IsOffPath s before c)
    off_decides before c (Demands d) e =
        let o = number_in s.objects d.object in
        let kind = number_in s.kinds d.kind in (
          λ is.
              let t = and_parts (has_name s.kinds d.kind) (is_parted (deepen s.parents (known_at (known before) o).demanded kind)) is in
              off_to before c o kind (λ k same. subst (λ (f : Fact). DemandsKind s o k f) (sym e) (t.0, refl, same)) t.1,
          λ h.
              let q : DemandsKind s h.object h.kind (Demands d) = subst (λ (f : Fact). DemandsKind s h.object h.kind f) e h.demands in
              let is = off_from before c h (λ k r. let q' : DemandsKind s h.object k (Demands d) = subst (λ (f : Fact). DemandsKind s h.object k f) e r in sym q.2 ∙ q'.2) in
              and_from (has_name s.kinds d.kind) (is_parted (deepen s.parents (known_at (known before) o).demanded kind)) q.0
              (subst (λ (n : ℕ). is_parted (deepen s.parents (known_at (known before) n).demanded kind) ≡ true) (sym q.1)
              (subst (λ (k : ℕ). is_parted (deepen s.parents (known_at (known before) h.object).demanded k) ≡ true) (sym q.2) is)),
        )
    off_decides before c (RoomUnlessDoor object) e =
        let o = number_in s.objects object in (
          λ is.
              let t = and_parts (not (has_name s.doors object)) (is_parted (deepen s.parents (known_at (known before) o).demanded room_kind)) is in
              off_to before c o room_kind (λ k same. subst (λ (f : Fact). DemandsKind s o k f) (sym e) (not-true (has_name s.doors object) t.0, refl, same)) t.1,
          λ h.
              let q : DemandsKind s h.object h.kind (RoomUnlessDoor object) = subst (λ (f : Fact). DemandsKind s h.object h.kind f) e h.demands in
              let is = off_from before c h (λ k r. let q' : DemandsKind s h.object k (RoomUnlessDoor object) = subst (λ (f : Fact). DemandsKind s h.object k f) e r in sym q.2 ∙ q'.2) in
              and_from (not (has_name s.doors object)) (is_parted (deepen s.parents (known_at (known before) o).demanded room_kind)) (not_from_false (has_name s.doors object) q.0)
              (subst (λ (n : ℕ). is_parted (deepen s.parents (known_at (known before) n).demanded room_kind) ≡ true) (sym q.1)
              (subst (λ (k : ℕ). is_parted (deepen s.parents (known_at (known before) h.object).demanded k) ≡ true) (sym q.2) is)),
        )
    off_decides before c _ e = never (λ h. subst (λ (f : Fact). DemandsKind s h.object h.kind f) e h.demands)

    pub off_lowest : (claims : List Claim) → IsLowest (ShownBy (IsOffPath s) claims) (off_path s claims)
    off_lowest claims = lowest_is (IsOffPath s) (shows_off s) (with_known_of s) (first_knowns (length s.objects)) claims (λ before c after split. off_decides before c c.fact refl)

-- ---- the objects of sentences

-- the player and the directions are named before any sentence
pub built_in_named : (sentences : List Sentence) → 13 ≤ length (named_by sentences).keys
built_in_named sentences = omega (arith, counted-source sentences)
