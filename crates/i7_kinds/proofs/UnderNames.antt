-- Kinds lie under each other by their names as they do by their numbers.
use Rattle.std.proofs.Common.{◌≡◌, ℕ, true, false, List, [], ◌∷◌, ◌++◌, Option, refl, sym, ap, ◌∙◌, subst, inl, inr, ⊎_elim}
use Rattle.std.specs.Prelude.{Some, None, slice_get}
use Rattle.std.proofs.lemmas.Bool.{not-false}
use Rattle.world_meaning.proofs.Options.{get_front}
use Rattle.world_meaning.specs.Kinds.{Under, itself as no_step, above as step, built_in_parents}
use Rattle.i7_claims.specs.KindNames.{kind_names}
use Rattle.i7_claims.specs.Numbers.{has_name, number_in}
use Rattle.i7_claims.specs.Sorts.{built_in_kinds}
use Rattle.i7_claims.specs.declared.claim.Claim.{Claim}
use Rattle.i7_claims.specs.declared.claim.Fact.{Fact}
use Rattle.i7_claims.specs.declared.claim.Fact.TheVariants.{Lies}
use Rattle.i7_claims.specs.declared.claim.Lying.{Lying}
use Rattle.i7_claims.proofs.Lowest.{none_shown}
use Rattle.i7_kinds.specs.KindClaims.{is_unknown, kind_cycle, parents_of, same_names, shows_unknown, unknown_kind}
use Rattle.i7_kinds.specs.KindsMeant.{IsAbove, IsClaimed, LiesUnder, above, itself}
use Rattle.i7_kinds.proofs.KindPlaces.{AreNew, AtOnePlace, author_kinds, as_many, behind, claim_at, claimed_at, front_or_behind, in_table, kinds_behind, kinds_once}
use Rattle.i7_kinds.proofs.NamesOnce.{at_number, number_is, one_value, same_some}
use Rattle.i7_kinds.proofs.Rooted.{HasEnds, authors, authors_behind, kinds_end, trans}

-- ---- without a cycle two kinds that lie under each other are one

-- a way leads up from a kind and back to it
abbrev Returns : List (Option ℕ) → ℕ → Type 0
Returns S x = (p : ℕ) × (slice_get S x ≡ Some (Some p)) × Under S p x

same_parent : (o : Option (Option ℕ)) (p q : ℕ) → o ≡ Some (Some p) → o ≡ Some (Some q) → p ≡ q
same_parent o p q h k = cc

up : (S : List (Option ℕ)) (x p : ℕ) → slice_get S x ≡ Some (Some p) → Under S p x → Returns S p
up S x p h no_step = (p, h, no_step)
up S x p h (step {parent = q} k u) = (q, k, trans S q x p u (step h no_step))

all_return : (S : List (Option ℕ)) (x y : ℕ) → Under S x y → Returns S x → Returns S y
all_return S x y no_step r = r
all_return S x y (step {parent = q} k u) r =
    let back : Under S q x = subst (λ (n : ℕ). Under S n x) (same_parent (slice_get S x) r.0 q r.1 k) r.2 in
    all_return S q y u (up S x q k back)

none_returns : (S : List (Option ℕ)) → HasEnds S → (x : ℕ) → Returns S x → ⊥
none_returns S ends x r =
    let e = ends x in
    let t = all_return S x e.0 e.1 r in
    e.2 t.0 t.1

pub under_each_other : (S : List (Option ℕ)) → HasEnds S → (a b : ℕ) → Under S a b → Under S b a → a ≡ b
under_each_other S ends a b no_step v = refl
under_each_other S ends a b (step {parent = p} h u) v = absurd (none_returns S ends a (p, h, trans S p b a u v))

-- ---- what the scan for unknown kinds leaves

pub none_unknown : (names : List (List ℕ)) (claims : List Claim) (f : Fact) → unknown_kind names claims ≡ None → IsClaimed claims f → is_unknown names f ≡ false
none_unknown names [] f none h = absurd h
none_unknown names (c ∷ claims) f none (inl here) = subst (λ (g : Fact). is_unknown names g ≡ false) here (none_shown shows_unknown same_names names c claims none).0
none_unknown names (c ∷ claims) f none (inr later) = none_unknown names claims f (none_shown shows_unknown same_names names c claims none).1 later

-- ---- in a source whose kinds are each declared once, and known

module _ (claims : List Claim) (new : AreNew built_in_kinds claims) (unknown : unknown_kind (kind_names claims) claims ≡ None) where
  pub kinds_are : kind_names claims ≡ built_in_kinds ++ author_kinds claims
  kinds_are = kinds_behind claims built_in_kinds new

  pub kind_number : (i : ℕ) (kind : List ℕ) → slice_get (kind_names claims) i ≡ Some kind → number_in (kind_names claims) kind ≡ i
  kind_number i kind h = number_is (kind_names claims) (kinds_once claims) i kind h

  pub built_in_stands : (i : ℕ) (kind : List ℕ) → slice_get built_in_kinds i ≡ Some kind → slice_get (kind_names claims) i ≡ Some kind
  built_in_stands i kind h = subst (λ (names : List (List ℕ)). slice_get names i ≡ Some kind) (sym kinds_are) (get_front built_in_kinds (author_kinds claims) i kind h)

  built_in_under : (i : ℕ) (parent : Option ℕ) → slice_get built_in_parents i ≡ Some parent → slice_get (parents_of (kind_names claims) claims) i ≡ Some parent
  built_in_under i parent h = subst (λ (S : List (Option ℕ)). slice_get S i ≡ Some parent) (sym (authors_behind claims)) (get_front built_in_parents (authors (kind_names claims) claims) i parent h)

  pub stands_above : (l : Lying) → IsClaimed claims (Lies l) → AtOnePlace (kind_names claims) (parents_of (kind_names claims) claims) l.kind (Some (number_in (kind_names claims) l.parent))
  stands_above l h =
      let N = kind_names claims in
      let parent = Some (number_in N l.parent) in
      subst (λ (names : List (List ℕ)). AtOnePlace names (parents_of N claims) l.kind parent) (sym kinds_are)
      (subst (λ (S : List (Option ℕ)). AtOnePlace (built_in_kinds ++ author_kinds claims) S l.kind parent) (sym (authors_behind claims))
      (behind built_in_kinds (author_kinds claims) built_in_parents (authors N claims) l.kind parent as_many (claimed_at N claims l h)))

  number_above : (kind parent : List ℕ) → IsAbove claims kind parent
      → slice_get (parents_of (kind_names claims) claims) (number_in (kind_names claims) kind) ≡ Some (Some (number_in (kind_names claims) parent))
  number_above kind parent (inl b) =
      let S = parents_of (kind_names claims) claims in
      ap (slice_get S) (kind_number b.row kind (built_in_stands b.row kind b.named))
      ∙ built_in_under b.row (Some b.above) b.lies
      ∙ ap (λ (n : ℕ). Some (Some n)) (sym (kind_number b.above parent (built_in_stands b.above parent b.parent_named)))
  number_above kind parent (inr c) =
      let S = parents_of (kind_names claims) claims in
      let t = stands_above (record { kind = kind; parent = parent }) c in
      ap (slice_get S) (kind_number t.0 kind t.1) ∙ t.2

  pub to_numbers : (a b : List ℕ) → LiesUnder claims a b → Under (parents_of (kind_names claims) claims) (number_in (kind_names claims) a) (number_in (kind_names claims) b)
  to_numbers a b itself = no_step
  to_numbers a b (above {parent = p} h u) = step (number_above a p h) (to_numbers p b u)

  -- the names of a kind and of the kind right above it
  abbrev NamedAbove : ℕ → ℕ → Type 0
  NamedAbove i p = (kind : List ℕ) × (parent : List ℕ) × IsAbove claims kind parent × (slice_get (kind_names claims) i ≡ Some kind) × (slice_get (kind_names claims) p ≡ Some parent)

  named_in_table : (i p : ℕ) → slice_get built_in_parents i ≡ Some (Some p) → NamedAbove i p
  named_in_table i p h =
      let t = in_table i p h in
      (t.0, t.1, inl (record { row = i; above = p; named = t.2; lies = h; parent_named = t.3 }), built_in_stands i t.0 t.2, built_in_stands p t.1 t.3)

  named_by_claim : (i p j : ℕ) → slice_get (authors (kind_names claims) claims) j ≡ Some (Some p)
      → ((kind : List ℕ) → slice_get (author_kinds claims) j ≡ Some kind → slice_get (built_in_kinds ++ author_kinds claims) i ≡ Some kind) → NamedAbove i p
  named_by_claim i p j h beside =
      let N = kind_names claims in
      let t = claim_at N claims j (Some p) h in
      let there : has_name N t.said.parent ≡ true = not-false (has_name N t.said.parent) (none_unknown N claims (Lies t.said) unknown t.claimed) in
      let number : p ≡ number_in N t.said.parent = same_some t.under in (
        t.said.kind,
        t.said.parent,
        inr t.claimed,
        subst (λ (names : List (List ℕ)). slice_get names i ≡ Some t.said.kind) (sym kinds_are) (beside t.said.kind t.stands),
        ap (slice_get N) number ∙ at_number N t.said.parent there,
      )

  named_above : (i p : ℕ) → slice_get (parents_of (kind_names claims) claims) i ≡ Some (Some p) → NamedAbove i p
  named_above i p h =
      let N = kind_names claims in
      let g = subst (λ (S : List (Option ℕ)). slice_get S i ≡ Some (Some p)) (authors_behind claims) h in
      ⊎_elim (λ t. named_in_table i p t.0) (λ t. named_by_claim i p t.0 t.1 t.2)
      (front_or_behind built_in_kinds (author_kinds claims) built_in_parents (authors N claims) i (Some p) as_many g)

  pub to_names : (x y : ℕ) (kind : List ℕ) → Under (parents_of (kind_names claims) claims) x y → slice_get (kind_names claims) x ≡ Some kind
      → (other : List ℕ) × (slice_get (kind_names claims) y ≡ Some other) × LiesUnder claims kind other
  to_names x y kind no_step h = (kind, h, itself)
  to_names x y kind (step {parent = p} e u) h =
      let t = named_above x p e in
      let same : t.0 ≡ kind = one_value (slice_get (kind_names claims) x) t.0 kind t.3 h in
      let r = to_names p y t.1 u t.4 in
      (r.0, r.1, above (subst (λ (k : List ℕ). IsAbove claims k t.1) same t.2) r.2)

  -- of kinds that are there
  pub under_named : (i j : ℕ) (a b : List ℕ) → slice_get (kind_names claims) i ≡ Some a → slice_get (kind_names claims) j ≡ Some b → Under (parents_of (kind_names claims) claims) i j
      → LiesUnder claims a b
  under_named i j a b h k u =
      let t = to_names i j a u h in
      subst (λ (o : List ℕ). LiesUnder claims a o) (one_value (slice_get (kind_names claims) j) t.0 b t.1 k) t.2

  pub one_kind : kind_cycle (kind_names claims) claims ≡ None → (i j : ℕ) (a b : List ℕ) → slice_get (kind_names claims) i ≡ Some a → slice_get (kind_names claims) j ≡ Some b
      → LiesUnder claims a b → LiesUnder claims b a → a ≡ b
  one_kind cycle i j a b h k u v =
      let N = kind_names claims in
      let S = parents_of N claims in
      let same : number_in N a ≡ number_in N b = under_each_other S (kinds_end claims cycle) (number_in N a) (number_in N b) (to_numbers a b u) (to_numbers b a v) in
      let e : slice_get N i ≡ Some b = ap (slice_get N) (sym (kind_number i a h) ∙ same ∙ kind_number j b k) ∙ k in
      one_value (slice_get N i) a b h e
