-- Where each kind is declared once, kinds and the kinds above them stand at the same places.
use Rattle.std.proofs.Common.{◌≡◌, ℕ, zero, suc, false, List, [], ◌∷◌, ◌++◌, length, Option, refl, sym, ap, ◌∙◌, subst, arith, inl, inr, ◌⊎◌, append-nil, append_assoc}
use Rattle.std.specs.Prelude.{Some, codes, flat_map, fold, map, slice_get}
use Rattle.world_meaning.specs.Kinds.{built_in_parents}
use Rattle.world_meaning.specs.declared.kinds.TheConstants.{KINDS}
use Rattle.i7_claims.specs.KindNames.{kind_names, with_kind, with_kind_of}
use Rattle.i7_claims.specs.Numbers.{has_name, number_in}
use Rattle.i7_claims.specs.Sorts.{built_in_kinds}
use Rattle.i7_claims.specs.declared.claim.Claim.{Claim}
use Rattle.i7_claims.specs.declared.claim.Fact.{Fact}
use Rattle.i7_claims.specs.declared.claim.Fact.TheVariants.{Lies}
use Rattle.i7_claims.specs.declared.claim.Lying.{Lying}
use Rattle.i7_kinds.specs.KindsMeant.{IsClaimed}
use Rattle.i7_kinds.proofs.NamesOnce.{StandOnce, none_once, once_mention, once_mentions, same_some}
use Rattle.i7_kinds.proofs.Rooted.{author_in, authors}

-- no kind is declared that is there already
abbrev pub IsNew : List (List ℕ) → Fact → Type 0
IsNew names (Lies l) = has_name names l.kind ≡ false
IsNew names _ = Unit {0}

abbrev pub AreNew : List (List ℕ) → List Claim → Type 0
AreNew names [] = Unit {0}
AreNew names (c ∷ claims) = IsNew names c.fact × AreNew (with_kind names c.fact) claims

-- the author's kinds
abbrev pub kind_in : Fact → List (List ℕ)
kind_in (Lies l) = l.kind ∷ []
kind_in _ = []

abbrev pub author_kinds : List Claim → List (List ℕ)
author_kinds claims = flat_map (λ c. kind_in c.fact) claims

new_fact : (names : List (List ℕ)) (f : Fact) → IsNew names f → with_kind names f ≡ names ++ kind_in f
new_fact names (Lies l) new = rw new refl
new_fact names _ new = sym (append-nil names)

pub kinds_behind : (claims : List Claim) (names : List (List ℕ)) → AreNew names claims → fold with_kind_of names claims ≡ names ++ author_kinds claims
kinds_behind [] names new = sym (append-nil names)
kinds_behind (c ∷ claims) names new =
    kinds_behind claims (with_kind names c.fact) new.1
    ∙ ap (λ (front : List (List ℕ)). front ++ author_kinds claims) (new_fact names c.fact new.0)
    ∙ append_assoc names (kind_in c.fact) (author_kinds claims)

once_fact : (names : List (List ℕ)) (f : Fact) → StandOnce names → StandOnce (with_kind names f)
once_fact names (Lies l) once = once_mention names l.kind once
once_fact names _ once = once

once_claims : (claims : List Claim) (names : List (List ℕ)) → StandOnce names → StandOnce (fold with_kind_of names claims)
once_claims [] names once = once
once_claims (c ∷ claims) names once = once_claims claims (with_kind names c.fact) (once_fact names c.fact once)

pub kinds_once : (claims : List Claim) → StandOnce (kind_names claims)
unfolding built_in_kinds
kinds_once claims = once_claims claims built_in_kinds (once_mentions (map (λ kind. kind.0.now) KINDS) [] none_once)

-- ---- at one place of two lists

abbrev pub AtOnePlace : List (List ℕ) → List (Option ℕ) → List ℕ → Option ℕ → Type 0
AtOnePlace kinds parents kind parent = (i : ℕ) × (slice_get kinds i ≡ Some kind) × (slice_get parents i ≡ Some parent)

-- lists of one length before them change nothing
pub behind : (before kinds : List (List ℕ)) (above parents : List (Option ℕ)) (kind : List ℕ) (parent : Option ℕ) → length before ≡ length above → AtOnePlace kinds parents kind parent
    → AtOnePlace (before ++ kinds) (above ++ parents) kind parent
behind [] kinds [] parents kind parent e at = at
behind [] kinds (p ∷ above) parents kind parent e at = absurd (omega (arith, e))
behind (k ∷ before) kinds [] parents kind parent e at = absurd (omega (arith, e))
behind (k ∷ before) kinds (p ∷ above) parents kind parent e at =
    let t = behind before kinds above parents kind parent (omega (arith, e)) at in
    (suc t.0, t.1, t.2)

claimed_here : (N : List (List ℕ)) (f : Fact) (kinds : List (List ℕ)) (parents : List (Option ℕ)) (l : Lying) → Lies l ≡ f
    → AtOnePlace (kind_in f ++ kinds) (author_in N f ++ parents) l.kind (Some (number_in N l.parent))
claimed_here N f kinds parents l same = subst (λ (g : Fact). AtOnePlace (kind_in g ++ kinds) (author_in N g ++ parents) l.kind (Some (number_in N l.parent))) same (0, refl, refl)

claimed_later : (N : List (List ℕ)) (f : Fact) (kinds : List (List ℕ)) (parents : List (Option ℕ)) (kind : List ℕ) (parent : Option ℕ) → AtOnePlace kinds parents kind parent
    → AtOnePlace (kind_in f ++ kinds) (author_in N f ++ parents) kind parent
claimed_later N (Lies l) kinds parents kind parent at = (suc at.0, at.1, at.2)
claimed_later N _ kinds parents kind parent at = at

-- what is claimed to lie under another stands with it
pub claimed_at : (N : List (List ℕ)) (claims : List Claim) (l : Lying) → IsClaimed claims (Lies l) → AtOnePlace (author_kinds claims) (authors N claims) l.kind (Some (number_in N l.parent))
claimed_at N [] l h = absurd h
claimed_at N (c ∷ claims) l (inl here) = claimed_here N c.fact (author_kinds claims) (authors N claims) l (sym here)
claimed_at N (c ∷ claims) l (inr later) = claimed_later N c.fact (author_kinds claims) (authors N claims) l.kind (Some (number_in N l.parent)) (claimed_at N claims l later)

-- what stands at a place is claimed
pub record ClaimedAt (N : List (List ℕ)) (claims : List Claim) (i : ℕ) (parent : Option ℕ) : Type 0 where
  pub said : Lying
  pub claimed : IsClaimed claims (Lies said)
  pub stands : slice_get (author_kinds claims) i ≡ Some said.kind
  pub under : parent ≡ Some (number_in N said.parent)

claim_step : (N : List (List ℕ)) (c : Claim) (f : Fact) (claims : List Claim) (i : ℕ) (parent : Option ℕ) → c.fact ≡ f
    → ((j : ℕ) → slice_get (authors N claims) j ≡ Some parent → ClaimedAt N claims j parent)
    → slice_get (author_in N f ++ authors N claims) i ≡ Some parent
    → (l : Lying) × IsClaimed (c ∷ claims) (Lies l) × (slice_get (kind_in f ++ author_kinds claims) i ≡ Some l.kind) × (parent ≡ Some (number_in N l.parent))
claim_step N c (Lies l) claims zero parent same rest h = (l, inl same, refl, sym (same_some h))
claim_step N c (Lies l) claims (suc i) parent same rest h = let t = rest i h in (t.said, inr t.claimed, t.stands, t.under)
claim_step N c _ claims i parent same rest h = let t = rest i h in (t.said, inr t.claimed, t.stands, t.under)

pub claim_at : (N : List (List ℕ)) (claims : List Claim) (i : ℕ) (parent : Option ℕ) → slice_get (authors N claims) i ≡ Some parent → ClaimedAt N claims i parent
claim_at N [] i parent h = absurd cc
claim_at N (c ∷ claims) i parent h =
    let t = claim_step N c c.fact claims i parent refl (λ j e. claim_at N claims j parent e) h in
    record { said = t.0; claimed = t.1; stands = t.2; under = t.3 }

-- a place in the front of one list or behind it, and in another beside it
abbrev BesideIn : List (List ℕ) → List (List ℕ) → ℕ → List (List ℕ) → ℕ → Type 0
BesideIn before kinds i part j = (kind : List ℕ) → slice_get part j ≡ Some kind → slice_get (before ++ kinds) i ≡ Some kind

pub front_or_behind : (before kinds : List (List ℕ)) (above parents : List (Option ℕ)) (i : ℕ) (parent : Option ℕ) → length before ≡ length above → slice_get (above ++ parents) i ≡ Some parent
    → ((slice_get above i ≡ Some parent) × BesideIn before kinds i before i) ⊎ ((j : ℕ) × (slice_get parents j ≡ Some parent) × BesideIn before kinds i kinds j)
front_or_behind [] kinds [] parents i parent e h = inr (i, h, λ kind k. k)
front_or_behind [] kinds (p ∷ above) parents i parent e h = absurd (omega (arith, e))
front_or_behind (k ∷ before) kinds [] parents i parent e h = absurd (omega (arith, e))
front_or_behind (k ∷ before) kinds (p ∷ above) parents zero parent e h = inl (h, λ kind g. g)
front_or_behind (k ∷ before) kinds (p ∷ above) parents (suc i) parent e h =
    front_or_behind before kinds above parents i parent (omega (arith, e)) h

-- ---- the table of the built-in kinds

pub as_many : length built_in_kinds ≡ length built_in_parents
unfolding built_in_kinds built_in_parents
as_many = refl

-- the row of a kind that lies under another
abbrev InTable : ℕ → ℕ → Type 0
InTable i p = (kind : List ℕ) × (parent : List ℕ) × (slice_get built_in_kinds i ≡ Some kind) × (slice_get built_in_kinds p ≡ Some parent)

row : (i p : ℕ) (kind parent : List ℕ) (q : ℕ) → slice_get built_in_kinds i ≡ Some kind → slice_get built_in_kinds q ≡ Some parent → q ≡ p → InTable i p
row i p kind parent q h k same = (kind, parent, h, subst (λ (n : ℕ). slice_get built_in_kinds n ≡ Some parent) same k)

pub in_table : (i p : ℕ) → slice_get built_in_parents i ≡ Some (Some p) → InTable i p
unfolding built_in_kinds built_in_parents
in_table zero p h = absurd cc
in_table (suc zero) p h = absurd cc
in_table (suc (suc zero)) p h = absurd cc
in_table (suc (suc (suc zero))) p h = row 3 p (codes "door") (codes "thing") 0 refl refl cc
in_table (suc (suc (suc (suc zero)))) p h = row 4 p (codes "container") (codes "thing") 0 refl refl cc
in_table (suc (suc (suc (suc (suc zero))))) p h = row 5 p (codes "supporter") (codes "thing") 0 refl refl cc
in_table (suc (suc (suc (suc (suc (suc zero)))))) p h = row 6 p (codes "person") (codes "thing") 0 refl refl cc
in_table (suc (suc (suc (suc (suc (suc (suc zero))))))) p h = row 7 p (codes "device") (codes "thing") 0 refl refl cc
in_table (suc (suc (suc (suc (suc (suc (suc (suc zero)))))))) p h = row 8 p (codes "man") (codes "person") 6 refl refl cc
in_table (suc (suc (suc (suc (suc (suc (suc (suc (suc zero))))))))) p h = row 9 p (codes "woman") (codes "person") 6 refl refl cc
in_table (suc (suc (suc (suc (suc (suc (suc (suc (suc (suc x)))))))))) p h = absurd cc
