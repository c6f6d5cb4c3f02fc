-- Rules that are listed as sentences say are listed apart: a sentence is about one rule.
use Rattle.std.proofs.Common.{◌≡◌, ◌∙◌, ap, sym, refl, ℕ, zero, suc, ◌+◌, ◌⊎◌, inl, inr, Bool, true, false, List, [], ◌∷◌, arith}
use Rattle.std.specs.Prelude.{◌==◌, Option, None, Some, slice_get, if◌then◌else◌}
use Rattle.play_meaning.specs.Patterns.{listing_meant}
use Rattle.play_meaning.specs.Rules.{InOrder, Listed, Rule}
use Rattle.play_meaning.specs.declared.tree.pattern.Listing.{Listing}
use Rattle.play_meaning.specs.declared.tree.pattern.Listing.TheVariants as listing
use Rattle.rule_order.specs.Books.{AreListedApart, sentence_of}
use Rattle.rule_order.specs.Listings.{latest, listed_by, listed_from, listing_by}
use Rattle.rule_order.specs.declared.listing.Front.{Front}
use Rattle.rule_order.specs.declared.listing.Front.TheVariants.{First, Last, Nowhere}
use Rattle.rule_order.specs.declared.listing.ListingSentence.{ListingSentence}
use Rattle.rule_order.proofs.BookLemmas.{from_zero}

-- ---- what is there

abbrev number_in : Option ℕ → ℕ
number_in None = 0
number_in (Some n) = n

abbrev rule_in : Option ListingSentence → ℕ
rule_in None = 0
rule_in (Some s) = s.rule

abbrev listed_in : Option Rule → Listed
listed_in None = InOrder
listed_in (Some rule) = rule.listed

-- ---- the sentence that lists a rule is about it

-- the sentence of number k, the first having number n
abbrev IsAbout : ℕ → ℕ → ℕ → List ListingSentence → Type 0
IsAbout rule n k ss = (i : ℕ) × (s : ListingSentence) × (i + n ≡ k) × (slice_get ss i ≡ Some s) × (s.rule ≡ rule)

one_rule : (j m k : ℕ) (ss : List ListingSentence) → IsAbout j 0 k ss → IsAbout m 0 k ss → j ≡ m
one_rule j m k ss a b =
    let place : a.0 ≡ b.0 = omega (arith, a.2, b.2) in
    sym a.4 ∙ sym (ap rule_in a.3) ∙ ap (λ i. rule_in (slice_get ss i)) place ∙ ap rule_in b.3 ∙ b.4

abbrev lists : Listing → ℕ → Type 0
lists l k = sentence_of (listing_meant l) ≡ Some k

said_by : (n k : ℕ) (at : Front) → lists (listing_by n at) k → n ≡ k
said_by n k First is = ap number_in is
said_by n k Last is = ap number_in is
said_by n k Nowhere is = absurd cc

one_step : (so_far : Listing) (r n k : ℕ) (s : ListingSentence) (test : Bool) → (s.rule == r) ≡ test → lists (if test then listing_by n s.at else so_far) k
    → lists so_far k ⊎ ((n ≡ k) × (s.rule ≡ r))
one_step so_far r n k s true same is = inr (said_by n k s.at is, grind (arith, same))
one_step so_far r n k s false same is = inl is

or_here : (so_far : Listing) (r n k : ℕ) (s : ListingSentence) (ss : List ListingSentence) → lists so_far k ⊎ ((n ≡ k) × (s.rule ≡ r)) → lists so_far k ⊎ IsAbout r n k (s ∷ ss)
or_here so_far r n k s ss (inl is) = inl is
or_here so_far r n k s ss (inr here) = inr (0, s, omega (arith, here.0), refl, here.1)

latest_about : (so_far : Listing) (r n k : ℕ) (ss : List ListingSentence) → lists (latest so_far r n ss) k → lists so_far k ⊎ IsAbout r n k ss
latest_about so_far r n k [] is = inl is
latest_about so_far r n k (s ∷ ss) is =
    let now : Listing = if s.rule == r then listing_by n s.at else so_far in
    elim (latest_about now r (n + 1) k ss is) as (λ x. lists so_far k ⊎ IsAbout r n k (s ∷ ss)) [
      | inl here ↦ or_here so_far r n k s ss (one_step so_far r n k s (s.rule == r) refl here)
      | inr later ↦ inr (suc later.0, later.1, omega (arith, later.2), later.3, later.4)
    ]

from_order : (r k : ℕ) (ss : List ListingSentence) → lists listing.InOrder k ⊎ IsAbout r 0 k ss → IsAbout r 0 k ss
from_order r k ss (inl is) = absurd cc
from_order r k ss (inr about) = about

-- ---- rules as they are listed

listed_at : (ss : List ListingSentence) (n j : ℕ) (rules : List Rule) (rule : Rule) → slice_get (listed_from ss n rules) j ≡ Some rule → rule.listed ≡ listing_meant (latest listing.InOrder (n + j) 0 ss)
listed_at ss n j [] rule at = absurd cc
listed_at ss n zero (first ∷ rules) rule at =
    let here : n ≡ n + 0 = omega arith in
    sym (ap listed_in at) ∙ ap (λ m. listing_meant (latest listing.InOrder m 0 ss)) here
listed_at ss n (suc j) (first ∷ rules) rule at =
    let there : (n + 1) + j ≡ n + suc j = omega arith in
    listed_at ss (n + 1) j rules rule at ∙ ap (λ m. listing_meant (latest listing.InOrder m 0 ss)) there

about : (ss : List ListingSentence) (rules : List Rule) (j k : ℕ) (rule : Rule) → slice_get (listed_by ss rules) j ≡ Some rule → sentence_of rule.listed ≡ Some k → IsAbout j 0 k ss
about ss rules j k rule at is =
    let same : rule.listed ≡ listing_meant (latest listing.InOrder j 0 ss) = listed_at ss 0 j rules rule at ∙ ap (λ m. listing_meant (latest listing.InOrder m 0 ss)) (from_zero j) in
    from_order j k ss (latest_about listing.InOrder j 0 k ss (sym (ap sentence_of same) ∙ is))

pub listed_apart : (ss : List ListingSentence) (rules : List Rule) → AreListedApart (listed_by ss rules)
listed_apart ss rules j k rule other sentence at_j at_k is so = one_rule j k sentence ss (about ss rules j sentence rule at_j is) (about ss rules k sentence other at_k so)
