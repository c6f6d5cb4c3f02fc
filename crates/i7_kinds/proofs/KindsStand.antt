-- The kinds of the tale of an accepted source are the built-in ones and those that are claimed, and lie as is claimed.
use Rattle.std.proofs.Common.{◌≡◌, ℕ, zero, suc, List, [], ◌∷◌, ◌++◌, length, Option, refl, ap, ◌∙◌, subst, arith, inl, inr, ◌⊎◌, ⊎_elim}
use Rattle.std.specs.Prelude.{Some, slice_get}
use Rattle.std.proofs.lemmas.List.{length-append}
use Rattle.std.proofs.lemmas.Option.{slice_get_within}
use Rattle.world_meaning.proofs.Options.{get_within}
use Rattle.world_meaning.specs.Kinds.{Under, built_in_parents}
use Rattle.i7_sentences.specs.declared.sentence.Sentence.{Sentence}
use Rattle.i7_claims.specs.Claims.{claims_of}
use Rattle.i7_claims.specs.KindNames.{kind_names}
use Rattle.i7_claims.specs.Numbers.{number_in}
use Rattle.i7_claims.specs.Sorts.{built_in_kinds}
use Rattle.i7_claims.specs.Statements.{named_by, stated_by}
use Rattle.i7_claims.specs.declared.claim.Claim.{Claim}
use Rattle.i7_claims.specs.declared.claim.Fact.{Fact}
use Rattle.i7_claims.specs.declared.claim.Fact.TheVariants.{Lies}
use Rattle.i7_claims.specs.declared.claim.Lying.{Lying}
use Rattle.i7_kinds.specs.Actions.{actions_said}
use Rattle.i7_kinds.specs.KindClaims.{declared_by, parents_of}
use Rattle.i7_kinds.specs.KindsMeant.{AreItsKinds, IsClaimed, IsKind, KindsLieAsClaimed}
use Rattle.i7_kinds.specs.Knowns.{knowns_of}
use Rattle.i7_kinds.specs.Tales.{entries_of, made_of, scope_of}
use Rattle.i7_kinds.proofs.KindPlaces.{AreNew, as_many, author_kinds, kind_in, kinds_once}
use Rattle.i7_kinds.proofs.KindsDeclared.{kinds_new}
use Rattle.i7_kinds.proofs.NamesOnce.{at_number, is_there, same_some}
use Rattle.i7_kinds.proofs.ObjectsNamed.{NoneFound, accepted, unrefused_tale}
use Rattle.i7_kinds.proofs.Rooted.{author_in, authors, authors_behind}
use Rattle.i7_kinds.proofs.UnderNames.{built_in_stands, kind_number, kinds_are, stands_above, to_numbers, under_named}

-- ---- what stands where

in_front_or_behind : {X : Type 0} (xs ys : List X) (i : ℕ) (v : X) → slice_get (xs ++ ys) i ≡ Some v → (slice_get xs i ≡ Some v) ⊎ ((j : ℕ) × (slice_get ys j ≡ Some v))
in_front_or_behind [] ys i v h = inr (i, h)
in_front_or_behind (x ∷ xs) ys zero v h = inl h
in_front_or_behind (x ∷ xs) ys (suc i) v h = in_front_or_behind xs ys i v h

-- an author's kind is claimed
abbrev Declared : List Claim → List ℕ → Type 0
Declared claims kind = (parent : List ℕ) × IsClaimed claims (Lies (record { kind = kind; parent = parent }))

declared_here : (c : Claim) (l : Lying) (claims : List Claim) (kind : List ℕ) → c.fact ≡ Lies l → Some l.kind ≡ Some kind → Declared (c ∷ claims) kind
declared_here c l claims kind same is =
    (l.parent, inl (same ∙ ap (λ (k : List ℕ). Lies (record { kind = k; parent = l.parent })) (same_some is)))

declared_step : (c : Claim) (f : Fact) (claims : List Claim) (j : ℕ) (kind : List ℕ) → c.fact ≡ f → ((i : ℕ) → slice_get (author_kinds claims) i ≡ Some kind → Declared claims kind)
    → slice_get (kind_in f ++ author_kinds claims) j ≡ Some kind → Declared (c ∷ claims) kind
declared_step c (Lies l) claims zero kind same rest h = declared_here c l claims kind same h
declared_step c (Lies l) claims (suc j) kind same rest h = let t = rest j h in (t.0, inr t.1)
declared_step c _ claims j kind same rest h = let t = rest j h in (t.0, inr t.1)

declared : (claims : List Claim) (j : ℕ) (kind : List ℕ) → slice_get (author_kinds claims) j ≡ Some kind → Declared claims kind
declared [] j kind h = absurd cc
declared (c ∷ claims) j kind h = declared_step c c.fact claims j kind refl (λ i e. declared claims i kind e) h

-- ---- as many names as kinds

beside : (N : List (List ℕ)) (f : Fact) → length (kind_in f) ≡ length (author_in N f)
beside N (Lies l) = refl
beside N _ = refl

all_beside : (N : List (List ℕ)) (claims : List Claim) → length (author_kinds claims) ≡ length (authors N claims)
all_beside N [] = refl
all_beside N (c ∷ claims) =
    omega (arith, beside N c.fact, all_beside N claims, length-append (kind_in c.fact) (author_kinds claims), length-append (author_in N c.fact) (authors N claims))

module _ (sentences : List Sentence) (new : AreNew built_in_kinds (claims_of sentences)) (found : NoneFound (claims_of sentences) (named_by sentences).keys) where
  counted : length (kind_names (claims_of sentences)) ≡ length (parents_of (kind_names (claims_of sentences)) (claims_of sentences))
  counted =
      let claims = claims_of sentences in
      let N = kind_names claims in
      let names = ap length (kinds_are claims new found.known) ∙ length-append built_in_kinds (author_kinds claims) in
      let above = ap length (authors_behind claims) ∙ length-append built_in_parents (authors N claims) in
      omega (arith, as_many, all_beside N claims, names, above)

  is_kind : (number : ℕ) (kind : List ℕ) → slice_get (kind_names (claims_of sentences)) number ≡ Some kind → IsKind (claims_of sentences) kind
  is_kind number kind h =
      let claims = claims_of sentences in
      ⊎_elim (λ front. inl (is_there built_in_kinds number kind front)) (λ t. inr (declared claims t.0 kind t.1))
      (in_front_or_behind built_in_kinds (author_kinds claims) number kind (subst (λ (names : List (List ℕ)). slice_get names number ≡ Some kind) (kinds_are claims new found.known) h))

  numbered_kind : (kind : List ℕ) → IsKind (claims_of sentences) kind → (number : ℕ) × (slice_get (kind_names (claims_of sentences)) number ≡ Some kind)
  numbered_kind kind (inl built_in) =
      let number = number_in built_in_kinds kind in
      (number, built_in_stands (claims_of sentences) new found.known number kind (at_number built_in_kinds kind built_in))
  numbered_kind kind (inr said) =
      let t = stands_above (claims_of sentences) new found.known (record { kind = kind; parent = said.0 }) said.1 in
      (t.0, t.1)

  kinds_stand : AreItsKinds sentences (parents_of (kind_names (claims_of sentences)) (claims_of sentences))
  kinds_stand =
      let claims = claims_of sentences in
      let N = kind_names claims in
      let S = parents_of N claims in
      record {
        named = λ number lt. get_within N number (omega (arith, lt, counted));
        within = λ number kind h. omega (arith, slice_get_within N number kind h, counted);
        once = kinds_once claims;
        kind = is_kind;
        numbered = numbered_kind;
        lies = λ number other kind above h k. (
          λ u. under_named claims new found.known number other kind above h k u,
          λ lies. subst (λ (n : ℕ). Under S n other) (kind_number claims new found.known number kind h)
              (subst (λ (n : ℕ). Under S (number_in N kind) n) (kind_number claims new found.known other above k) (to_numbers claims new found.known kind above lies)),
        );
      }

pub kinds_lie : KindsLieAsClaimed
kinds_lie sentences tale means =
    let claims = claims_of sentences in
    let named = named_by sentences in
    let found = accepted sentences tale means in
    let s = scope_of claims named.keys in
    let m = made_of s (knowns_of s claims) claims (stated_by sentences) in
    let t = unrefused_tale m (declared_by claims) (entries_of named.mentions) (actions_said sentences) _ tale means in
    subst (λ (kinds : List (Option ℕ)). AreItsKinds sentences kinds) t.2 (kinds_stand sentences (kinds_new sentences found.once) found)
