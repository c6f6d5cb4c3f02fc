-- What names stand for by the declarations of a source in which no name stands for two things is the same in whatever order.
use Rattle.std.proofs.Common.{◌≡◌, ℕ, Bool, true, false, List, [], ◌∷◌, ◌++◌, Option, refl, sym, ap, ◌∙◌, subst, inl, inr, ◌⊎◌, ⊎_elim}
use Rattle.std.specs.Prelude.{Some, None, bytes_eq, flat_map, fold, if◌then◌else◌}
use Rattle.std.proofs.lemmas.Slice.Eq.{bytes_eq-Decides}
use Rattle.std.proofs.lemmas.Bool.{cases_Bool, not-false}
use Rattle.i7_sentences.specs.declared.sentence.Sentence.{Sentence}
use Rattle.i7_claims.specs.Claims.{claims_in, claims_of, declares_in, known_by}
use Rattle.i7_claims.specs.Firsts.{first_of, given}
use Rattle.i7_claims.specs.NameScans.{Standings, built_in_standings, clashes, is_twice, name_twice, shows_twice, with_claim, with_fact}
use Rattle.i7_claims.specs.Scans.{lower, lowest}
use Rattle.i7_claims.specs.Standings.{suits, suits_second}
use Rattle.i7_claims.specs.declared.claim.Claim.{Claim}
use Rattle.i7_claims.specs.declared.claim.Fact.{Fact}
use Rattle.i7_claims.specs.declared.claim.Fact.TheVariants.{Stands}
use Rattle.i7_claims.specs.declared.claim.Naming.{Naming}
use Rattle.i7_claims.specs.declared.claim.Standing.{Standing}
use Rattle.i7_claims.specs.declared.claim.Standing.TheVariants as stands
use Rattle.i7_claims.proofs.Lowest.{none_shown}
use Rattle.i7_kinds.specs.KindsMeant.{IsClaimed}
use Rattle.i7_kinds.proofs.KindsDeclared.{DeclaresOrNot, EachFact, IsPlain, declares_or_not}
use Rattle.i7_kinds.proofs.NamesOnce.{same_some}

-- ---- declarations alone say the same of each name, but of objects'

abbrev Agree : Option Standing → Option Standing → Type 0
Agree all told = (all ≡ told) ⊎ ((all ≡ Some stands.Object) × (told ≡ None))

abbrev AgreeAt : Standings → Standings → Type 0
AgreeAt known told = (name : List ℕ) → Agree (known name) (told name)

object_only : (s : Standing) → clashes (Some stands.Object) s ≡ false → s ≡ stands.Object
object_only stands.Object h = refl
object_only _ h = absurd cc

clash_agrees : (all told : Option Standing) (s : Standing) → Agree all told → clashes all s ≡ false → clashes told s ≡ false
clash_agrees all told s (inl same) h = ap (λ (found : Option Standing). clashes found s) (sym same) ∙ h
clash_agrees all told s (inr only) h = ap (λ (found : Option Standing). clashes found s) only.1

abbrev given_if : Bool → Standing → Option Standing
given_if here s = if here then Some s else None

agree_both : (all told : Option Standing) (here : Bool) (s : Standing) → Agree all told → (here ≡ true → clashes all s ≡ false)
    → Agree (first_of all (given_if here s)) (first_of told (given_if here s))
agree_both all told here s (inl same) h = inl (ap (λ (found : Option Standing). first_of found (given_if here s)) same)
agree_both all told true s (inr only) h =
    let is : s ≡ stands.Object = object_only s (ap (λ (found : Option Standing). clashes found s) (sym only.0) ∙ h refl) in
    inl (ap (λ (found : Option Standing). first_of found (Some s)) only.0 ∙ ap (λ (x : Standing). Some x) (sym is) ∙ ap (λ (found : Option Standing). first_of found (Some s)) (sym only.1))
agree_both all told false s (inr only) h = inr (ap (λ (found : Option Standing). first_of found None) only.0, ap (λ (found : Option Standing). first_of found None) only.1)

agree_plain : (all told : Option Standing) (here : Bool) (s : Standing) → s ≡ stands.Object → Agree all told → Agree (first_of all (given_if here s)) told
agree_plain (Some x) told here s is h = h
agree_plain None told true s is (inl same) = inr (ap (λ (x : Standing). Some x) is, sym same)
agree_plain None told false s is (inl same) = inl same
agree_plain None told here s is (inr only) = absurd cc

clash_here : (known : Standings) (n : Naming) (name : List ℕ) → clashes (known n.name) n.standing ≡ false → bytes_eq n.name name ≡ true → clashes (known name) n.standing ≡ false
clash_here known n name h is = ap (λ (x : List ℕ). clashes (known x) n.standing) (sym ((bytes_eq-Decides n.name name).0 is)) ∙ h

step_both : (known told : Standings) (f : Fact) → AgreeAt known told → is_twice known f ≡ false → (is_twice told f ≡ false) × AgreeAt (with_fact known f) (with_fact told f)
step_both known told (Stands n) all h = (
  clash_agrees (known n.name) (told n.name) n.standing (all n.name) h,
  λ name. agree_both (known name) (told name) (bytes_eq n.name name) n.standing (all name) (λ is. clash_here known n name h is),
)
step_both known told _ all h = (refl, all)

step_plain : (known told : Standings) (f : Fact) → IsPlain f → AgreeAt known told → AgreeAt (with_fact known f) told
step_plain known told (Stands n) is all = λ name. agree_plain (known name) (told name) (bytes_eq n.name name) n.standing is (all name)
step_plain known told _ is all = all

abbrev NoneTwice : Standings → List Claim → Type 0
NoneTwice known claims = lowest shows_twice with_claim known claims None ≡ None

passed : (told : Standings) (c : Claim) (claims : List Claim) → is_twice told c.fact ≡ false → NoneTwice (with_claim told c) claims → NoneTwice told (c ∷ claims)
passed told c claims h none = ap (λ (b : Bool). lowest shows_twice with_claim (with_claim told c) claims (lower b c.line None)) h ∙ none

plain_through : (some rest : List Claim) (known told : Standings) → EachFact IsPlain some → AgreeAt known told → NoneTwice known (some ++ rest)
    → (now : Standings) × AgreeAt now told × NoneTwice now rest
plain_through [] rest known told plain all none = (known, all, none)
plain_through (c ∷ some) rest known told plain all none =
    plain_through some rest (with_claim known c) told plain.1 (step_plain known told c.fact plain.0 all) (none_shown shows_twice with_claim known c (some ++ rest) none).1

both_through : (some rest later : List Claim) (known told : Standings) → AgreeAt known told → NoneTwice known (some ++ rest)
    → ((now then_told : Standings) → AgreeAt now then_told → NoneTwice now rest → NoneTwice then_told later) → NoneTwice told (some ++ later)
both_through [] rest later known told all none on = on known told all none
both_through (c ∷ some) rest later known told all none on =
    let t = none_shown shows_twice with_claim known c (some ++ rest) none in
    let s = step_both known told c.fact all t.0 in
    passed told c (some ++ later) s.0 (both_through some rest later (with_claim known c) (with_claim told c) s.1 t.1 on)

sentence_through : (known0 : Standings) (sentence : Sentence) (rest later : List Claim) (known told : Standings) → DeclaresOrNot known0 sentence.said sentence.line → AgreeAt known told
    → NoneTwice known (claims_in known0 sentence ++ rest)
    → ((now then_told : Standings) → AgreeAt now then_told → NoneTwice now rest → NoneTwice then_told later) → NoneTwice told (declares_in sentence ++ later)
sentence_through known0 sentence rest later known told (inl plain) all none on =
    let t = plain_through (claims_in known0 sentence) rest known told plain.1 all none in
    subst (λ (cs : List Claim). NoneTwice told (cs ++ later)) (sym plain.0) (on t.0 told t.1 t.2)
sentence_through known0 sentence rest later known told (inr same) all none on =
    both_through (declares_in sentence) rest later known told all (subst (λ (cs : List Claim). NoneTwice known (cs ++ rest)) same none) on

none_declared : (known0 : Standings) (sentences : List Sentence) (known told : Standings) → AgreeAt known told → NoneTwice known (flat_map (claims_in known0) sentences)
    → NoneTwice told (flat_map declares_in sentences)
none_declared known0 [] known told all none = refl
none_declared known0 (sentence ∷ sentences) known told all none =
    sentence_through known0 sentence (flat_map (claims_in known0) sentences) (flat_map declares_in sentences) known told (declares_or_not known0 sentence.said sentence.line) all none
    (λ now then_told agree none_later. none_declared known0 sentences now then_told agree none_later)

-- no name stands for two things in the declarations alone
pub none_twice_declared : (sentences : List Sentence) → name_twice (claims_of sentences) ≡ None → NoneTwice built_in_standings (flat_map declares_in sentences)
none_twice_declared sentences none = none_declared (known_by sentences) sentences built_in_standings built_in_standings (λ name. inl refl) none

-- ---- what a name stands for in the end

first_stays : (known : Standings) (f : Fact) (name : List ℕ) (s : Standing) → known name ≡ Some s → with_fact known f name ≡ Some s
first_stays known (Stands n) name s h = ap (λ (found : Option Standing). first_of found (given bytes_eq n.name n.standing name)) h
first_stays known _ name s h = h

stays : (claims : List Claim) (known : Standings) (name : List ℕ) (s : Standing) → known name ≡ Some s → fold with_claim known claims name ≡ Some s
stays [] known name s h = h
stays (c ∷ claims) known name s h = stays claims (with_claim known c) name s (first_stays known c.fact name s h)

-- what stands suits what is claimed
abbrev Suited : Option Standing → Standing → Type 0
Suited found said = (s : Standing) × (found ≡ Some s) × ((s ≡ said) ⊎ (suits s said ≡ true))

suited_now : (found : Option Standing) (said : Standing) → clashes found said ≡ false → Suited (first_of found (Some said)) said
suited_now None said h = (said, refl, inl refl)
suited_now (Some s) said h = (s, refl, inr (not-false (suits s said) h))

suited_here : (known : Standings) (f : Fact) (n : Naming) → f ≡ Stands n → is_twice known f ≡ false → Suited (with_fact known f n.name) n.standing
suited_here known f n same h =
    let twice : clashes (known n.name) n.standing ≡ false = ap (is_twice known) (sym same) ∙ h in
    let given_it : given bytes_eq n.name n.standing n.name ≡ Some n.standing = rw ((bytes_eq-Decides n.name n.name).1 refl) refl in
    subst (λ (g : Fact). Suited (with_fact known g n.name) n.standing) (sym same)
    (subst (λ (found : Option Standing). Suited (first_of (known n.name) found) n.standing) (sym given_it) (suited_now (known n.name) n.standing twice))

suited : (claims : List Claim) (known : Standings) (n : Naming) → NoneTwice known claims → IsClaimed claims (Stands n) → Suited (fold with_claim known claims n.name) n.standing
suited [] known n none h = absurd h
suited (c ∷ claims) known n none (inl here) =
    let t = suited_here known c.fact n here (none_shown shows_twice with_claim known c claims none).0 in
    (t.0, stays claims (with_claim known c) n.name t.0 t.1, t.2)
suited (c ∷ claims) known n none (inr later) = suited claims (with_claim known c) n (none_shown shows_twice with_claim known c claims none).1 later

-- what stands was there before or is claimed
given_from : (found : Option Standing) (key : List ℕ) (value : Standing) (name : List ℕ) (s : Standing) → first_of found (given bytes_eq key value name) ≡ Some s
    → (found ≡ Some s) ⊎ ((key ≡ name) × (value ≡ s))
given_from (Some x) key value name s h = inl h
given_from None key value name s h =
    elim (cases_Bool (bytes_eq key name)) [
      | inl is ↦ let there : Some value ≡ Some s = rw is at h in inr ((bytes_eq-Decides key name).0 is, same_some there)
      | inr isnt ↦ let none : None ≡ Some s = rw isnt at h in absurd cc
    ]

fact_from : (known : Standings) (f : Fact) (name : List ℕ) (s : Standing) → with_fact known f name ≡ Some s → (known name ≡ Some s) ⊎ (f ≡ Stands (record { name = name; standing = s }))
fact_from known (Stands n) name s h =
    ⊎_elim (λ old. inl old) (λ now. inr (λ i. Stands (record { name = now.0 i; standing = now.1 i }))) (given_from (known name) n.name n.standing name s h)
fact_from known _ name s h = inl h

from_claim : (claims : List Claim) (known : Standings) (name : List ℕ) (s : Standing) → fold with_claim known claims name ≡ Some s
    → (known name ≡ Some s) ⊎ IsClaimed claims (Stands (record { name = name; standing = s }))
from_claim [] known name s h = inl h
from_claim (c ∷ claims) known name s h =
    ⊎_elim (λ old. ⊎_elim (λ older. inl older) (λ here. inr (inl here)) (fact_from known c.fact name s old)) (λ later. inr (inr later)) (from_claim claims (with_claim known c) name s h)

-- two that suit each other are one
one_second : (a b : Option (List ℕ)) → suits_second a b ≡ true → suits_second b a ≡ true → a ≡ b
one_second None None h k = refl
one_second None (Some y) h k = absurd cc
one_second (Some x) None h k = absurd cc
one_second (Some x) (Some y) h k = ap (λ (n : List ℕ). Some n) ((bytes_eq-Decides x y).0 h)

one_standing : (s t : Standing) → suits s t ≡ true → suits t s ≡ true → s ≡ t
one_standing (stands.First a) (stands.First b) h k = ap (λ (x : Option (List ℕ)). stands.First x) (one_second a b h k)
one_standing (stands.Second a) (stands.Second b) h k = ap (λ (x : List ℕ). stands.Second x) ((bytes_eq-Decides a b).0 h)
one_standing stands.Number stands.Number h k = refl
one_standing stands.Object stands.Object h k = refl
one_standing _ _ h k = absurd cc

abbrev pub SameClaimed : List Claim → List Claim → Type 0
SameClaimed these those = (f : Fact) → IsClaimed these f → IsClaimed those f

module _ (these those : List Claim) (to : SameClaimed these those) (from : SameClaimed those these) (known : Standings) (none : NoneTwice known these) (none_too : NoneTwice known those) where
  -- what stands in one source stands in the other, and suits it
  also : (some more : List Claim) (there : SameClaimed some more) (none_more : NoneTwice known more) (name : List ℕ) (s : Standing) → fold with_claim known some name ≡ Some s
      → Suited (fold with_claim known more name) s
  also some more there none_more name s h =
      ⊎_elim (λ old. (s, stays more known name s old, inl refl))
      (λ claimed. suited more known (record { name = name; standing = s }) none_more (there (Stands (record { name = name; standing = s })) claimed)) (from_claim some known name s h)

  same_found : (name : List ℕ) (a b : Option Standing) → fold with_claim known these name ≡ a → fold with_claim known those name ≡ b → a ≡ b
  same_found name None None h k = refl
  same_found name None (Some t) h k = let other = also those these from none name t k in let there : None ≡ Some other.0 = sym h ∙ other.1 in absurd cc
  same_found name (Some s) None h k = let other = also these those to none_too name s h in let there : None ≡ Some other.0 = sym k ∙ other.1 in absurd cc
  same_found name (Some s) (Some t) h k =
      let a = also these those to none_too name s h in
      let b = also those these from none name t k in
      let at : a.0 ≡ t = same_some (sym a.1 ∙ k) in
      let bs : b.0 ≡ s = same_some (sym b.1 ∙ h) in
      ap (λ (x : Standing). Some x)
      (⊎_elim (λ e. sym e ∙ at)
      (λ up. ⊎_elim (λ e. sym bs ∙ e) (λ down. one_standing s t (subst (λ (x : Standing). suits x t ≡ true) bs down) (subst (λ (x : Standing). suits x s ≡ true) at up)) b.2)
      a.2)

  pub same_standings : fold with_claim known these ≡ fold with_claim known those
  same_standings = λ i. λ name. same_found name (fold with_claim known these name) (fold with_claim known those name) refl refl i
