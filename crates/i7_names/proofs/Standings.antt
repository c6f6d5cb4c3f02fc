-- Where each naming suits those before it, a name stands for what any of them says.
use Rattle.std.proofs.Common.{◌≡◌, ◌≢◌, ℕ, Bool, true, false, not, ◌&&◌, List, [], ◌∷◌, ◌++◌, refl, sym, ap, ◌∙◌, subst, inl, inr}
use Rattle.std.specs.Prelude.{Option, Some, None, bytes_eq, fold, if◌then◌else◌}
use Rattle.std.specs.Option.{option_or}
use Rattle.std.proofs.lemmas.Slice.Eq.{bytes_eq-Decides}
use Rattle.std.proofs.lemmas.Bool.{cases_Bool, and_from, and_parts, not-false, not-true}
use Rattle.world_meaning.specs.Spelling.{lowered}
use Rattle.i7_conditions.specs.declared.meaning.Meaning.{Meaning}
use Rattle.i7_claims.specs.Firsts.{first_of, given}
use Rattle.i7_claims.specs.NameScans.{Standings, clashes, is_twice, shows_twice, with_claim, with_fact, with_naming}
use Rattle.i7_claims.specs.Scans.{lowest}
use Rattle.i7_claims.specs.Standings.{is_number, is_object, is_second_of, namings_in, namings_of, standing_in, suits, suits_first}
use Rattle.i7_claims.specs.declared.claim.Claim.{Claim}
use Rattle.i7_claims.specs.declared.claim.Fact.{Fact}
use Rattle.i7_claims.specs.declared.claim.Fact.TheVariants.{Stands}
use Rattle.i7_claims.specs.declared.claim.Naming.{Naming}
use Rattle.i7_claims.specs.declared.claim.Standing.{Standing}
use Rattle.i7_claims.specs.declared.claim.Standing.TheVariants as stands
use Rattle.i7_claims.proofs.Firsts.{first_none}
use Rattle.i7_claims.proofs.Lowest.{none_shown}
use Rattle.i7_claims.proofs.NameScans.{fold_naming}
use Rattle.i7_names.specs.Claimed.{IsAmong}
use Rattle.i7_names.specs.Known.{Known, with_name}
use Rattle.i7_names.specs.Meant.{meaning_as}
use Rattle.i7_names.specs.Meant as meant
use Rattle.i7_names.specs.Numbering.{Numbering}
use Rattle.i7_names.proofs.SmallNames.{AreSmall}

-- what a name of which this is known stands for
abbrev pub meaning_of : Numbering → List ℕ → Option Standing → Option Meaning
meaning_of n name None = None
meaning_of n name (Some standing) = meaning_as n name standing

-- names that may be claimed again stand for the same
first_suited : (n : Numbering) (name : List ℕ) (known : Standing) (second : Option (List ℕ)) → suits_first known second ≡ true → meaning_as n name known ≡ meaning_as n name (stands.First second)
first_suited n name (stands.First other) second h = refl
first_suited n name _ second h = absurd cc

second_suited : (n : Numbering) (name : List ℕ) (known : Standing) (first : List ℕ) → is_second_of known first ≡ true → meaning_as n name known ≡ meaning_as n name (stands.Second first)
second_suited n name (stands.Second other) first h = ap (λ (key : List ℕ). meaning_as n name (stands.Second key)) ((bytes_eq-Decides other first).0 h)
second_suited n name _ first h = absurd cc

number_suited : (n : Numbering) (name : List ℕ) (known : Standing) → is_number known ≡ true → meaning_as n name known ≡ meaning_as n name stands.Number
number_suited n name stands.Number h = refl
number_suited n name _ h = absurd cc

object_suited : (n : Numbering) (name : List ℕ) (known : Standing) → is_object known ≡ true → meaning_as n name known ≡ meaning_as n name stands.Object
object_suited n name stands.Object h = refl
object_suited n name _ h = absurd cc

suited : (n : Numbering) (name : List ℕ) (known said : Standing) → suits known said ≡ true → meaning_as n name known ≡ meaning_as n name said
suited n name known (stands.First second) h = first_suited n name known second h
suited n name known (stands.Second first) h = second_suited n name known first h
suited n name known stands.Number h = number_suited n name known h
suited n name known stands.Object h = object_suited n name known h
suited n name known _ h = absurd cc

-- each naming suits what is known before it
unfoldable pub fits : Standings → List Naming → Bool
fits known [] = true
fits known (x ∷ xs) = not (clashes (known x.name) x.standing) && fits (with_naming known x) xs

pub fits_append : (xs ys : List Naming) (known : Standings) → fits known xs ≡ true → fits (fold with_naming known xs) ys ≡ true → fits known (xs ++ ys) ≡ true
unfolding fits
fits_append [] ys known h k = k
fits_append (x ∷ xs) ys known h k =
    let parts = and_parts (not (clashes (known x.name) x.standing)) (fits (with_naming known x) xs) h in
    and_from _ _ parts.0 (fits_append xs ys (with_naming known x) parts.1 k)

-- ---- a source in which no name stands for two things

fact_fits : (f : Fact) (after : List Naming) (known : Standings) → is_twice known f ≡ false → fits (with_fact known f) after ≡ true → fits known (namings_in f ++ after) ≡ true
unfolding fits
fact_fits (Stands x) after known h k = and_from _ _ (ap not h) k
fact_fits _ after known h k = k

pub claims_fit : (claims : List Claim) (known : Standings) → lowest shows_twice with_claim known claims None ≡ None → fits known (namings_of claims) ≡ true
unfolding fits
claims_fit [] known h = refl
claims_fit (c ∷ cs) known h =
    let parts = none_shown shows_twice with_claim known c cs h in
    fact_fits c.fact (namings_of cs) known parts.0 (claims_fit cs (with_claim known c) parts.1)

-- ---- what is known of a name tells what it stands for

abbrev pub Agrees : Numbering → Standings → Known → Type 0
Agrees n standings known = (name : List ℕ) → known.meanings name ≡ meaning_of n name (standings name)

or_none : {X : Type 0} (x : Option X) → option_or x None ≡ x
or_none None = refl
or_none (Some x) = refl

or_same : {X : Type 0} (x : Option X) → option_or x x ≡ x
or_same None = refl
or_same (Some x) = refl

-- the name itself
here : (n : Numbering) (name : List ℕ) (found : Option Standing) (said : Standing) → clashes found said ≡ false → option_or (meaning_of n name found) (meaning_as n name said) ≡ meaning_of n name (first_of found (Some said))
here n name None said h = refl
here n name (Some known) said h = ap (option_or (meaning_as n name known)) (sym (suited n name known said (not-false (suits known said) h))) ∙ or_same (meaning_as n name known)

same_either : {X : Type 0} (b : Bool) (x : X) → (if b then x else x) ≡ x
same_either true x = refl
same_either false x = refl

added : (known : Known) (key name : List ℕ) (meaning : Option Meaning) → (with_name known key meaning).meanings name ≡ option_or (known.meanings name) (if bytes_eq name (lowered key) then meaning else None)
added known key name None =
    let nothing : Option Meaning = None in
    sym (ap (option_or (known.meanings name)) (same_either (bytes_eq name (lowered key)) nothing) ∙ or_none (known.meanings name))
added known key name (Some meaning) = refl

turned : (a b : List ℕ) → bytes_eq a b ≡ bytes_eq b a
turned a b =
    elim (cases_Bool (bytes_eq a b)) [
      | inl is ↦ is ∙ sym ((bytes_eq-Decides b a).1 (sym ((bytes_eq-Decides a b).0 is)))
      | inr isnt ↦ elim (cases_Bool (bytes_eq b a)) [
        | inl is ↦ (bytes_eq-Decides a b).1 (sym ((bytes_eq-Decides b a).0 is)) ∙ sym is
        | inr other ↦ isnt ∙ sym other
      ]
    ]

at_name : (n : Numbering) (found : Option Standing) (x : Naming) (name : List ℕ) → (x.name ≡ name → clashes found x.standing ≡ false)
    → option_or (meaning_of n name found) (if bytes_eq x.name name then meaning_as n x.name x.standing else None) ≡ meaning_of n name (first_of found (given bytes_eq x.name x.standing name))
at_name n found x name fit =
    elim (cases_Bool (bytes_eq x.name name)) [
      | inl is ↦ let same : x.name ≡ name = (bytes_eq-Decides x.name name).0 is in
          rw is (ap (λ (key : List ℕ). option_or (meaning_of n name found) (meaning_as n key x.standing)) same ∙ here n name found x.standing (fit same))
      | inr isnt ↦ rw isnt (or_none (meaning_of n name found) ∙ ap (meaning_of n name) (sym (first_none found)))
    ]

one_agrees : (n : Numbering) (standings : Standings) (known : Known) (x : Naming) → Agrees n standings known → lowered x.name ≡ x.name → clashes (standings x.name) x.standing ≡ false
    → Agrees n (with_naming standings x) (meant.with_naming n known x)
one_agrees n standings known x h small fit name =
    added known x.name name (meaning_as n x.name x.standing)
    ∙ ap (λ (key : List ℕ). option_or (known.meanings name) (if bytes_eq name key then meaning_as n x.name x.standing else None)) small
    ∙ ap (λ (b : Bool). option_or (known.meanings name) (if b then meaning_as n x.name x.standing else None)) (turned name x.name)
    ∙ ap (λ (m : Option Meaning). option_or m (if bytes_eq x.name name then meaning_as n x.name x.standing else None)) (h name)
    ∙ at_name n (standings name) x name (λ same. subst (λ (key : List ℕ). clashes (standings key) x.standing ≡ false) same fit)

pub all_agree : (n : Numbering) (xs : List Naming) (standings : Standings) (known : Known) → Agrees n standings known → AreSmall xs → fits standings xs ≡ true → Agrees n (fold with_naming standings xs) (fold (meant.with_naming n) known xs)
unfolding fits
all_agree n [] standings known h small fit = h
all_agree n (x ∷ xs) standings known h small fit =
    let parts = and_parts (not (clashes (standings x.name) x.standing)) (fits (with_naming standings x) xs) fit in
    all_agree n xs (with_naming standings x) (meant.with_naming n known x) (one_agrees n standings known x h small.0 (not-true (clashes (standings x.name) x.standing) parts.0)) small.1 parts.1

-- ---- each naming tells

told_now : (n : Numbering) (name : List ℕ) (found : Option Standing) (said : Standing) (later : Option Standing) → clashes found said ≡ false → meaning_of n name (first_of (first_of found (Some said)) later) ≡ meaning_as n name said
told_now n name None said later h = refl
told_now n name (Some known) said later h = suited n name known said (not-false (suits known said) h)

itself : (key : List ℕ) (standing : Standing) → given bytes_eq key standing key ≡ Some standing
itself key standing = rw ((bytes_eq-Decides key key).1 refl) refl

pub each_tells : (n : Numbering) (xs : List Naming) (standings : Standings) → fits standings xs ≡ true → (x : Naming) → IsAmong x xs → meaning_of n x.name (fold with_naming standings xs x.name) ≡ meaning_as n x.name x.standing
unfolding fits
each_tells n [] standings fit x among = absurd among
each_tells n (y ∷ ys) standings fit x (inl same) =
    let parts = and_parts (not (clashes (standings y.name) y.standing)) (fits (with_naming standings y) ys) fit in
    subst (λ (z : Naming). meaning_of n z.name (fold with_naming standings (y ∷ ys) z.name) ≡ meaning_as n z.name z.standing) (sym same)
    (ap (meaning_of n y.name) (fold_naming ys (with_naming standings y) y.name ∙ ap (λ (s : Option Standing). first_of (first_of (standings y.name) s) (standing_in ys y.name)) (itself y.name y.standing))
    ∙ told_now n y.name (standings y.name) y.standing (standing_in ys y.name) (not-true (clashes (standings y.name) y.standing) parts.0))
each_tells n (y ∷ ys) standings fit x (inr among) =
    let parts = and_parts (not (clashes (standings y.name) y.standing)) (fits (with_naming standings y) ys) fit in
    each_tells n ys (with_naming standings y) parts.1 x among

-- a name of which nothing is said
pub unsaid : (xs : List Naming) (name : List ℕ) → ((x : Naming) → IsAmong x xs → x.name ≢ name) → standing_in xs name ≡ None
unsaid [] name h = refl
unsaid (x ∷ xs) name h =
    elim (cases_Bool (bytes_eq x.name name)) [
      | inl is ↦ absurd (h x (inl refl) ((bytes_eq-Decides x.name name).0 is))
      | inr isnt ↦ rw isnt (unsaid xs name (λ y among. h y (inr among)))
    ]
