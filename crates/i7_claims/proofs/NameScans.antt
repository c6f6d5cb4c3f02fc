-- The scans for names that stand for two things find the lowest line of such a name.
use Rattle.std.proofs.Common.{◌≡◌, ℕ, Bool, true, false, List, [], ◌∷◌, ◌++◌, Option, refl, sym, ap, ◌∙◌, subst}
use Rattle.std.specs.Prelude.{Some, None, bytes_eq, fold, Decides, if◌then◌else◌}
use Rattle.std.proofs.lemmas.Bool.{not-true}
use Rattle.i7_claims.specs.Firsts.{first_of, given}
use Rattle.i7_claims.specs.NameScans.{Standings, built_in_standings, clashes, is_twice, name_twice, no_standings, shows_twice, with_claim, with_fact, with_naming}
use Rattle.i7_claims.specs.Scans.{IsLowest, ShownBy}
use Rattle.i7_claims.specs.Standings.{IsTwice, built_in_namings, namings_in, namings_of, standing_in, suits}
use Rattle.i7_claims.specs.declared.claim.Claim.{Claim}
use Rattle.i7_claims.specs.declared.claim.Fact.{Fact}
use Rattle.i7_claims.specs.declared.claim.Fact.TheVariants.{Stands}
use Rattle.i7_claims.specs.declared.claim.Naming.{Naming}
use Rattle.i7_claims.specs.declared.claim.Standing.{Standing}
use Rattle.i7_claims.proofs.Firsts.{first_none}
use Rattle.i7_claims.proofs.Lowest.{lowest_is}

first_assoc : {X : Type 0} (a b c : Option X) → first_of (first_of a b) c ≡ first_of a (first_of b c)
first_assoc None b c = refl
first_assoc (Some x) b c = refl

one_first : (here : Bool) (standing : Standing) (later : Option Standing) → first_of (if here then Some standing else None) later ≡ (if here then Some standing else later)
one_first true standing later = refl
one_first false standing later = refl

pub fold_naming : (ns : List Naming) (known : Standings) (name : List ℕ) → fold with_naming known ns name ≡ first_of (known name) (standing_in ns name)
fold_naming [] known name = sym (first_none (known name))
fold_naming (n ∷ ns) known name =
    fold_naming ns (with_naming known n) name
    ∙ first_assoc (known name) (given bytes_eq n.name n.standing name) (standing_in ns name)
    ∙ ap (first_of (known name)) (one_first (bytes_eq n.name name) n.standing (standing_in ns name))

pub fold_append : {S X : Type 0} (f : S → X → S) (s : S) (xs ys : List X) → fold f s (xs ++ ys) ≡ fold f (fold f s xs) ys
fold_append f s [] ys = refl
fold_append f s (x ∷ xs) ys = fold_append f (f s x) xs ys

fold_fact : (f : Fact) (known : Standings) → fold with_naming known (namings_in f) ≡ with_fact known f
fold_fact (Stands n) known = refl
fold_fact _ known = refl

pub fold_claims : (claims : List Claim) (known : Standings) → fold with_claim known claims ≡ fold with_naming known (namings_of claims)
fold_claims [] known = refl
fold_claims (c ∷ cs) known = fold_claims cs (with_claim known c) ∙ sym (fold_append with_naming known (namings_in c.fact) (namings_of cs) ∙ ap (λ (k : Standings). fold with_naming k (namings_of cs)) (fold_fact c.fact known))

pub known_before : (before : List Claim) (name : List ℕ) → fold with_claim built_in_standings before name ≡ standing_in (built_in_namings ++ namings_of before) name
unfolding built_in_standings
known_before before name =
    ap (λ (known : Standings). known name) (fold_claims before built_in_standings ∙ sym (fold_append with_naming no_standings built_in_namings (namings_of before)))
    ∙ fold_naming (built_in_namings ++ namings_of before) no_standings name

clash_decides : (found : Option Standing) (said : Standing) → Decides (clashes found said) ((known : Standing) × (found ≡ Some known) × (suits known said ≡ false))
clash_decides None said = (λ h. absurd cc, λ r. absurd cc)
clash_decides (Some k) said = (λ h. (k, refl, not-true (suits k said) h), λ r. let same : k ≡ r.0 = cc in let no : suits k said ≡ false = ap (λ s. suits s said) same ∙ r.2 in rw no refl)

pub never : {P : Type 0} → (P → ⊥) → Decides false P
never no_such = (λ h. absurd cc, λ h. absurd (no_such h))

fact_decides : (before : List Claim) (f : Fact) → Decides (is_twice (fold with_claim built_in_standings before) f) (IsTwice before f)
fact_decides before (Stands n) = subst (λ (found : Option Standing). Decides (clashes found n.standing) (IsTwice before (Stands n))) (sym (known_before before n.name)) (clash_decides (standing_in (built_in_namings ++ namings_of before) n.name) n.standing)
fact_decides before _ = never (λ h. h)

pub name_lowest : (claims : List Claim) → IsLowest (ShownBy (λ before c. IsTwice before c.fact) claims) (name_twice claims)
name_lowest claims = lowest_is (λ before c. IsTwice before c.fact) shows_twice with_claim built_in_standings claims (λ before c after split. fact_decides before c.fact)
