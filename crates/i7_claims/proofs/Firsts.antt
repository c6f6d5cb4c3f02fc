-- A map in which what comes first to a key stays.
use Rattle.std.proofs.Common.{◌≡◌, Bool, true, false, cond, refl, ap, sym, ◌∙◌}
use Rattle.std.specs.Prelude.{Option, Some, None}
use Rattle.i7_claims.specs.Firsts.{first_of, given}

pub first_none : {X : Type 0} (x : Option X) → first_of x None ≡ x
first_none None = refl
first_none (Some x) = refl

-- a new key is put
pub first_put : {K X Y : Type 0} (eq : K → K → Bool) (sound : (a b : K) → eq a b ≡ true → a ≡ b) (seen : Option X → Option Y) (keeps : seen None ≡ None) (old new : K → Option X) (key : K) (value : X) (shown : Y) → seen (Some value) ≡ Some shown
    → ((q : K) → new q ≡ cond (eq key q) (Some value) (old q)) → old key ≡ None → (k : K) → seen (new k) ≡ first_of (seen (old k)) (given eq key shown k)
first_put {K} {X} {Y} eq sound seen keeps old new key value shown is put none k =
    let Goal : Bool → Type 0 = λ v. eq key k ≡ v → seen (cond v (Some value) (old k)) ≡ first_of (seen (old k)) (cond v (Some shown) None) in
    let same : (v : Bool) → eq key k ≡ v → seen (cond v (Some value) (old k)) ≡ first_of (seen (old k)) (cond v (Some shown) None) = λ v. elim v as Goal [
      | true ↦ λ here. is ∙ sym (ap (λ x. first_of (seen x) (Some shown)) (ap old (sym (sound key k here)) ∙ none) ∙ ap (λ x. first_of x (Some shown)) keeps)
      | false ↦ λ other. sym (first_none (seen (old k)))
    ] in
    ap seen (put k) ∙ same (eq key k) refl
