-- A map in which what comes first to a name stays.
use Rattle.std.proofs.Common.{◌≡◌, ℕ, Bool, true, false, cond, not, List, [], ◌∷◌, ◌++◌, refl, ap, ◌∙◌, inl, inr}
use Rattle.std.specs.Prelude.{Option, Some, None, bytes_eq, is_some, option_copied}
use Rattle.std.specs.Borrow.{Bor}
use Rattle.std.specs.Global.{Vec}
use Rattle.std.specs.Map.{lookup}
use Rattle.std.specs.Option.{option_or}
use Rattle.std.proofs.lemmas.Bool.{cases_Bool}
use Rattle.i7_conditions.specs.Meanings.{given}

pub copied_none : {X : Type 0} (found : Option (Bor X)) (none : Bool) → is_some found ≡ not none → none ≡ true → option_copied found ≡ None
copied_none None none e is = refl
copied_none (Some x) true e is = absurd cc
copied_none (Some x) false e is = absurd cc

-- ---- a map with one entry more

looked_behind : {K X : Type 0} (test : K → Bool) (es : List (K × X)) (k : K) (x : X) → lookup test (es ++ (k, x) ∷ []) ≡ option_or (lookup test es) (cond (test k) (Some x) None)
looked_behind test [] k x = refl
looked_behind test (e ∷ es) k x =
    elim (cases_Bool (test e.0)) [
      | inl is ↦ rw is refl
      | inr isnt ↦ rw isnt (looked_behind test es k x)
    ]

pub told_behind : {X : Type 0} (old new : List (Vec ℕ × X)) (key : Vec ℕ) (x : X) → new ≡ old ++ (key, x) ∷ [] → (name : List ℕ)
    → lookup (λ k. bytes_eq name k.items) new ≡ option_or (lookup (λ k. bytes_eq name k.items) old) (given key.items x name)
told_behind old new key x e name = ap (lookup (λ k. bytes_eq name k.items)) e ∙ looked_behind (λ (k : Vec ℕ). bytes_eq name k.items) old key x
