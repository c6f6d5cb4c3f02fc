-- A list is looked through from the first to the last.
use Rattle.std.proofs.Common.{◌≡◌, ◌-◌, ◌<◌, ◌≤◌, List, [], ◌∷◌, ◌++◌, length, take, drop, get_or, sym, ap, ◌∙◌, subst, arith, append_assoc}
use Rattle.std.specs.Prelude.{map, reverse}
use Rattle.std.proofs.lemmas.Grind.{common_steps, reverse_onto}
use Rattle.std.proofs.lemmas.List.{append-nil}

-- those that were looked at, the last first, and what is so of them
pub record IsLookedTo {X : Type 0} (So : List X → Type 0) (all rest : List X) : Type 0 where
  pub before : List X
  pub parted : reverse all ≡ reverse rest ++ before
  pub so : So before

pub starts : {X : Type 0} (So : List X → Type 0) (all : List X) → So [] → IsLookedTo So all all
starts So all so = record { before = []; parted = sym (append-nil (reverse all)); so = so }

reverse_behind : {X : Type 0} (x : X) (rest before : List X) → reverse (x ∷ rest) ++ before ≡ reverse rest ++ (x ∷ before)
reverse_behind {X} x rest before = ap (λ (l : List X). l ++ before) (reverse_onto rest x []) ∙ append_assoc (reverse rest) (x ∷ []) before

further : {X : Type 0} (So Next : List X → Type 0) (all rest : List X) (x : X) → IsLookedTo So all (x ∷ rest) → ((before : List X) → So before → Next (x ∷ before)) → IsLookedTo Next all rest
further So Next all rest x h next = record { before = x ∷ h.before; parted = h.parted ∙ reverse_behind x rest h.before; so = next h.before h.so }

ends : {X : Type 0} (So : List X → Type 0) (all : List X) → IsLookedTo So all [] → So (reverse all)
ends So all h = subst So (sym h.parted) h.so

-- ---- as loops keep them, which look at what is lent

abbrev behind_one : {L : Type 0} → List L → List L
behind_one list = take (length list - 1) (drop 1 list)

behind_one_is : {L : Type 0} (first : L) (rest : List L) → behind_one (first ∷ rest) ≡ rest
behind_one_is first rest = grind (arith, common_steps)

module _ {L X : Type 0} (lent : L → X) where
  pub goes_on : (So Next : List X → Type 0) (all : List X) (list : List L) (first : L) → 1 ≤ length list → first ≡ get_or list 0 first → IsLookedTo So all (map lent list)
      → ((before : List X) → So before → Next (lent first ∷ before)) → IsLookedTo Next all (map lent (behind_one list))
  goes_on So Next all [] first some is_first h next = absurd (omega arith)
  goes_on So Next all (x ∷ rest) first some is_first h next =
      subst (λ (l : List L). IsLookedTo Next all (map lent l)) (sym (behind_one_is x rest))
      (further So Next all (map lent rest) (lent x) h (subst (λ (q : L). (before : List X) → So before → Next (lent q ∷ before)) is_first next))

  pub goes_to_end : (So : List X → Type 0) (all : List X) (list : List L) → length list < 1 → IsLookedTo So all (map lent list) → So (reverse all)
  goes_to_end So all [] few h = ends So all h
  goes_to_end So all (x ∷ rest) few h = absurd (omega arith)
