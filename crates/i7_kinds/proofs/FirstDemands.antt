-- The player is known to be a person and the directions directions before any claim, by their names.
use Rattle.std.proofs.Common.{◌≡◌, ℕ, zero, suc, ◌-◌, false, List, ◌++◌, Option, refl, sym, subst, inl, inr, ◌⊎◌}
use Rattle.std.specs.Prelude.{Some, None, codes, replicate, slice_get}
use Rattle.world_meaning.specs.Directions.{direction_name, direction_number}
use Rattle.world_meaning.specs.Kinds.{Under, itself, direction_kind, person_kind}
use Rattle.world_meaning.specs.declared.direction.Direction.{Direction}
use Rattle.world_meaning.specs.declared.direction.Direction.TheVariants.{North, Northeast, Northwest, South, Southeast, Southwest, East, West, Up, Down, Inside, Outside}
use Rattle.i7_claims.specs.Statements.{built_in_keys}
use Rattle.i7_kinds.specs.Knowns.{first_knowns, known_at, unknown}
use Rattle.i7_kinds.specs.declared.knowns.Demanded.{Demanded}
use Rattle.i7_kinds.specs.declared.knowns.Demanded.TheVariants.{Nothing, Deepest}
use Rattle.i7_kinds.specs.declared.knowns.Known.{Known}
use Rattle.i7_kinds.proofs.DemandsSummed.{IsKnown, Sums}
use Rattle.i7_kinds.proofs.Fines.{base}
use Rattle.i7_kinds.proofs.NamesOnce.{same_some}

abbrev first_demanded : Option ℕ → Demanded
first_demanded None = Nothing
first_demanded (Some kind) = Deepest kind

abbrev first_known : Option ℕ → Known
first_known b = record { demanded = first_demanded b; holds = false }

unknown_later : (m o : ℕ) → known_at (replicate m unknown) o ≡ unknown
unknown_later zero o = refl
unknown_later (suc m) zero = refl
unknown_later (suc m) (suc o) = unknown_later m o

first_is : (count o : ℕ) → known_at (first_knowns count) o ≡ first_known (base o)
first_is count zero = refl
first_is count (suc zero) = refl
first_is count (suc (suc zero)) = refl
first_is count (suc (suc (suc zero))) = refl
first_is count (suc (suc (suc (suc zero)))) = refl
first_is count (suc (suc (suc (suc (suc zero))))) = refl
first_is count (suc (suc (suc (suc (suc (suc zero)))))) = refl
first_is count (suc (suc (suc (suc (suc (suc (suc zero))))))) = refl
first_is count (suc (suc (suc (suc (suc (suc (suc (suc zero)))))))) = refl
first_is count (suc (suc (suc (suc (suc (suc (suc (suc (suc zero))))))))) = refl
first_is count (suc (suc (suc (suc (suc (suc (suc (suc (suc (suc zero)))))))))) = refl
first_is count (suc (suc (suc (suc (suc (suc (suc (suc (suc (suc (suc zero))))))))))) = refl
first_is count (suc (suc (suc (suc (suc (suc (suc (suc (suc (suc (suc (suc zero)))))))))))) = refl
first_is count (suc (suc (suc (suc (suc (suc (suc (suc (suc (suc (suc (suc (suc o))))))))))))) = unknown_later (count - 13) o

first_sums : (S : List (Option ℕ)) (b : Option ℕ) → Sums S (λ x. b ≡ Some x) (first_demanded b)
first_sums S None = λ x h. absurd cc
first_sums S (Some kind) = (refl, λ x h. subst (λ (n : ℕ). Under S kind n) (same_some h) itself)

-- what is known before any claim
pub first_are_known : (S : List (Option ℕ)) (count o : ℕ) → IsKnown S (λ x. base o ≡ Some x) ⊥ (known_at (first_knowns count) o)
first_are_known S count o =
    subst (λ (k : Known). IsKnown S (λ x. base o ≡ Some x) ⊥ k) (sym (first_is count o)) (first_sums S (base o), (λ h. absurd cc, λ n. absurd n))

-- ---- by names

abbrev pub IsFirst : List ℕ → ℕ → Type 0
IsFirst name x = ((name ≡ codes "yourself") × (x ≡ person_kind)) ⊎ ((d : Direction) × (name ≡ direction_name d) × (x ≡ direction_kind))

told : (d : Direction) (name : List ℕ) (x : ℕ) → Some (direction_name d) ≡ Some name → Some direction_kind ≡ Some x → IsFirst name x
told d name x h k = inr (d, sym (same_some h), sym (same_some k))

pub first_named : (more : List (List ℕ)) (o : ℕ) (name : List ℕ) (x : ℕ) → slice_get (built_in_keys ++ more) o ≡ Some name → base o ≡ Some x → IsFirst name x
first_named more zero name x h k = inl (sym (same_some h), sym (same_some k))
first_named more (suc zero) name x h k = told North name x h k
first_named more (suc (suc zero)) name x h k = told Northeast name x h k
first_named more (suc (suc (suc zero))) name x h k = told Northwest name x h k
first_named more (suc (suc (suc (suc zero)))) name x h k = told South name x h k
first_named more (suc (suc (suc (suc (suc zero))))) name x h k = told Southeast name x h k
first_named more (suc (suc (suc (suc (suc (suc zero)))))) name x h k = told Southwest name x h k
first_named more (suc (suc (suc (suc (suc (suc (suc zero))))))) name x h k = told East name x h k
first_named more (suc (suc (suc (suc (suc (suc (suc (suc zero)))))))) name x h k = told West name x h k
first_named more (suc (suc (suc (suc (suc (suc (suc (suc (suc zero))))))))) name x h k = told Up name x h k
first_named more (suc (suc (suc (suc (suc (suc (suc (suc (suc (suc zero)))))))))) name x h k = told Down name x h k
first_named more (suc (suc (suc (suc (suc (suc (suc (suc (suc (suc (suc zero))))))))))) name x h k = told Inside name x h k
first_named more (suc (suc (suc (suc (suc (suc (suc (suc (suc (suc (suc (suc zero)))))))))))) name x h k = told Outside name x h k
first_named more (suc (suc (suc (suc (suc (suc (suc (suc (suc (suc (suc (suc (suc o))))))))))))) name x h k = absurd cc

pub player_is_first : (more : List (List ℕ)) → slice_get (built_in_keys ++ more) 0 ≡ Some (codes "yourself")
player_is_first more = refl

-- a direction stands at its number, and is a direction
pub direction_is_first : (more : List (List ℕ)) (d : Direction) → (slice_get (built_in_keys ++ more) (direction_number d) ≡ Some (direction_name d)) × (base (direction_number d) ≡ Some direction_kind)
direction_is_first more North = (refl, refl)
direction_is_first more Northeast = (refl, refl)
direction_is_first more Northwest = (refl, refl)
direction_is_first more South = (refl, refl)
direction_is_first more Southeast = (refl, refl)
direction_is_first more Southwest = (refl, refl)
direction_is_first more East = (refl, refl)
direction_is_first more West = (refl, refl)
direction_is_first more Up = (refl, refl)
direction_is_first more Down = (refl, refl)
direction_is_first more Inside = (refl, refl)
direction_is_first more Outside = (refl, refl)
