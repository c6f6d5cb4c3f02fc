-- Numbers in turn, one list behind the other.
use Rattle.std.proofs.Common.{◌≡◌, ◌∙◌, ap, refl, ℕ, suc, ◌+◌, true, eqb, List, [], ◌∷◌, ◌++◌, length, arith}
use Rattle.std.proofs.lemmas.Bool.{and_from, and_parts}
use Rattle.story_format.specs.Soundness.{are_in_turn}

pub turn_joined : (ns ms : List ℕ) (next : ℕ) → are_in_turn next ns ≡ true → are_in_turn (next + length ns) ms ≡ true → are_in_turn next (ns ++ ms) ≡ true
unfolding are_in_turn
turn_joined [] ms next h k = let same : next ≡ next + 0 = omega arith in ap (λ n. are_in_turn n ms) same ∙ k
turn_joined (n ∷ ns) ms next h k =
    let t = and_parts (eqb n next) (are_in_turn (next + 1) ns) h in
    let there : (next + 1) + length ns ≡ next + suc (length ns) = omega arith in
    and_from (eqb n next) (are_in_turn (next + 1) (ns ++ ms)) t.0 (turn_joined ns ms (next + 1) t.1 (ap (λ m. are_in_turn m ms) there ∙ k))

pub turn_parted : (ns ms : List ℕ) (next : ℕ) → are_in_turn next (ns ++ ms) ≡ true → (are_in_turn next ns ≡ true) × (are_in_turn (next + length ns) ms ≡ true)
unfolding are_in_turn
turn_parted [] ms next h = let same : next + 0 ≡ next = omega arith in (refl, ap (λ n. are_in_turn n ms) same ∙ h)
turn_parted (n ∷ ns) ms next h =
    let t = and_parts (eqb n next) (are_in_turn (next + 1) (ns ++ ms)) h in
    let later = turn_parted ns ms (next + 1) t.1 in
    let there : next + suc (length ns) ≡ (next + 1) + length ns = omega arith in
    (and_from (eqb n next) (are_in_turn (next + 1) ns) t.0 later.0, ap (λ m. are_in_turn m ms) there ∙ later.1)
