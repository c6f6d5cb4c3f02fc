-- Returns before line feeds are dropped, and what stands before a return stays.
use Rattle.std.proofs.Common.{◌≡◌, ℕ, Bool, true, false, not, eqb, List, [], ◌∷◌, ◌++◌, take, drop, refl, sym, ap, ◌∙◌, append_assoc}
use Rattle.std.specs.List.{prefix_len}
use Rattle.i7_lexer.specs.Sources.{is_unreturned, without_returns}
use Rattle.i7_lexer.proofs.Runs.{prefix_len-yes, prefix_len-no}

front_by : (b : ℕ) (bytes : List ℕ) (v : Bool) → eqb b 13 ≡ v → without_returns bytes ≡ take (prefix_len is_unreturned bytes) bytes ++ without_returns (drop (prefix_len is_unreturned bytes) bytes) → without_returns (b ∷ bytes) ≡ take (prefix_len is_unreturned (b ∷ bytes)) (b ∷ bytes) ++ without_returns (drop (prefix_len is_unreturned (b ∷ bytes)) (b ∷ bytes))
front_by b bytes true e ih = rw (prefix_len-no is_unreturned b bytes (ap not e)) refl
front_by b bytes false e ih = rw (prefix_len-yes is_unreturned b bytes (ap not e), e) (ap (λ t. b ∷ t) ih)

unreturned_front : (bytes : List ℕ) → without_returns bytes ≡ take (prefix_len is_unreturned bytes) bytes ++ without_returns (drop (prefix_len is_unreturned bytes) bytes)
unreturned_front [] = refl
unreturned_front (b ∷ bytes) = front_by b bytes (eqb b 13) refl (unreturned_front bytes)

-- one step of a loop that writes what stands before the next return
pub front_step : (all out rest out' back front : List ℕ) (n : ℕ) → out ++ without_returns rest ≡ all → n ≡ prefix_len is_unreturned rest → front ≡ take n rest → back ≡ drop n rest → out' ≡ out ++ front → out' ++ without_returns back ≡ all
front_step all out rest out' back front n h count is_front is_back is_out =
    let step = append_assoc out _ _ ∙ (ap (λ t. out ++ t) (sym (unreturned_front rest)) ∙ h) in
    rw (is_out, is_front, is_back, count) step
