-- One byte more of a column of words that can be cut.
use Rattle.std.proofs.Common.{◌≡◌, ℕ, zero, suc, ◌-◌, ◌<◌, ◌≤◌, Bool, List, [], ◌∷◌, ◌++◌, length, drop, refl, sym, ap, ◌∙◌, subst, arith}
use Rattle.i7_claims.specs.NameScans.{Standings}
use Rattle.i7_claims.specs.Wording.{can_cut, column_of}

column_step : (known : Standings) (is_joined : Bool) (words : List ℕ) (i : ℕ) → i < length words
    → column_of known is_joined (drop (suc i) words) ++ can_cut known is_joined (column_of known is_joined (drop (suc i) words)) (drop i words) ∷ [] ≡ column_of known is_joined (drop i words)
column_step known is_joined [] i lt = absurd (omega (arith, lt))
column_step known is_joined (b ∷ words) zero lt = refl
column_step known is_joined (b ∷ words) (suc i) lt = column_step known is_joined words i (omega (arith, lt))

pub column_more : (known : Standings) (is_joined : Bool) (words : List ℕ) (place : ℕ) (column : List Bool) (can : Bool) (rest : List ℕ) → 0 < place → place ≤ length words
    → column ≡ column_of known is_joined (drop place words) → rest ≡ drop (place - 1) words → can ≡ can_cut known is_joined column rest → column ++ can ∷ [] ≡ column_of known is_joined (drop (place - 1) words)
column_more known is_joined words zero column can rest pos le same is here = absurd (omega (arith, pos))
column_more known is_joined words (suc i) column can rest pos le same is here =
    let back : suc i - 1 ≡ i = omega arith in
    let rest_is : rest ≡ drop i words = is ∙ ap (λ (n : ℕ). drop n words) back in
    let whole : column ++ can ∷ [] ≡ column_of known is_joined (drop i words) =
    subst (λ (c : List Bool). c ++ can ∷ [] ≡ column_of known is_joined (drop i words)) (sym same)
    (ap (λ (b : Bool). column_of known is_joined (drop (suc i) words) ++ b ∷ []) (here ∙ ap (λ (c : List Bool). can_cut known is_joined c rest) same ∙ ap (can_cut known is_joined (column_of known is_joined (drop (suc i) words))) rest_is) ∙ column_step known is_joined words i (omega (arith, le))) in
    whole ∙ ap (λ (n : ℕ). column_of known is_joined (drop n words)) (sym back)
