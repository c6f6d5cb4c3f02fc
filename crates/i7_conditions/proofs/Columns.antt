-- One step more of a column that is told from the last word to the first.
use Rattle.std.proofs.Common.{◌≡◌, ℕ, zero, suc, ◌-◌, ◌<◌, ◌≤◌, List, [], ◌∷◌, ◌++◌, length, drop, sym, ap, ◌∙◌, subst, arith}
use Rattle.i7_conditions.specs.Words.{Word}

-- a column tells of words what its step tells by their first, behind what it tells of the others
abbrev pub IsColumn : {X : Type 0} → (List Word → List X) → (List Word → List X → X) → Type 0
IsColumn col step = (word : Word) (words : List Word) → col (word ∷ words) ≡ col words ++ step (word ∷ words) (col words) ∷ []

column_step : {X : Type 0} (col : List Word → List X) (step : List Word → List X → X) → IsColumn col step → (words : List Word) (i : ℕ) → i < length words
    → col (drop (suc i) words) ++ step (drop i words) (col (drop (suc i) words)) ∷ [] ≡ col (drop i words)
column_step col step h [] i lt = absurd (omega (arith, lt))
column_step col step h (word ∷ words) zero lt = sym (h word words)
column_step col step h (word ∷ words) (suc i) lt = column_step col step h words i (omega (arith, lt))

pub column_more : {X : Type 0} (col : List Word → List X) (step : List Word → List X → X) → IsColumn col step → (words : List Word) (place : ℕ) (column : List X) (x : X) (rest : List Word) → 0 < place → place ≤ length words
    → column ≡ col (drop place words) → rest ≡ drop (place - 1) words → x ≡ step rest column → column ++ x ∷ [] ≡ col (drop (place - 1) words)
column_more col step h words zero column x rest pos le same is here = absurd (omega (arith, pos))
column_more {X} col step h words (suc i) column x rest pos le same is here =
    let back : suc i - 1 ≡ i = omega arith in
    let rest_is : rest ≡ drop i words = is ∙ ap (λ (n : ℕ). drop n words) back in
    let whole : column ++ x ∷ [] ≡ col (drop i words) =
    subst (λ (c : List X). c ++ x ∷ [] ≡ col (drop i words)) (sym same)
    (ap (λ (b : X). col (drop (suc i) words) ++ b ∷ []) (here ∙ ap (step rest) same ∙ ap (λ (end : List Word). step end (col (drop (suc i) words))) rest_is) ∙ column_step col step h words i (omega (arith, le))) in
    whole ∙ ap (λ (n : ℕ). col (drop n words)) (sym back)
