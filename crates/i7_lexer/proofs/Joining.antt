-- Lexemes that are one word, and such that aren't.
use Rattle.std.proofs.Common.{◌≡◌, ℕ, ◌-◌, ◌<◌, append_assoc, arith, zero, suc, false, ◌||◌, Bool, true, List, [], ◌∷◌, ◌++◌, take, drop, codes, refl, sym, ap, ◌∙◌}
use Rattle.std.specs.List.{flat_map}
use Rattle.i7_lexer.specs.declared.lexeme.Piece.TheVariants.{Text, Mark}
use Rattle.i7_lexer.specs.declared.placed.Placed.{Placed}
use Rattle.i7_lexer.specs.declared.token.Start.{Start}
use Rattle.i7_lexer.specs.declared.token.Token.{Token}
use Rattle.i7_lexer.specs.declared.token.TokenKind.TheVariants.{Text as TextToken, Mark as MarkToken}
use Rattle.i7_lexer.specs.Texts.{folded}
use Rattle.i7_lexer.specs.Tokens.{is_switched, is_fixed_in_place, joined_len, says, spaced, start_of, token_of, tokens_behind, tokens_of, with_other}

joined_len-never : (first : Placed) (rest : List Placed) → says (codes "switched") first.piece ≡ false → says (codes "fixed") first.piece ≡ false → joined_len first rest ≡ 0
unfolding is_switched is_fixed_in_place
joined_len-never first [] e f = refl
joined_len-never first (b ∷ []) e f = rw e refl
joined_len-never first (b ∷ c ∷ rest) e f = rw (e, f) refl

either_false : (a b : Bool) → a || b ≡ false → (a ≡ false) × (b ≡ false)
either_false false b e = (refl, e)
either_false true b e = cc

-- any word but two stands alone
pub never_joined : (first : Placed) (rest : List Placed) → says (codes "switched") first.piece || says (codes "fixed") first.piece ≡ false → joined_len first rest ≡ 0
never_joined first rest e = let p = either_false _ _ e in joined_len-never first rest p.0 p.1

behind-drop : (n : ℕ) (rest : List Placed) → tokens_behind n rest ≡ tokens_of (drop n rest)
behind-drop zero rest = refl
behind-drop (suc n) [] = refl
behind-drop (suc n) (first ∷ rest) = behind-drop n rest

-- the first token, where so many lexemes are one word with the first
joined-is : (first : Placed) (rest behind : List Placed) (token : Token) (n : ℕ) → n ≡ joined_len first rest → token ≡ token_of first (take n rest) → behind ≡ drop n rest → token ∷ tokens_of behind ≡ tokens_of (first ∷ rest)
joined-is first rest behind token n is_n is_token is_behind =
    rw (is_token, is_behind, ← behind-drop n rest, is_n) refl

pub join-text : (first : Placed) (inner : List ℕ) (rest behind : List Placed) (token : Token) → first.piece ≡ Text inner → token ≡ record { kind = TextToken (folded inner); line = first.at.line; start = first.at.start } → behind ≡ rest → token ∷ tokens_of behind ≡ tokens_of (first ∷ rest)
join-text first inner rest behind token is_text is_token is_behind =
    joined-is first rest behind token 0 (sym (joined_len-never first rest (rw is_text refl) (rw is_text refl))) (is_token ∙ rw is_text refl) is_behind

pub join-mark : (first : Placed) (b : ℕ) (rest behind : List Placed) (token : Token) → first.piece ≡ Mark b → token ≡ record { kind = MarkToken b; line = first.at.line; start = first.at.start } → behind ≡ rest → token ∷ tokens_of behind ≡ tokens_of (first ∷ rest)
join-mark first b rest behind token is_mark is_token is_behind =
    joined-is first rest behind token 0 (sym (joined_len-never first rest (rw is_mark refl) (rw is_mark refl))) (is_token ∙ rw is_mark refl) is_behind

-- one more word, and a space before it
pub spaced-push : (bytes bytes' whole : List ℕ) (n : ℕ) (other : Placed) (rest after : List Placed) → 0 < n → rest ≡ other ∷ after → bytes' ≡ bytes ++ spaced other.piece → bytes ++ flat_map (λ other. spaced other.piece) (take n rest) ≡ whole → bytes' ++ flat_map (λ other. spaced other.piece) (take (n - 1) after) ≡ whole
spaced-push bytes bytes' whole zero other rest after h is_first is_more so_far = absurd (omega (arith, h))
spaced-push bytes bytes' whole (suc n) other rest after h is_first is_more so_far =
    let same : suc n - 1 ≡ n = omega arith in
    rw (same, is_more) (append_assoc bytes (spaced other.piece) (flat_map (λ other. spaced other.piece) (take n after)) ∙ (ap (λ t. bytes ++ flat_map (λ other. spaced other.piece) (take (suc n) t)) (sym is_first) ∙ so_far))

-- one more word, and how the word with it stands
pub start-push : (start start' whole : Start) (n : ℕ) (other : Placed) (rest after : List Placed) → 0 < n → rest ≡ other ∷ after → start' ≡ with_other start other.at.start → start_of start (take n rest) ≡ whole → start_of start' (take (n - 1) after) ≡ whole
start-push start start' whole zero other rest after h is_first is_start so_far = absurd (omega (arith, h))
start-push start start' whole (suc n) other rest after h is_first is_start so_far =
    let same : suc n - 1 ≡ n = omega arith in
    rw (same, is_start) (ap (λ t. start_of start (take (suc n) t)) (sym is_first) ∙ so_far)

pub drop-push : (n : ℕ) (other : Placed) (rest after whole : List Placed) → 0 < n → rest ≡ other ∷ after → drop n rest ≡ whole → drop (n - 1) after ≡ whole
drop-push zero other rest after whole h is_first so_far = absurd (omega (arith, h))
drop-push (suc n) other rest after whole h is_first so_far =
    let same : suc n - 1 ≡ n = omega arith in
    rw same (ap (drop (suc n)) (sym is_first) ∙ so_far)
