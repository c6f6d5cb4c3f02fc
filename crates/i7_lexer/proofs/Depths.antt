-- How deep lines are, read from left to right.
use Rattle.std.proofs.Common.{◌≡◌, ℕ, Bool, false, true, if◌then◌else◌, List, [], ◌∷◌, ◌++◌, Option, Some, None, subst, refl, sym, ap, ◌⊎◌, inl, inr, ◌∙◌, append_assoc}
use Rattle.std.specs.Prelude.{MatchOption}
use Rattle.std.proofs.lemmas.List.Sums.{fold_push}
use Rattle.i7_lexer.specs.declared.indents.LineBefore.{LineBefore}
use Rattle.i7_lexer.specs.declared.placed.Placed.{Placed}
use Rattle.i7_lexer.specs.Indents.{AreIndented, IsTooDeep, deep_with, forbids, line_of, line_with}

no_part : (before rest : List Placed) (token : Placed) → [] ≡ before ++ token ∷ rest → ⊥
no_part [] rest token e = cc
no_part (k ∷ before) rest token e = cc

pub nothing_indented : AreIndented []
nothing_indented = λ before rest token e. absurd (no_part before rest token e)

-- the last token, or one of those before it
last_or_before : (tokens before rest : List Placed) (last token : Placed) → tokens ++ last ∷ [] ≡ before ++ token ∷ rest → ((rest ≡ []) × (before ≡ tokens) × (token ≡ last)) ⊎ ((front : List Placed) × (tokens ≡ before ++ token ∷ front))
last_or_before [] [] rest last token e = inl (cc, refl, cc)
last_or_before [] (k ∷ before) rest last token e = absurd (no_part before rest token (cc))
last_or_before (t ∷ tokens) [] rest last token e = let same : t ≡ token = cc in inr (tokens, ap (λ k. k ∷ tokens) same)
last_or_before (t ∷ tokens) (k ∷ before) rest last token e =
    let same : t ≡ k = cc in
    let more : tokens ++ last ∷ [] ≡ before ++ token ∷ rest = cc in
    later t k tokens before rest last token same (last_or_before tokens before rest last token more)
  where
    later : (t k : Placed) (tokens before rest : List Placed) (last token : Placed) → t ≡ k → ((rest ≡ []) × (before ≡ tokens) × (token ≡ last)) ⊎ ((front : List Placed) × (tokens ≡ before ++ token ∷ front)) → ((rest ≡ []) × (k ∷ before ≡ t ∷ tokens) × (token ≡ last)) ⊎ ((front : List Placed) × (t ∷ tokens ≡ (k ∷ before) ++ token ∷ front))
    later t k tokens before rest last token same (inl (a, b, c)) = inl (a, cc, c)
    later t k tokens before rest last token same (inr (front, parts)) = inr (front, cc)

pub indented-push : (tokens : List Placed) (last : Placed) → AreIndented tokens → forbids (line_of tokens) last.at.start ≡ false → AreIndented (tokens ++ last ∷ [])
indented-push tokens last indented shallow = λ before rest token e. by_place before rest token (last_or_before tokens before rest last token e)
  where
    by_place : (before rest : List Placed) (token : Placed) → ((rest ≡ []) × (before ≡ tokens) × (token ≡ last)) ⊎ ((front : List Placed) × (tokens ≡ before ++ token ∷ front)) → forbids (line_of before) token.at.start ≡ false
    by_place before rest token (inl (a, b, c)) = rw (b, c) shallow
    by_place before rest token (inr (front, parts)) = indented before front token parts

-- what the depth of the tokens so far tells
abbrev pub Told : List Placed → LineBefore → Option ℕ → Type 0
Told tokens before None = (before ≡ line_of tokens) × AreIndented tokens
Told tokens before (Some line) = IsTooDeep tokens line

told-by : (tokens : List Placed) (before : LineBefore) (token : Placed) (v : Bool) → forbids before token.at.start ≡ v → before ≡ line_of tokens → AreIndented tokens → Told (tokens ++ token ∷ []) (line_with before token) (if v then Some token.at.line else None)
told-by tokens before token true e line_is indented = record {
  before = tokens;
  token = token;
  rest = [];
  parts = refl;
  indented = indented;
  deep = ap (λ k. forbids k token.at.start) (sym line_is) ∙ e;
  line_is = refl;
}
told-by tokens before token false e line_is indented = (
  ap (λ k. line_with k token) line_is ∙ sym (fold_push line_with (record { indent = 0; colon = false }) tokens token),
  indented-push tokens token indented (ap (λ k. forbids k token.at.start) (sym line_is) ∙ e),
)

-- one more token
pub told-push : (tokens : List Placed) (before : LineBefore) (deep : Option ℕ) (token : Placed) → Told tokens before deep → Told (tokens ++ token ∷ []) (line_with before token) (deep_with deep before token)
told-push tokens before (Some line) token too_deep = record {
  before = too_deep.before;
  token = too_deep.token;
  rest = too_deep.rest ++ token ∷ [];
  parts = ap (λ k. k ++ token ∷ []) too_deep.parts ∙ append_assoc too_deep.before (too_deep.token ∷ too_deep.rest) (token ∷ []);
  indented = too_deep.indented;
  deep = too_deep.deep;
  line_is = too_deep.line_is;
}
told-push tokens before None token (line_is, indented) = told-by tokens before token (forbids before token.at.start) refl line_is indented

pub told-all : (tokens : List Placed) (before : LineBefore) (deep : Option ℕ) → Told tokens before deep → MatchOption deep (AreIndented tokens) (IsTooDeep tokens)
told-all tokens before None told = told.1
told-all tokens before (Some line) told = told

pub told-shallow : (tokens : List Placed) (deep : Option ℕ) → MatchOption deep (AreIndented tokens) (IsTooDeep tokens) → deep ≡ None → AreIndented tokens
told-shallow tokens None told e = told
told-shallow tokens (Some line) told e = cc

pub told-deep : (tokens : List Placed) (deep : Option ℕ) (line : ℕ) → MatchOption deep (AreIndented tokens) (IsTooDeep tokens) → deep ≡ Some line → IsTooDeep tokens line
told-deep tokens None line told e = cc
told-deep tokens (Some k) line told e = let same : k ≡ line = cc in let P : ℕ → Type 0 = λ t. IsTooDeep tokens t in subst P same told
